-- Reading a line finds its entry, and a line is printable.
use Rattle.std.proofs.Common.{◌≡◌, ℕ, ◌<◌, ◌≤◌, true, List, [], ◌∷◌, ◌++◌, Option, Some, None, refl, sym, ◌∙◌, ap}
use Rattle.std.proofs.Common.{arith, leb, cond, append_assoc, codes}
use Rattle.std.specs.Prelude.{◌^◌}
use Rattle.std.specs.List.{list_all}
use Rattle.std.proofs.lemmas.Bool.{cond-true, le-leb}
use Rattle.std.proofs.lemmas.List.{append-nil}
use Rattle.std.specs.Fmt.{decimal}
use Rattle.mud_key.specs.Printed.{number_text, by_text, printed}
use Rattle.mud_key.specs.declared.codes.TheConstants.{SPACE}
use Rattle.mud_key.specs.declared.limits.TheConstants.{LAST_NUMBER}
use Rattle.mud_world.specs.declared.change.Change.{Change}
use Rattle.mud_world.specs.declared.change.Doors.{Doors}
use Rattle.mud_world.specs.declared.change.Target.{Target}
use Rattle.mud_world.specs.declared.change.Target.TheVariants.{New, Old}
use Rattle.mud_world.specs.declared.change.Deed.{Deed}
use Rattle.mud_world.specs.declared.change.Deed.TheVariants.{Dig, Make, Lock, Unlock, Move, Walk, Cost, Player, Rename}
use Rattle.mud_world.specs.declared.change.Deed.TheVariants.{Recycle, Say, Emote}
use Rattle.mud_world.specs.declared.limits.TheConstants.{MOST_COST}
use Rattle.mud_chron.specs.declared.limits.TheConstants.{MOST_DESKS}
use Rattle.mud_chron.specs.declared.verb.Verb.{Verb}
use Rattle.mud_chron.specs.declared.verb.Verb.TheVariants as verb
use Rattle.mud_chron.specs.Entry.{Entry, IsEntry, IsInRange, HasParts, IsTarget}
use Rattle.mud_world.specs.inner.Fields.{AreDoors, AreBackNames}
use Rattle.mud_chron.specs.inner.Fields.{with_commas}
use Rattle.mud_chron.specs.Text.{in_quotes, target_text, deed_text, entry_line}
use Rattle.mud_chron.specs.inner.Texts.{back_text, doors_text, change_text}
use Rattle.mud_chron.specs.inner.Fields.{object_in}
use Rattle.mud_chron.specs.inner.Reader.{◌>>=◌, cut, object_before, number_up_to, number_key_in}
use Rattle.mud_chron.specs.inner.Reader.{names_before, quoted_in, back_in, doors_in, new_in, way_to, old_in}
use Rattle.mud_chron.specs.inner.Reader.{dig_in, make_in, player_in, lock_in, unlock_in, move_in, walk_in, cost_in}
use Rattle.mud_chron.specs.inner.Reader.{rename_in, recycle_in, say_in, emote_in, deed_in, verb_in, change_in, desk_in}
use Rattle.mud_chron.specs.inner.Reader.{entry_in}
use Rattle.mud_chron.proofs.Cutting.{lacks, cut_again}
use Rattle.mud_chron.proofs.Digits.{decimal_lacks, number_again, object_again, object_before_again}
use Rattle.mud_chron.proofs.Spelled.{plain, both, plain_decimal, plain_names, plain_quoted, names_before_again}
use Rattle.mud_chron.proofs.Spelled.{quoted_again, quoted_end, name_again, plain_key, key_again, speech_again}
use Rattle.mud_chron.proofs.Spelled.{plain_speech}

-- ---- the exits of a dig

back_again : (back : Option (List (List ℕ))) → AreBackNames back → back_in (back_text back) ≡ Some back
unfolding back_in quoted_in
back_again None h = refl
back_again (Some names) h =
    ap (λ (o : Option (List (List ℕ) × List ℕ)). o >>= (λ names. Some (Some names.0)))
    (ap names_before (sym (append-nil (with_commas names ++ codes "\""))) ∙ names_before_again names [] h)

-- after the first quote: the names of the exit, and then the exit back
behind_again : (doors : Doors) → AreDoors (Some doors)
    → (names_before ((with_commas doors.out ++ codes "\"") ++ back_text doors.back) >>=
    (λ out. back_in out.1 >>= (λ back. Some (Some (record { out = out.0; back = back }))))) ≡ Some (Some doors)
behind_again doors h =
    ap (λ (o : Option (List (List ℕ) × List ℕ)). o >>=
    (λ out. back_in out.1 >>= (λ back. Some (Some (record { out = out.0; back = back })))))
    (names_before_again doors.out (back_text doors.back) h.0)
    ∙ ap (λ (o : Option (Option (List (List ℕ)))). o >>=
    (λ back. Some (Some (record { out = doors.out; back = back })))) (back_again doors.back h.1)

doors_again : (doors : Option Doors) → AreDoors doors → doors_in (doors_text doors) ≡ Some doors
unfolding doors_in quoted_in
doors_again None h = refl
doors_again (Some doors) h = behind_again doors h

-- the exits without the leading space
way_again : (doors : Doors) → AreDoors (Some doors)
    → doors_in (codes "out " ++ in_quotes doors.out ++ back_text doors.back) ≡ Some (Some doors)
unfolding doors_in quoted_in
way_again doors h = behind_again doors h

dig_again : (target : Target) (doors : Option Doors) → IsInRange (Dig target doors) → HasParts (Dig target doors)
    → dig_in (target_text target ++ doors_text doors) ≡ Some (Dig target doors)
unfolding dig_in new_in old_in
dig_again (New names) doors r h =
    ap (λ (o : Option (List (List ℕ) × List ℕ)). o >>=
    (λ names. doors_in names.1 >>= (λ doors. Some (Dig (New names.0) doors))))
    (quoted_again names (doors_text doors) h.0)
    ∙ ap (λ (o : Option (Option Doors)). o >>= (λ doors. Some (Dig (New names) doors))) (doors_again doors h.1)
dig_again (Old room) None r h = absurd r
dig_again (Old room) (Some doors) r h =
    ap (λ (o : Option (ℕ × List ℕ)). o >>= (λ room. doors_in room.1 >>= (λ doors. way_to room.0 doors)))
    (object_before_again room (codes "out " ++ in_quotes doors.out ++ back_text doors.back) r)
    ∙ ap (λ (o : Option (Option Doors)). o >>= (λ doors. way_to room doors)) (way_again doors h.1)

-- ---- deeds

-- if the parts of a change's text are found, the change is found
parts_again : (v : Verb) (word rest : List ℕ) (actor : ℕ) (d : Deed) → actor ≤ LAST_NUMBER → lacks SPACE word ≡ true
    → verb_in word ≡ Some v → deed_in v rest ≡ Some d
    → change_in (word ++ SPACE ∷ (number_text actor ++ SPACE ∷ rest)) ≡ Some (record { actor = actor; deed = d })
unfolding change_in
parts_again v word rest actor d le plain known found =
    ap (λ (o : Option (List ℕ × List ℕ)). o >>=
    (λ word. verb_in word.0 >>=
    (λ v. object_before word.1 >>=
    (λ actor. deed_in v actor.1 >>= (λ d. Some (record { actor = actor.0; deed = d }))))))
    (cut_again SPACE word (number_text actor ++ SPACE ∷ rest) plain)
    ∙ ap (λ (o : Option Verb). o >>=
    (λ v. object_before (number_text actor ++ SPACE ∷ rest) >>=
    (λ actor. deed_in v actor.1 >>= (λ d. Some (record { actor = actor.0; deed = d }))))) known
    ∙ ap (λ (o : Option (ℕ × List ℕ)). o >>=
    (λ actor. deed_in v actor.1 >>= (λ d. Some (record { actor = actor.0; deed = d }))))
    (object_before_again actor rest le)
    ∙ ap (λ (o : Option Deed). o >>= (λ d. Some (record { actor = actor; deed = d }))) found

-- an object, and the text after it
then_again : {A B : Type 0} (n : ℕ) (rest : List ℕ) (find : List ℕ → Option A) (make : ℕ → A → B) (x : A)
    → n ≤ LAST_NUMBER → find rest ≡ Some x
    → (object_before (number_text n ++ SPACE ∷ rest) >>= (λ p. find p.1 >>= (λ x. Some (make p.0 x)))) ≡ Some (make n x)
then_again {A = A} n rest find make x le found =
    ap (λ (o : Option (ℕ × List ℕ)). o >>= (λ p. find p.1 >>= (λ x. Some (make p.0 x)))) (object_before_again n rest le)
    ∙ ap (λ (o : Option A). o >>= (λ x. Some (make n x))) found

-- the word of a deed, and the text after the actor
abbrev pub deed_word : Deed → List ℕ
deed_word (Dig target doors) = codes "dig"
deed_word (Make names) = codes "make"
deed_word (Player name) = codes "player"
deed_word (Lock object key) = codes "lock"
deed_word (Unlock object) = codes "unlock"
deed_word (Move thing to) = codes "move"
deed_word (Walk exit) = codes "walk"
deed_word (Cost exit cost) = codes "cost"
deed_word (Rename object names) = codes "rename"
deed_word (Recycle object) = codes "recycle"
deed_word (Say text) = codes "say"
deed_word (Emote text) = codes "emote"

abbrev pub rest_of : Deed → List ℕ
rest_of (Dig target doors) = target_text target ++ doors_text doors
rest_of (Make names) = in_quotes names
rest_of (Player name) = in_quotes (name ∷ [])
rest_of (Lock object key) = number_text object ++ SPACE ∷ printed (by_text key)
rest_of (Unlock object) = number_text object
rest_of (Move thing to) = number_text thing ++ SPACE ∷ number_text to
rest_of (Walk exit) = number_text exit
rest_of (Cost exit cost) = number_text exit ++ SPACE ∷ decimal cost
rest_of (Rename object names) = number_text object ++ SPACE ∷ in_quotes names
rest_of (Recycle object) = number_text object
rest_of (Say text) = text
rest_of (Emote text) = text

first : (word actor x : List ℕ) → word ++ actor ++ codes " " ++ x ≡ word ++ (actor ++ SPACE ∷ x)
first word actor x = append_assoc (word ++ actor) (codes " ") x ∙ append_assoc word actor (SPACE ∷ x)

second : (word actor x y : List ℕ) → word ++ actor ++ codes " " ++ x ++ y ≡ word ++ (actor ++ SPACE ∷ (x ++ y))
second word actor x y = append_assoc (word ++ actor ++ codes " ") x y ∙ first word actor (x ++ y)

third : (word actor x y : List ℕ)
    → word ++ actor ++ codes " " ++ x ++ codes " " ++ y ≡ word ++ (actor ++ SPACE ∷ (x ++ SPACE ∷ y))
third word actor x y = append_assoc (word ++ actor ++ codes " " ++ x) (codes " ") y ∙ second word actor x (SPACE ∷ y)

pub shape : (actor : List ℕ) (d : Deed) → deed_text actor d ≡ deed_word d ++ SPACE ∷ (actor ++ SPACE ∷ rest_of d)
shape actor (Dig target doors) = second (codes "dig ") actor (target_text target) (doors_text doors)
shape actor (Make names) = first (codes "make ") actor (in_quotes names)
shape actor (Player name) = first (codes "player ") actor (in_quotes (name ∷ []))
shape actor (Lock object key) = third (codes "lock ") actor (number_text object) (printed (by_text key))
shape actor (Unlock object) = first (codes "unlock ") actor (number_text object)
shape actor (Move thing to) = third (codes "move ") actor (number_text thing) (number_text to)
shape actor (Walk exit) = first (codes "walk ") actor (number_text exit)
shape actor (Cost exit cost) = third (codes "cost ") actor (number_text exit) (decimal cost)
shape actor (Rename object names) = third (codes "rename ") actor (number_text object) (in_quotes names)
shape actor (Recycle object) = first (codes "recycle ") actor (number_text object)
shape actor (Say text) = first (codes "say ") actor (text)
shape actor (Emote text) = first (codes "emote ") actor (text)

deed_again : (actor : ℕ) (d : Deed) → actor ≤ LAST_NUMBER → IsInRange d → HasParts d
    → change_in (deed_word d ++ SPACE ∷ (number_text actor ++ SPACE ∷ rest_of d))
    ≡ Some (record { actor = actor; deed = d })
unfolding verb_in deed_in make_in player_in lock_in unlock_in move_in walk_in cost_in rename_in recycle_in say_in
    emote_in
deed_again actor (Dig target doors) le r h =
    parts_again verb.Dig (codes "dig") (target_text target ++ doors_text doors) actor (Dig target doors) le refl refl
    (dig_again target doors r h)
deed_again actor (Make names) le r h =
    parts_again verb.Make (codes "make") (in_quotes names) actor (Make names) le refl refl
    (ap (λ (o : Option (List (List ℕ) × List ℕ)). o >>= (λ names. Some (Make names.0))) (quoted_end names h))
deed_again actor (Player name) le r h =
    parts_again verb.Player (codes "player") (in_quotes (name ∷ [])) actor (Player name) le refl refl
    (ap (λ (o : Option (List ℕ)). o >>= (λ name. Some (Player name))) (name_again name h))
deed_again actor (Lock object key) le r h =
    parts_again verb.Lock (codes "lock") (number_text object ++ SPACE ∷ printed (by_text key)) actor
    (Lock object key) le refl refl
    (then_again object (printed (by_text key)) number_key_in (λ o k. Lock o k) key r (key_again key h))
deed_again actor (Unlock object) le r h =
    parts_again verb.Unlock (codes "unlock") (number_text object) actor (Unlock object) le refl refl
    (ap (λ (o : Option ℕ). o >>= (λ n. Some (Unlock n))) (object_again object r))
deed_again actor (Move thing to) le r h =
    parts_again verb.Move (codes "move") (number_text thing ++ SPACE ∷ number_text to) actor
    (Move thing to) le refl refl
    (then_again thing (number_text to) object_in (λ o k. Move o k) to r.0 (object_again to r.1))
deed_again actor (Walk exit) le r h =
    parts_again verb.Walk (codes "walk") (number_text exit) actor (Walk exit) le refl refl
    (ap (λ (o : Option ℕ). o >>= (λ n. Some (Walk n))) (object_again exit r))
deed_again actor (Cost exit cost) le r h =
    parts_again verb.Cost (codes "cost") (number_text exit ++ SPACE ∷ decimal cost) actor (Cost exit cost) le refl refl
    (then_again exit (decimal cost) (number_up_to MOST_COST) (λ o k. Cost o k) cost r.0
    (number_again MOST_COST cost r.1 (omega (arith, r.1))))
deed_again actor (Rename object names) le r h =
    parts_again verb.Rename (codes "rename") (number_text object ++ SPACE ∷ in_quotes names) actor
    (Rename object names) le refl refl
    (then_again object (in_quotes names) quoted_in (λ o (k : List (List ℕ) × List ℕ). Rename o k.0) (names, []) r
    (quoted_end names h))
deed_again actor (Recycle object) le r h =
    parts_again verb.Recycle (codes "recycle") (number_text object) actor (Recycle object) le refl refl
    (ap (λ (o : Option ℕ). o >>= (λ n. Some (Recycle n))) (object_again object r))
deed_again actor (Say text) le r h =
    parts_again verb.Say (codes "say") text actor (Say text) le refl refl
    (ap (λ (o : Option (List ℕ)). o >>= (λ n. Some (Say n))) (speech_again text h))
deed_again actor (Emote text) le r h =
    parts_again verb.Emote (codes "emote") text actor (Emote text) le refl refl
    (ap (λ (o : Option (List ℕ)). o >>= (λ n. Some (Emote n))) (speech_again text h))

desk_again : (desk : ℕ) → 1 ≤ desk → desk ≤ MOST_DESKS → desk_in (decimal desk) ≡ Some desk
unfolding desk_in
desk_again desk lo hi =
    ap (λ (o : Option ℕ). o >>= (λ desk. cond (leb 1 desk) (Some desk) None))
    (number_again MOST_DESKS desk hi (omega arith))
    ∙ cond-true (leb 1 desk) (Some desk) None (le-leb 1 desk lo)

pub line_shape : (version : ℕ) (e : Entry)
    → entry_line version e ≡ decimal version ++ SPACE ∷ (decimal e.desk ++ SPACE ∷ change_text e.change)
unfolding entry_line
line_shape version e =
    let text : List ℕ = change_text e.change in
    append_assoc (decimal version ++ codes " " ++ decimal e.desk) (codes " ") text
    ∙ append_assoc (decimal version ++ codes " ") (decimal e.desk) (SPACE ∷ text)
    ∙ append_assoc (decimal version) (codes " ") (decimal e.desk ++ SPACE ∷ text)

-- reading a line finds its entry, whatever its version
pub entry_again : (version : ℕ) (e : Entry) → version < 2 ^ 64 → IsEntry e → entry_in (entry_line version e) ≡ Some e
unfolding entry_in
entry_again version e fits is =
    let s = is.spellable in
    let low : 1 ≤ e.desk = s.desk_from in
    let high : e.desk ≤ MOST_DESKS = s.desk_to in
    let text : List ℕ = change_text e.change in
    ap entry_in (line_shape version e)
    ∙ ap (λ (o : Option (List ℕ × List ℕ)). o >>=
    (λ version.
    cut SPACE version.1 >>=
    (λ p. desk_in p.0 >>= (λ desk. change_in p.1 >>= (λ change. Some (record { desk = desk; change = change }))))))
    (cut_again SPACE (decimal version) (decimal e.desk ++ SPACE ∷ text)
    (decimal_lacks SPACE version (omega arith) fits))
    ∙ ap (λ (o : Option (List ℕ × List ℕ)). o >>=
    (λ p. desk_in p.0 >>= (λ desk. change_in p.1 >>= (λ change. Some (record { desk = desk; change = change })))))
    (cut_again SPACE (decimal e.desk) text (decimal_lacks SPACE e.desk (omega arith) (omega arith)))
    ∙ ap (λ (o : Option ℕ). o >>=
    (λ desk. change_in text >>= (λ change. Some (record { desk = desk; change = change }))))
    (desk_again e.desk low high)
    ∙ ap (λ (o : Option Change). o >>= (λ change. Some (record { desk = e.desk; change = change })))
    (ap change_in (shape (number_text e.change.actor) e.change.deed)
    ∙ deed_again e.change.actor e.change.deed s.actor s.deed is.parts)

-- ---- bytes

plain_number : (n : ℕ) → n ≤ LAST_NUMBER → list_all plain (number_text n) ≡ true
plain_number n h = plain_decimal n (omega arith)

plain_back : (back : Option (List (List ℕ))) → AreBackNames back → list_all plain (back_text back) ≡ true
plain_back None h = refl
plain_back (Some names) h = plain_names names h

plain_doors : (doors : Option Doors) → AreDoors doors → list_all plain (doors_text doors) ≡ true
plain_doors None h = refl
plain_doors (Some doors) h =
    both plain (in_quotes doors.out) (back_text doors.back) (plain_names doors.out h.0) (plain_back doors.back h.1)

plain_target : (target : Target) (doors : Option Doors) → IsInRange (Dig target doors) → IsTarget target
    → list_all plain (target_text target) ≡ true
plain_target (New names) doors r h = plain_names names h
plain_target (Old room) None r h = absurd r
plain_target (Old room) (Some doors) r h = plain_number room r

-- an actor, a space and the rest
plain_behind : (actor rest : List ℕ) → list_all plain actor ≡ true → list_all plain rest ≡ true
    → list_all plain (actor ++ SPACE ∷ rest) ≡ true
plain_behind actor rest h k = both plain actor (SPACE ∷ rest) h k

plain_rest : (d : Deed) → IsInRange d → HasParts d → list_all plain (rest_of d) ≡ true
plain_rest (Dig target doors) r h =
    both plain (target_text target) (doors_text doors) (plain_target target doors r h.0) (plain_doors doors h.1)
plain_rest (Make names) r h = plain_names names h
plain_rest (Player name) r h = plain_quoted (name ∷ []) (h, tt)
plain_rest (Lock object key) r h =
    plain_behind (number_text object) (printed (by_text key)) (plain_number object r) (plain_key key h.numbers)
plain_rest (Unlock object) r h = plain_number object r
plain_rest (Move thing to) r h =
    plain_behind (number_text thing) (number_text to) (plain_number thing r.0) (plain_number to r.1)
plain_rest (Walk exit) r h = plain_number exit r
plain_rest (Cost exit cost) r h =
    plain_behind (number_text exit) (decimal cost) (plain_number exit r.0) (plain_decimal cost (omega (arith, r.1)))
plain_rest (Rename object names) r h =
    plain_behind (number_text object) (in_quotes names) (plain_number object r) (plain_names names h)
plain_rest (Recycle object) r h = plain_number object r
plain_rest (Say text) r h = plain_speech text h
plain_rest (Emote text) r h = plain_speech text h

plain_word : (d : Deed) → list_all plain (deed_word d) ≡ true
plain_word (Dig target doors) = refl
plain_word (Make names) = refl
plain_word (Player name) = refl
plain_word (Lock object key) = refl
plain_word (Unlock object) = refl
plain_word (Move thing to) = refl
plain_word (Walk exit) = refl
plain_word (Cost exit cost) = refl
plain_word (Rename object names) = refl
plain_word (Recycle object) = refl
plain_word (Say text) = refl
plain_word (Emote text) = refl

plain_deed : (actor : List ℕ) (d : Deed) → list_all plain actor ≡ true → IsInRange d → HasParts d
    → list_all plain (deed_text actor d) ≡ true
plain_deed actor d a r h =
    ap (list_all plain) (shape actor d)
    ∙ plain_behind (deed_word d) (actor ++ SPACE ∷ rest_of d) (plain_word d)
    (plain_behind actor (rest_of d) a (plain_rest d r h))

-- each byte of a line is from the space to the tilde
pub plain_line : (version : ℕ) (e : Entry) → version < 2 ^ 64 → IsEntry e
    → list_all plain (entry_line version e) ≡ true
plain_line version e fits is =
    let s = is.spellable in
    let high : e.desk ≤ MOST_DESKS = s.desk_to in
    ap (list_all plain) (line_shape version e)
    ∙ plain_behind (decimal version) (decimal e.desk ++ SPACE ∷ change_text e.change) (plain_decimal version fits)
    (plain_behind (decimal e.desk) (change_text e.change) (plain_decimal e.desk (omega arith))
    (plain_deed (number_text e.change.actor) e.change.deed (plain_number e.change.actor s.actor) s.deed is.parts))
