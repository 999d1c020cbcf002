-- A script has one text.
use Rattle.std.proofs.Common.{◌≡◌, ◌<◌, ◌≢◌, ◌+◌, ℕ, Bool, true, false, List, [], ◌∷◌, ◌++◌, Option, None, Some, length}
use Rattle.std.proofs.Common.{map, codes, refl, sym, ◌∙◌, ap, subst, arith, ◌⊎◌, inl, inr}
use Rattle.std.specs.Prelude.{not, nat_lt, if◌then◌else◌}
use Rattle.std.specs.Option.{IsSome, IsSomeAnd, option_map_or}
use Rattle.std.specs.List.{flat_map}
use Rattle.std.proofs.lemmas.Bool.Decides.{nat_tests}
use Rattle.std.proofs.lemmas.Bool.{cond-true, cond-false, true≢false}
use Rattle.std.proofs.lemmas.List.{append_cancel_right}
use Rattle.mud_words.specs.Line.{Line}
use Rattle.mud_words.specs.Parse.{parse_of}
use Rattle.mud_words.specs.Words.{is_blank}
use Rattle.mud_nvt.specs.Units.{Given, Text, TooLong, Ayt}
use Rattle.mud_nvt.specs.Units.{Answer as Sent}
use Rattle.mud_world.specs.declared.change.Change.{Change}
use Rattle.mud_rules.specs.declared.verdict.Journey.{Journey}
use Rattle.mud_rules.specs.declared.verdict.Journey.TheVariants.{Route, Meet}
use Rattle.mud_rules.specs.declared.verdict.Query.{Query}
use Rattle.mud_rules.specs.declared.verdict.Query.TheVariants as query
use Rattle.mud_rules.specs.declared.verdict.Verdict.{Verdict}
use Rattle.mud_rules.specs.declared.verdict.Verdict.TheVariants as verdict
use Rattle.mud_rules.specs.Replies.{reply_text, refusal_text, welcome_text}
use Rattle.mud_rules.specs.Table.{is_question, is_quit}
use Rattle.mud_chron.specs.Entry.{Entry}
use Rattle.mud_cert.specs.Certificate.{Certificate}
use Rattle.mud_cert.specs.Text.{cert_text}
use Rattle.mud_guide.specs.declared.answer.Answer.{Answer}
use Rattle.mud_guide.specs.Laws.{AreAlike}
use Rattle.mud_guide.proofs.Single.{route_answer_is_one, meet_answer_is_one}
use Rattle.mud_hall.specs.declared.fault.Fault.TheVariants.{OutOfMemory, HistoryFull, Unpublished, DesksFull}
use Rattle.mud_hall.specs.Notices.{world_after}
use Rattle.mud_hall.specs.Desk.{DeskState, HandsOut, as_player, as_accepted, with_told}
use Rattle.mud_hall.specs.Replies.{Reply, Accepted, Became, Refused, Question, Failed, Stores, Replies, verdict_on}
use Rattle.mud_hall.proofs.Coming.{Plain, plainly}
use Rattle.mud_hall.specs.Answers.{Answered, Answers, IsGuided, IsShown, Shows}
use Rattle.mud_hall.proofs.Worlds.{world-sound}
use Rattle.mud_session.specs.Session.{TakesNone, IsShared, Case, Rests, Looks, Fails, Asks, Acts, Turn, Sees}
use Rattle.mud_session.specs.Session.{IsActed, Does, Plays, unit_of, is_heard, answer_to, is_last, with_version}
use Rattle.mud_session.specs.Session.{reply_line, wire_text, text_of}
use Rattle.mud_hall.specs.Steps.{lone_desk}
use Rattle.mud_session.specs.Laws.{ScriptTextIsOne, fails}
use Rattle.mud_session.proofs.Playing.{unit_in, text_in}

-- ---- answers
guided-one : (h : List Entry) (player : Option ℕ) (j : Journey) (a b : Answer)
    → IsGuided (world_after h) (length h) player j a → IsGuided (world_after h) (length h) player j b → AreAlike a b
guided-one h None j a b x y = absurd x
guided-one h (Some p) (Route to) a b x y = route_answer_is_one (world_after h) (world-sound h) (length h) p to a b x y
guided-one h (Some p) (Meet party) a b x y = meet_answer_is_one (world_after h) (world-sound h) (length h) party a b x y

-- two texts of one certificate are one
proof-one : (t u : List ℕ) (a b : Option Certificate) → a ≡ b
    → IsSomeAnd a (λ c. t ++ codes "\n" ≡ codes "proof\n" ++ cert_text c)
    → IsSomeAnd b (λ c. u ++ codes "\n" ≡ codes "proof\n" ++ cert_text c) → t ≡ u
proof-one t u a b same x y =
    go b (subst (λ o. IsSomeAnd o (λ c. t ++ codes "\n" ≡ codes "proof\n" ++ cert_text c)) same x) y
  where
    go : (o : Option Certificate) → IsSomeAnd o (λ c. t ++ codes "\n" ≡ codes "proof\n" ++ cert_text c)
        → IsSomeAnd o (λ c. u ++ codes "\n" ≡ codes "proof\n" ++ cert_text c) → t ≡ u
    go None p q = absurd p
    go (Some c) p q = append_cancel_right t u (codes "\n") (p ∙ sym q)

shown-one : (h : List Entry) (player : Option ℕ) (q : Query) (a b : Answered) → IsShown h player q a
    → IsShown h player q b → a.text ≡ b.text
shown-one h player (query.View view) a b x y = x.0 ∙ sym y.0
shown-one h player (query.Journey j) a b x y =
    ap (λ (z : Answered). z.text) x.2 ∙ (guided-one h player j x.0 y.0 x.1 y.1).1
    ∙ sym (ap (λ (z : Answered). z.text) y.2)
shown-one h player (query.Proof j) a b x y =
    proof-one a.text b.text x.0.cert y.0.cert (guided-one h player j x.0 y.0 x.1 y.1).2 x.2.0 y.2.0
shown-one h player query.History a b x y = append_cancel_right a.text b.text (codes "\n") (x.0 ∙ sym y.0)

shows-one : (h : List Entry) (player : Option ℕ) (v : Verdict) (a b : Answered) → Shows h player v a
    → Shows h player v b → a.text ≡ b.text
shows-one h player (verdict.Ask q) a b x y = shown-one h player q a b x y
shows-one h player (verdict.Refused f) a b x y = x.0 ∙ sym y.0
shows-one h player (verdict.Change e) a b x y = x.0 ∙ sym y.0
shows-one h player (verdict.Become p) a b x y = x.0 ∙ sym y.0

answers-one : (s : DeskState) (line : Line) (a b : Answered) → Answers s line a → Answers s line b
    → with_version a.version a.text ≡ with_version b.version b.text
answers-one s line a b x y =
    ap (λ (n : ℕ). with_version n a.text) (x.version ∙ sym y.version)
    ∙ ap (with_version b.version) (shows-one s.seen s.player (verdict_on s.seen s.player line) a b x.shows y.shows)

-- ---- replies
-- the reply to a line that acts, if every entry is stored, and the desk then
abbrev text_then : ℕ → DeskState → Verdict → List ℕ
text_then capacity s (verdict.Change e) =
    if nat_lt (length s.seen) capacity then with_version (length s.seen + 1)
    (reply_text (world_after s.seen) e) else codes "(history full)"
text_then capacity s (verdict.Become p) = with_version (length s.seen) (welcome_text p)
text_then capacity s (verdict.Refused f) = with_version (length s.seen) (refusal_text f)
text_then capacity s (verdict.Ask q) = []

abbrev desk_then : ℕ → DeskState → Verdict → DeskState
desk_then capacity s (verdict.Change e) = if nat_lt (length s.seen) capacity then as_accepted s e else s
desk_then capacity s (verdict.Become p) = as_player s p
desk_then capacity s (verdict.Refused f) = s
desk_then capacity s (verdict.Ask q) = s

abbrev IsThen : ℕ → DeskState → Verdict → List ℕ → DeskState → Type 0
IsThen capacity s v text new = (text ≡ text_then capacity s v) × (new ≡ desk_then capacity s v)

accepted-then : (capacity : ℕ) (s : DeskState) (e : Change) → length s.seen < capacity
    → IsThen capacity s (verdict.Change e)
    (with_version (length s.seen + 1) (reply_text (world_after s.seen) e)) (as_accepted s e)
accepted-then capacity s e room =
    let t : nat_lt (length s.seen) capacity ≡ true = grind (arith, nat_tests) in
    (sym (cond-true (nat_lt (length s.seen) capacity) _ _ t), sym (cond-true (nat_lt (length s.seen) capacity) _ _ t))

full-then : (capacity : ℕ) (s : DeskState) (e : Change) → length s.seen ≡ capacity
    → IsThen capacity s (verdict.Change e) (codes "(history full)") s
full-then capacity s e full =
    let f : nat_lt (length s.seen) capacity ≡ false = grind (arith, nat_tests) in
    (sym (cond-false (nat_lt (length s.seen) capacity) _ _ f), sym (cond-false (nat_lt (length s.seen) capacity) _ _ f))

said-is : (text said : List ℕ) → Some text ≡ Some said → said ≡ text
said-is text said e = cc

no-line : (said : List ℕ) → None ≡ Some said → ⊥
no-line said e = let bad : ◌≡◌ {A = Option (List ℕ)} None (Some said) = e in cc

stored-then : (capacity : ℕ) (s : DeskState) (e : Change) (said : List ℕ) (r : Reply) (new : DeskState)
    → r ≢ Failed Unpublished → Stores capacity s e r new → reply_line r ≡ Some said
    → IsThen capacity s (verdict.Change e) said new
stored-then capacity s e said (Accepted v text) new free x line =
    let is : IsThen capacity s (verdict.Change e)
    (with_version (length s.seen + 1) (reply_text (world_after s.seen) e)) (as_accepted s e) =
    accepted-then capacity s e x.0 in (
      said-is (with_version v text) said line ∙ ap (λ (n : ℕ). with_version n text) x.1
          ∙ ap (with_version (length s.seen + 1)) x.2 ∙ is.0,
      x.3 ∙ is.1,
    )
stored-then capacity s e said (Failed HistoryFull) new free x line =
    let is : IsThen capacity s (verdict.Change e) (codes "(history full)") s = full-then capacity s e x.0 in
    (said-is (codes "(history full)") said line ∙ is.0, x.1 ∙ is.1)
stored-then capacity s e said (Failed Unpublished) new free x line = absurd (free refl)
stored-then capacity s e said (Failed OutOfMemory) new free x line = absurd (no-line said line)
stored-then capacity s e said (Failed DesksFull) new free x line = absurd x
stored-then capacity s e said (Became v text) new free x line = absurd x
stored-then capacity s e said (Refused v f text) new free x line = absurd x
stored-then capacity s e said (Question v) new free x line = absurd x

reply-then : (capacity : ℕ) (s : DeskState) (line : Line) (said : List ℕ) (r : Reply) (new : DeskState)
    → r ≢ Failed Unpublished
    → Replies capacity s line r new → reply_line r ≡ Some said
    → IsThen capacity s (verdict_on s.seen s.player line) said new
reply-then capacity s line said r new free x e =
    let v : Verdict = verdict_on s.seen s.player line in
    go v (plainly capacity s v r new x)
  where
    -- the text of this reply
    said-by : (other : Reply) → r ≡ other → reply_line other ≡ Some said
    said-by other is = ap reply_line (sym is) ∙ e

    go : (v : Verdict) → ((r ≡ Failed OutOfMemory) × (new ≡ s)) ⊎ Plain capacity s v r new
        → IsThen capacity s v said new
    go v (inl h) = absurd (no-line said (said-by (Failed OutOfMemory) h.0))
    go (verdict.Change c) (inr h) = stored-then capacity s c said r new free h e
    go (verdict.Become p) (inr h) = (
      said-is (with_version (length s.seen) (welcome_text p)) said
          (said-by (Became (length s.seen) (welcome_text p)) h.0),
      h.1,
    )
    go (verdict.Refused f) (inr h) = (
      said-is (with_version (length s.seen) (refusal_text f)) said
          (said-by (Refused (length s.seen) f (refusal_text f)) h.0),
      h.1,
    )
    go (verdict.Ask q) (inr h) = absurd (no-line said (said-by (Question (length s.seen)) h.0))

-- it gets no notices
told-then : (capacity : ℕ) (s : DeskState) (v : Verdict) → (desk_then capacity s v).told ≡ s.told
told-then capacity s (verdict.Change e) = go (nat_lt (length s.seen) capacity)
  where
    go : (b : Bool) → (if b then as_accepted s e else s).told ≡ s.told
    go true = refl
    go false = refl
told-then capacity s (verdict.Become p) = refl
told-then capacity s (verdict.Refused f) = refl
told-then capacity s (verdict.Ask q) = refl

-- ---- a single-user desk has no notices
nothing : (xs ys : List (List ℕ)) → xs ++ ys ≡ [] → (xs ≡ []) × (ys ≡ [])
nothing [] ys e = (refl, e)
nothing (x ∷ xs) ys e = absurd (cc)

tells-none : (old : DeskState) (lines : List (List ℕ)) (new : DeskState) → old.told ≡ []
    → HandsOut old lines new → (lines ≡ []) × (new ≡ old)
tells-none old lines new none tells =
    let gone : (lines ≡ []) × (new.told ≡ []) = nothing lines new.told (sym tells.told ∙ none) in
    (gone.0, tells.is ∙ ap (with_told old) (gone.1 ∙ sym none))

sees-none : (old : DeskState) (lines : List (List ℕ)) (new : DeskState) → old.told ≡ []
    → Sees TakesNone old lines new → (lines ≡ []) × (new ≡ old)
sees-none old lines new none sees =
    let told : (lines ≡ []) × (new ≡ sees.ready) =
    tells-none sees.ready lines new (ap (λ (s : DeskState). s.told) sees.takes ∙ none) sees.tells in
    (told.0, told.1 ∙ sees.takes)

unshared : IsShared TakesNone → ⊥
unshared shared = shared.3 shared.2

-- ---- turns

-- the output of a turn, whether it is the last one, and the desk afterwards
record Comes (lines : List (List ℕ)) (case : Case) (new : DeskState) (words : List ℕ) (ends : Bool) (kept : DeskState)
    : Type 0 where
  notices : lines ≡ []
  text : answer_to case ≡ words
  last : is_last case ≡ ends
  desk : new ≡ kept

-- the effect of a line at a single-user desk: it depends on whether the line is blank, whether an allocation fails for
-- it, and whether it asks
abbrev IsLine : ℕ → DeskState → List ℕ → Bool → Bool → Bool → List (List ℕ) → Case → DeskState → Type 0
IsLine capacity s line true failed question lines case new = Comes lines case new [] false s
IsLine capacity s line false true question lines case new =
    Comes lines case new (wire_text (codes "(out of memory)")) false s
IsLine capacity s line false false true lines case new =
    (a : Answered) × Answers s (parse_of line) a
    × Comes lines case new (wire_text (with_version a.version a.text)) (is_quit (parse_of line)) s
IsLine capacity s line false false false lines case new =
    let v = verdict_on s.seen s.player (parse_of line) in
    Comes lines case new (wire_text (text_then capacity s v)) false (desk_then capacity s v)

-- the effect of a unit, or of none
abbrev IsUnit : ℕ → DeskState → Option Given → Bool → List (List ℕ) → Case → DeskState → Type 0
IsUnit capacity s None failed lines case new = Comes lines case new [] false s
IsUnit capacity s (Some (Text line)) failed lines case new =
    IsLine capacity s line (is_blank line) failed (is_question (parse_of line)) lines case new
IsUnit capacity s (Some unit) failed lines case new = Comes lines case new (answer_to (Rests unit)) false s

comes-none : (lines : List (List ℕ)) (case : Case) (s new : DeskState) → is_last case ≡ false
    → (lines ≡ []) × (new ≡ s) → Comes lines case new (answer_to case) false s
comes-none lines case s new last same = record { notices = same.0; text = refl; last = last; desk = same.1 }

blank-comes : (capacity : ℕ) (s : DeskState) (line : List ℕ) (blank failed question : Bool) (lines : List (List ℕ))
    (new : DeskState) → not blank ≡ false → Comes lines (Rests (Text line)) new [] false s
    → IsLine capacity s line blank failed question lines (Rests (Text line)) new
blank-comes capacity s line true failed question lines new quiet comes = comes
blank-comes capacity s line false failed question lines new quiet comes = absurd (true≢false quiet)

rests-come : (capacity : ℕ) (s : DeskState) (unit : Given) (failed : Bool) (lines : List (List ℕ)) (new : DeskState)
    → is_heard unit ≡ false → (lines ≡ []) × (new ≡ s) → IsUnit capacity s (Some unit) failed lines (Rests unit) new
rests-come capacity s TooLong failed lines new quiet same = comes-none lines (Rests TooLong) s new refl same
rests-come capacity s Ayt failed lines new quiet same = comes-none lines (Rests Ayt) s new refl same
rests-come capacity s (Sent bytes) failed lines new quiet same = comes-none lines (Rests (Sent bytes)) s new refl same
rests-come capacity s (Text line) failed lines new quiet same =
    blank-comes capacity s line (is_blank line) failed (is_question (parse_of line)) lines new quiet
    (comes-none lines (Rests (Text line)) s new refl same)

acted-comes : (capacity : ℕ) (s : DeskState) (line : List ℕ) (reply : Reply) (lines : List (List ℕ)) (new : DeskState)
    → s.told ≡ [] → IsActed TakesNone capacity s line reply lines new
    → let v = verdict_on s.seen s.player (parse_of line) in
    Comes lines (Acts line reply) new (wire_text (text_then capacity s v)) false (desk_then capacity s v)
acted-comes capacity s line reply lines new none x =
    let v = verdict_on s.seen s.player (parse_of line) in
    let replies : Replies capacity s (parse_of line) reply x.acted =
    subst (λ (d : DeskState). Replies capacity d (parse_of line) reply x.acted) x.takes x.replies in
    let some : (text : List ℕ) × (reply_line reply ≡ Some text) = said-so (reply_line reply) x.says in
    let is : IsThen capacity s v some.0 x.acted =
    reply-then capacity s (parse_of line) some.0 reply x.acted (λ e. unshared (x.stored e)) replies some.1 in
    let pending : x.acted.told ≡ [] = ap (λ (d : DeskState). d.told) is.1 ∙ told-then capacity s v ∙ none in
    let told : (lines ≡ []) × (new ≡ x.acted) = tells-none x.acted lines new pending x.tells in
    record {
      notices = told.0;
      text = ap (λ (o : Option (List ℕ)). option_map_or wire_text o []) some.1 ∙ ap wire_text is.0;
      last = refl;
      desk = told.1 ∙ is.1;
    }
  where
    said-so : (o : Option (List ℕ)) → IsSome o → (text : List ℕ) × (o ≡ Some text)
    said-so None h = absurd (true≢false (sym h))
    said-so (Some text) h = (text, refl)

-- each case of a turn is one of these
does-come : (capacity : ℕ) (s : DeskState) (case : Case) (lines : List (List ℕ)) (new : DeskState) → s.told ≡ []
    → Does TakesNone capacity s case lines new → IsUnit capacity s (unit_of case) (fails case) lines case new
does-come capacity s (Rests unit) lines new none (quiet, unsent, same) =
    rests-come capacity s unit false lines new quiet (unsent, same)
does-come capacity s Looks lines new none sees = comes-none lines Looks s new refl (sees-none s lines new none sees)
does-come capacity s (Fails line) lines new none (heard, sees) =
    subst (λ (b : Bool). IsLine capacity s line b true (is_question (parse_of line)) lines (Fails line) new) (sym heard)
    (comes-none lines (Fails line) s new refl (sees-none s lines new none sees))
does-come capacity s (Asks line answer) lines new none (heard, question, sees, all, answers) =
    let same : (lines ≡ []) × (new ≡ s) = sees-none s lines new none sees in
    subst (λ (b : Bool). IsLine capacity s line b false (is_question (parse_of line)) lines (Asks line answer) new)
    (sym heard)
    (subst (λ (b : Bool). IsLine capacity s line false false b lines (Asks line answer) new) (sym question) (
      answer,
      subst (λ (d : DeskState). Answers d (parse_of line) answer) same.1 answers,
      record { notices = same.0; text = refl; last = refl; desk = same.1 },
    ))
does-come capacity s (Acts line reply) lines new none (heard, other, acts) =
    subst (λ (b : Bool). IsLine capacity s line b false (is_question (parse_of line)) lines (Acts line reply) new)
    (sym heard)
    (subst (λ (b : Bool). IsLine capacity s line false false b lines (Acts line reply) new) (sym other)
    (acted-comes capacity s line reply lines new none acts))

-- two turns have equal output, and leave equal desks
record AreOne (xs ys : List (List ℕ)) (t u : Case) (a b : DeskState) : Type 0 where
  notices : xs ≡ ys
  text : answer_to t ≡ answer_to u
  desk : a ≡ b
  pending : a.told ≡ []

come-one : (xs ys : List (List ℕ)) (t u : Case) (a b : DeskState) (text other : List ℕ) (last : Bool) (kept : DeskState)
    → kept.told ≡ [] → text ≡ other → Comes xs t a text last kept → Comes ys u b other last kept
    → AreOne xs ys t u a b
come-one xs ys t u a b text other last kept none same x y = record {
  notices = x.notices ∙ sym y.notices;
  text = x.text ∙ same ∙ sym y.text;
  desk = x.desk ∙ sym y.desk;
  pending = ap (λ (d : DeskState). d.told) x.desk ∙ none;
}

line-one : (capacity : ℕ) (s : DeskState) (line : List ℕ) (blank failed question : Bool) (xs ys : List (List ℕ))
    (t u : Case) (a b : DeskState) → s.told ≡ [] → IsLine capacity s line blank failed question xs t a
    → IsLine capacity s line blank failed question ys u b → AreOne xs ys t u a b
line-one capacity s line true failed question xs ys t u a b none x y =
    come-one xs ys t u a b [] [] false s none refl x y
line-one capacity s line false true question xs ys t u a b none x y = come-one xs ys t u a b _ _ false s none refl x y
line-one capacity s line false false true xs ys t u a b none x y =
    come-one xs ys t u a b (wire_text (with_version x.0.version x.0.text))
    (wire_text (with_version y.0.version y.0.text)) (is_quit (parse_of line)) s none
    (ap wire_text (answers-one s (parse_of line) x.0 y.0 x.1 y.1)) x.2 y.2
line-one capacity s line false false false xs ys t u a b none x y =
    let v = verdict_on s.seen s.player (parse_of line) in
    come-one xs ys t u a b (wire_text (text_then capacity s v)) (wire_text (text_then capacity s v)) false
    (desk_then capacity s v) (told-then capacity s v ∙ none) refl x y

unit-one : (capacity : ℕ) (s : DeskState) (unit : Option Given) (failed : Bool) (xs ys : List (List ℕ)) (t u : Case)
    (a b : DeskState) → s.told ≡ [] → IsUnit capacity s unit failed xs t a → IsUnit capacity s unit failed ys u b
    → AreOne xs ys t u a b
unit-one capacity s None failed xs ys t u a b none x y = come-one xs ys t u a b [] [] false s none refl x y
unit-one capacity s (Some TooLong) failed xs ys t u a b none x y =
    come-one xs ys t u a b _ _ false s none refl x y
unit-one capacity s (Some Ayt) failed xs ys t u a b none x y = come-one xs ys t u a b _ _ false s none refl x y
unit-one capacity s (Some (Sent bytes)) failed xs ys t u a b none x y =
    come-one xs ys t u a b bytes bytes false s none refl x y
unit-one capacity s (Some (Text line)) failed xs ys t u a b none x y =
    line-one capacity s line (is_blank line) failed (is_question (parse_of line)) xs ys t u a b none x y

-- turns of one unit, with or without a failed allocation in both, have equal output and leave equal desks
turn-one : (capacity : ℕ) (old a b : DeskState) (t u : Turn) → old.told ≡ [] → unit_in t ≡ unit_in u
    → fails t.case ≡ fails u.case → Does TakesNone capacity old t.case t.notices a
    → Does TakesNone capacity old u.case u.notices b → AreOne t.notices u.notices t.case u.case a b
turn-one capacity old a b t u none unit failed x y =
    unit-one capacity old (unit_in t) (fails t.case) t.notices u.notices t.case u.case a b none
    (does-come capacity old t.case t.notices a none x)
    (subst (λ (f : Bool). IsUnit capacity old (unit_in t) f u.notices u.case b) (sym failed)
    (subst (λ (g : Option Given). IsUnit capacity old g (fails u.case) u.notices u.case b) (sym unit)
    (does-come capacity old u.case u.notices b none y)))

-- ---- texts

abbrev failed : List Turn → List Bool
failed turns = map (λ turn. fails turn.case) turns

turns-one : (capacity : ℕ) (old : DeskState) (xs ys : List Turn) (left right : List (Option Given)) (a b : DeskState)
    → old.told ≡ [] → map unit_in xs ++ left ≡ map unit_in ys ++ right → failed xs ≡ failed ys
    → Plays TakesNone capacity old xs a → Plays TakesNone capacity old ys b → text_of xs ≡ text_of ys
turns-one capacity old [] [] left right a b none q e x y = refl
turns-one capacity old [] (v ∷ ys) left right a b none q e x y = absurd (cc)
turns-one capacity old (u ∷ xs) [] left right a b none q e x y = absurd (cc)
turns-one capacity old (u ∷ xs) (v ∷ ys) left right a b none q e x y =
    let both : unit_in u ∷ (map unit_in xs ++ left) ≡ unit_in v ∷ (map unit_in ys ++ right) = q in
    let unit : unit_in u ≡ unit_in v = cc in
    let units : map unit_in xs ++ left ≡ map unit_in ys ++ right = cc in
    let heads : fails u.case ∷ failed xs ≡ fails v.case ∷ failed ys = e in
    let head : fails u.case ≡ fails v.case = cc in
    let tail : failed xs ≡ failed ys = cc in
    let one : AreOne u.notices v.notices u.case v.case x.0 y.0 =
    turn-one capacity old x.0 y.0 u v none unit head x.1 y.1 in
    let moved : Plays TakesNone capacity x.0 ys b =
    subst (λ (d : DeskState). Plays TakesNone capacity d ys b) (sym one.desk) y.3 in
    ap (λ (l : List (List ℕ)). (flat_map wire_text l ++ answer_to u.case) ++ text_of xs) one.notices
    ∙ ap (λ (l : List ℕ). (flat_map wire_text v.notices ++ l) ++ text_of xs) one.text
    ∙ ap (λ (l : List ℕ). text_in v ++ l)
    (turns-one capacity x.0 xs ys left right a b one.pending units tail x.3 moved)

pub script_text_is_one : ScriptTextIsOne
script_text_is_one capacity bytes one other p q e =
    turns-one capacity lone_desk p.turns q.turns (map Some p.left) (map Some q.left) one other refl
    (sym p.units_are ∙ q.units_are) e p.plays q.plays
