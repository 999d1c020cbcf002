-- The tests of a survey decide its definitions.
use Rattle.std.proofs.Common.{◌≡◌, ◌≢◌, ℕ, zero, suc, ◌+◌, ◌<◌, ◌≤◌, ◌⊎◌, inl, inr, true, false, cond, List, [], ◌∷◌}
use Rattle.std.proofs.Common.{◌-◌, length, get_or, Option, Some, None, refl, sym, ◌∙◌, ap, subst, arith, ⊎_elim}
use Rattle.std.specs.Prelude.{Bool, not, ◌&&◌, ◌||◌, nat_eq, IsTrue, ◌↔◌, All, Any, Contains, filter, is_some}
use Rattle.std.specs.Prelude.{if◌then◌else◌}
use Rattle.std.specs.List.{range_with_len, list_any}
use Rattle.std.specs.Option.{option_map, option_map_or, option_and_then}
use Rattle.std.proofs.lemmas.Bool.{true≢false, and_parts, or_cases, or_left, or_right, eqb-true, eq-eqb, cases_lt}
use Rattle.std.proofs.lemmas.Bool.{cases_order}
use Rattle.std.proofs.lemmas.List.{get_or_past}
use Rattle.std.proofs.lemmas.List.Elements.{Contains-get_or}
use Rattle.std.proofs.lemmas.List.Folds.{Any-from_list_any, list_any-from_Any}
use Rattle.mud_key.specs.Tree.{Tree, atoms_of}
use Rattle.mud_world.proofs.Records.{record_cases, bool_cases, in_bounds}
use Rattle.mud_world.proofs.Listing.{has_exists}
use Rattle.mud_world.proofs.Listed.{leaving_law}
use Rattle.mud_world.proofs.Places.{option_cases, follow_by, ends_by-bound}
use Rattle.mud_world.proofs.Containing.{follow-past}
use Rattle.mud_world.proofs.Moving.{place-below}
use Rattle.mud_world.specs.Kinds.{kind_place, kind_passage, is_room_kind, is_exit_kind, is_thing_kind, is_player_kind}
use Rattle.mud_world.specs.State.{State, record_at, exists, has, is_room, is_exit, is_thing, is_player, place_of}
use Rattle.mud_world.specs.State.{follow}
use Rattle.mud_world.specs.State.{passage_of, source_of, leaving_of, key_of}
use Rattle.mud_world.specs.Sound.{IsSound}
use Rattle.mud_world.specs.declared.record.Kind.{Kind}
use Rattle.mud_world.specs.declared.record.Kind.TheVariants.{Room, Exit, Thing, Player}
use Rattle.mud_world.specs.declared.record.Passage.{Passage}
use Rattle.mud_world.specs.declared.record.Record.{Record}
use Rattle.mud_survey.specs.Ways.{Comes, Passes, IsHeldBy, Gets}
use Rattle.mud_survey.specs.Survey.{Lists, NoneOf, IsUnreached, IsUnpassed, IsOneWay, NamesGone, IsOutOfReach}
use Rattle.mud_survey.specs.inner.Marks.{mark_at, Marks}
use Rattle.mud_survey.specs.inner.Tests.{is_unreached, is_unpassed, leads_to, is_one_way, is_gone_in, names_gone}
use Rattle.mud_survey.specs.inner.Tests.{holder_from}
use Rattle.mud_survey.specs.inner.Tests.{is_out_of_reach}
use Rattle.mud_survey.proofs.Listing.{lists-of}
use Rattle.mud_survey.proofs.Coming.{comes-room, passes-none}

-- ---- numbers
-- what exists is below the next number
exists-below : (w : State) → IsSound w → (n : ℕ) → exists w n ≡ true → n < w.next
exists-below w sound n there =
    record_cases (record_at w n) (λ e. absurd (true≢false (sym there ∙ ap is_some e)))
    (λ r e. (in_bounds 0 w.next n r w.objects sound.rising e).1)

pub has-below : (w : State) → IsSound w → (test : Record → Bool) (n : ℕ) → has w n test ≡ true → n < w.next
has-below w sound test n passes = exists-below w sound n (has_exists w test n passes)

pub both-true : (a b : Bool) → a ≡ true → b ≡ true → (a && b) ≡ true
both-true a b sure too = ap (λ v. v && b) sure ∙ too

not-true : (b : Bool) → b ≡ false → not b ≡ true
not-true b denied = ap not denied

was-false : (b : Bool) → not b ≡ true → b ≡ false
was-false true is = absurd (true≢false (sym is))
was-false false is = refl

-- ---- none of the players
none-of : (Does : ℕ → Type 0) (ps : List ℕ) → (Any Does ps → ⊥) → NoneOf ps Does
none-of Does ps not k d less does =
    let here = Contains-get_or ps k d less in not (here.0, get_or ps k d, here.1, here.2, does)

some-of : (Does : ℕ → Type 0) (ps : List ℕ) → NoneOf ps Does → Any Does ps → ⊥
some-of Does ps none (k, q, less, is, does) = none k q less (subst Does (sym is) does)

unmarked : (IsSo : ℕ → Type 0) (marks : List Bool) → Marks IsSo marks → (n : ℕ) → mark_at marks n ≡ false → IsSo n → ⊥
unmarked IsSo marks are n clear so = true≢false (sym ((are n).1 so) ∙ clear)

cleared : (IsSo : ℕ → Type 0) (marks : List Bool) → Marks IsSo marks → (n : ℕ) → (IsSo n → ⊥) → mark_at marks n ≡ false
cleared IsSo marks are n not =
    bool_cases (mark_at marks n) (λ marked. absurd (not ((are n).0 marked))) (λ clear. clear)

-- ---- rooms and exits
pub unreached-lists : (w : State) → IsSound w → (ps : List ℕ) (comes : List Bool)
    → Marks (λ n. Any (λ p. Comes w p n) ps) comes → (found : List ℕ)
    → found ≡ filter (is_unreached w comes) (range_with_len 0 w.next) → Lists ◌<◌ (IsUnreached w ps) found
unreached-lists w sound ps comes marks found is =
    lists-of (IsUnreached w ps) (is_unreached w comes) w.next
    (λ n sure.
    let parts = and_parts (is_room w n) (not (mark_at comes n)) sure in (
      parts.0,
      none-of (λ p. Comes w p n) ps
          (unmarked (λ m. Any (λ p. Comes w p m) ps) comes marks n (was-false (mark_at comes n) parts.1)),
    ))
    (λ n so. (
      has-below w sound (λ r. is_room_kind r.kind) n so.0,
      both-true (is_room w n) (not (mark_at comes n)) so.0 (not-true (mark_at comes n)
          (cleared (λ m. Any (λ p. Comes w p m) ps) comes marks n (some-of (λ p. Comes w p n) ps so.1))),
    ))
    found is

pub unpassed-lists : (w : State) → IsSound w → (ps : List ℕ) (passes : List Bool)
    → Marks (λ n. Any (λ p. Passes w p n) ps) passes → (found : List ℕ)
    → found ≡ filter (is_unpassed w passes) (range_with_len 0 w.next) → Lists ◌<◌ (IsUnpassed w ps) found
unpassed-lists w sound ps passes marks found is =
    lists-of (IsUnpassed w ps) (is_unpassed w passes) w.next
    (λ n sure.
    let parts = and_parts (is_exit w n) (not (mark_at passes n)) sure in (
      parts.0,
      none-of (λ p. Passes w p n) ps
          (unmarked (λ m. Any (λ p. Passes w p m) ps) passes marks n (was-false (mark_at passes n) parts.1)),
    ))
    (λ n so. (
      has-below w sound (λ r. is_exit_kind r.kind) n so.0,
      both-true (is_exit w n) (not (mark_at passes n)) so.0 (not-true (mark_at passes n)
          (cleared (λ m. Any (λ p. Passes w p m) ps) passes marks n (some-of (λ p. Passes w p n) ps so.1))),
    ))
    found is

-- ---- one way
passage_cases : {P : Type 0} (v : Option Passage) → (v ≡ None → P) → ((a : Passage) → v ≡ Some a → P) → P
passage_cases None f g = f refl
passage_cases (Some a) f g = g a refl

one-passage : (a b : Passage) → ◌≡◌ {A = Option Passage} (Some a) (Some b) → a ≡ b
one-passage a b e = cc

passage-below : (w : State) → IsSound w → (x : ℕ) (a : Passage) → passage_of w x ≡ Some a → x < w.next
passage-below w sound x a is =
    record_cases (record_at w x)
    (λ e. let bad : ◌≡◌ {A = Option Passage} None (Some a) =
    sym (ap (option_and_then (λ r. kind_passage r.kind)) e) ∙ is in absurd (cc))
    (λ r e. (in_bounds 0 w.next x r w.objects sound.rising e).1)

pub passes-below : (w : State) → IsSound w → (p x : ℕ) → Passes w p x → x < w.next
passes-below w sound p x passes =
    passage_cases (passage_of w x) (λ none. absurd (passes-none w p x none passes))
    (λ a is. passage-below w sound x a is)

-- all exits that the player passes are marked
pub all-passed : (w : State) → IsSound w → (p exit : ℕ) (marks : List Bool) → length marks ≡ exit → w.next ≤ exit
    → ((n : ℕ) → n < exit → IsTrue (mark_at marks n) ↔ Passes w p n) → Marks (Passes w p) marks
all-passed w sound p exit marks size end so n =
    ⊎_elim (λ (low : n < exit). so n low)
    (λ (past : exit ≤ n). (
      λ marked. absurd (true≢false (sym marked ∙ get_or_past marks n false (omega (arith, past, size)))),
      λ passes. absurd (let below = passes-below w sound p n passes in omega (arith, below, past, end)),
    ))
    (cases_lt n exit)

-- the test at an exit
pub one-way-at : (w : State) (x : ℕ) (a : Passage) → passage_of w x ≡ Some a
    → is_one_way w x ≡ not (list_any (leads_to w a.source) (leaving_of w a.destination))
one-way-at w x a is =
    ap (λ o. option_map_or (λ (b : Passage). not (list_any (leads_to w b.source) (leaving_of w b.destination))) o
    false) is

-- an exit that leads back is found
leads-back : (w : State) → IsSound w → (a b : Passage) (y : ℕ) → passage_of w y ≡ Some b → b.source ≡ a.destination
    → b.destination ≡ a.source → list_any (leads_to w a.source) (leaving_of w a.destination) ≡ true
leads-back w sound a b y is from to =
    let leaves : IsTrue (list_any (nat_eq y) (leaving_of w a.destination)) =
    ((leaving_law w sound a.destination).0 y).1 (ap (option_map (λ p. p.source)) is ∙ ap (λ n. Some n) from) in
    let there = Any-from_list_any (nat_eq y) (leaving_of w a.destination) leaves in
    let same : y ≡ there.1 = eqb-true y there.1 there.4 in
    let leads : leads_to w a.source y ≡ true =
    ap (λ o. option_map_or (λ (p : Passage). nat_eq p.destination a.source) o false) is
    ∙ eq-eqb b.destination a.source to in
    list_any-from_Any (leads_to w a.source) (leaving_of w a.destination)
    (there.0, there.1, there.2, there.3, subst (λ n. leads_to w a.source n ≡ true) same leads)

-- and what is found leads back
back-leads : (w : State) → IsSound w → (a : Passage)
    → list_any (leads_to w a.source) (leaving_of w a.destination) ≡ true
    → (y : ℕ) × (b : Passage) × (passage_of w y ≡ Some b) × (b.source ≡ a.destination) × (b.destination ≡ a.source)
back-leads w sound a found =
    let there = Any-from_list_any (leads_to w a.source) (leaving_of w a.destination) found in
    let y : ℕ = there.1 in
    passage_cases (passage_of w y)
    (λ none. absurd (true≢false (sym there.4
    ∙ ap (λ o. option_map_or (λ (p : Passage). nat_eq p.destination a.source) o false) none)))
    (λ b is.
    let to : b.destination ≡ a.source = eqb-true b.destination a.source
    (sym (ap (λ o. option_map_or (λ (p : Passage). nat_eq p.destination a.source) o false) is) ∙ there.4) in
    let among : list_any (nat_eq y) (leaving_of w a.destination) ≡ true =
    list_any-from_Any (nat_eq y) (leaving_of w a.destination)
    (there.0, there.1, there.2, there.3, eq-eqb y there.1 refl) in
    let from = ((leaving_law w sound a.destination).0 y).0 among in
    let both : ◌≡◌ {A = Option ℕ} (Some b.source) (Some a.destination) =
    sym (ap (option_map (λ p. p.source)) is) ∙ from in
    let source : b.source ≡ a.destination = cc in
    (y, b, is, source, to))

pub one-way-lists : (w : State) → IsSound w → (found : List ℕ)
    → found ≡ filter (is_one_way w) (range_with_len 0 w.next) → Lists ◌<◌ (IsOneWay w) found
one-way-lists w sound found is =
    lists-of (IsOneWay w) (is_one_way w) w.next
    (λ x sure.
    passage_cases (passage_of w x)
    (λ none. absurd (true≢false (sym sure
    ∙ ap (λ o. option_map_or (λ (b : Passage). not (list_any (leads_to w b.source) (leaving_of w b.destination))) o
    false)
    none)))
    (λ a at.
    let clear = was-false (list_any (leads_to w a.source) (leaving_of w a.destination)) (sym (one-way-at w x a at) ∙
    sure) in
    (a, at, λ y b is from to. absurd (true≢false (sym (leads-back w sound a b y is from to) ∙ clear)))))
    (λ x (a, at, none). (
      passage-below w sound x a at,
      one-way-at w x a at ∙ not-true (list_any (leads_to w a.source) (leaving_of w a.destination))
          (bool_cases (list_any (leads_to w a.source) (leaving_of w a.destination))
          (λ found. let back = back-leads w sound a found in absurd (none back.0 back.1 back.2 back.3 back.4))
          (λ clear. clear)),
    ))
    found is

-- ---- keys
tree_cases : {P : Type 0} (v : Option (Tree ℕ)) → (v ≡ None → P) → ((k : Tree ℕ) → v ≡ Some k → P) → P
tree_cases None f g = f refl
tree_cases (Some k) f g = g k refl

key-below : (w : State) → IsSound w → (o : ℕ) (k : Tree ℕ) → key_of w o ≡ Some k → o < w.next
key-below w sound o k is =
    record_cases (record_at w o)
    (λ e. let bad : ◌≡◌ {A = Option (Tree ℕ)} None (Some k) = sym (ap (option_and_then (λ r. r.key)) e) ∙ is in absurd
    (cc))
    (λ r e. (in_bounds 0 w.next o r w.objects sound.rising e).1)

gone-any : (w : State) (k : Tree ℕ) → is_gone_in w k ≡ true → Any (λ a. exists w a ≡ false) (atoms_of k)
gone-any w k sure =
    let there = Any-from_list_any (λ a. not (exists w a)) (atoms_of k) sure in
    (there.0, there.1, there.2, there.3, was-false (exists w there.1) there.4)

any-gone : (w : State) (k : Tree ℕ) → Any (λ a. exists w a ≡ false) (atoms_of k) → is_gone_in w k ≡ true
any-gone w k (i, a, less, is, gone) =
    list_any-from_Any (λ a. not (exists w a)) (atoms_of k) (i, a, less, is, not-true (exists w a) gone)

pub gone-lists : (w : State) → IsSound w → (found : List ℕ)
    → found ≡ filter (names_gone w) (range_with_len 0 w.next) → Lists ◌<◌ (NamesGone w) found
gone-lists w sound found is =
    lists-of (NamesGone w) (names_gone w) w.next
    (λ o sure.
    tree_cases (key_of w o)
    (λ none. absurd (true≢false (sym sure ∙ ap (λ v. option_map_or (is_gone_in w) v false) none)))
    (λ k at. (k, at, gone-any w k (sym (ap (λ v. option_map_or (is_gone_in w) v false) at) ∙ sure))))
    (λ o (k, at, gone). (
      key-below w sound o k at,
      ap (λ v. option_map_or (is_gone_in w) v false) at ∙ any-gone w k gone,
    ))
    found is

-- ---- things
-- a room and a player are no things
kind-apart : (w : State) (n : ℕ) → (is_room w n ≡ true) ⊎ (is_player w n ≡ true) → is_thing w n ≡ false
kind-apart w n either =
    record_cases (record_at w n)
    (λ e. ap (λ v. option_map_or (λ r. is_thing_kind r.kind) v false) e)
    (λ r e. ap (λ v. option_map_or (λ r. is_thing_kind r.kind) v false) e
    ∙ of_kind r.kind (⊎_elim
    (λ (room : is_room w n ≡ true). inl (sym (ap (λ v. option_map_or (λ r. is_room_kind r.kind) v false) e) ∙ room))
    (λ (player : is_player w n ≡ true).
    inr (sym (ap (λ v. option_map_or (λ r. is_player_kind r.kind) v false) e) ∙ player)) either))
  where
    of_kind : (k : Kind) → (is_room_kind k ≡ true) ⊎ (is_player_kind k ≡ true) → is_thing_kind k ≡ false
    of_kind Room either = refl
    of_kind (Exit a) either = refl
    of_kind (Thing q) (inl bad) = absurd (true≢false (sym bad))
    of_kind (Thing q) (inr bad) = absurd (true≢false (sym bad))
    of_kind (Player q) either = refl

-- the holder that was found has the thing, and is itself no thing
record IsHolder (w : State) (thing holder : ℕ) : Type 0 where
  held : IsHeldBy w thing holder
  no_thing : is_thing w holder ≡ false

holder-by : (w : State) (n o p : ℕ) → place_of w o ≡ Some p
    → holder_from w (suc n) o ≡ (if is_thing w p then holder_from w n p else Some p)
holder-by w n o p at = ap (option_and_then (λ p. if is_thing w p then holder_from w n p else Some p)) at

-- ---- the holder, place by place
steps-left : (next passed : ℕ) → passed < next → next - passed ≡ suc (next - (passed + 1))
steps-left next passed less = omega (arith, less)

holder-step : (w : State) (next passed o p : ℕ) → passed < next → place_of w o ≡ Some p
    → holder_from w (next - passed) o
    ≡ (if is_thing w p then holder_from w (next - (passed + 1)) p else Some p)
holder-step w next passed o p less at =
    ap (λ n. holder_from w n o) (steps-left next passed less) ∙ holder-by w (next - (passed + 1)) o p at

pub holder-none : (w : State) (next passed o : ℕ) → passed < next → place_of w o ≡ None
    → holder_from w (next - passed) o ≡ None
holder-none w next passed o less none =
    ap (λ n. holder_from w n o) (steps-left next passed less)
    ∙ ap (option_and_then (λ p. if is_thing w p then holder_from w (next - (passed + 1)) p else Some p)) none

pub holder-here : (w : State) (next passed o p : ℕ) → passed < next → place_of w o ≡ Some p → is_thing w p ≡ false
    → holder_from w (next - passed) o ≡ Some p
holder-here w next passed o p less at other =
    holder-step w next passed o p less at
    ∙ ap (λ b. cond b (holder_from w (next - (passed + 1)) p) (Some p)) other

pub holder-on : (w : State) (next passed o p : ℕ) → passed < next → place_of w o ≡ Some p → is_thing w p ≡ true
    → holder_from w (next - passed) o ≡ holder_from w (next - (passed + 1)) p
holder-on w next passed o p less at thing =
    holder-step w next passed o p less at
    ∙ ap (λ b. cond b (holder_from w (next - (passed + 1)) p) (Some p)) thing

pub holder-end : (w : State) (next passed o : ℕ) → next ≤ passed → holder_from w (next - passed) o ≡ None
holder-end w next passed o end =
    ap (λ n. holder_from w n o) (let none : next - passed ≡ 0 = omega (arith, end) in none)

one-number : (a b : ℕ) → ◌≡◌ {A = Option ℕ} (Some a) (Some b) → a ≡ b
one-number a b e = cc

past-thing : (w : State) (o p h : ℕ) → place_of w o ≡ Some p → is_thing w p ≡ true → IsHolder w p h → IsHolder w o h
past-thing w o p h at thing on = record {
  held = record {
    passed = suc on.held.passed;
    leads = follow_by w (suc on.held.passed) o (Some p) at ∙ on.held.leads;
    things = λ k q less is. go k q less is;
  };
  no_thing = on.no_thing;
}
  where
    go : (k q : ℕ) → k < suc on.held.passed → follow w (suc k) o ≡ Some q → IsTrue (is_thing w q)
    go zero q less is =
        subst (λ n. IsTrue (is_thing w n)) (one-number p q (sym (follow_by w 0 o (Some p) at) ∙ is)) thing
    go (suc k) q less is =
        on.held.things k q (omega (arith, less)) (sym (follow_by w (suc k) o (Some p) at) ∙ is)

holder-found : (w : State) (n o h : ℕ) → holder_from w n o ≡ Some h → IsHolder w o h
holder-found w zero o h is = absurd (let bad : ◌≡◌ {A = Option ℕ} None (Some h) = is in cc)
holder-found w (suc n) o h is =
    option_cases (place_of w o)
    (λ none. absurd (let bad : ◌≡◌ {A = Option ℕ} None (Some h) =
    sym (ap (option_and_then (λ p. if is_thing w p then holder_from w n p else Some p)) none) ∙ is in cc))
    (λ p at.
    bool_cases (is_thing w p)
    (λ thing.
    let on = sym (ap (λ b. cond b (holder_from w n p) (Some p)) thing) ∙ sym (holder-by w n o p at) ∙ is in
    past-thing w o p h at thing (holder-found w n p h on))
    (λ other.
    let here : p ≡ h =
    one-number p h (sym (ap (λ b. cond b (holder_from w n p) (Some p)) other) ∙ sym (holder-by w n o p at) ∙ is) in
    record {
      held = record {
        passed = 0;
        leads = follow_by w 0 o (Some p) at ∙ ap (λ n. Some n) here;
        things = λ k q less is. absurd (omega (arith, less));
      };
      no_thing = subst (λ n. is_thing w n ≡ false) here other;
    }))

-- the holder of a thing is found if the chain is short enough
holder-is : (w : State) (n passed o h : ℕ) → passed < n → follow w (suc passed) o ≡ Some h → is_thing w h ≡ false
    → ((k q : ℕ) → k < passed → follow w (suc k) o ≡ Some q → IsTrue (is_thing w q)) → holder_from w n o ≡ Some h
holder-is w zero passed o h less leads other things = absurd (omega (arith, less))
holder-is w (suc n) zero o h less leads other things =
    option_cases (place_of w o)
    (λ none. absurd (let bad : ◌≡◌ {A = Option ℕ} None (Some h) = sym (follow_by w 0 o None none) ∙ leads in cc))
    (λ p at.
    let here : p ≡ h = one-number p h (sym (follow_by w 0 o (Some p) at) ∙ leads) in
    holder-by w n o p at
    ∙ ap (λ b. cond b (holder_from w n p) (Some p)) (subst (λ n. is_thing w n ≡ false) (sym here) other)
    ∙ ap (λ n. Some n) here)
holder-is w (suc n) (suc passed) o h less leads other things =
    option_cases (place_of w o)
    (λ none. absurd (let bad : ◌≡◌ {A = Option ℕ} None (Some h) = sym (follow_by w (suc passed) o None none) ∙ leads in
    cc))
    (λ p at.
    holder-by w n o p at
    ∙ ap (λ b. cond b (holder_from w n p) (Some p)) (things 0 p (omega arith) (follow_by w 0 o (Some p) at))
    ∙ holder-is w n passed p h (omega (arith, less)) (sym (follow_by w (suc passed) o (Some p) at) ∙ leads) other
    (λ k q below is. things (suc k) q (omega (arith, below)) (follow_by w (suc k) o (Some p) at ∙ is)))

held-found : (w : State) → IsSound w → (o h : ℕ) → IsHeldBy w o h → is_thing w h ≡ false
    → holder_from w w.next o ≡ Some h
held-found w sound o h held other =
    let low : o < w.next =
    record_cases (record_at w o)
    (λ e. let bad : ◌≡◌ {A = Option ℕ} None (Some h) =
    sym (follow_by w held.passed o None (ap (option_and_then (λ r. kind_place r.kind)) e)) ∙ held.leads in absurd (cc))
    (λ r e. (in_bounds 0 w.next o r w.objects sound.rising e).1) in
    let ends = ends_by-bound w w.next (place-below w sound) sound.no_circle o low in
    ⊎_elim (λ (less : held.passed < w.next). holder-is w w.next held.passed o h less held.leads other held.things)
    (λ (over : w.next ≤ held.passed).
    let bad : ◌≡◌ {A = Option ℕ} None (Some h) =
    sym (follow-past w w.next (suc held.passed) o (omega (arith, over)) ends) ∙ held.leads in absurd (cc))
    (cases_lt held.passed w.next)

-- a player of the party
among : (ps : List ℕ) (p : ℕ) → list_any (nat_eq p) ps ≡ true → Any (λ q. p ≡ q) ps
among ps p sure =
    let there = Any-from_list_any (nat_eq p) ps sure in
    (there.0, there.1, there.2, there.3, eqb-true p there.1 there.4)

among-party : (ps : List ℕ) (p : ℕ) → Any (λ q. p ≡ q) ps → list_any (nat_eq p) ps ≡ true
among-party ps p (k, q, less, is, same) = list_any-from_Any (nat_eq p) ps (k, q, less, is, eq-eqb p q same)

module _ (w : State) (sound : IsSound w) (ps : List ℕ) (players : All (λ p. IsTrue (is_player w p)) ps)
    (comes : List Bool) (marks : Marks (λ n. Any (λ p. Comes w p n) ps) comes) where
  -- one of the players gets the thing exactly where its holder is marked or one of them
  gets-by : (n h : ℕ) → IsHolder w n h → (mark_at comes h || list_any (nat_eq h) ps) ≡ true → Any (λ p. Gets w p n) ps
  gets-by n h holder sure =
      ⊎_elim
      (λ (marked : mark_at comes h ≡ true).
      let there = (marks h).0 marked in (there.0, there.1, there.2, there.3, (h, holder.held, inr there.4)))
      (λ (one : list_any (nat_eq h) ps ≡ true).
      let there = among ps h one in (there.0, there.1, there.2, there.3, (h, holder.held, inl there.4)))
      (or_cases (mark_at comes h) (list_any (nat_eq h) ps) sure)

  -- a thing within reach has a room or a player as its holder
  gets-holder : (n k p : ℕ) → k < length ps → get_or ps k p ≡ p → Gets w p n
      → (h : ℕ) × (holder_from w w.next n ≡ Some h) × ((mark_at comes h || list_any (nat_eq h) ps) ≡ true)
  gets-holder n k p less is (h, held, inl same) =
      let player : is_player w h ≡ true =
      subst (λ q. IsTrue (is_player w q)) (is ∙ sym same) (players k p less) in (
        h,
        held-found w sound n h held (kind-apart w h (inr player)),
        or_right (mark_at comes h) (list_any (nat_eq h) ps) (among-party ps h (k, p, less, is, same)),
      )
  gets-holder n k p less is (h, held, inr there) =
      let room : is_room w h ≡ true =
      comes-room w sound p h (subst (λ q. IsTrue (is_player w q)) is (players k p less)) there in (
        h,
        held-found w sound n h held (kind-apart w h (inl room)),
        or_left (mark_at comes h) (list_any (nat_eq h) ps) ((marks h).1 (k, p, less, is, there)),
      )

  pub out-lists : (found : List ℕ) → found ≡ filter (is_out_of_reach w comes ps) (range_with_len 0 w.next)
      → Lists ◌<◌ (IsOutOfReach w ps) found
  out-lists found is =
      lists-of (IsOutOfReach w ps) (is_out_of_reach w comes ps) w.next
      (λ n sure.
      let parts = and_parts (is_thing w n) _ sure in (
        parts.0,
        none-of (λ p. Gets w p n) ps (λ (k, p, less, at, gets).
            let h = gets-holder n k p less at gets in
            let clear = was-false _ parts.1 in
            absurd (true≢false (sym h.2
            ∙ sym (ap (λ v. option_map_or (λ h. mark_at comes h || list_any (nat_eq h) ps) v false) h.1) ∙ clear))),
      ))
      (λ n so. (
        has-below w sound (λ r. is_thing_kind r.kind) n so.0,
        both-true (is_thing w n) _ so.0
            (not-true _ (option_cases (holder_from w w.next n)
            (λ none. ap (λ v. option_map_or (λ h. mark_at comes h || list_any (nat_eq h) ps) v false) none)
            (λ h at. ap (λ v. option_map_or (λ h. mark_at comes h || list_any (nat_eq h) ps) v false) at
            ∙ bool_cases (mark_at comes h || list_any (nat_eq h) ps)
            (λ sure. absurd (some-of (λ p. Gets w p n) ps so.1
            (gets-by n h (holder-found w w.next n h at) sure)))
            (λ denied. denied)))),
      ))
      found is
