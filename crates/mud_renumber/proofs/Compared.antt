-- Worlds that were compared number by number.
use Rattle.std.proofs.Common.{◌≡◌, ℕ, ◌+◌, ◌<◌, ◌≤◌, ◌⊎◌, List, length, Option, Some, None, true, false, refl, sym}
use Rattle.std.proofs.Common.{◌∙◌, ap, subst, arith, get_or, inl, inr, ⊎_elim}
use Rattle.std.specs.Prelude.{nat_eq, is_some, IfSome, IsTrue}
use Rattle.std.specs.Option.{option_map, option_and_then}
use Rattle.std.specs.Map.{lookup}
use Rattle.std.proofs.lemmas.Bool.{true≢false, cases_lt}
use Rattle.std.proofs.lemmas.List.{get_or_past}
use Rattle.mud_key.specs.Tree.{Tree, Has, Asks, Not, Join, AllObjects}
use Rattle.mud_world.specs.declared.limits.TheConstants.{NUMBERS}
use Rattle.mud_world.specs.declared.record.Record.{Record}
use Rattle.mud_world.specs.declared.record.Kind.{Kind}
use Rattle.mud_world.specs.declared.record.Kind.TheVariants.{Room, Exit, Thing, Player}
use Rattle.mud_world.specs.State.{State, record_at, exists, key_of}
use Rattle.mud_world.specs.Sound.{IsSound}
use Rattle.mud_world.proofs.Named.{all-implied}
use Rattle.mud_world.proofs.Records.{in_bounds, record_cases}
use Rattle.mud_renumber.specs.Numbers.{number_at}
use Rattle.mud_renumber.specs.inner.Checked.{IsRisen}
use Rattle.mud_renumber.specs.Renumbered.{key_under, kind_under, record_under, IsRenumbered}

-- what holds of each number holds of those of a key
all_of : (P : ℕ → Type 0) → ((n : ℕ) → P n) → (key : Tree ℕ) → AllObjects P key
all_of P each (Has n) = each n
all_of P each (Asks n) = each n
all_of P each (Not k) = all_of P each k
all_of P each (Join op a b) = (all_of P each a, all_of P each b)

-- ---- the world itself
same_key : (key : Tree ℕ) → key_under (λ n. n) key ≡ key
same_key (Has n) = refl
same_key (Asks n) = refl
same_key (Not k) = ap Not (same_key k)
same_key (Join op a b) = λ i. Join op (same_key a i) (same_key b i)

same_kind : (kind : Kind) → kind_under (λ n. n) kind ≡ kind
same_kind Room = refl
same_kind (Exit p) = refl
same_kind (Thing place) = refl
same_kind (Player place) = refl

same_option : (key : Option (Tree ℕ)) → option_map (key_under (λ n. n)) key ≡ key
same_option None = refl
same_option (Some k) = ap Some (same_key k)

same_record : (r : Record) → record_under (λ n. n) r ≡ r
same_record r = λ i. record r { kind = same_kind r.kind i; key = same_option r.key i }

same_found : (r : Option Record) → r ≡ option_map (record_under (λ n. n)) r
same_found None = refl
same_found (Some r) = ap Some (sym (same_record r))

given_itself : (next : ℕ) (key : Option (Tree ℕ)) → IfSome key (AllObjects (λ o. o < next → o < next))
given_itself next None = tt
given_itself next (Some k) = all_of (λ o. o < next → o < next) (λ n less. less) k

-- a world is itself, if all numbers stay
pub itself : (w : State) → IsRenumbered (λ n. n) w w
itself w = record {
  records = λ n. same_found (record_at w n);
  no_others = λ m here. (m, here, refl);
  rising = λ a b here there less. less;
  given = λ n. given_itself w.next (key_of w n);
  no_more = omega arith;
}

-- ---- rising numbers
pub risen_none : (f : ℕ → ℕ) (w : State) → IsRisen f w 0 0
risen_none f w = record {
  rising = λ a b few here there less. absurd (omega (arith, few));
  below = λ a few here. absurd (omega (arith, few));
}

-- no object has the number n
pub risen_without : (f : ℕ → ℕ) (w : State) (n least : ℕ) → exists w n ≡ false → IsRisen f w n least
    → IsRisen f w (n + 1) least
risen_without f w n least none risen = record {
  rising = λ a b few here there less. ⊎_elim
      (λ (before : b < n). risen.rising a b before here there less)
      (λ (behind : n ≤ b). absurd (clear b (omega (arith, few, behind)) there)) (cases_lt b n);
  below = λ a few here. ⊎_elim
      (λ (before : a < n). risen.below a before here)
      (λ (behind : n ≤ a). absurd (clear a (omega (arith, few, behind)) here)) (cases_lt a n);
}
  where
    clear : (b : ℕ) → b ≡ n → exists w b ≡ true → ⊥
    clear b same there = true≢false (sym there ∙ ap (exists w) same ∙ none)

-- the object n gets a number that may follow
pub risen_with : (f : ℕ → ℕ) (w : State) (n least new : ℕ) → IsRisen f w n least → new ≡ f n → least ≤ new
    → IsRisen f w (n + 1) (new + 1)
risen_with f w n least new risen is follows = record {
  rising = λ a b few here there less. ⊎_elim
      (λ (before : b < n). risen.rising a b before here there less)
      (λ (behind : n ≤ b).
      let same : b ≡ n = omega (arith, few, behind) in
      let low : f a < least = risen.below a (omega (arith, same, less)) here in
      let at : f b ≡ f n = ap f same in
      omega (arith, low, at, is, follows)) (cases_lt b n);
  below = λ a few here. ⊎_elim
      (λ (before : a < n). let low : f a < least = risen.below a before here in omega (arith, low, is, follows))
      (λ (behind : n ≤ a).
      let same : a ≡ n = omega (arith, few, behind) in
      let at : f a ≡ f n = ap f same in
      omega (arith, at, is)) (cases_lt a n);
}

-- ---- objects of the other world
pub old_of : (f : ℕ → ℕ) (w : State) (n new number : ℕ) → IsTrue (exists w n) → number ≡ f n → number ≡ new
    → (n : ℕ) × IsTrue (exists w n) × (f n ≡ new)
old_of f w n new number here is same = (n, here, sym is ∙ same)

-- ---- compared worlds
-- an object has a number below the next one
below : (w : State) → IsSound w → (n : ℕ) → IsTrue (exists w n) → n < w.next
below w sound n here =
    record_cases (record_at w n)
    (λ none. absurd (true≢false (sym here ∙ ap is_some none)))
    (λ r at. (in_bounds 0 w.next n r w.objects sound.rising at).1)

-- no object has the next number, or a greater one
none_behind : (w : State) → IsSound w → (n : ℕ) → w.next ≤ n → record_at w n ≡ None
none_behind w sound n behind =
    record_cases (record_at w n)
    (λ none. none)
    (λ r at. absurd (let less = (in_bounds 0 w.next n r w.objects sound.rising at).1 in omega (arith, less, behind)))

-- the part of a key's numbers that were given
given_key : (f : ℕ → ℕ) (next high : ℕ) (key : Option (Tree ℕ)) → IfSome key (AllObjects (λ o. f o < next))
    → IfSome key (AllObjects (λ o. o < high → f o < next))
given_key f next high None all = tt
given_key f next high (Some k) all =
    all-implied (λ o. f o < next) (λ o. o < high → f o < next) (λ n less was. less) k all

pub renumbered : (numbers : List ℕ) (w u : State) → IsSound w → IsSound u → length numbers ≡ w.next → u.next ≤ w.next
    → ((n : ℕ) → n < w.next → record_at u (number_at numbers n)
    ≡ option_map (record_under (number_at numbers)) (record_at w n))
    → ((m : ℕ) → m < u.next → IsTrue (exists u m)
    → (n : ℕ) × IsTrue (exists w n) × (number_at numbers n ≡ m))
    → ((a b : ℕ) → b < w.next → IsTrue (exists w a) → IsTrue (exists w b) → a < b
    → number_at numbers a < number_at numbers b)
    → ((n : ℕ) → n < w.next → IfSome (key_of w n) (AllObjects (λ o. number_at numbers o < u.next)))
    → IsRenumbered (number_at numbers) w u
renumbered numbers w u sound sound' long fewer records others rising given = record {
  records = λ n. ⊎_elim (λ less. records n less) (λ behind. gone n behind) (cases_lt n w.next);
  no_others = λ m here. others m (below u sound' m here) here;
  rising = λ a b here there less. rising a b (below w sound b there) here there less;
  given = λ n. ⊎_elim
      (λ less. given_key (number_at numbers) u.next w.next (key_of w n) (given n less))
      (λ behind. keyless n behind) (cases_lt n w.next);
  no_more = fewer;
}
  where
    keyless : (n : ℕ) → w.next ≤ n → IfSome (key_of w n) (AllObjects (λ o. o < w.next → number_at numbers o < u.next))
    keyless n behind =
        subst (λ (o : Option Record). IfSome (option_and_then (λ r. r.key) o)
        (AllObjects (λ o. o < w.next → number_at numbers o < u.next)))
        (sym (none_behind w sound n behind)) tt

    gone : (n : ℕ) → w.next ≤ n
        → record_at u (number_at numbers n) ≡ option_map (record_under (number_at numbers)) (record_at w n)
    gone n behind =
        subst (λ m. record_at u m ≡ option_map (record_under (number_at numbers)) (record_at w n))
        (sym (get_or_past numbers n NUMBERS (omega (arith, long, behind))))
        (none_behind u sound' NUMBERS sound'.limit
        ∙ sym (ap (option_map (record_under (number_at numbers))) (none_behind w sound n behind)))
