-- One place more that was compared, and the end.
use Rattle.std.proofs.Common.{◌≡◌, ℕ, zero, suc, ◌+◌, ◌<◌, ◌≤◌, ◌⊎◌, inl, inr, List, [], ◌∷◌, ◌++◌, get_or, refl}
use Rattle.std.proofs.Common.{sym, ◌∙◌, ap, subst, arith, ⊎_elim}
use Rattle.std.specs.Prelude.{Contains, Option, None}
use Rattle.std.proofs.lemmas.List.Elements.{Contains-push, Contains-push_cases, Contains-append_left, Contains-get_or}
use Rattle.std.proofs.lemmas.List.Quantifiers.{all_pairs_push}
use Rattle.mud_world.specs.State.{State, record_at}
use Rattle.mud_world.specs.Sound.{IsSound}
use Rattle.mud_world.specs.declared.record.Record.{Record}
use Rattle.mud_world.proofs.Records.{record_cases, in_bounds}
use Rattle.mud_diff.specs.declared.difference.What.{What}
use Rattle.mud_diff.specs.declared.difference.What.TheVariants.{Added, Removed, Names, Owner, Kind, Place, Source}
use Rattle.mud_diff.specs.declared.difference.What.TheVariants.{Destination, Cost, Key}
use Rattle.mud_diff.specs.declared.difference.Difference.{Difference}
use Rattle.mud_diff.specs.Differences.{DiffersIn, Differs, order, IsBefore, AreDifferences}
use Rattle.mud_diff.specs.inner.Found.{IsReached, AreFound}

-- the element at a place
what_at : ℕ → What
what_at zero = Added
what_at (suc zero) = Removed
what_at (suc (suc zero)) = Names
what_at (suc (suc (suc zero))) = Owner
what_at (suc (suc (suc (suc zero)))) = Kind
what_at (suc (suc (suc (suc (suc zero))))) = Place
what_at (suc (suc (suc (suc (suc (suc zero)))))) = Source
what_at (suc (suc (suc (suc (suc (suc (suc zero))))))) = Destination
what_at (suc (suc (suc (suc (suc (suc (suc (suc zero)))))))) = Cost
what_at (suc (suc (suc (suc (suc (suc (suc (suc (suc n))))))))) = Key

at-order : (what : What) → what_at (order what) ≡ what
unfolding what_at
at-order Added = refl
at-order Removed = refl
at-order Names = refl
at-order Owner = refl
at-order Kind = refl
at-order Place = refl
at-order Source = refl
at-order Destination = refl
at-order Cost = refl
at-order Key = refl

order-below : (what : What) → order what < 10
order-below Added = omega arith
order-below Removed = omega arith
order-below Names = omega arith
order-below Owner = omega arith
order-below Kind = omega arith
order-below Place = omega arith
order-below Source = omega arith
order-below Destination = omega arith
order-below Cost = omega arith
order-below Key = omega arith

one-place : (what other : What) → order what ≡ order other → what ≡ other
one-place what other same = sym (at-order what) ∙ ap what_at same ∙ at-order other

-- the difference of the number in this
abbrev at : ℕ → What → Difference
at n what = record { number = n; what = what }

is-at : (d : Difference) (n : ℕ) (what : What) → d.number ≡ n → order d.what ≡ order what → d ≡ at n what
is-at d n what number place =
    let same : d.what ≡ what = one-place d.what what place in λ i. record { number = number i; what = same i }

reached-on : (d : Difference) (n k : ℕ) → IsReached d n k → IsReached d n (k + 1)
reached-on d n k (inl less) = inl less
reached-on d n k (inr here) = inr (here.0, omega (arith, here.1))

reached-cases : (d : Difference) (n k : ℕ) → IsReached d n (k + 1)
    → IsReached d n k ⊎ ((d.number ≡ n) × (order d.what ≡ k))
reached-cases d n k (inl less) = inl (inl less)
reached-cases d n k (inr here) =
    ⊎_elim (λ (less : order d.what < k). inl (inr (here.0, less))) (λ (same : order d.what ≡ k). inr (here.0, same))
    (below-cases (order d.what) k here.1)
  where
    below-cases : (a b : ℕ) → a < b + 1 → (a < b) ⊎ (a ≡ b)
    below-cases a b less = grind arith

reached-here : (n : ℕ) (what : What) → IsReached (at n what) n (order what + 1)
reached-here n what = inr (refl, omega arith)

-- nothing differs at the place
pub skipped : (old new : State) (n : ℕ) (what : What) (ds : List Difference) → AreFound old new n (order what) ds
    → (DiffersIn what (record_at old n) (record_at new n) → ⊥) → AreFound old new n (order what + 1) ds
skipped old new n what ds found not = record {
  those = λ d c. let p = found.those d c in (p.0, reached-on d n (order what) p.1);
  all = λ d differs reached.
      ⊎_elim (λ (before : IsReached d n (order what)). found.all d differs before)
      (λ (here : (d.number ≡ n) × (order d.what ≡ order what)).
      absurd (not (subst (Differs old new) (is-at d n what here.0 here.1) differs)))
      (reached-cases d n (order what) reached);
  ordered = found.ordered;
}

-- all that was found comes before the place
before-here : (d : Difference) (n : ℕ) (what : What) → IsReached d n (order what) → IsBefore d (at n what)
before-here d n what reached = reached

-- the place differs
pub noted : (old new : State) (n : ℕ) (what : What) (ds : List Difference) → AreFound old new n (order what) ds
    → DiffersIn what (record_at old n) (record_at new n)
    → AreFound old new n (order what + 1) (ds ++ at n what ∷ [])
noted old new n what ds found is = record {
  those = λ d c.
      ⊎_elim
      (λ (before : Contains ds d). let p = found.those d before in (p.0, reached-on d n (order what) p.1))
      (λ (here : at n what ≡ d). (
        subst (Differs old new) here is,
        subst (λ e. IsReached e n (order what + 1)) here (reached-here n what),
      ))
      (Contains-push_cases ds (at n what) d c);
  all = λ d differs reached.
      ⊎_elim
      (λ (before : IsReached d n (order what)).
      Contains-append_left ds (at n what ∷ []) d (found.all d differs before))
      (λ (here : (d.number ≡ n) × (order d.what ≡ order what)).
      subst (Contains (ds ++ at n what ∷ [])) (sym (is-at d n what here.0 here.1)) (Contains-push ds (at n what)))
      (reached-cases d n (order what) reached);
  ordered = all_pairs_push IsBefore ds (at n what) found.ordered
      (λ k d less. (found.those (get_or ds k d) (Contains-get_or ds k d less)).1);
}

-- all of a number was compared
pub next_number : (old new : State) (n : ℕ) (ds : List Difference) → AreFound old new n 10 ds
    → AreFound old new (n + 1) 0 ds
next_number old new n ds found = record {
  those = λ d c. let p = found.those d c in (p.0, past d p.1);
  all = λ d differs reached. found.all d differs (back d reached);
  ordered = found.ordered;
}
  where
    past : (d : Difference) → IsReached d n 10 → IsReached d (n + 1) 0
    past d (inl less) = inl (omega (arith, less))
    past d (inr here) = inl (omega (arith, here.0))

    back : (d : Difference) → IsReached d (n + 1) 0 → IsReached d n 10
    back d (inl less) =
        ⊎_elim (λ (lower : d.number < n). inl lower) (λ (same : d.number ≡ n). inr (same, order-below d.what))
        (below-cases d.number less)
      where
        below-cases : (a : ℕ) → a < n + 1 → (a < n) ⊎ (a ≡ n)
        below-cases a less = grind arith
    back d (inr here) = absurd (omega (arith, here.1))

pub nothing_yet : (old new : State) → AreFound old new 0 0 []
nothing_yet old new = record {
  those = λ d (k, less, is). absurd (omega (arith, less));
  all = λ d differs reached. none d reached;
  ordered = λ i j d less within. absurd (omega (arith, within));
}
  where
    none : (d : Difference) → IsReached d 0 0 → Contains [] d
    none d (inl less) = absurd (omega (arith, less))
    none d (inr here) = absurd (omega (arith, here.1))

-- ---- the end
-- a number that differs has an object in one of the worlds
inside : (what : What) (o p : Option Record) → DiffersIn what o p → (o ≡ None) → (p ≡ None) → ⊥
inside what o p differs gone gone' =
    empty what (subst (λ q. DiffersIn what None q) gone' (subst (λ q. DiffersIn what q p) gone differs))
  where
    empty : (what : What) → DiffersIn what None None → ⊥
    empty Added h = h
    empty Removed h = h
    empty Names h = h
    empty Owner h = h
    empty Kind h = h
    empty Place h = h
    empty Source h = h
    empty Destination h = h
    empty Cost h = h
    empty Key h = h

-- a number that differs is below one of the next numbers
below-next : (old new : State) → IsSound old → IsSound new → (d : Difference) → Differs old new d
    → (d.number < old.next) ⊎ (d.number < new.next)
below-next old new sound sound' d differs =
    record_cases (record_at old d.number)
    (λ no. record_cases (record_at new d.number)
    (λ nor. absurd (inside d.what (record_at old d.number) (record_at new d.number) differs no nor))
    (λ r is. inr (in_bounds 0 new.next d.number r new.objects sound'.rising is).1))
    (λ r is. inl (in_bounds 0 old.next d.number r old.objects sound.rising is).1)

pub all_found : (old new : State) → IsSound old → IsSound new → (n : ℕ) → old.next ≤ n → new.next ≤ n
    → (ds : List Difference) → AreFound old new n 0 ds → AreDifferences old new ds
all_found old new sound sound' n over over' ds found = record {
  exact = λ d. (
    λ c. (found.those d c).0,
    λ differs. found.all d differs (⊎_elim (λ (less : d.number < old.next). inl (omega (arith, less, over)))
        (λ (less : d.number < new.next). inl (omega (arith, less, over'))) (below-next old new sound sound' d differs)),
  );
  ordered = found.ordered;
}
