-- At most one change is the first illegal one, and none is if all are legal.
use Rattle.std.proofs.Common.{◌≡◌, ℕ, zero, suc, ◌<◌, ◌≤◌, ◌⊎◌, List, [], ◌∷◌, take, arith, inl, inr}
use Rattle.std.proofs.lemmas.Bool.{cases_order}
use Rattle.mud_world.specs.State.{State}
use Rattle.mud_world.specs.Opening.{opening_state}
use Rattle.mud_world.specs.Legal.{after}
use Rattle.mud_world.specs.declared.change.Change.{Change}
use Rattle.mud_world.specs.FirstFailure.{FailsAt}
use Rattle.mud_chron.specs.Replay.{AreLegalFrom, AreLegal, IsFirstIllegal}

-- fewer first changes are legal if more are
legal-fewer : (w : State) (changes : List Change) (m n : ℕ) → m ≤ n
    → AreLegalFrom w (take n changes) → AreLegalFrom w (take m changes)
legal-fewer w changes zero n few legal = tt
legal-fewer w changes (suc m) zero few legal = absurd (omega arith)
legal-fewer w [] (suc m) (suc n) few legal = tt
legal-fewer w (e ∷ changes) (suc m) (suc n) few legal =
    (legal.0, legal-fewer (after w e) changes m n (omega arith) legal.1)

-- the first changes are legal if all are
legal-front : (w : State) (changes : List Change) (n : ℕ) → AreLegalFrom w changes → AreLegalFrom w (take n changes)
legal-front w changes zero legal = tt
legal-front w [] (suc n) legal = tt
legal-front w (e ∷ changes) (suc n) legal = (legal.0, legal-front (after w e) changes n legal.1)

-- if all changes are legal, none is the first illegal one
pub none-illegal : (changes : List Change) (n : ℕ) → AreLegal changes → IsFirstIllegal changes n → ⊥
none-illegal changes n legal first = first.3 (legal-front opening_state changes n legal)

-- a fact about a prefix of the places holds for shorter prefixes
fails-later : (IsSo : ℕ → Type 0) → ((i j : ℕ) → i ≤ j → IsSo j → IsSo i)
    → (m n : ℕ) → FailsAt IsSo m → FailsAt IsSo n → m < n → ⊥
fails-later IsSo down m n (k, number, so, fails) (j, place, holds, _) lt =
    fails (down m j (omega (arith, place, lt)) holds)

-- such a fact fails first at one place at most
fails-once : (IsSo : ℕ → Type 0) → ((i j : ℕ) → i ≤ j → IsSo j → IsSo i)
    → (m n : ℕ) → FailsAt IsSo m → FailsAt IsSo n → m ≡ n
fails-once IsSo down m n one other = go (cases_order m n)
  where
    go : (m ≡ n) ⊎ ((m < n) ⊎ (n < m)) → m ≡ n
    go (inl same) = same
    go (inr (inl lt)) = absurd (fails-later IsSo down m n one other lt)
    go (inr (inr gt)) = absurd (fails-later IsSo down n m other one gt)

-- at most one change is the first illegal one
pub first-once : (changes : List Change) (m n : ℕ) → IsFirstIllegal changes m → IsFirstIllegal changes n → m ≡ n
first-once changes m n first other =
    fails-once (λ k. AreLegal (take k changes)) (legal-fewer opening_state changes) m n first other
