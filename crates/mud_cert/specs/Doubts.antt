-- The doubts of a certificate: the condition of each, and the first one.
use Rattle.std.specs.Prelude.{◌≡◌, ◌≢◌, ℕ, ◌<◌, ◌≤◌, ◌⊎◌, List, [], ◌∷◌, length, take, slice_get, All, Contains}
use Rattle.std.specs.Prelude.{Some, IsTrue, IsSomeAnd}
use Rattle.mud_roads.specs.declared.label.Label.{Label}
use Rattle.mud_roads.specs.declared.label.Step.{Step}
use Rattle.mud_roads.specs.Walks.{total, after}
use Rattle.mud_roads.specs.Labels.{start_label, Reaches}
use Rattle.mud_roads.specs.Passable.{passable, roads_of}
use Rattle.mud_world.specs.declared.record.Passage.{Passage}
use Rattle.mud_world.specs.State.{State, is_player, is_room, place_of, passage_of}
use Rattle.mud_cert.specs.declared.cert.Form.{Form}
use Rattle.mud_cert.specs.declared.doubt.Doubt.{Doubt}
use Rattle.mud_cert.specs.declared.doubt.Doubt.TheVariants as doubts
use Rattle.mud_world.specs.FirstFailure.{FailsAt}
use Rattle.mud_cert.specs.Certificate.{Account, Certificate, hop_of}
use Rattle.mud_cert.specs.Lookup.{label_at}
use Rattle.mud_cert.specs.Valid.{States, Agrees}

-- exit x is open to the member, and leads from a labelled room to one without a label or with a label that is too great
pub record Breaks (w : State) (form : Form) (m : Account) (x : ℕ) : Type 0 where
  pub room : ℕ
  pub label : Label
  pub step : Step
  pub labelled : label_at m room ≡ Some label
  pub is_passable : Contains (roads_of w m.player room) step
  pub exit : step.exit ≡ x
  pub beyond : Reaches (label_at m) step.to (after (hop_of form) label step) → ⊥

-- each exit leaves the room where the last one led, whether or not it is open
abbrev pub IsUnbroken : State → ℕ → List ℕ → Type 0
IsUnbroken w from [] = Unit {0}
IsUnbroken w from (x ∷ xs) =
    (a : Passage) × (passage_of w x ≡ Some a) × (a.source ≡ from) × IsUnbroken w a.destination xs

-- test n raises the doubt of the member, who comes after these; tests count from 1
abbrev pub Holds : State → Form → List Account → Account → ℕ → Doubt → Type 0
Holds w form earlier m n (doubts.NoSuchPlayer p) =
    (n ≡ 1) × (p ≡ m.player) × (IsTrue (is_player w m.player) × All (λ e. e.player ≢ m.player) earlier → ⊥)
Holds w form earlier m n (doubts.WrongStart p) = (n ≡ 2) × (p ≡ m.player) × (place_of w m.player ≢ Some m.from)
Holds w form earlier m n (doubts.StartLabel p) =
    (n ≡ 3) × (p ≡ m.player)
    × ((label_at m m.from ≡ Some start_label) × All (λ (e : ℕ × Label). IsTrue (is_room w e.0)) m.labels → ⊥)
Holds w form earlier m n (doubts.Arc p x) =
    (n ≡ 4) × (p ≡ m.player) × Breaks w form m x × ((y : ℕ) → Breaks w form m y → x ≤ y)
Holds w form earlier m n (doubts.WalkBroken p i) =
    (n ≡ 5) × (p ≡ m.player) × IsSomeAnd m.walk (λ walk. FailsAt (λ k. IsUnbroken w m.from (take k walk)) i)
Holds w form earlier m n (doubts.WalkLocked p i) =
    (n ≡ 6) × (p ≡ m.player)
    × IsSomeAnd m.walk (λ walk. FailsAt (λ k. All (λ x. IsTrue (passable w m.player x)) (take k walk)) i)
Holds w form earlier m n (doubts.WalkCost p) =
    (n ≡ 7) × (p ≡ m.player)
    × ((to : ℕ) × (ss : List Step) × States w m to ss × (label_at m to ≢ Some (total (hop_of form) ss)))
Holds w form earlier m n doubt = ⊥

-- test n of the member at this place, counted from 0, raises the doubt; or, after the last, the conclusion does
abbrev pub HoldsAt : State → Certificate → ℕ → ℕ → Doubt → Type 0
HoldsAt w c at n d =
    ((m : Account) × (slice_get c.members at ≡ Some m) × Holds w c.form (take at c.members) m n d)
    ⊎ ((at ≡ length c.members) × (n ≡ 8) × (d ≡ doubts.Conclusion)
    × (Agrees w (λ m room l. label_at m room ≡ l) c.members c.conclusion → ⊥))

-- the doubt holds, and any other that holds comes at a later place, or at this place but not by an earlier test
pub record IsFirstDoubt (w : State) (c : Certificate) (d : Doubt) : Type 0 where
  pub at : ℕ
  pub test : ℕ
  pub holds : HoldsAt w c at test d
  pub first : (k n : ℕ) (e : Doubt) → HoldsAt w c k n e → (at < k) ⊎ ((at ≡ k) × (test ≤ n))
