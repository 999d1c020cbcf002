-- The meeting room, found from labels.
use Rattle.std.specs.Prelude.{◌≡◌, ℕ, ◌<◌, ◌≤◌, ◌⊎◌, Option, None, Some, nat_lt, if◌then◌else◌}
use Rattle.mud_roads.specs.declared.label.Label.{Label}
use Rattle.mud_cert.specs.declared.cert.Meeting.{Meeting}

-- all of these members have labels, none costs more, and if there are members, one costs exactly this
pub record IsGreatest (labels : ℕ → Option Label) (members cost : ℕ) : Type 0 where
  pub all : (m : ℕ) → m < members → (l : Label) × ((labels m ≡ Some l) × (l.cost ≤ cost))
  pub one : ((members ≡ 0) × (cost ≡ 0))
      ⊎ ((m : ℕ) × ((m < members) × ((l : Label) × ((labels m ≡ Some l) × (l.cost ≡ cost)))))

-- among the rooms below `next`, the one with the least greatest cost, then with the lowest number
pub record IsBest (labels : ℕ → ℕ → Option Label) (members next : ℕ) (p : Meeting) : Type 0 where
  pub inside : p.room < next
  pub gathers : IsGreatest (λ m. labels m p.room) members p.cost
  pub best : (r c : ℕ) → r < next → IsGreatest (λ m. labels m r) members c
      → (p.cost < c) ⊎ ((p.cost ≡ c) × (p.room ≤ r))

-- there is no such room
abbrev pub NoneGather : (ℕ → ℕ → Option Label) → ℕ → ℕ → Type 0
NoneGather labels members next = (r c : ℕ) → r < next → IsGreatest (λ m. labels m r) members c → ⊥

-- the place with the lesser cost; among equals, the earlier one
abbrev pub lesser : Option Meeting → ℕ → ℕ → Option Meeting
lesser None room cost = Some (record { room = room; cost = cost })
lesser (Some p) room cost = if nat_lt cost p.cost then Some (record { room = room; cost = cost }) else Some p

-- the best so far
abbrev pub BestSoFar : (ℕ → ℕ → Option Label) → ℕ → ℕ → Option Meeting → Type 0
BestSoFar labels members next None = NoneGather labels members next
BestSoFar labels members next (Some p) = IsBest labels members next p
