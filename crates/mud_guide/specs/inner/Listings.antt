-- The accounts of a certificate, made from labels and legs.
use Rattle.std.specs.Prelude.{◌≡◌, ℕ, ◌+◌, ◌<◌, List, Option, All, IfSome, length}
use Rattle.std.specs.Prelude.{slice_index_or}
use Rattle.std.specs.Option.{option_map}
use Rattle.std.specs.List.{AllZip}
use Rattle.mud_world.specs.State.{State}
use Rattle.mud_roads.specs.declared.label.Label.{Label}
use Rattle.mud_roads.specs.Passable.{Knowledge}
use Rattle.mud_search.specs.Least.{AreLabelsBelow}
use Rattle.mud_cert.specs.Certificate.{Account, IsAccount}
use Rattle.mud_guide.specs.declared.lister.Listing.{Listing}
use Rattle.mud_guide.specs.Legs.{Leg, IsLeg}
use Rattle.mud_guide.specs.Ways.{exits_of}

-- the numbers of the leg are below `next`
pub record IsInside (next : ℕ) (j : Leg) : Type 0 where
  pub player : j.player < next
  pub from : j.from < next
  pub exits : IfSome j.way (All (λ s. s.exit < next))

-- the player of the leg, its start, all labels of numbers below `next`, and the exits of its way
pub record IsListed (labels : ℕ → Option Label) (next : ℕ) (j : Leg) (a : Account) : Type 0 where
  pub player : a.player ≡ j.player
  pub from : a.from ≡ j.from
  pub entries : AreLabelsBelow labels next a.labels
  pub walk : a.walk ≡ option_map exits_of j.way

-- each leg is listed, with the labels of its member
pub record AreListed (labels : ℕ → ℕ → Option Label) (next : ℕ) (js : List Leg) (es : List Account) : Type 0 where
  pub long : length es ≡ length js
  pub each : (m : ℕ) (j : Leg) (a : Account) → m < length es
      → IsListed (labels m) next (slice_index_or js m j) (slice_index_or es m a)

-- the members of a party from a number on, their legs to the room, and the claims about them, within the limits
pub record IsListing (w : State) (labels : ℕ → ℕ → Option Label) (first : ℕ) (to : Option ℕ) (ts : List Knowledge)
    (l : Listing) : Type 0 where
  pub legs : AllZip (λ t j. IsLeg w to t.player j) ts l.legs.items
  pub accounts : AreListed (λ m. labels (first + m)) w.next l.legs.items l.accounts.items
  pub limits : All IsAccount l.accounts.items
