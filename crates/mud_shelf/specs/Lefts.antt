-- The bytes that a crash leaves of the next volume, seen as a disk.
use Rattle.std.specs.Prelude.{◌≡◌, ℕ, List, Option, Some, None, MatchOption, option_map}
use Rattle.std.proofs.Common.{refl, subst}
use Rattle.mud_journal.specs.Crash.{IsLeft}
use Rattle.mud_shelf.specs.Draft.{Stage, Removed, Temporary, Renamed, Published, MayLeaveNow}
use Rattle.mud_shelf.specs.Volume.{durable}

pub not_none : (bytes : List ℕ) → ◌≡◌ {A = Option (List ℕ)} (Some bytes) None → ⊥
not_none bytes is = subst (λ (left : Option (List ℕ)). MatchOption left ⊥ (λ b. Unit {0})) is tt

-- a file that a crash leaves under the volume's name has the bytes that were durable
pub left_as_disk : (Tears : List ℕ → List ℕ → Type 0) (stage : Option Stage) (bytes : List ℕ)
    → MayLeaveNow Tears stage (Some bytes) → IsLeft Tears (option_map durable stage) bytes
left_as_disk Tears None bytes left = tt
left_as_disk Tears (Some Removed) bytes left = absurd (not_none bytes left)
left_as_disk Tears (Some (Temporary file)) bytes left = absurd (not_none bytes left)
left_as_disk Tears (Some (Renamed file)) bytes left = ((bytes, refl), left.1)
left_as_disk Tears (Some (Published file)) bytes left = left
