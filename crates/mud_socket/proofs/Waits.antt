-- The time that a read waits.
use Rattle.std.proofs.Common.{◌≡◌, ◌≢◌, ℕ, zero, suc, Option, None, Some, Ok, Err, refl}
use Rattle.mud_socket.specs.declared.parting.Parting.TheVariants.{Idle, Unnamed}
use Rattle.mud_socket.specs.Patience.{wait_for, shorter_of}

-- no time is left for a line
pub silent : (idle unnamed : Option ℕ) → idle ≡ Some 0 → wait_for idle unnamed ≡ Err Idle
silent idle unnamed is = rw is refl

-- no time is left for a player
pub late : (idle unnamed : Option ℕ) → idle ≢ Some 0 → unnamed ≡ Some 0 → wait_for idle unnamed ≡ Err Unnamed
late None unnamed on is = rw is refl
late (Some zero) unnamed on is = absurd (on refl)
late (Some (suc n)) unnamed on is = rw is refl

-- time is left for both
pub goes : (idle unnamed : Option ℕ) → idle ≢ Some 0 → unnamed ≢ Some 0
    → wait_for idle unnamed ≡ Ok (shorter_of idle unnamed)
goes (Some zero) unnamed on stays = absurd (on refl)
goes idle (Some zero) on stays = absurd (stays refl)
goes None None on stays = refl
goes None (Some (suc m)) on stays = refl
goes (Some (suc n)) None on stays = refl
goes (Some (suc n)) (Some (suc m)) on stays = refl
