-- Laws of the definitions.
use Rattle.std.specs.Prelude.{◌⊎◌, ◌↔◌, ℕ}
use Rattle.mud_world.specs.State.{State}
use Rattle.mud_world.specs.Sound.{IsSound}
use Rattle.mud_roads.specs.Laws.{IsOne}
use Rattle.mud_cert.specs.declared.doubt.Doubt.{Doubt}
use Rattle.mud_cert.specs.Certificate.{Certificate, IsCertificate}
use Rattle.mud_cert.specs.Doubts.{HoldsAt, IsFirstDoubt}
use Rattle.mud_cert.specs.Valid.{IsValid, Optimal}

-- a certificate is valid exactly if none of the doubts holds
abbrev pub NoDoubtIsValid : Type 0
NoDoubtIsValid =
    (w : State) → IsSound w → (c : Certificate) → IsCertificate c
    → ((at n : ℕ) (d : Doubt) → HoldsAt w c at n d → ⊥) ↔ IsValid w c

-- a certificate is valid or has a first doubt
abbrev pub ValidOrDoubted : Type 0
ValidOrDoubted =
    (w : State) → IsSound w → (c : Certificate) → IsCertificate c → IsValid w c ⊎ ((d : Doubt) × IsFirstDoubt w c d)

-- a certificate has at most one first doubt
abbrev pub OneFirstDoubt : Type 0
OneFirstDoubt = (w : State) → IsSound w → (c : Certificate) → IsCertificate c → IsOne (IsFirstDoubt w c)

-- the conclusion of a valid certificate is optimal
abbrev pub ValidIsOptimal : Type 0
ValidIsOptimal = (w : State) → IsSound w → (c : Certificate) → IsCertificate c → IsValid w c → Optimal w c
