-- The pieces of all bytes, found byte by byte.
use Rattle.std.proofs.Common.{ℕ, zero, suc, ◌≡◌, refl, ap, sym, ◌≤◌, ◌<◌, arith, true, false, List, [], ◌∷◌, length}
use Rattle.std.proofs.Common.{Option, Some, None, ◌==◌, if◌then◌else◌, ◌∙◌}
use Rattle.mud_nvt.specs.declared.codes.TheConstants.{IAC, SE, SB}
use Rattle.mud_nvt.specs.declared.telnet.Piece.{Piece}
use Rattle.mud_nvt.specs.declared.telnet.Piece.TheVariants.{Data, Command, Subnegotiation}
use Rattle.mud_nvt.specs.declared.telnet.Position.{Position}
use Rattle.mud_nvt.specs.declared.telnet.Position.TheVariants.{Between, BehindIac, BehindVerb, Inside, InsideBehindIac}
use Rattle.mud_nvt.specs.inner.Telnet.{behind_end, request, subnegotiation, behind_iac, first_piece, pieces_up_to}
use Rattle.mud_nvt.specs.Grammar.{is_verb}
use Rattle.mud_nvt.specs.Telnet.{pieces}
use Rattle.mud_nvt.specs.inner.Machine.{next_place, finished_piece}

-- the piece, if there is one, and then the others
abbrev pub put : Option Piece → List Piece → List Piece
put None ps = ps
put (Some p) ps = p ∷ ps

-- the pieces that these bytes complete, from this position
abbrev pub scan : Position → List ℕ → List Piece
scan place [] = []
scan place (b ∷ bytes) = put (finished_piece place b) (scan (next_place place b) bytes)

-- scanning gives this first piece and then the pieces of the remaining bytes, which are fewer than n
abbrev pub Begins : ℕ → Option (Piece × List ℕ) → List Piece → Type 0
Begins n None ps = ps ≡ []
Begins n (Some p) ps = (ps ≡ p.0 ∷ scan Between p.1) × (length p.1 < n)

subnegotiation_begins : (bytes : List ℕ) (n : ℕ) → length bytes < n
    → Begins n (subnegotiation (behind_end bytes)) (scan Inside bytes)
subnegotiation_begins [] n h = refl
subnegotiation_begins (a ∷ []) n h = refl
subnegotiation_begins (a ∷ b ∷ bytes) n h =
    elim (a == IAC) as
    (λ v. Begins n
    (subnegotiation (if v then (if b == SE then Some bytes else behind_end bytes) else behind_end (b ∷ bytes)))
    (scan (if v then InsideBehindIac else Inside) (b ∷ bytes))) [
      | true ↦ elim (b == SE) as
          (λ v. Begins n (subnegotiation (if v then Some bytes else behind_end bytes))
          (put (if v then Some Subnegotiation else None) (scan (if v then Between else Inside) bytes))) [
            | true ↦ (refl, omega arith)
            | false ↦ subnegotiation_begins bytes n (omega arith)
          ]
      | false ↦ subnegotiation_begins (b ∷ bytes) n (omega arith)
    ]

request_begins : (verb : ℕ) (bytes : List ℕ) (n : ℕ) → length bytes < n
    → Begins n (request verb bytes) (scan (BehindVerb verb) bytes)
request_begins verb [] n h = refl
request_begins verb (b ∷ bytes) n h = (refl, omega arith)

behind_iac_begins : (bytes : List ℕ) (n : ℕ) → length bytes < n → Begins n (behind_iac bytes) (scan BehindIac bytes)
behind_iac_begins [] n h = refl
behind_iac_begins (b ∷ bytes) n h =
    elim (b == IAC) as
    (λ v. Begins n
    (if v then Some (Data IAC, bytes) else
    (if b == SB then subnegotiation (behind_end bytes) else
    (if is_verb b then request b bytes else Some (Command b, bytes))))
    (put (if v then Some (Data IAC) else (if b == SB then None else (if is_verb b then None else Some (Command b))))
    (scan (if v then Between else
    (if b == SB then Inside else (if is_verb b then BehindVerb b else Between))) bytes))) [
      | true ↦ (refl, omega arith)
      | false ↦
          elim (b == SB) as
          (λ v. Begins n
          (if v then subnegotiation (behind_end bytes) else
          (if is_verb b then request b bytes else Some (Command b, bytes)))
          (put (if v then None else (if is_verb b then None else Some (Command b)))
          (scan (if v then Inside else (if is_verb b then BehindVerb b else Between)) bytes))) [
            | true ↦ subnegotiation_begins bytes n (omega arith)
            | false ↦
                elim (is_verb b) as
                (λ v. Begins n (if v then request b bytes else Some (Command b, bytes))
                (put (if v then None else Some (Command b)) (scan (if v then BehindVerb b else Between) bytes))) [
                  | true ↦ request_begins b bytes n (omega arith)
                  | false ↦ (refl, omega arith)
                ]
          ]
    ]

pub first_piece_begins : (bytes : List ℕ) → Begins (length bytes) (first_piece bytes) (scan Between bytes)
first_piece_begins [] = refl
first_piece_begins (b ∷ bytes) =
    elim (b == IAC) as
    (λ v. Begins (length (b ∷ bytes)) (if v then behind_iac bytes else Some (Data b, bytes))
    (put (if v then None else Some (Data b)) (scan (if v then BehindIac else Between) bytes))) [
      | true ↦ behind_iac_begins bytes (length (b ∷ bytes)) (omega arith)
      | false ↦ (refl, omega arith)
    ]

pub pieces_up_to_is : (n : ℕ) (bytes : List ℕ) → length bytes ≤ n → pieces_up_to n bytes ≡ scan Between bytes
pieces_up_to_is zero [] h = refl
pieces_up_to_is zero (b ∷ bytes) h = absurd (omega arith)
pieces_up_to_is (suc n) bytes h =
    elim (first_piece bytes) as
    (λ o. Begins (length bytes) o (scan Between bytes)
    → elim o [ None ↦ [] | Some p ↦ p.0 ∷ pieces_up_to n p.1 ] ≡ scan Between bytes) [
      | None ↦ λ e. sym e
      | Some p ↦ λ e. ap (λ ps. p.0 ∷ ps) (pieces_up_to_is n p.1 (omega arith)) ∙ sym e.0
    ] (first_piece_begins bytes)

pub pieces_is : (bytes : List ℕ) → pieces bytes ≡ scan Between bytes
pieces_is bytes = pieces_up_to_is (length bytes) bytes (omega arith)
