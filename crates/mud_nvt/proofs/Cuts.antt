-- The pieces of the definition are the only ones that the grammar allows.
use Rattle.std.proofs.Common.{ℕ, zero, suc, ◌≡◌, refl, ap, sym, subst, ◌∙◌, ◌≤◌, arith, true, false, List, [], ◌∷◌}
use Rattle.std.proofs.Common.{◌++◌, length, append_assoc, append-nil, Option, Some, None, ◌==◌, if◌then◌else◌, eqb-true}
use Rattle.std.proofs.Common.{◌⊎◌, ◌↔◌, inl, inr}
use Rattle.std.proofs.Common.{◌≢◌}
use Rattle.std.proofs.lemmas.Bool.Decides.{nat_tests}
use Rattle.mud_nvt.specs.declared.codes.TheConstants.{IAC, SE, SB}
use Rattle.mud_nvt.specs.declared.telnet.Piece.{Piece}
use Rattle.mud_nvt.specs.declared.telnet.Piece.TheVariants.{Data, Command}
use Rattle.mud_nvt.specs.declared.telnet.Position.TheVariants.{Between, Inside}
use Rattle.mud_nvt.specs.Telnet.{pieces}
use Rattle.mud_nvt.specs.inner.Telnet.{pieces_up_to, first_piece, behind_iac, behind_end, request}
use Rattle.mud_nvt.specs.Grammar.{is_verb}
use Rattle.mud_nvt.specs.inner.Telnet.{subnegotiation}
use Rattle.mud_nvt.specs.Grammar.{IsInside, at_end, a_byte, a_pair, Spells, a_plain_byte, a_doubled_iac, a_command}
use Rattle.mud_nvt.specs.Grammar.{a_request, a_subnegotiation, Cuts, to_rest, to_piece}
use Rattle.mud_nvt.proofs.Cutting.{scan, pieces_is, Begins, first_piece_begins}

-- less than a whole piece
data IsUnfinished : List ℕ → Type 0 where
  no_byte : IsUnfinished []
  an_iac : IsUnfinished (IAC ∷ [])
  a_verb : (verb : ℕ) → is_verb verb ≡ true → IsUnfinished (IAC ∷ verb ∷ [])
  an_open_subnegotiation : (inside : List ℕ) → IsInside inside → IsUnfinished (IAC ∷ SB ∷ inside)
  an_iac_inside : (inside : List ℕ) → IsInside inside → IsUnfinished (IAC ∷ SB ∷ (inside ++ IAC ∷ []))

inside_is : (bytes : List ℕ) → IsInside bytes → (more : List ℕ) → scan Inside (bytes ++ more) ≡ scan Inside more
inside_is bytes at_end more = refl
inside_is bytes (a_byte b rest e i) more = rw e (inside_is rest i more)
inside_is bytes (a_pair b rest e i) more = rw e (inside_is rest i more)

verb_is_no_iac : (b : ℕ) → is_verb b ≡ true → (b == IAC) ≡ false
verb_is_no_iac b e = grind (arith, nat_tests)

verb_is_no_sb : (b : ℕ) → is_verb b ≡ true → (b == SB) ≡ false
verb_is_no_sb b e = grind (arith, nat_tests)

spelled_is : (p : Piece) (front : List ℕ) → Spells p front → (back : List ℕ)
    → scan Between (front ++ back) ≡ p ∷ scan Between back
spelled_is p front (a_plain_byte b e) back = rw e refl
spelled_is p front a_doubled_iac back = refl
spelled_is p front (a_command b e f g) back = rw (e, f, g) refl
spelled_is p front (a_request verb option e) back = rw (verb_is_no_iac verb e, verb_is_no_sb verb e, e) refl
spelled_is p front (a_subnegotiation inside i) back =
    rw (append_assoc inside (IAC ∷ SE ∷ []) back, inside_is inside i ((IAC ∷ SE ∷ []) ++ back)) refl

unfinished_is : (rest : List ℕ) → IsUnfinished rest → scan Between rest ≡ []
unfinished_is rest no_byte = refl
unfinished_is rest an_iac = refl
unfinished_is rest (a_verb verb e) = rw (verb_is_no_iac verb e, verb_is_no_sb verb e, e) refl
unfinished_is rest (an_open_subnegotiation inside i) = rw (sym (append-nil inside)) (inside_is inside i [])
unfinished_is rest (an_iac_inside inside i) = inside_is inside i (IAC ∷ [])

-- no prefix of less than a whole piece is a piece
no_piece : (rest : List ℕ) → IsUnfinished rest → (p : Piece) (front back : List ℕ) → Spells p front
    → rest ≢ front ++ back
no_piece rest u p front back k e =
    let none : [] ≡ p ∷ scan Between back =
    sym (unfinished_is rest u) ∙ (ap (scan Between) e ∙ spelled_is p front k back) in
    absurd (cc)

-- the result of behind_end, by the grammar
abbrev Closes : List ℕ → Option (List ℕ) → Type 0
Closes bytes None = IsInside bytes ⊎ ((inside : List ℕ) × IsInside inside × (bytes ≡ inside ++ IAC ∷ []))
Closes bytes (Some rest) = (inside : List ℕ) × IsInside inside × (bytes ≡ (inside ++ IAC ∷ SE ∷ []) ++ rest)

byte_closes : (a : ℕ) (bytes : List ℕ) (o : Option (List ℕ)) → (a == IAC) ≡ false → Closes bytes o
    → Closes (a ∷ bytes) o
byte_closes a bytes None e (inl i) = inl (a_byte a bytes e i)
byte_closes a bytes None e (inr k) = inr (a ∷ k.0, a_byte a k.0 e k.1, ap (λ bs. a ∷ bs) k.2)
byte_closes a bytes (Some rest) e k = (a ∷ k.0, a_byte a k.0 e k.1, ap (λ bs. a ∷ bs) k.2)

pair_closes : (b : ℕ) (bytes : List ℕ) (o : Option (List ℕ)) → (b == SE) ≡ false → Closes bytes o
    → Closes (IAC ∷ b ∷ bytes) o
pair_closes b bytes None e (inl i) = inl (a_pair b bytes e i)
pair_closes b bytes None e (inr k) = inr (IAC ∷ b ∷ k.0, a_pair b k.0 e k.1, ap (λ bs. IAC ∷ b ∷ bs) k.2)
pair_closes b bytes (Some rest) e k = (IAC ∷ b ∷ k.0, a_pair b k.0 e k.1, ap (λ bs. IAC ∷ b ∷ bs) k.2)

closes : (bytes : List ℕ) → Closes bytes (behind_end bytes)
closes [] = inl at_end
closes (a ∷ []) =
    elim (a == IAC) as (λ v. (a == IAC) ≡ v → Closes (a ∷ []) None) [
      | true ↦ λ e. inr ([], at_end, ap (λ c. c ∷ []) (eqb-true a IAC e))
      | false ↦ λ e. inl (a_byte a [] e at_end)
    ] refl
closes (a ∷ b ∷ bytes) =
    elim (a == IAC) as
    (λ v. (a == IAC) ≡ v
    → Closes (a ∷ b ∷ bytes)
    (if v then (if b == SE then Some bytes else behind_end bytes) else behind_end (b ∷ bytes))) [
      | true ↦ λ e.
          subst (λ c. Closes (c ∷ b ∷ bytes) (if b == SE then Some bytes else behind_end bytes))
          (sym (eqb-true a IAC e))
          (elim (b == SE) as
          (λ v. (b == SE) ≡ v → Closes (IAC ∷ b ∷ bytes) (if v then Some bytes else behind_end bytes)) [
            | true ↦ λ f. ([], at_end, ap (λ c. IAC ∷ c ∷ bytes) (eqb-true b SE f))
            | false ↦ λ f. pair_closes b bytes (behind_end bytes) f (closes bytes)
          ] refl)
      | false ↦ λ e. byte_closes a (b ∷ bytes) (behind_end (b ∷ bytes)) e (closes (b ∷ bytes))
    ] refl

-- the result of first_piece, by the grammar
abbrev Starts : List ℕ → Option (Piece × List ℕ) → Type 0
Starts bytes None = IsUnfinished bytes
Starts bytes (Some p) = (front : List ℕ) × Spells p.0 front × (bytes ≡ front ++ p.1)

subnegotiation_starts : (bytes : List ℕ) (o : Option (List ℕ)) → Closes bytes o
    → Starts (IAC ∷ SB ∷ bytes) (subnegotiation o)
subnegotiation_starts bytes None (inl i) = an_open_subnegotiation bytes i
subnegotiation_starts bytes None (inr k) = subst (λ bs. IsUnfinished (IAC ∷ SB ∷ bs)) (sym k.2) (an_iac_inside k.0 k.1)
subnegotiation_starts bytes (Some rest) k =
    (IAC ∷ SB ∷ (k.0 ++ IAC ∷ SE ∷ []), a_subnegotiation k.0 k.1, ap (λ bs. IAC ∷ SB ∷ bs) k.2)

request_starts : (verb : ℕ) (bytes : List ℕ) → is_verb verb ≡ true → Starts (IAC ∷ verb ∷ bytes) (request verb bytes)
request_starts verb [] e = a_verb verb e
request_starts verb (option ∷ bytes) e = (IAC ∷ verb ∷ option ∷ [], a_request verb option e, refl)

iac_starts : (bytes : List ℕ) → Starts (IAC ∷ bytes) (behind_iac bytes)
iac_starts [] = an_iac
iac_starts (b ∷ bytes) =
    elim (b == IAC) as
    (λ v. (b == IAC) ≡ v
    → Starts (IAC ∷ b ∷ bytes)
    (if v then Some (Data IAC, bytes) else
    (if b == SB then subnegotiation (behind_end bytes) else
    (if is_verb b then request b bytes else Some (Command b, bytes))))) [
      | true ↦ λ e. (IAC ∷ IAC ∷ [], a_doubled_iac, ap (λ c. IAC ∷ c ∷ bytes) (eqb-true b IAC e))
      | false ↦ λ e.
          elim (b == SB) as
          (λ v. (b == SB) ≡ v
          → Starts (IAC ∷ b ∷ bytes)
          (if v then subnegotiation (behind_end bytes) else
          (if is_verb b then request b bytes else Some (Command b, bytes)))) [
            | true ↦ λ f.
                subst (λ c. Starts (IAC ∷ c ∷ bytes) (subnegotiation (behind_end bytes))) (sym (eqb-true b SB f))
                (subnegotiation_starts bytes (behind_end bytes) (closes bytes))
            | false ↦ λ f.
                elim (is_verb b) as
                (λ v. is_verb b ≡ v
                → Starts (IAC ∷ b ∷ bytes) (if v then request b bytes else Some (Command b, bytes))) [
                  | true ↦ λ g. request_starts b bytes g
                  | false ↦ λ g. (IAC ∷ b ∷ [], a_command b e f g, refl)
                ] refl
          ] refl
    ] refl

starts : (bytes : List ℕ) → Starts bytes (first_piece bytes)
starts [] = no_byte
starts (b ∷ bytes) =
    elim (b == IAC) as
    (λ v. (b == IAC) ≡ v → Starts (b ∷ bytes) (if v then behind_iac bytes else Some (Data b, bytes))) [
      | true ↦ λ e. subst (λ c. Starts (c ∷ bytes) (behind_iac bytes)) (sym (eqb-true b IAC e)) (iac_starts bytes)
      | false ↦ λ e. (b ∷ [], a_plain_byte b e, refl)
    ] refl

-- bytes that do not begin with a piece are less than a whole piece
unfinished : (rest : List ℕ) → ((p : Piece) (front back : List ℕ) → Spells p front → rest ≢ front ++ back)
    → IsUnfinished rest
unfinished rest u =
    elim (first_piece rest) as (λ o. Starts rest o → IsUnfinished rest) [
      | None ↦ λ s. s
      | Some p ↦ λ s. absurd (u p.0 s.0 p.1 s.1 s.2)
    ] (starts rest)

-- these bytes have no other cutting
pub cuts_only : (bytes : List ℕ) (ps : List Piece) → Cuts bytes ps → scan Between bytes ≡ ps
cuts_only bytes ps (to_rest rest u) = unfinished_is rest (unfinished rest u)
cuts_only bytes ps (to_piece p front back others s c) =
    spelled_is p front s back ∙ ap (λ qs. p ∷ qs) (cuts_only back others c)

pub pieces_only : (bytes : List ℕ) (ps : List Piece) → Cuts bytes ps → pieces bytes ≡ ps
pieces_only bytes ps c = pieces_is bytes ∙ cuts_only bytes ps c

pieces_up_to_cut : (n : ℕ) (bytes : List ℕ) → length bytes ≤ n → Cuts bytes (pieces_up_to n bytes)
pieces_up_to_cut zero [] h = to_rest [] (no_piece [] no_byte)
pieces_up_to_cut zero (b ∷ bytes) h = absurd (omega arith)
pieces_up_to_cut (suc n) bytes h =
    elim (first_piece bytes) as
    (λ o. Starts bytes o → Begins (length bytes) o (scan Between bytes)
    → Cuts bytes (elim o [ None ↦ [] | Some p ↦ p.0 ∷ pieces_up_to n p.1 ])) [
      | None ↦ λ s l. to_rest bytes (no_piece bytes s)
      | Some p ↦
          λ s l. subst (λ bs. Cuts bs (p.0 ∷ pieces_up_to n p.1)) (sym s.2)
          (to_piece p.0 s.0 p.1 (pieces_up_to n p.1) s.1 (pieces_up_to_cut n p.1 (omega arith)))
    ] (starts bytes) (first_piece_begins bytes)

-- the pieces of the definition are a cutting of the bytes
pub pieces_cut : (bytes : List ℕ) → Cuts bytes (pieces bytes)
pieces_cut bytes = pieces_up_to_cut (length bytes) bytes (omega arith)

pub pieces_iff : (bytes : List ℕ) (others : List Piece) → Cuts bytes others ↔ (pieces bytes ≡ others)
pieces_iff bytes others = (pieces_only bytes others, λ e. subst (λ ps. Cuts bytes ps) e (pieces_cut bytes))
