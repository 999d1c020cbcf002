-- The versions that the output of a session names.
use Rattle.std.specs.Prelude.{◌≡◌, ◌≤◌, ◌⊎◌, ℕ, List, [], ◌∷◌, codes, Some, All, Contains}
use Rattle.std.specs.List.{flat_map}
use Rattle.mud_words.specs.Line.{Line}
use Rattle.mud_nvt.specs.declared.codes.TheConstants.{IAC}
use Rattle.mud_world.specs.State.{State as World}
use Rattle.mud_world.specs.declared.change.Change.{Change}
use Rattle.mud_world.specs.declared.refusal.Refusal.{Refusal}
use Rattle.mud_rules.specs.Replies.{reply_text, refusal_text, welcome_text}
use Rattle.mud_rules.specs.HeardLine.{heard_line, notice_text}
use Rattle.mud_hall.specs.Desk.{DeskState}
use Rattle.mud_hall.specs.Answers.{Answered, Answers}
use Rattle.mud_session.specs.Session.{with_version, wire_text}

-- the lines that name no version
abbrev pub plain_lines : List (List ℕ)
plain_lines =
    codes "Welcome. Type: connect NAME" ∷ codes "(out of memory)" ∷ codes "(history full)" ∷ codes "(not stored)"
    ∷ codes "(line too long)" ∷ codes "[Yes]" ∷ []

-- a text about version v: the reply to a line that acts, or the answer to a line by v entries
abbrev pub IsSaidOf : ℕ → List ℕ → Type 0
IsSaidOf v text =
    ((w : World) × (e : Change) × (text ≡ reply_text w e)) ⊎ ((p : ℕ) × (text ≡ welcome_text p))
    ⊎ ((f : Refusal) × (text ≡ refusal_text f))
    ⊎ ((d : DeskState) × (line : Line) × (a : Answered) × Answers d line a × (a.version ≡ v) × (a.text ≡ text))

-- a notice of a change, which names no version above `most`
abbrev pub IsNotice : ℕ → List ℕ → Type 0
IsNotice most text =
    (v : ℕ) × (w : World) × (e : Change) × (p : ℕ) × (line : List ℕ)
    × (v ≤ most) × (heard_line w e p ≡ Some line) × (text ≡ notice_text v line)

-- a piece of output that names no version above `most`: a reply or an answer after its version, a notice, a line that
-- names no version, or an answer to a request
abbrev pub IsPiece : ℕ → List ℕ → Type 0
IsPiece most bytes =
    ((v : ℕ) × (text : List ℕ) × (v ≤ most) × IsSaidOf v text × (bytes ≡ wire_text (with_version v text)))
    ⊎ ((text : List ℕ) × IsNotice most text × (bytes ≡ wire_text text))
    ⊎ ((line : List ℕ) × Contains plain_lines line × (bytes ≡ wire_text line))
    ⊎ ((verb : ℕ) × (option : ℕ) × (bytes ≡ IAC ∷ verb ∷ option ∷ []))

-- the text consists of such pieces
pub record NamesUpTo (most : ℕ) (text : List ℕ) : Type 0 where
  pub pieces : List (List ℕ)
  pub each : All (IsPiece most) pieces
  pub is : text ≡ flat_map (λ piece. piece) pieces
