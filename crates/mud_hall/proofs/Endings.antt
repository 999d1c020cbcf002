-- A text of lines ends with a line end.
use Rattle.std.proofs.Common.{◌≡◌, ℕ, List, [], ◌∷◌, ◌++◌}
use Rattle.std.proofs.Common.{length, sym, ◌∙◌, ap, append_assoc}
use Rattle.std.specs.Prelude.{codes}
use Rattle.mud_key.specs.declared.codes.TheConstants.{LF}
use Rattle.mud_chron.specs.Entry.{Entry}
use Rattle.mud_chron.specs.Text.{line_feed, entries_text, end_line}
use Rattle.mud_chron.specs.inner.Texts.{written_text}

-- a text before it does not change its end
pub behind : (front : List ℕ) (text : List ℕ) → (before : List ℕ) × (text ≡ before ++ LF ∷ [])
    → (before : List ℕ) × (front ++ text ≡ before ++ LF ∷ [])
behind front text (before, e) = (
  front ++ before,
  ap (λ (l : List ℕ). front ++ l) e
      ∙ sym (append_assoc front before (LF ∷ [])),
)

pub written-ends : (es : List Entry) → (before : List ℕ) × (written_text es ≡ before ++ LF ∷ [])
written-ends es =
    let begun : List ℕ = codes "mud history 2" ++ line_feed ++ entries_text 1 es in
    (begun ++ end_line (length es), sym (append_assoc begun (end_line (length es)) line_feed))
