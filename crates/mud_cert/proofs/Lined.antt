-- A line ends at the first LF.
use Rattle.std.proofs.Common.{◌≡◌, ◌≢◌, ℕ, ◌<◌, List, ◌∷◌, ◌++◌, length, take, drop, slice_index, get_or, Some, None}
use Rattle.std.proofs.Common.{sym, ap, ◌∙◌, arith, length-take}
use Rattle.std.proofs.lemmas.Grind.{common_steps}
use Rattle.std.proofs.lemmas.List.Elements.{All-from_get_or}
use Rattle.memchr.specs.Find.{IsFirstByte, is_byte}
use Rattle.mud_key.specs.declared.codes.TheConstants.{LF}
use Rattle.mud_key.specs.Lines.{HasNoLineFeed}

in-front : (bytes : List ℕ) (at i : ℕ) → i < length (take at bytes) → get_or (take at bytes) i 0 ≡ slice_index bytes i
in-front bytes at i lt = grind (arith, common_steps)

-- the bytes before the first LF are a line, and that LF follows
pub cut-at : (bytes line ended : List ℕ) (at : ℕ) → IsFirstByte (is_byte LF) bytes (Some at) → line ≡ take at bytes
    → ended ≡ drop at bytes
    → HasNoLineFeed line × (bytes ≡ line ++ LF ∷ drop 1 ended)
cut-at bytes line ended at first line_is ended_is = rw (line_is, ended_is) (
  All-from_get_or (λ b. b ≢ LF) (take at bytes) 0 (λ i lt is.
      first.0.before i (omega arith) (omega (arith, lt, length-take at bytes))
      (ap (is_byte LF) (sym (in-front bytes at i lt) ∙ is))),
  grind (arith, common_steps),
)

-- bytes without LF are a line
pub line-whole : (bytes : List ℕ) → IsFirstByte (is_byte LF) bytes None → HasNoLineFeed bytes
line-whole bytes none = All-from_get_or (λ b. b ≢ LF) bytes 0 (λ i lt is. none i (omega arith) lt (ap (is_byte LF) is))
