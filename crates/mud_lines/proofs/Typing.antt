-- One line more.
use Rattle.std.proofs.Common.{◌≡◌, List, ℕ, [], ◌∷◌, ◌++◌, map, true, false, Global, String, refl, sym, ◌∙◌, ap, subst}
use Rattle.std.specs.Prelude.{All, Bool, MatchBool, string_bytes}
use Rattle.std.specs.List.{flat_map}
use Rattle.std.proofs.lemmas.Bool.{true≢false}
use Rattle.std.proofs.lemmas.List.{map-append}
use Rattle.std.proofs.lemmas.List.Elements.{All-push}
use Rattle.std.proofs.lemmas.List.Folds.{flat_map-map}
use Rattle.mud_chron.specs.Text.{line_feed}
use Rattle.mud_lines.specs.declared.typist.Typist.{Typist}
use Rattle.mud_lines.specs.Typing.{Scene, after_line, after_lines, opening_scene, lines_text, IsLine}
use Rattle.mud_lines.specs.inner.Typed.{scene_of, IsTyped}

lines-push : (s : Scene) (lines : List (List ℕ)) (line : List ℕ)
    → after_lines s (lines ++ line ∷ []) ≡ after_line (after_lines s lines) line
lines-push s [] line = refl
lines-push s (l ∷ lines) line = lines-push (after_line s l) lines line

-- a line that acts is one of those typed
pub typed-push : (before after : Typist) (line : String Global)
    → after.lines.items ≡ before.lines.items ++ line ∷ []
    → scene_of after ≡ after_line (scene_of before) (string_bytes line) → IsLine (string_bytes line) → IsTyped before
    → IsTyped after
typed-push before after line items scene short typed = record {
  is = ap (λ (l : List (String Global)). after_lines opening_scene (map string_bytes l)) items
      ∙ ap (after_lines opening_scene) (map-append string_bytes before.lines.items (line ∷ []))
      ∙ lines-push opening_scene (map string_bytes before.lines.items) (string_bytes line)
      ∙ ap (λ s. after_line s (string_bytes line)) typed.is ∙ sym scene;
  are = subst (λ (l : List (String Global)). All IsLine (map string_bytes l)) (sym items)
      (subst (All IsLine) (sym (map-append string_bytes before.lines.items (line ∷ [])))
      (All-push IsLine (map string_bytes before.lines.items) (string_bytes line) typed.are short));
}

-- the text of lines, string by string
pub text-of : (lines : List (String Global))
    → flat_map (λ line. string_bytes line ++ line_feed) lines ≡ lines_text (map string_bytes lines)
text-of lines = sym (flat_map-map (λ (line : List ℕ). line ++ line_feed) string_bytes lines)

-- the meaning of a test
pub when-true : (A B : Type 0) (b : Bool) → MatchBool b A B → b ≡ true → A
when-true A B true is e = is
when-true A B false is e = absurd (true≢false (sym e))
