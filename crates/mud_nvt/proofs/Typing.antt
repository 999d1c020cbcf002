-- The current line, kept stroke by stroke.
use Rattle.std.proofs.Common.{ℕ, ◌≡◌, refl, ap, sym, map, zip, ◌∙◌, ◌≤◌, arith, Bool, true, false, ◌||◌, List, [], ◌∷◌}
use Rattle.std.proofs.Common.{◌++◌, length, length-append, length-take, nat_lt, if◌then◌else◌}
use Rattle.std.proofs.lemmas.Bool.Decides.{nat_tests}
use Rattle.mud_nvt.specs.declared.TheConstants.{MOST}
use Rattle.mud_nvt.specs.declared.telnet.Piece.{Piece}
use Rattle.mud_nvt.specs.declared.strokes.Stroke.{Stroke}
use Rattle.mud_nvt.specs.declared.strokes.Stroke.TheVariants.{Character, EraseCharacter, EraseLine, EndLine}
use Rattle.mud_nvt.specs.declared.strokes.Stroke.TheVariants.{AreYouThere, Refuse, Nothing}
use Rattle.mud_nvt.specs.Strokes.{line, is_too_long, stroke, is_cr}
use Rattle.mud_nvt.specs.Units.{Given, units_at, units_after}
use Rattle.mud_nvt.specs.inner.Machine.{next_text, next_too_long, stroke_units, without_last}

-- the state is the line that these strokes leave, the latest stroke first
pub record Keeps (earlier : List Stroke) (too_long : Bool) (text : List ℕ) : Type 0 where
  pub long_is : too_long ≡ is_too_long earlier
  pub text_is : too_long ≡ false → text ≡ line earlier

-- a line that is not too long has at most 1,000 characters
line_fits : (earlier : List Stroke) → is_too_long earlier ≡ false → length (line earlier) ≤ MOST
line_fits [] h = omega arith
line_fits (Character c ∷ earlier) h = grind (arith, nat_tests)
line_fits (EraseCharacter ∷ earlier) h = grind (arith, nat_tests)
line_fits (EraseLine ∷ earlier) h = omega arith
line_fits (EndLine ∷ earlier) h = omega arith
line_fits (AreYouThere ∷ earlier) h = grind (arith, nat_tests)
line_fits (Refuse verb option ∷ earlier) h = grind (arith, nat_tests)
line_fits (Nothing ∷ earlier) h = grind (arith, nat_tests)

-- a line that does not grow does not become too long
stays : (b : Bool) (n : ℕ) → (b ≡ false → n ≤ MOST) → (nat_lt MOST n || b) ≡ b
stays true n h = grind (arith, nat_tests)
stays false n h = let l : n ≤ MOST = h refl in grind (arith, nat_tests)

-- one more character is too long if there is no room for it
one_more : (b : Bool) (xs ys : List ℕ) (c : ℕ) → false ≡ b → ys ≡ xs
    → (if nat_lt (length ys) MOST then false else true) ≡ (nat_lt MOST (length (xs ++ c ∷ [])) || b)
one_more b xs ys c n e = grind (arith, nat_tests, length-append {A = ℕ})

keeps_on : (s : Stroke) (earlier : List Stroke) (too_long : Bool) (text : List ℕ) → Keeps earlier too_long text
    → Keeps (s ∷ earlier) (next_too_long too_long text s) (next_text too_long text s)
keeps_on (Character c) earlier true text k = record {
  long_is = k.long_is ∙ sym (stays (is_too_long earlier) (length (line earlier ++ c ∷ [])) (λ e. absurd (cc)));
  text_is = λ e. absurd (cc);
}
keeps_on (Character c) earlier false text k =
    let t : text ≡ line earlier = k.text_is refl in
    record {
      long_is = one_more (is_too_long earlier) (line earlier) text c k.long_is t;
      text_is =
          elim (nat_lt (length text) MOST) as
          (λ v. (if v then false else true) ≡ false → (if v then text ++ c ∷ [] else text) ≡ line earlier ++ c ∷ []) [
            | true ↦ λ e. ap (λ xs. xs ++ c ∷ []) t
            | false ↦ λ e. absurd (cc)
          ];
    }
keeps_on EraseCharacter earlier too_long text k = record {
  long_is =
      k.long_is
      ∙ sym (stays (is_too_long earlier) (length (without_last (line earlier)))
      (λ e. let l : length (line earlier) ≤ MOST = line_fits earlier e in grind (arith, length-take {A = ℕ})));
  text_is = λ e. ap without_last (k.text_is e);
}
keeps_on EraseLine earlier too_long text k = record { long_is = refl; text_is = λ _. refl }
keeps_on EndLine earlier too_long text k = record { long_is = refl; text_is = λ _. refl }
keeps_on AreYouThere earlier too_long text k =
    record {
      long_is =
          k.long_is ∙ sym (stays (is_too_long earlier) (length (line earlier)) (line_fits earlier));
      text_is = k.text_is;
    }
keeps_on (Refuse verb option) earlier too_long text k =
    record {
      long_is =
          k.long_is ∙ sym (stays (is_too_long earlier) (length (line earlier)) (line_fits earlier));
      text_is = k.text_is;
    }
keeps_on Nothing earlier too_long text k =
    record {
      long_is =
          k.long_is ∙ sym (stays (is_too_long earlier) (length (line earlier)) (line_fits earlier));
      text_is = k.text_is;
    }

-- so the units are those of the definition
stroke_units_is : (s : Stroke) (earlier : List Stroke) (too_long : Bool) (text : List ℕ) → Keeps earlier too_long text
    → units_at earlier s ≡ stroke_units too_long text s
stroke_units_is (Character c) earlier too_long text k = refl
stroke_units_is EraseCharacter earlier too_long text k = refl
stroke_units_is EraseLine earlier too_long text k = refl
stroke_units_is EndLine earlier true text k = rw (← k.long_is) refl
stroke_units_is EndLine earlier false text k = rw (← k.long_is, k.text_is refl) refl
stroke_units_is AreYouThere earlier too_long text k = refl
stroke_units_is (Refuse verb option) earlier too_long text k = refl
stroke_units_is Nothing earlier too_long text k = refl

-- the strokes of these pieces; the flag says whether a CR comes right before the first piece
abbrev pub strokes_behind : Bool → List Piece → List Stroke
strokes_behind after_cr ps = map (λ p. stroke p.0 p.1) (zip (after_cr ∷ map is_cr ps) ps)

-- the units of these pieces, from this state
abbrev pub walk : Bool → Bool → List ℕ → List Piece → List Given
walk after_cr too_long text [] = []
walk after_cr too_long text (p ∷ ps) =
    stroke_units too_long text (stroke after_cr p)
    ++ walk (is_cr p) (next_too_long too_long text (stroke after_cr p))
    (next_text too_long text (stroke after_cr p)) ps

pub walk_is : (ps : List Piece) (earlier : List Stroke) (after_cr too_long : Bool) (text : List ℕ)
    → Keeps earlier too_long text → units_after earlier (strokes_behind after_cr ps) ≡ walk after_cr too_long text ps
walk_is [] earlier after_cr too_long text k = refl
walk_is (p ∷ ps) earlier after_cr too_long text k =
    let s = stroke after_cr p in
    rw (
      stroke_units_is s earlier too_long text k,
      walk_is ps (s ∷ earlier) (is_cr p) (next_too_long too_long text s)
          (next_text too_long text s) (keeps_on s earlier too_long text k),
    ) refl
