-- Each line among the units is printable and not too long.
use Rattle.std.proofs.Common.{ℕ, ◌≡◌, refl, ◌≤◌, arith, Bool, true, false, Option, Some, None, List, [], ◌∷◌, ◌++◌}
use Rattle.std.proofs.Common.{length, length-append, length-take, ◌-◌, All, if◌then◌else◌, nat_lt, nat_le, ◌&&◌, ◌||◌}
use Rattle.std.proofs.Common.{◌==◌}
use Rattle.std.proofs.lemmas.List.Elements.{All-nil, All-cons, All-append, All-push, All-take}
use Rattle.std.proofs.lemmas.Bool.Decides.{nat_tests}
use Rattle.mud_nvt.specs.declared.codes.TheConstants.{WILL, DO, WONT, DONT, AYT, EC, EL, NUL, BS, HT, LF, CR, DEL}
use Rattle.mud_nvt.specs.declared.codes.TheConstants.{SPACE, TILDE}
use Rattle.mud_nvt.specs.declared.TheConstants.{MOST}
use Rattle.mud_nvt.specs.declared.telnet.Piece.{Piece}
use Rattle.mud_nvt.specs.declared.telnet.Piece.TheVariants.{Data, Command, Request, Subnegotiation}
use Rattle.mud_nvt.specs.declared.strokes.Stroke.{Stroke}
use Rattle.mud_nvt.specs.declared.strokes.Stroke.TheVariants.{Character, EraseCharacter, EraseLine, EndLine}
use Rattle.mud_nvt.specs.declared.strokes.Stroke.TheVariants.{AreYouThere, Refuse, Nothing}
use Rattle.mud_nvt.specs.Strokes.{stroke}
use Rattle.mud_nvt.specs.Units.{Given, Text, TooLong, Ayt, units}
use Rattle.mud_nvt.specs.Lines.{IsSound}
use Rattle.mud_nvt.specs.inner.Lines.{IsPrintable, IsPlain}
use Rattle.mud_nvt.specs.Held.{Held}
use Rattle.mud_nvt.specs.inner.Machine.{start, next, next_text, text_with, stroke_units, finished_piece, after_piece}
use Rattle.mud_nvt.specs.inner.Machine.{piece_units, byte_units, run_units}
use Rattle.mud_nvt.proofs.Whole.{units_is}

plain_if : (t : Bool) (r s : Stroke) → IsPlain r → IsPlain s → IsPlain (if t then r else s)
plain_if true r s p q = p
plain_if false r s p q = q

plain_character : (b : ℕ) → IsPlain (if nat_le SPACE b && nat_le b TILDE then Character b else Nothing)
plain_character b =
    elim (nat_le SPACE b && nat_le b TILDE) as
    (λ v. (nat_le SPACE b && nat_le b TILDE) ≡ v → IsPlain (if v then Character b else Nothing)) [
      | true ↦ λ e. (grind (arith, nat_tests), grind (arith, nat_tests))
      | false ↦ λ e. tt
    ] refl

plain_data : (after_cr : Bool) (b : ℕ) → IsPlain (stroke after_cr (Data b))
plain_data after_cr b =
    plain_if (after_cr && ((b == LF) || (b == NUL))) Nothing _ tt
    (plain_if ((b == LF) || (b == CR)) EndLine _ tt
    (plain_if (b == HT) (Character SPACE) _ (omega arith, omega arith)
    (plain_if ((b == BS) || (b == DEL)) EraseCharacter _ tt
    (plain_character b))))

-- each stroke types a printable character or no character
stroke_plain : (after_cr : Bool) (p : Piece) → IsPlain (stroke after_cr p)
stroke_plain after_cr (Data b) = plain_data after_cr b
stroke_plain after_cr (Command b) =
    plain_if (b == AYT) AreYouThere _ tt
    (plain_if (b == EC) EraseCharacter _ tt (plain_if (b == EL) EraseLine Nothing tt tt))
stroke_plain after_cr (Request verb option) =
    plain_if (verb == DO) (Refuse WONT option) _ tt (plain_if (verb == WILL) (Refuse DONT option) Nothing tt tt)
stroke_plain after_cr Subnegotiation = tt

-- the current text would be a sound line
record IsFit (text : List ℕ) : Type 0 where
  printable : All IsPrintable text
  short : length text ≤ MOST

no_text_fits : IsFit []
no_text_fits = record { printable = All-nil IsPrintable; short = omega arith }

text_with_fits : (too_long : Bool) (text : List ℕ) (c : ℕ) → IsPrintable c → IsFit text
    → IsFit (text_with too_long text c)
text_with_fits true text c p k = k
text_with_fits false text c p k =
    elim (nat_lt (length text) MOST) as
    (λ v. nat_lt (length text) MOST ≡ v → IsFit (if v then text ++ c ∷ [] else text)) [
      | true ↦ λ e.
          record {
            printable =
                All-push IsPrintable text c k.printable p;
            short = grind (arith, nat_tests, length-append {A = ℕ});
          }
      | false ↦ λ e. k
    ] refl

next_text_fits : (too_long : Bool) (text : List ℕ) (s : Stroke) → IsPlain s → IsFit text
    → IsFit (next_text too_long text s)
next_text_fits too_long text (Character c) p k = text_with_fits too_long text c p k
next_text_fits too_long text EraseCharacter p k =
    let l : length text ≤ MOST = k.short in
    record {
      printable =
          All-take IsPrintable (length text - 1) text k.printable;
      short = grind (arith, length-take {A = ℕ});
    }
next_text_fits too_long text EraseLine p k = no_text_fits
next_text_fits too_long text EndLine p k = no_text_fits
next_text_fits too_long text AreYouThere p k = k
next_text_fits too_long text (Refuse verb option) p k = k
next_text_fits too_long text Nothing p k = k

one_sound : (u : Given) → IsSound u → All IsSound (u ∷ [])
one_sound u s = All-cons IsSound u [] s (All-nil IsSound)

stroke_units_sound : (too_long : Bool) (text : List ℕ) (s : Stroke) → IsFit text
    → All IsSound (stroke_units too_long text s)
stroke_units_sound too_long text (Character c) k = All-nil IsSound
stroke_units_sound too_long text EraseCharacter k = All-nil IsSound
stroke_units_sound too_long text EraseLine k = All-nil IsSound
stroke_units_sound true text EndLine k = one_sound TooLong tt
stroke_units_sound false text EndLine k = one_sound (Text text) (k.printable, k.short)
stroke_units_sound too_long text AreYouThere k = one_sound Ayt tt
stroke_units_sound too_long text (Refuse verb option) k = one_sound _ tt
stroke_units_sound too_long text Nothing k = All-nil IsSound

piece_units_sound : (h : Held) (o : Option Piece) → IsFit h.text → All IsSound (piece_units h o)
piece_units_sound h None k = All-nil IsSound
piece_units_sound h (Some p) k = stroke_units_sound h.too_long h.text (stroke h.after_cr p) k

after_piece_fits : (h : Held) (o : Option Piece) → IsFit h.text → IsFit (after_piece h o).text
after_piece_fits h None k = k
after_piece_fits h (Some p) k = next_text_fits h.too_long h.text (stroke h.after_cr p) (stroke_plain h.after_cr p) k

run_units_sound : (bytes : List ℕ) (h : Held) → IsFit h.text → All IsSound (run_units h bytes)
run_units_sound [] h k = All-nil IsSound
run_units_sound (b ∷ bytes) h k =
    All-append IsSound (byte_units h b) (run_units (next h b) bytes) (piece_units_sound h (finished_piece h.place b) k)
    (run_units_sound bytes (next h b) (after_piece_fits h (finished_piece h.place b) k))

pub units_sound : (bytes : List ℕ) → All IsSound (units bytes)
units_sound bytes = rw units_is (run_units_sound bytes start no_text_fits)
