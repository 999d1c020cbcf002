-- UTF-8 never contains the byte 255, and a terminal reads bytes without it as lines.
use Rattle.std.proofs.Common.{◌≡◌, ℕ, zero, suc, ◌<◌, Bool, true, false, if◌then◌else◌, ◌==◌, ◌&&◌, ◌||◌, nat_le}
use Rattle.std.proofs.Common.{nat_lt, List, [], ◌∷◌, length, drop, All, Option, None, Some, Result, Ok, Err, refl}
use Rattle.std.proofs.Common.{arith}
use Rattle.std.specs.Prelude.{cond, IfSome, IsUtf8}
use Rattle.std.proofs.lemmas.List.Elements.{All-nil, All-cons, All-head, All-tail, All-append, All-push}
use Rattle.std.proofs.lemmas.Bool.Decides.{nat_tests}
use lib.Utf8.{scalar, scalars, encode, encodes}
use Rattle.websocket.specs.declared.error.Error.{Error}
use Rattle.websocket.specs.declared.protocol.frame.codec.FrameStatus.{FrameStatus}
use Rattle.websocket.specs.declared.protocol.frame.codec.FrameStatus.TheVariants.{Partial, Complete}
use Rattle.websocket.specs.Content.{Content, text, binary, ping, pong, close, HasValidText}
use Rattle.websocket.specs.Connection.{Connection, Effect, read_step}
use Rattle.websocket.specs.Stream.{after_read, read_times}
use Rattle.websocket.proofs.EffectLemmas.{IsSoundEffect_from_read}
use Rattle.mud_nvt.specs.declared.codes.TheConstants.{IAC, NUL, BS, HT, LF, CR, DEL, SPACE, TILDE}
use Rattle.mud_nvt.specs.declared.telnet.Piece.TheVariants.{Data}
use Rattle.mud_nvt.specs.declared.telnet.Position.{Position}
use Rattle.mud_nvt.specs.declared.telnet.Position.TheVariants.{Between}
use Rattle.mud_nvt.specs.declared.strokes.Stroke.{Stroke}
use Rattle.mud_nvt.specs.declared.strokes.Stroke.TheVariants.{Character, EraseCharacter, EraseLine, EndLine}
use Rattle.mud_nvt.specs.declared.strokes.Stroke.TheVariants.{AreYouThere, Refuse, Nothing}
use Rattle.mud_nvt.specs.Strokes.{stroke}
use Rattle.mud_nvt.specs.Units.{Given, Text, TooLong, units}
use Rattle.mud_nvt.specs.Held.{Held}
use Rattle.mud_nvt.specs.inner.Machine.{start, next, next_place, finished_piece, stroke_units, byte_units, run_units}
use Rattle.mud_nvt.proofs.Whole.{units_is}
use Rattle.mud_web.specs.Channel.{new_connection, typed_by, text_typed, typed_of}
use Rattle.mud_web.specs.Laws.{IsLine}

abbrev IsLow : ℕ → Type 0
IsLow b = b < IAC

-- ---- UTF-8

low_cond : (t : Bool) (xs ys : List ℕ) → (t ≡ true → All IsLow xs) → (t ≡ false → All IsLow ys)
    → All IsLow (cond t xs ys)
low_cond true xs ys f g = f refl
low_cond false xs ys f g = g refl

below : (c n : ℕ) → nat_lt c n ≡ true → c < n
below c n h = grind (arith, nat_tests)

one_low : (a : ℕ) → a < IAC → All IsLow (a ∷ [])
one_low a h = All-cons IsLow a [] h (All-nil IsLow)

two_low : (a b : ℕ) → a < IAC → b < IAC → All IsLow (a ∷ b ∷ [])
two_low a b h k = All-cons IsLow a (b ∷ []) h (one_low b k)

three_low : (a b c : ℕ) → a < IAC → b < IAC → c < IAC → All IsLow (a ∷ b ∷ c ∷ [])
three_low a b c h k l = All-cons IsLow a (b ∷ c ∷ []) h (two_low b c k l)

four_low : (a b c d : ℕ) → a < IAC → b < IAC → c < IAC → d < IAC → All IsLow (a ∷ b ∷ c ∷ d ∷ [])
four_low a b c d h k l m = All-cons IsLow a (b ∷ c ∷ d ∷ []) h (three_low b c d k l m)

scalar_below : (c : ℕ) → scalar c ≡ true → c < 1114112
scalar_below c is = grind (arith, nat_tests)

encode_low : (c : ℕ) → scalar c ≡ true → All IsLow (encode c)
unfolding encode
encode_low c is =
    low_cond (nat_lt c 128) _ _ (λ h. let small = below c 128 h in one_low _ (omega (arith, small)))
    (λ h. low_cond (nat_lt c 2048) _ _
    (λ h. let small = below c 2048 h in two_low _ _ (omega (arith, small)) (omega arith))
    (λ h. low_cond (nat_lt c 65536) _ _
    (λ h. let small = below c 65536 h in three_low _ _ _ (omega (arith, small)) (omega arith) (omega arith))
    (λ h. let small = scalar_below c is in
    four_low _ _ _ _ (omega (arith, small)) (omega arith) (omega arith) (omega arith))))

both : (a b : Bool) → (a && b) ≡ true → (a ≡ true) × (b ≡ true)
both true b h = (refl, h)
both false b h = absurd (cc h)

encodes_low : (cs : List ℕ) → scalars cs ≡ true → All IsLow (encodes cs)
encodes_low [] is = All-nil IsLow
encodes_low (c ∷ cs) is =
    let each = both (scalar c) (scalars cs) is in
    All-append IsLow (encode c) (encodes cs) (encode_low c each.0) (encodes_low cs each.1)

utf8_low : (bs : List ℕ) → IsUtf8 bs → All IsLow bs
utf8_low bs (cs, (valid, is)) = rw is at (encodes_low cs valid)

-- ---- the typed bytes

message_low : (m : Option Content) → IfSome m HasValidText → All IsLow (typed_by m)
message_low None valid = All-nil IsLow
message_low (Some (text bs)) valid = All-push IsLow bs LF (utf8_low bs valid) (omega arith)
message_low (Some (binary bs)) valid = All-nil IsLow
message_low (Some (ping bs)) valid = All-nil IsLow
message_low (Some (pong bs)) valid = All-nil IsLow
message_low (Some (close frame)) valid = All-nil IsLow

reads_low_by : (n : ℕ) (conn : Connection) (bs : List ℕ) (r : Result (FrameStatus (ℕ × Effect)) Error)
    → read_step conn bs ≡ r
    → ((next : Connection) (rest : List ℕ) → All IsLow (text_typed (read_times n next rest).effects))
    → All IsLow (text_typed (after_read (read_times n) conn bs r).effects)
reads_low_by n conn bs (Err e) read later = All-nil IsLow
reads_low_by n conn bs (Ok (Partial needed)) read later = All-nil IsLow
reads_low_by n conn bs (Ok (Complete p)) read later =
    All-append IsLow (typed_by p.1.message) (text_typed (read_times n p.1.next (drop p.0 bs)).effects)
    (message_low p.1.message (IsSoundEffect_from_read conn bs p read).valid_text) (later p.1.next (drop p.0 bs))

reads_low : (n : ℕ) (conn : Connection) (bs : List ℕ) → All IsLow (text_typed (read_times n conn bs).effects)
unfolding read_times
reads_low zero conn bs = All-nil IsLow
reads_low (suc n) conn bs = reads_low_by n conn bs _ refl (reads_low n)

pub typed_low : (bytes : List ℕ) → All (λ b. b < IAC) (typed_of bytes)
typed_low bytes = reads_low (suc (length bytes)) new_connection bytes

-- ---- how a terminal reads them

abbrev IsTyping : Stroke → Type 0
IsTyping AreYouThere = ⊥
IsTyping (Refuse verb option) = ⊥
IsTyping (Character c) = Unit {0}
IsTyping EraseCharacter = Unit {0}
IsTyping EraseLine = Unit {0}
IsTyping EndLine = Unit {0}
IsTyping Nothing = Unit {0}

typing_if : (t : Bool) (r s : Stroke) → IsTyping r → IsTyping s → IsTyping (if t then r else s)
typing_if true r s p q = p
typing_if false r s p q = q

data_typing : (after_cr : Bool) (b : ℕ) → IsTyping (stroke after_cr (Data b))
data_typing after_cr b =
    typing_if (after_cr && ((b == LF) || (b == NUL))) _ _ tt
    (typing_if ((b == LF) || (b == CR)) _ _ tt
    (typing_if (b == HT) _ _ tt
    (typing_if ((b == BS) || (b == DEL)) _ _ tt
    (typing_if (nat_le SPACE b && nat_le b TILDE) _ _ tt tt))))

line_if : (t : Bool) (a b : Given) → IsLine a → IsLine b → IsLine (if t then a else b)
line_if true a b p q = p
line_if false a b p q = q

stroke_lines : (too_long : Bool) (line : List ℕ) (s : Stroke) → IsTyping s → All IsLine (stroke_units too_long line s)
stroke_lines too_long line EndLine typing =
    All-cons IsLine _ [] (line_if too_long TooLong (Text line) tt tt) (All-nil IsLine)
stroke_lines too_long line (Character c) typing = All-nil IsLine
stroke_lines too_long line EraseCharacter typing = All-nil IsLine
stroke_lines too_long line EraseLine typing = All-nil IsLine
stroke_lines too_long line Nothing typing = All-nil IsLine
stroke_lines too_long line AreYouThere typing = absurd typing
stroke_lines too_long line (Refuse verb option) typing = absurd typing

is_no_iac : (b : ℕ) → b < IAC → (b == IAC) ≡ false
is_no_iac b low = grind (arith, nat_tests)

stays_between : (place : Position) (b : ℕ) → place ≡ Between → b < IAC → next_place place b ≡ Between
stays_between place b between low = rw (between, is_no_iac b low) refl

is_data : (place : Position) (b : ℕ) → place ≡ Between → b < IAC → finished_piece place b ≡ Some (Data b)
is_data place b between low = rw (between, is_no_iac b low) refl

byte_lines : (h : Held) (b : ℕ) → h.place ≡ Between → b < IAC → All IsLine (byte_units h b)
byte_lines h b between low =
    rw (is_data h.place b between low)
    (stroke_lines h.too_long h.text (stroke h.after_cr (Data b)) (data_typing h.after_cr b))

run_lines : (bytes : List ℕ) (h : Held) → h.place ≡ Between → All IsLow bytes → All IsLine (run_units h bytes)
run_lines [] h between low = All-nil IsLine
run_lines (b ∷ bytes) h between low =
    let one = All-head IsLow b bytes low in
    All-append IsLine (byte_units h b) (run_units (next h b) bytes) (byte_lines h b between one)
    (run_lines bytes (next h b) (stays_between h.place b between one) (All-tail IsLow b bytes low))

pub typed_lines : (bytes : List ℕ) → All IsLine (units (typed_of bytes))
typed_lines bytes = rw units_is (run_lines (typed_of bytes) start refl (typed_low bytes))
