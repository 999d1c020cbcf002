-- Consuming a run of printable characters equals consuming them byte by byte.
use Rattle.std.proofs.Common.{ℕ, ◌≡◌, refl, ap, sym, ◌∙◌, ◌+◌, ◌<◌, ◌≤◌, arith, Bool, true, false, List, [], ◌∷◌}
use Rattle.std.proofs.Common.{◌++◌, length, All}
use Rattle.std.proofs.Common.{◌==◌, nat_le, nat_lt, append_assoc, append-nil}
use Rattle.std.proofs.Common.{◌≢◌, ◌-◌, ◌&&◌, get_or, take, drop, length-append, length-take, length-take-le, IsUtf8}
use Rattle.std.proofs.Math.Seq.{take-add}
use Rattle.std.proofs.lemmas.List.{take-take}
use Rattle.std.proofs.lemmas.List.Elements.{All-head, All-tail, All-append, All-more, All-weaker}
use Rattle.std.proofs.lemmas.Bool.Decides.{nat_tests}
use Rattle.std.proofs.lemmas.Str.{IsUtf8-from_ascii}
use Rattle.std.proofs.lemmas.Str.Ascii.{IsAscii-from_all}
use Rattle.mud_nvt.specs.declared.codes.TheConstants.{IAC, NUL, BS, HT, LF, CR, DEL, SPACE, TILDE}
use Rattle.mud_nvt.specs.declared.TheConstants.{MOST}
use Rattle.mud_nvt.specs.declared.telnet.Piece.TheVariants.{Data}
use Rattle.mud_nvt.specs.declared.telnet.Position.TheVariants.{Between}
use Rattle.mud_nvt.specs.declared.strokes.Stroke.TheVariants.{Character}
use Rattle.mud_nvt.specs.inner.Lines.{IsPrintable}
use Rattle.mud_nvt.specs.Strokes.{stroke}
use Rattle.mud_nvt.specs.Held.{Held}
use Rattle.mud_nvt.specs.inner.Machine.{next, byte_units, run, run_units}
use Rattle.mud_nvt.specs.inner.Lines.{IsTyped, with_text}

-- a terminal between two pieces, whose line is not too long
abbrev pub typing : Bool → List ℕ → Held
typing after_cr text = record { place = Between; after_cr = after_cr; text = text; too_long = false }

is_no_iac : (b : ℕ) → IsPrintable b → (b == IAC) ≡ false
is_no_iac b p = let l : SPACE ≤ b = p.0 in let m : b ≤ TILDE = p.1 in grind (arith, nat_tests)

is_no_cr : (b : ℕ) → IsPrintable b → (b == CR) ≡ false
is_no_cr b p = let l : SPACE ≤ b = p.0 in let m : b ≤ TILDE = p.1 in grind (arith, nat_tests)

is_character : (after_cr : Bool) (b : ℕ) → IsPrintable b → stroke after_cr (Data b) ≡ Character b
is_character after_cr b p =
    let l : SPACE ≤ b = p.0 in
    let m : b ≤ TILDE = p.1 in
    let nul : (b == NUL) ≡ false = grind (arith, nat_tests) in
    let bs : (b == BS) ≡ false = grind (arith, nat_tests) in
    let ht : (b == HT) ≡ false = grind (arith, nat_tests) in
    let lf : (b == LF) ≡ false = grind (arith, nat_tests) in
    let del : (b == DEL) ≡ false = grind (arith, nat_tests) in
    let from : nat_le SPACE b ≡ true = grind (arith, nat_tests) in
    let to : nat_le b TILDE ≡ true = grind (arith, nat_tests) in
    elim after_cr as (λ v. stroke v (Data b) ≡ Character b) [
      | true ↦ rw (lf, nul, is_no_cr b p, ht, bs, del, from, to) refl
      | false ↦ rw (lf, is_no_cr b p, ht, bs, del, from, to) refl
    ]

one_typed : (after_cr : Bool) (text : List ℕ) (b : ℕ) → IsPrintable b → length text < MOST
    → next (typing after_cr text) b ≡ typing false (text ++ b ∷ [])
one_typed after_cr text b p l =
    let room : nat_lt (length text) MOST ≡ true = grind (arith, nat_tests) in
    rw (is_no_iac b p, is_character after_cr b p, is_no_cr b p, room) refl

one_gives_none : (after_cr : Bool) (text : List ℕ) (b : ℕ) → IsPrintable b → byte_units (typing after_cr text) b ≡ []
one_gives_none after_cr text b p = rw (is_no_iac b p, is_character after_cr b p) refl

run_typing : (bs text : List ℕ) → All IsPrintable bs → length text + length bs ≤ MOST
    → run (typing false text) bs ≡ typing false (text ++ bs)
run_typing [] text p l = ap (typing false) (sym (append-nil text))
run_typing (b ∷ bs) text p l =
    ap (λ h. run h bs) (one_typed false text b (All-head IsPrintable b bs p) (omega arith))
    ∙ (run_typing bs (text ++ b ∷ []) (All-tail IsPrintable b bs p) (omega (arith, length-append {A = ℕ}))
    ∙ ap (typing false) (append_assoc text (b ∷ []) bs))

run_any : (after_cr : Bool) (text bs : List ℕ) → 0 < length bs → All IsPrintable bs → length text + length bs ≤ MOST
    → run (typing after_cr text) bs ≡ typing false (text ++ bs)
run_any after_cr text [] s p l = absurd (omega arith)
run_any after_cr text (b ∷ bs) s p l =
    ap (λ h. run h bs) (one_typed after_cr text b (All-head IsPrintable b bs p) (omega arith))
    ∙ (run_typing bs (text ++ b ∷ []) (All-tail IsPrintable b bs p) (omega (arith, length-append {A = ℕ}))
    ∙ ap (typing false) (append_assoc text (b ∷ []) bs))

gives_none : (after_cr : Bool) (text bs : List ℕ) → All IsPrintable bs → length text + length bs ≤ MOST
    → run_units (typing after_cr text) bs ≡ []
gives_none after_cr text [] p l = refl
gives_none after_cr text (b ∷ bs) p l =
    rw (
      one_gives_none after_cr text b (All-head IsPrintable b bs p),
      one_typed after_cr text b (All-head IsPrintable b bs p) (omega arith),
    ) (gives_none false (text ++ b ∷ []) bs (All-tail IsPrintable b bs p) (omega (arith, length-append {A = ℕ})))

held_is : (h : Held) → h.place ≡ Between → h.too_long ≡ false → h ≡ typing h.after_cr h.text
held_is h p t =
    ap (λ q. record { place = q; after_cr = h.after_cr; text = h.text; too_long = h.too_long }) p
    ∙ ap (λ v. record { place = Between; after_cr = h.after_cr; text = h.text; too_long = v }) t

-- the state after a run of printable characters
pub typed_state : (h : Held) (bytes text : List ℕ) → IsTyped h bytes text
    → with_text h text ≡ run h (take (length text) bytes)
typed_state h bytes text k =
    rw (← k.front)
    (rw (k.between, k.fits) refl
    ∙ (sym (run_any h.after_cr h.text text k.some k.printable k.short)
    ∙ ap (λ g. run g text) (sym (held_is h k.between k.fits))))

-- a run of printable characters completes no unit
pub typed_given : (h : Held) (bytes text : List ℕ) → IsTyped h bytes text
    → run_units h (take (length text) bytes) ≡ []
typed_given h bytes text k =
    rw (← k.front)
    (ap (λ g. run_units g text) (held_is h k.between k.fits)
    ∙ gives_none h.after_cr h.text text k.printable k.short)

-- the printable characters among as many bytes as the line has room for are such a run
pub is_typed : (h : Held) (bytes text : List ℕ) (m len : ℕ) → h.place ≡ Between → h.too_long ≡ false
    → length h.text ≤ MOST → m ≤ MOST - length h.text → len ≤ length (take m bytes) → len ≢ 0
    → All IsPrintable (take len (take m bytes)) → text ≡ take len bytes → IsTyped h bytes text
is_typed h bytes text m len p t o room w some all e =
    let taken : length (take m bytes) ≤ length bytes = omega (arith, length-take {A = ℕ}) in
    let short : length (take m bytes) ≤ m = omega (arith, length-take {A = ℕ}) in
    let n : length text ≡ len = ap length e ∙ length-take-le len bytes (omega arith) in
    record {
      front = rw n e;
      some = omega arith;
      within = omega arith;
      printable = rw e (rw (take-take len m bytes (omega arith)) at all);
      between = p;
      fits = t;
      short = omega arith;
    }

-- printable characters, and more of them after these
pub more_printable : (bytes : List ℕ) (n m : ℕ) → All IsPrintable (take n bytes)
    → All IsPrintable (take m (drop n bytes)) → All IsPrintable (take (n + m) bytes)
more_printable bytes n m some more =
    rw (take-add n m bytes) (All-append IsPrintable (take n bytes) (take m (drop n bytes)) some more)

-- printable characters are ASCII
pub printable_utf8 : (bytes : List ℕ) → All IsPrintable bytes → IsUtf8 bytes
printable_utf8 bytes all =
    IsUtf8-from_ascii bytes (IsAscii-from_all bytes
    (All-weaker IsPrintable (λ b. b < 128) (λ b p. let m : b ≤ TILDE = p.1 in omega arith) bytes all))

-- one more byte, if it and those before it are printable
pub one_more : (bytes : List ℕ) (i : ℕ) (before now : Bool) → i < length bytes
    → (before ≡ true → All IsPrintable (take i bytes))
    → (now ≡ true → IsPrintable (get_or bytes i 0)) → before && now ≡ true → All IsPrintable (take (i + 1) bytes)
one_more bytes i true true lt all here both = All-more IsPrintable bytes i 0 lt (all refl) (here refl)
one_more bytes i true false lt all here both = cc
one_more bytes i false now lt all here both = cc
