-- The state machine for a first line agrees with the grammar.
use Rattle.std.proofs.Common.{◌≡◌, ℕ, ◌<◌, Bool, true, false, if◌then◌else◌, ◌==◌, List, [], ◌∷◌, ◌++◌, length}
use Rattle.std.proofs.Common.{All, refl, sym, ◌∙◌, ap, arith, codes}
use Rattle.std.specs.Prelude.{IsTrue, ◌↔◌}
use Rattle.std.specs.List.{fold}
use Rattle.std.specs.Char.{is_ascii_alphabetic, is_ascii_digit, is_ascii_graphic}
use Rattle.std.proofs.lemmas.List.Elements.{All-nil, All-cons, All-head, All-tail}
use Rattle.std.proofs.lemmas.Bool.Decides.{nat_tests}
use Rattle.httparse.specs.Grammar.{AllPass}
use Rattle.mud_web.specs.declared.first_line.FirstLine.{FirstLine}
use Rattle.mud_web.specs.declared.first_line.Verdict.{Verdict}
use Rattle.mud_web.specs.declared.first_line.Place.{Place}
use Rattle.mud_web.specs.declared.first_line.Place.TheVariants.{Blank, Word, BehindWord, Target, BehindTarget}
use Rattle.mud_web.specs.declared.first_line.Place.TheVariants.{H, Ht, Htt, Http, Slash, Request, Other}
use Rattle.mud_web.specs.declared.first_line.TheConstants.{SPACE}
use Rattle.mud_web.specs.FirstLine.{IsRequestLine, BeginsRequest, Decides, StandsAfter, is_line_end}
use Rattle.mud_web.specs.Laws.{UndecidedEndsNoLine}
use Rattle.mud_web.specs.inner.Places.{begins_blank, next, next_blank, is_request, verdict_at}

-- ---- runs

pub run-append : (place : Place) (some more : List ℕ)
    → fold next place (some ++ more) ≡ fold next (fold next place some) more
run-append place [] more = refl
run-append place (b ∷ some) more = run-append (next place b) some more

other_stays : (bs : List ℕ) → fold next Other bs ≡ Other
other_stays [] = refl
other_stays (b ∷ bs) = other_stays bs

request_stays : (bs : List ℕ) → fold next Request bs ≡ Request
request_stays [] = refl
request_stays (b ∷ bs) = request_stays bs

not_other : (bs : List ℕ) → ¬ (fold next Other bs ≡ Request)
not_other bs is = cc (sym (other_stays bs) ∙ is)

-- ---- the rest of the form at each position after the target

-- the bytes begin with these, which lead to this position
record Begins (front bs : List ℕ) : Type 0 where
  digit : ℕ
  rest : List ℕ
  is_digit : IsTrue (is_ascii_digit digit)
  is : bs ≡ front ++ digit ∷ rest

by_digit : (b : ℕ) (bs : List ℕ) (t : Bool) → is_ascii_digit b ≡ t
    → fold next (if t then Request else Other) bs ≡ Request → Begins [] (b ∷ bs)
by_digit b bs true digit is = record { digit = b; rest = bs; is_digit = digit; is = refl }
by_digit b bs false digit is = absurd (not_other bs is)

in_slash : (bs : List ℕ) → fold next Slash bs ≡ Request → Begins [] bs
in_slash [] is = absurd (cc is)
in_slash (b ∷ bs) is = by_digit b bs _ refl is

equal_is : (b wanted : ℕ) → (b == wanted) ≡ true → b ≡ wanted
equal_is b wanted is = grind (arith, nat_tests)

begins_more : (b : ℕ) (front bs : List ℕ) → Begins front bs → Begins (b ∷ front) (b ∷ bs)
begins_more b front bs begins = record {
  digit = begins.digit;
  rest = begins.rest;
  is_digit = begins.is_digit;
  is = ap (λ (xs : List ℕ). b ∷ xs) begins.is;
}

by_letter : (b wanted : ℕ) (place : Place) (front bs : List ℕ) (t : Bool) → (b == wanted) ≡ t
    → fold next (if t then place else Other) bs ≡ Request
    → (fold next place bs ≡ Request → Begins front bs) → Begins (wanted ∷ front) (b ∷ bs)
by_letter b wanted place front bs true equal is later =
    rw (equal_is b wanted equal) (begins_more wanted front bs (later is))
by_letter b wanted place front bs false equal is later = absurd (not_other bs is)

in_http : (bs : List ℕ) → fold next Http bs ≡ Request → Begins (codes "/") bs
in_http [] is = absurd (cc is)
in_http (b ∷ bs) is = by_letter b 47 Slash [] bs _ refl is (in_slash bs)

in_htt : (bs : List ℕ) → fold next Htt bs ≡ Request → Begins (codes "P/") bs
in_htt [] is = absurd (cc is)
in_htt (b ∷ bs) is = by_letter b 80 Http (codes "/") bs _ refl is (in_http bs)

in_ht : (bs : List ℕ) → fold next Ht bs ≡ Request → Begins (codes "TP/") bs
in_ht [] is = absurd (cc is)
in_ht (b ∷ bs) is = by_letter b 84 Htt (codes "P/") bs _ refl is (in_htt bs)

in_h : (bs : List ℕ) → fold next H bs ≡ Request → Begins (codes "TTP/") bs
in_h [] is = absurd (cc is)
in_h (b ∷ bs) is = by_letter b 84 Ht (codes "TP/") bs _ refl is (in_ht bs)

behind_target : (bs : List ℕ) → fold next BehindTarget bs ≡ Request → Begins (codes "HTTP/") bs
behind_target [] is = absurd (cc is)
behind_target (b ∷ bs) is = by_letter b 72 H (codes "TTP/") bs _ refl is (in_h bs)

-- ---- the target

record InTarget (bs : List ℕ) : Type 0 where
  target : List ℕ
  tail : List ℕ
  visible : AllPass is_ascii_graphic target
  begins : Begins (codes "HTTP/") tail
  is : bs ≡ target ++ SPACE ∷ tail

by_space : (b : ℕ) (bs : List ℕ) (t : Bool) → (b == SPACE) ≡ t
    → fold next (if t then BehindTarget else Other) bs ≡ Request → InTarget (b ∷ bs)
by_space b bs true equal is = record {
  target = [];
  tail = bs;
  visible = All-nil (λ b. IsTrue (is_ascii_graphic b));
  begins = behind_target bs is;
  is = ap (λ (x : ℕ). x ∷ bs) (equal_is b SPACE equal);
}
by_space b bs false equal is = absurd (not_other bs is)

abbrev target_more : (b : ℕ) (bs : List ℕ) → IsTrue (is_ascii_graphic b) → InTarget bs → InTarget (b ∷ bs)
target_more b bs graphic later = record {
  target = b ∷ later.target;
  tail = later.tail;
  visible = All-cons (λ b. IsTrue (is_ascii_graphic b)) b later.target graphic later.visible;
  begins = later.begins;
  is = ap (λ (xs : List ℕ). b ∷ xs) later.is;
}

by_graphic : (b : ℕ) (bs : List ℕ) (t : Bool) → is_ascii_graphic b ≡ t
    → fold next (if t then Target else if b == SPACE then BehindTarget else Other) bs ≡ Request
    → (fold next Target bs ≡ Request → InTarget bs) → InTarget (b ∷ bs)
by_graphic b bs true graphic is later = target_more b bs graphic (later is)
by_graphic b bs false graphic is later = by_space b bs _ refl is

in_target : (bs : List ℕ) → fold next Target bs ≡ Request → InTarget bs
in_target [] is = absurd (cc is)
in_target (b ∷ bs) is = by_graphic b bs _ refl is (in_target bs)

record HasTarget (bs : List ℕ) : Type 0 where
  inner : InTarget bs
  some : 0 < length inner.target

by_first : (b : ℕ) (bs : List ℕ) (t : Bool) → is_ascii_graphic b ≡ t
    → fold next (if t then Target else Other) bs ≡ Request → HasTarget (b ∷ bs)
by_first b bs true graphic is =
    record { inner = target_more b bs graphic (in_target bs is); some = omega arith }
by_first b bs false graphic is = absurd (not_other bs is)

behind_word : (bs : List ℕ) → fold next BehindWord bs ≡ Request → HasTarget bs
behind_word [] is = absurd (cc is)
behind_word (b ∷ bs) is = by_first b bs _ refl is

-- ---- the word

record InWord (bs : List ℕ) : Type 0 where
  word : List ℕ
  tail : List ℕ
  letters : AllPass is_ascii_alphabetic word
  target : HasTarget tail
  is : bs ≡ word ++ SPACE ∷ tail

by_word_space : (b : ℕ) (bs : List ℕ) (t : Bool) → (b == SPACE) ≡ t
    → fold next (if t then BehindWord else Other) bs ≡ Request → InWord (b ∷ bs)
by_word_space b bs true equal is = record {
  word = [];
  tail = bs;
  letters = All-nil (λ b. IsTrue (is_ascii_alphabetic b));
  target = behind_word bs is;
  is = ap (λ (x : ℕ). x ∷ bs) (equal_is b SPACE equal);
}
by_word_space b bs false equal is = absurd (not_other bs is)

abbrev word_more : (b : ℕ) (bs : List ℕ) → IsTrue (is_ascii_alphabetic b) → InWord bs → InWord (b ∷ bs)
word_more b bs letter later = record {
  word = b ∷ later.word;
  tail = later.tail;
  letters = All-cons (λ b. IsTrue (is_ascii_alphabetic b)) b later.word letter later.letters;
  target = later.target;
  is = ap (λ (xs : List ℕ). b ∷ xs) later.is;
}

by_letters : (b : ℕ) (bs : List ℕ) (t : Bool) → is_ascii_alphabetic b ≡ t
    → fold next (if t then Word else if b == SPACE then BehindWord else Other) bs ≡ Request
    → (fold next Word bs ≡ Request → InWord bs) → InWord (b ∷ bs)
by_letters b bs true letter is later = word_more b bs letter (later is)
by_letters b bs false letter is later = by_word_space b bs _ refl is

in_word : (bs : List ℕ) → fold next Word bs ≡ Request → InWord bs
in_word [] is = absurd (cc is)
in_word (b ∷ bs) is = by_letters b bs _ refl is (in_word bs)

-- the parts of a line in one record
line_of : (bs : List ℕ) (inner : InWord bs) → 0 < length inner.word → IsRequestLine bs
line_of bs inner some =
    let target = inner.target.inner in
    record {
      word = inner.word;
      target = target.target;
      digit = target.begins.digit;
      rest = target.begins.rest;
      letters = (some, inner.letters);
      visible = (inner.target.some, target.visible);
      is_digit = target.begins.is_digit;
      is = inner.is ∙ ap (λ (xs : List ℕ). inner.word ++ SPACE ∷ xs)
          (target.is ∙ ap (λ (xs : List ℕ). target.target ++ SPACE ∷ xs) target.begins.is);
    }

-- ---- leading line ends

ends_before : (b : ℕ) (bs : List ℕ) → IsTrue (is_line_end b) → BeginsRequest bs → BeginsRequest (b ∷ bs)
ends_before b bs end (blank, line, ends, form, is) = (
  b ∷ blank,
  line,
  All-cons (λ b. IsTrue (is_line_end b)) b blank end ends,
  form,
  ap (λ (xs : List ℕ). b ∷ xs) is,
)

by_end : (b : ℕ) (bs : List ℕ) (t : Bool) → is_line_end b ≡ t → fold next (if t then Blank else Other) bs ≡ Request
    → (fold next Blank bs ≡ Request → BeginsRequest bs) → BeginsRequest (b ∷ bs)
by_end b bs true end is later = ends_before b bs end (later is)
by_end b bs false end is later = absurd (not_other bs is)

by_start : (b : ℕ) (bs : List ℕ) (t : Bool) → is_ascii_alphabetic b ≡ t
    → fold next (if t then Word else next_blank b) bs ≡ Request
    → (fold next Blank bs ≡ Request → BeginsRequest bs) → BeginsRequest (b ∷ bs)
by_start b bs true letter is later = (
  [],
  b ∷ bs,
  All-nil (λ b. IsTrue (is_line_end b)),
  line_of (b ∷ bs) (word_more b bs letter (in_word bs is)) (omega arith),
  refl,
)
by_start b bs false letter is later = by_end b bs _ refl is later

pub begins_from_run : (bs : List ℕ) → fold next Blank bs ≡ Request → BeginsRequest bs
begins_from_run [] is = absurd (cc is)
begins_from_run (b ∷ bs) is = by_start b bs _ refl is (begins_from_run bs)

-- ---- the converse

slash_next : (b : ℕ) → is_ascii_digit b ≡ true → next Slash b ≡ Request
slash_next b h = rw h refl

target_next : (b : ℕ) → is_ascii_graphic b ≡ true → next Target b ≡ Target
target_next b h = rw h refl

first_next : (b : ℕ) → is_ascii_graphic b ≡ true → next BehindWord b ≡ Target
first_next b h = rw h refl

word_next : (b : ℕ) → is_ascii_alphabetic b ≡ true → next Word b ≡ Word
word_next b h = rw h refl

start_next : (b : ℕ) → is_ascii_alphabetic b ≡ true → next Blank b ≡ Word
start_next b h = rw h refl

run_digit : (digit : ℕ) (rest : List ℕ) → IsTrue (is_ascii_digit digit) → fold next Slash (digit ∷ rest) ≡ Request
run_digit digit rest h = ap (λ (p : Place). fold next p rest) (slash_next digit h) ∙ request_stays rest

run_target : (target tail : List ℕ) → AllPass is_ascii_graphic target
    → fold next Target (target ++ SPACE ∷ tail) ≡ fold next BehindTarget tail
run_target [] tail visible = refl
run_target (b ∷ target) tail visible =
    let here = target_next b (All-head (λ b. IsTrue (is_ascii_graphic b)) b target visible) in
    ap (λ (p : Place). fold next p (target ++ SPACE ∷ tail)) here
    ∙ (run_target target tail (All-tail (λ b. IsTrue (is_ascii_graphic b)) b target visible))

run_first : (target tail : List ℕ) → 0 < length target → AllPass is_ascii_graphic target
    → fold next BehindWord (target ++ SPACE ∷ tail) ≡ fold next BehindTarget tail
run_first [] tail some visible = absurd (omega arith)
run_first (b ∷ target) tail some visible =
    let here = first_next b (All-head (λ b. IsTrue (is_ascii_graphic b)) b target visible) in
    ap (λ (p : Place). fold next p (target ++ SPACE ∷ tail)) here
    ∙ (run_target target tail (All-tail (λ b. IsTrue (is_ascii_graphic b)) b target visible))

run_word : (word tail : List ℕ) → AllPass is_ascii_alphabetic word
    → fold next Word (word ++ SPACE ∷ tail) ≡ fold next BehindWord tail
run_word [] tail letters = refl
run_word (b ∷ word) tail letters =
    let here = word_next b (All-head (λ b. IsTrue (is_ascii_alphabetic b)) b word letters) in
    ap (λ (p : Place). fold next p (word ++ SPACE ∷ tail)) here
    ∙ (run_word word tail (All-tail (λ b. IsTrue (is_ascii_alphabetic b)) b word letters))

run_start : (word tail : List ℕ) → 0 < length word → AllPass is_ascii_alphabetic word
    → fold next Blank (word ++ SPACE ∷ tail) ≡ fold next BehindWord tail
run_start [] tail some letters = absurd (omega arith)
run_start (b ∷ word) tail some letters =
    let here = start_next b (All-head (λ b. IsTrue (is_ascii_alphabetic b)) b word letters) in
    ap (λ (p : Place). fold next p (word ++ SPACE ∷ tail)) here
    ∙ (run_word word tail (All-tail (λ b. IsTrue (is_ascii_alphabetic b)) b word letters))

pub run_line : (line : List ℕ) → IsRequestLine line → fold next Blank line ≡ Request
run_line line form =
    let tail : List ℕ = codes "HTTP/" ++ form.digit ∷ form.rest in
    ap (fold next Blank) form.is
    ∙ (run_start form.word (form.target ++ SPACE ∷ tail) form.letters.0 form.letters.1
    ∙ (run_first form.target tail form.visible.0 form.visible.1
    ∙ run_digit form.digit form.rest form.is_digit))

end_next : (b : ℕ) → is_line_end b ≡ true → next Blank b ≡ Blank
end_next b end =
    let letter : is_ascii_alphabetic b ≡ false = grind (arith, nat_tests) in
    rw (letter, end) refl

run_blank : (blank line : List ℕ) → AllPass is_line_end blank → fold next Blank (blank ++ line) ≡ fold next Blank line
run_blank [] line ends = refl
run_blank (b ∷ blank) line ends =
    let here = end_next b (All-head (λ b. IsTrue (is_line_end b)) b blank ends) in
    ap (λ (p : Place). fold next p (blank ++ line)) here
    ∙ (run_blank blank line (All-tail (λ b. IsTrue (is_line_end b)) b blank ends))

pub run_from_begins : (bs : List ℕ) → BeginsRequest bs → fold next Blank bs ≡ Request
run_from_begins bs (blank, line, ends, form, is) =
    ap (fold next Blank) is ∙ (run_blank blank line ends ∙ run_line line form)

-- ---- the verdict at a position

may_become : (bs more : List ℕ) (place : Place) → fold next Blank bs ≡ place → fold next place more ≡ Request
    → BeginsRequest (bs ++ more)
may_become bs more place at leads =
    begins_from_run (bs ++ more) (run-append Blank bs more ∙ (ap (λ (p : Place). fold next p more) at ∙ leads))

undecided : (bs more : List ℕ) (place : Place) → fold next Blank bs ≡ place → ¬ (place ≡ Request)
    → fold next place more ≡ Request → Decides Verdict.Undecided bs
undecided bs more place at not_yet leads =
    (λ begins. not_yet (sym at ∙ run_from_begins bs begins), (more, may_become bs more place at leads))

pub decides_at : (bs : List ℕ) (place : Place) → fold next Blank bs ≡ place → Decides (verdict_at place) bs
decides_at bs Request at = begins_from_run bs at
decides_at bs Other at = λ more begins. not_other more
    (ap (λ (p : Place). fold next p more) (sym at)
    ∙ (sym (run-append Blank bs more) ∙ run_from_begins (bs ++ more) begins))
decides_at bs Blank at = undecided bs (codes "A / HTTP/1") Blank at (λ e. cc e) refl
decides_at bs Word at = undecided bs (codes " / HTTP/1") Word at (λ e. cc e) refl
decides_at bs BehindWord at = undecided bs (codes "/ HTTP/1") BehindWord at (λ e. cc e) refl
decides_at bs Target at = undecided bs (codes " HTTP/1") Target at (λ e. cc e) refl
decides_at bs BehindTarget at = undecided bs (codes "HTTP/1") BehindTarget at (λ e. cc e) refl
decides_at bs H at = undecided bs (codes "TTP/1") H at (λ e. cc e) refl
decides_at bs Ht at = undecided bs (codes "TP/1") Ht at (λ e. cc e) refl
decides_at bs Htt at = undecided bs (codes "P/1") Htt at (λ e. cc e) refl
decides_at bs Http at = undecided bs (codes "/1") Http at (λ e. cc e) refl
decides_at bs Slash at = undecided bs (codes "1") Slash at (λ e. cc e) refl

-- ---- one line

line_by : (line blank front : List ℕ) → begins_blank line ≡ false → AllPass is_line_end blank → IsRequestLine front
    → line ≡ blank ++ front → IsRequestLine line
line_by line [] front none ends form is = rw is form
line_by line (b ∷ blank) front none ends form is =
    absurd (cc (sym none ∙ (ap begins_blank is
    ∙ All-head (λ b. IsTrue (is_line_end b)) b blank ends)))

line_from_begins : (line : List ℕ) → begins_blank line ≡ false → BeginsRequest line → IsRequestLine line
line_from_begins line none (blank, front, ends, form, is) = line_by line blank front none ends form is

is_request_at : (place : Place) → IsTrue (is_request place) ↔ (place ≡ Request)
is_request_at Request = (λ h. refl, λ h. refl)
is_request_at Blank = (λ h. absurd (cc h), λ h. absurd (cc h))
is_request_at Word = (λ h. absurd (cc h), λ h. absurd (cc h))
is_request_at BehindWord = (λ h. absurd (cc h), λ h. absurd (cc h))
is_request_at Target = (λ h. absurd (cc h), λ h. absurd (cc h))
is_request_at BehindTarget = (λ h. absurd (cc h), λ h. absurd (cc h))
is_request_at H = (λ h. absurd (cc h), λ h. absurd (cc h))
is_request_at Ht = (λ h. absurd (cc h), λ h. absurd (cc h))
is_request_at Htt = (λ h. absurd (cc h), λ h. absurd (cc h))
is_request_at Http = (λ h. absurd (cc h), λ h. absurd (cc h))
is_request_at Slash = (λ h. absurd (cc h), λ h. absurd (cc h))
is_request_at Other = (λ h. absurd (cc h), λ h. absurd (cc h))

pub line_at : (line : List ℕ) (place : Place) → begins_blank line ≡ false → place ≡ fold next Blank line
    → IsTrue (is_request place) ↔ IsRequestLine line
line_at line place none at = (
  λ h. line_from_begins line none (begins_from_run line (sym at ∙ (is_request_at place).0 h)),
  λ form. (is_request_at place).1 (at ∙ run_line line form),
)

blank_line : (line word tail : List ℕ) → begins_blank line ≡ true → 0 < length word → AllPass is_ascii_alphabetic word
    → ¬ (line ≡ word ++ tail)
blank_line line [] tail blank some letters is = absurd (omega arith)
blank_line line (b ∷ word) tail blank some letters is =
    let letter : is_ascii_alphabetic b ≡ true =
    All-head (λ b. IsTrue (is_ascii_alphabetic b)) b word letters in
    let end : is_line_end b ≡ true = sym (ap begins_blank is) ∙ blank in
    absurd (grind (arith, nat_tests))

pub no_line : (line : List ℕ) → begins_blank line ≡ true → ¬ (IsRequestLine line)
no_line line blank form = blank_line line form.word _ blank form.letters.0 form.letters.1 form.is

-- ---- feeding

pub stands_on : (old new : FirstLine) (earlier bytes : List ℕ) → new.place ≡ fold next old.place bytes
    → StandsAfter old earlier → StandsAfter new (earlier ++ bytes)
stands_on old new earlier bytes fed stands = record {
  is = fed ∙ (ap (λ (p : Place). fold next p bytes) stands.is ∙ sym (run-append Blank earlier bytes));
}

pub feed_decides : (old new : FirstLine) (earlier bytes : List ℕ) → new.place ≡ fold next old.place bytes
    → StandsAfter old earlier → Decides (verdict_at new.place) (earlier ++ bytes)
feed_decides old new earlier bytes fed stands =
    decides_at (earlier ++ bytes) new.place (sym (stands_on old new earlier bytes fed stands).is)

-- ---- an undecided connection has no complete line

abbrev IsOpen : Place → Type 0
IsOpen Request = ⊥
IsOpen Other = ⊥
IsOpen _ = Unit {0}

abbrev IsBegun : Place → Type 0
IsBegun Blank = ⊥
IsBegun _ = Unit {0}

record Facts (b : ℕ) : Type 0 where
  letter : is_ascii_alphabetic b ≡ false
  graphic : is_ascii_graphic b ≡ false
  digit : is_ascii_digit b ≡ false
  space : (b == SPACE) ≡ false
  h : (b == 72) ≡ false
  t : (b == 84) ≡ false
  p : (b == 80) ≡ false
  slash : (b == 47) ≡ false

facts : (b : ℕ) → is_line_end b ≡ true → Facts b
facts b end = record {
  letter = grind (arith, nat_tests);
  graphic = grind (arith, nat_tests);
  digit = grind (arith, nat_tests);
  space = grind (arith, nat_tests);
  h = grind (arith, nat_tests);
  t = grind (arith, nat_tests);
  p = grind (arith, nat_tests);
  slash = grind (arith, nat_tests);
}

end_closes : (place : Place) (b : ℕ) → IsBegun place → Facts b → ¬ (IsOpen (next place b))
end_closes Blank b begun f = absurd begun
end_closes Word b begun f = rw (f.letter, f.space) (λ h. h)
end_closes BehindWord b begun f = rw f.graphic (λ h. h)
end_closes Target b begun f = rw (f.graphic, f.space) (λ h. h)
end_closes BehindTarget b begun f = rw f.h (λ h. h)
end_closes H b begun f = rw f.t (λ h. h)
end_closes Ht b begun f = rw f.t (λ h. h)
end_closes Htt b begun f = rw f.p (λ h. h)
end_closes Http b begun f = rw f.slash (λ h. h)
end_closes Slash b begun f = rw f.digit (λ h. h)
end_closes Request b begun f = λ h. h
end_closes Other b begun f = λ h. h

closed_stays : (place : Place) (bs : List ℕ) → ¬ (IsOpen place) → ¬ (IsOpen (fold next place bs))
closed_stays Request bs closed = rw (request_stays bs) (λ h. h)
closed_stays Other bs closed = rw (other_stays bs) (λ h. h)
closed_stays Blank bs closed = absurd (closed tt)
closed_stays Word bs closed = absurd (closed tt)
closed_stays BehindWord bs closed = absurd (closed tt)
closed_stays Target bs closed = absurd (closed tt)
closed_stays BehindTarget bs closed = absurd (closed tt)
closed_stays H bs closed = absurd (closed tt)
closed_stays Ht bs closed = absurd (closed tt)
closed_stays Htt bs closed = absurd (closed tt)
closed_stays Http bs closed = absurd (closed tt)
closed_stays Slash bs closed = absurd (closed tt)

begun_if : (t : Bool) (p q : Place) → IsBegun p → IsBegun q → IsBegun (if t then p else q)
begun_if true p q one other = one
begun_if false p q one other = other

begun_next : (place : Place) (b : ℕ) → IsBegun place → IsBegun (next place b)
begun_next Blank b begun = absurd begun
begun_next Word b begun = begun_if (is_ascii_alphabetic b) _ _ tt (begun_if (b == SPACE) _ _ tt tt)
begun_next BehindWord b begun = begun_if (is_ascii_graphic b) _ _ tt tt
begun_next Target b begun = begun_if (is_ascii_graphic b) _ _ tt (begun_if (b == SPACE) _ _ tt tt)
begun_next BehindTarget b begun = begun_if (b == 72) _ _ tt tt
begun_next H b begun = begun_if (b == 84) _ _ tt tt
begun_next Ht b begun = begun_if (b == 84) _ _ tt tt
begun_next Htt b begun = begun_if (b == 80) _ _ tt tt
begun_next Http b begun = begun_if (b == 47) _ _ tt tt
begun_next Slash b begun = begun_if (is_ascii_digit b) _ _ tt tt
begun_next Request b begun = tt
begun_next Other b begun = tt

abbrev IsInside : ℕ → Type 0
IsInside b = is_line_end b ≡ false

inside_by : (place : Place) (b : ℕ) (bs : List ℕ) (t : Bool) → is_line_end b ≡ t → IsBegun place
    → IsOpen (fold next (next place b) bs) → (IsOpen (fold next (next place b) bs) → All IsInside bs)
    → All IsInside (b ∷ bs)
inside_by place b bs true end begun open_still later =
    absurd (closed_stays (next place b) bs (end_closes place b begun (facts b end)) open_still)
inside_by place b bs false end begun open_still later = All-cons IsInside b bs end (later open_still)

inside : (bs : List ℕ) (place : Place) → IsBegun place → IsOpen (fold next place bs) → All IsInside bs
inside [] place begun open_still = All-nil IsInside
inside (b ∷ bs) place begun open_still =
    inside_by place b bs _ refl begun open_still (inside bs (next place b) (begun_next place b begun))

record Waiting (bs : List ℕ) : Type 0 where
  blank : List ℕ
  line : List ℕ
  ends : AllPass is_line_end blank
  inside : All IsInside line
  is : bs ≡ blank ++ line

waiting_more : (b : ℕ) (bs : List ℕ) → is_line_end b ≡ true → Waiting bs → Waiting (b ∷ bs)
waiting_more b bs end later = record {
  blank = b ∷ later.blank;
  line = later.line;
  ends = All-cons (λ b. IsTrue (is_line_end b)) b later.blank end later.ends;
  inside = later.inside;
  is = ap (λ (xs : List ℕ). b ∷ xs) later.is;
}

waiting_begun : (b : ℕ) (bs : List ℕ) (t : Bool) → is_ascii_alphabetic b ≡ t → is_line_end b ≡ false
    → IsOpen (fold next (if t then Word else next_blank b) bs) → Waiting (b ∷ bs)
waiting_begun b bs true letter end open_still = record {
  blank = [];
  line = b ∷ bs;
  ends = All-nil (λ b. IsTrue (is_line_end b));
  inside = All-cons IsInside b bs end (inside bs Word tt open_still);
  is = refl;
}
waiting_begun b bs false letter end open_still =
    let other : next_blank b ≡ Other = rw end refl in
    absurd (closed_stays Other bs (λ h. h) (rw other at open_still))

waiting_by : (b : ℕ) (bs : List ℕ) (t : Bool) → is_line_end b ≡ t → IsOpen (fold next (next Blank b) bs)
    → (IsOpen (fold next Blank bs) → Waiting bs) → Waiting (b ∷ bs)
waiting_by b bs true end open_still later = waiting_more b bs end (later (rw (end_next b end) at open_still))
waiting_by b bs false end open_still later = waiting_begun b bs _ refl end open_still

waiting : (bs : List ℕ) → IsOpen (fold next Blank bs) → Waiting bs
waiting [] open_still =
    record { blank = []; line = []; ends = All-nil (λ b. IsTrue (is_line_end b)); inside = All-nil IsInside; is = refl }
waiting (b ∷ bs) open_still = waiting_by b bs _ refl open_still (waiting bs)

open_at : (bs more : List ℕ) (place : Place) → fold next Blank bs ≡ place → ¬ (place ≡ Request)
    → fold next place more ≡ Request → IsOpen place
open_at bs more Request at not_yet leads = absurd (not_yet refl)
open_at bs more Other at not_yet leads = absurd (not_other more leads)
open_at bs more Blank at not_yet leads = tt
open_at bs more Word at not_yet leads = tt
open_at bs more BehindWord at not_yet leads = tt
open_at bs more Target at not_yet leads = tt
open_at bs more BehindTarget at not_yet leads = tt
open_at bs more H at not_yet leads = tt
open_at bs more Ht at not_yet leads = tt
open_at bs more Htt at not_yet leads = tt
open_at bs more Http at not_yet leads = tt
open_at bs more Slash at not_yet leads = tt

undecided_waits : (bs : List ℕ) → Decides Verdict.Undecided bs → Waiting bs
undecided_waits bs (not_yet, (more, begins)) =
    waiting bs (open_at bs more (fold next Blank bs) refl (λ is. not_yet (begins_from_run bs is))
    (sym (run-append Blank bs more) ∙ run_from_begins (bs ++ more) begins))

pub ends_no_line : UndecidedEndsNoLine
ends_no_line bytes undecided =
    let waits = undecided_waits bytes undecided in
    (waits.blank, waits.line, waits.ends, waits.inside, waits.is)
