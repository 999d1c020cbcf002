-- The bytes after leading line ends, and the first empty line.
use Rattle.std.proofs.Common.{◌≡◌, ℕ, Bool, true, false, if◌then◌else◌, List, [], ◌∷◌}
use Rattle.std.proofs.Common.{◌++◌, refl, ◌∙◌, ap, codes}
use Rattle.std.specs.Prelude.{IsTrue}
use Rattle.std.proofs.lemmas.List.Elements.{All-nil, All-cons, All-head, All-tail}
use Rattle.httparse.specs.Grammar.{AllPass}
use Rattle.mud_web.specs.FirstLine.{is_line_end}
use Rattle.mud_web.specs.Parts.{AsksForHead}
use Rattle.mud_web.specs.inner.Fronts.{behind_ends}

head_by : (b : ℕ) (bs : List ℕ) (t : Bool) (rest : List ℕ) → is_line_end b ≡ t
    → (if t then behind_ends bs else b ∷ bs) ≡ codes "HEAD " ++ rest
    → (behind_ends bs ≡ codes "HEAD " ++ rest → AsksForHead bs) → AsksForHead (b ∷ bs)
head_by b bs true rest end is later =
    let asks = later is in (
      b ∷ asks.0,
      asks.1,
      All-cons (λ b. IsTrue (is_line_end b)) b asks.0 end asks.2,
      ap (λ (xs : List ℕ). b ∷ xs) asks.3,
    )
head_by b bs false rest end is later = ([], rest, All-nil (λ b. IsTrue (is_line_end b)), is)

pub asks_from : (bs rest : List ℕ) → behind_ends bs ≡ codes "HEAD " ++ rest → AsksForHead bs
asks_from [] rest is = absurd (cc is)
asks_from (b ∷ bs) rest is = head_by b bs _ rest refl is (asks_from bs rest)

behind_if : (b : ℕ) (bs : List ℕ) → is_line_end b ≡ true → behind_ends (b ∷ bs) ≡ behind_ends bs
behind_if b bs end = rw end refl

behind_all : (blank bs : List ℕ) → AllPass is_line_end blank → behind_ends (blank ++ bs) ≡ behind_ends bs
behind_all [] bs ends = refl
behind_all (b ∷ blank) bs ends =
    behind_if b (blank ++ bs) (All-head (λ b. IsTrue (is_line_end b)) b blank ends)
    ∙ behind_all blank bs (All-tail (λ b. IsTrue (is_line_end b)) b blank ends)

pub head_behind : (bs : List ℕ) → AsksForHead bs → (rest : List ℕ) × (behind_ends bs ≡ codes "HEAD " ++ rest)
head_behind bs (blank, rest, ends, is) =
    (rest, ap behind_ends is ∙ behind_all blank (codes "HEAD " ++ rest) ends)
