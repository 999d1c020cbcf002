-- The text of a history, line by line.
use Rattle.std.proofs.Common.{◌≡◌, ◌≤◌, ℕ, ◌+◌, List, [], ◌∷◌, ◌++◌, length, take, drop, Some}
use Rattle.std.proofs.Common.{slice_get, codes, refl, sym, ap, ◌∙◌, append_assoc, add-one, subst, arith}
use Rattle.std.specs.Str.{IsUtf8, IsCharBoundary}
use Rattle.std.proofs.lemmas.List.{drop_more, drop_all, append-nil, length-append, take_at}
use Rattle.std.proofs.lemmas.Str.{IsCharBoundary-from_take}
use Rattle.std.proofs.lemmas.Option.{slice_get_within, get_or_from_slice_get}
use mathlib.Core.List.{IsPrefix}
use Rattle.mud_chron.specs.declared.format.Format.TheVariants.{Two}
use Rattle.mud_chron.specs.Entry.{Entry}
use Rattle.mud_chron.specs.Text.{entry_line, entries_text, end_line, history_text, line_feed}
use Rattle.mud_row.specs.Known.{entry_at, lines_after}

-- entries are counted from 1, and places from 0
pub entry_at-place : (es : List Entry) (n : ℕ) → entry_at es (n + 1) ≡ slice_get es n
entry_at-place es n = rw (add-one n) refl

-- from the entry after the first n on
drop-at : (es : List Entry) (n : ℕ) (e : Entry) → slice_get es n ≡ Some e → drop n es ≡ e ∷ drop (n + 1) es
drop-at es n e at =
    drop_more es n e (slice_get_within es n e at)
    ∙ ap (λ (x : Entry). x ∷ drop (n + 1) es) (get_or_from_slice_get es n e e at)

lines_after-next : (es : List Entry) (n : ℕ) (e : Entry) → slice_get es n ≡ Some e
    → lines_after n es ≡ (entry_line (n + 1) e ++ line_feed) ++ lines_after (n + 1) es
lines_after-next es n e at = ap (entries_text (n + 1)) (drop-at es n e at)

-- the line of the entry after the first n is written
pub line_written : (es : List Entry) (n : ℕ) (e : Entry) (old new : List ℕ) → entry_at es (n + 1) ≡ Some e
    → new ≡ old ++ entry_line (n + 1) e ++ line_feed → new ++ lines_after (n + 1) es ≡ old ++ lines_after n es
line_written es n e old new at is =
    let line : List ℕ = entry_line (n + 1) e in
    let rest : List ℕ = lines_after (n + 1) es in
    let here : slice_get es n ≡ Some e = sym (entry_at-place es n) ∙ at in
    ap (λ (t : List ℕ). t ++ rest) (is ∙ append_assoc old line line_feed) ∙ append_assoc old (line ++ line_feed) rest
    ∙ ap (λ (t : List ℕ). old ++ t) (sym (lines_after-next es n e here))

-- a text is a prefix of itself with a line appended
pub line_longer : (old new line end : List ℕ) → new ≡ old ++ line ++ end → IsPrefix old new
line_longer old new line end is = (line ++ end, sym (is ∙ append_assoc old line end))

-- the last line is written after all others
pub text_written : (es : List Entry) (n count : ℕ) (old mid new : List ℕ)
    → mid ++ lines_after n es ≡ (old ++ codes "mud history 2\n") ++ lines_after 0 es → length es ≤ n → count ≡ length es
    → new ≡ mid ++ end_line count ++ line_feed → new ≡ old ++ history_text Two es
text_written es n count old mid new so past same is =
    let head : List ℕ = codes "mud history 2\n" in
    let lines : List ℕ = entries_text 1 es in
    let end : List ℕ = end_line (length es) ++ line_feed in
    let none : lines_after n es ≡ [] = ap (entries_text (n + 1)) (drop_all n es past) in
    let all : mid ≡ (old ++ head) ++ lines =
    sym (append-nil mid) ∙ ap (λ (t : List ℕ). mid ++ t) (sym none) ∙ so in
    is ∙ append_assoc mid (end_line count) line_feed ∙ ap (λ (k : ℕ). mid ++ (end_line k ++ line_feed)) same
    ∙ ap (λ (t : List ℕ). t ++ end) all
    ∙ append_assoc (old ++ head) lines end ∙ append_assoc old head (lines ++ end)

-- being a prefix is transitive
pub further : (old mid new : List ℕ) → IsPrefix old mid → IsPrefix mid new → IsPrefix old new
further old mid new one two =
    (one.0 ++ two.0, sym (append_assoc old one.0 two.0) ∙ ap (λ (t : List ℕ). t ++ two.0) one.1 ∙ two.1)

-- truncating a text to its old length restores it
pub cut_back : (old new : List ℕ) (n : ℕ) → IsPrefix old new → n ≡ length old → take n new ≡ old
cut_back old new n longer at = ap (take n) (sym longer.1) ∙ take_at old longer.0 n (sym at)

-- a text can be truncated to its old length
pub cuts_there : (old new : List ℕ) (n : ℕ) → IsUtf8 old → IsUtf8 new → IsPrefix old new → n ≡ length old
    → IsCharBoundary new n
cuts_there old new n was is longer at =
    IsCharBoundary-from_take new n is (omega (arith, at, ap length longer.1, length-append old longer.0))
    (subst IsUtf8 (sym (cut_back old new n longer at)) was)
