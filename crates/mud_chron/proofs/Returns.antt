-- The text of a history contains no CR.
use Rattle.std.proofs.Common.{◌≡◌, ℕ, ◌+◌, ◌<◌, Bool, true, List, [], ◌∷◌, ◌++◌, length, refl, sym, subst, arith, eqb}
use Rattle.std.proofs.Common.{ltb}
use Rattle.std.specs.Prelude.{not, ◌&&◌, ◌^◌}
use Rattle.std.specs.List.{AllByRecursion, list_all}
use Rattle.mud_key.specs.declared.codes.TheConstants.{SPACE, TILDE}
use Rattle.mud_key.specs.declared.codes.TheConstants.{CR}
use Rattle.mud_chron.specs.declared.format.Format.{Format}
use Rattle.mud_chron.specs.declared.format.Format.TheVariants.{One, Two}
use Rattle.mud_chron.specs.Entry.{Entry}
use Rattle.mud_chron.specs.Text.{line_feed, head_line, entry_line, entries_text, end_line}
use Rattle.mud_chron.specs.inner.Texts.{entry_text}
use Rattle.mud_chron.specs.History.{IsEntryOf, SpellsHistory}
use Rattle.mud_chron.specs.Laws.{HasNoReturns}
use Rattle.mud_chron.proofs.Cutting.{implied, lacks_all}
use Rattle.mud_chron.proofs.Digits.{decimal_lacks}
use Rattle.mud_chron.proofs.Spelled.{plain, both}
use Rattle.mud_chron.proofs.Again.{plain_line}

plain_passes : (b : ℕ) → plain b ≡ true → not (eqb b CR) ≡ true
plain_passes b h = go (ltb b SPACE) (ltb TILDE b) (eqb b CR) refl refl refl h
  where
    go : (x y z : Bool) → ltb b SPACE ≡ x → ltb TILDE b ≡ y → eqb b CR ≡ z → (not x && not y) ≡ true → not z ≡ true
    go x y z e f g p = grind arith

entries_pass : (format : Format) (version : ℕ) (entries : List Entry) → version + length entries < 2 ^ 64
    → AllByRecursion (IsEntryOf format) entries
    → list_all (λ b. not (eqb b CR)) (entries_text version entries) ≡ true
entries_pass format version [] few is = refl
entries_pass format version (e ∷ es) few is =
    let p : ℕ → Bool = λ b. not (eqb b CR) in
    both p (entry_text version e) (entries_text (version + 1) es)
    (both p (entry_line version e) line_feed
    (implied plain p plain_passes (entry_line version e) (plain_line version e (omega (arith, few)) is.0.0)) refl)
    (entries_pass format (version + 1) es (omega (arith, few)) is.1)

end_passes : (count : ℕ) → count < 2 ^ 64 → list_all (λ b. not (eqb b CR)) (end_line count) ≡ true
unfolding end_line
end_passes count fits = decimal_lacks CR count (omega arith) fits

head_passes : (format : Format) → list_all (λ b. not (eqb b CR)) (head_line format) ≡ true
head_passes One = refl
head_passes Two = refl

without_return : (text : List ℕ) (entries : List Entry) → SpellsHistory text entries
    → list_all (λ b. not (eqb b CR)) text ≡ true
without_return text entries (format, are, is) =
    let p : ℕ → Bool = λ b. not (eqb b CR) in
    let P : List ℕ → Type 0 = λ xs. list_all p xs ≡ true in
    let few : length entries < 2 ^ 64 = omega (arith, are.few) in
    let head : P (head_line format ++ line_feed) = both p (head_line format) line_feed (head_passes format) refl in
    let lines : P (head_line format ++ line_feed ++ entries_text 1 entries) =
    both p (head_line format ++ line_feed) (entries_text 1 entries) head
    (entries_pass format 1 entries (omega (arith, are.few)) are.each) in
    let end : P (end_line (length entries) ++ line_feed) =
    both p (end_line (length entries)) line_feed (end_passes (length entries) few) refl in
    subst P (sym is)
    (both p (head_line format ++ line_feed ++ entries_text 1 entries)
    (end_line (length entries) ++ line_feed) lines end)

-- the text of a history contains no CR
pub has_no_returns : HasNoReturns
has_no_returns text entries is = lacks_all CR text (without_return text entries is)
