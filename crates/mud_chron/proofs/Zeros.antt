-- The text of a journal contains no zero byte.
use Rattle.std.proofs.Common.{◌≡◌, ◌≢◌, ℕ, ◌+◌, ◌<◌, Bool, true, List, [], ◌∷◌, ◌++◌, length, refl, arith, eqb}
use Rattle.std.proofs.Common.{ltb}
use Rattle.std.specs.Prelude.{not, ◌&&◌, ◌^◌}
use Rattle.std.specs.List.{AllByRecursion, list_all}
use Rattle.mud_key.specs.declared.codes.TheConstants.{SPACE, TILDE}
use Rattle.mud_chron.specs.declared.format.Format.{Format}
use Rattle.mud_chron.specs.declared.format.Format.TheVariants.{One, Two}
use Rattle.mud_chron.specs.Entry.{Entry}
use Rattle.mud_chron.specs.Text.{line_feed, head_line, entry_line, entries_text, journal_text}
use Rattle.mud_chron.specs.inner.Texts.{entry_text}
use Rattle.mud_chron.specs.History.{IsEntryOf, AreEntriesOf}
use Rattle.mud_chron.proofs.Cutting.{implied, lacks_all}
use Rattle.mud_chron.proofs.Spelled.{plain, both}
use Rattle.mud_chron.proofs.Again.{plain_line}

plain_passes : (b : ℕ) → plain b ≡ true → not (eqb b 0) ≡ true
plain_passes b h = go (ltb b SPACE) (ltb TILDE b) (eqb b 0) refl refl refl h
  where
    go : (x y z : Bool) → ltb b SPACE ≡ x → ltb TILDE b ≡ y → eqb b 0 ≡ z → (not x && not y) ≡ true → not z ≡ true
    go x y z e f g p = grind arith

entries_pass : (format : Format) (version : ℕ) (entries : List Entry) → version + length entries < 2 ^ 64
    → AllByRecursion (IsEntryOf format) entries
    → list_all (λ b. not (eqb b 0)) (entries_text version entries) ≡ true
entries_pass format version [] few is = refl
entries_pass format version (e ∷ es) few is =
    let p : ℕ → Bool = λ b. not (eqb b 0) in
    both p (entry_text version e) (entries_text (version + 1) es)
    (both p (entry_line version e) line_feed
    (implied plain p plain_passes (entry_line version e) (plain_line version e (omega (arith, few)) is.0.0)) refl)
    (entries_pass format (version + 1) es (omega (arith, few)) is.1)

head_passes : (format : Format) → list_all (λ b. not (eqb b 0)) (head_line format) ≡ true
head_passes One = refl
head_passes Two = refl

-- the text of a journal contains no zero byte
pub journal_has_no_zeros : (format : Format) (entries : List Entry) → AreEntriesOf format entries
    → AllByRecursion (λ b. b ≢ 0) (journal_text format entries)
journal_has_no_zeros format entries are =
    let p : ℕ → Bool = λ b. not (eqb b 0) in
    lacks_all 0 (journal_text format entries)
    (both p (head_line format ++ line_feed) (entries_text 1 entries)
    (both p (head_line format) line_feed (head_passes format) refl)
    (entries_pass format 1 entries (omega (arith, are.few)) are.each))
