-- The lines of more entries.
use Rattle.std.proofs.Common.{◌≡◌, ℕ, ◌+◌, List, [], ◌∷◌, ◌++◌, length, sym, ◌∙◌, ap, arith, append_assoc}
use Rattle.mud_chron.specs.declared.format.Format.{Format}
use Rattle.mud_chron.specs.Entry.{Entry}
use Rattle.mud_chron.specs.Text.{line_feed, head_line, entries_text, journal_text}
use Rattle.mud_chron.specs.inner.Texts.{entry_text}

entries_text-append : (version : ℕ) (es fs : List Entry)
    → entries_text version (es ++ fs) ≡ entries_text version es ++ entries_text (version + length es) fs
entries_text-append version [] fs =
    let now : version ≡ version + 0 = omega arith in ap (λ v. entries_text v fs) now
entries_text-append version (e ∷ es) fs =
    let now : version + 1 + length es ≡ version + length (e ∷ es) = omega arith in
    ap (λ text. entry_text version e ++ text)
    (entries_text-append (version + 1) es fs ∙ ap (λ v. entries_text (version + 1) es ++ entries_text v fs) now)
    ∙ sym (append_assoc (entry_text version e) (entries_text (version + 1) es)
    (entries_text (version + length (e ∷ es)) fs))

pub journal_text-append : (format : Format) (es fs : List Entry)
    → journal_text format (es ++ fs) ≡ journal_text format es ++ entries_text (1 + length es) fs
journal_text-append format es fs =
    ap (λ t. head_line format ++ line_feed ++ t) (entries_text-append 1 es fs)
    ∙ sym (append_assoc (head_line format ++ line_feed) (entries_text 1 es) (entries_text (1 + length es) fs))
