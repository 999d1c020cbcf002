-- A text that begins with some entries, and its next line.
use Rattle.std.proofs.Common.{◌≡◌, ℕ, ◌+◌, ◌<◌, List, [], ◌∷◌, ◌++◌, length, sym, ◌∙◌, ap, arith, append_assoc}
use Rattle.std.proofs.lemmas.List.{append-nil, length-append}
use Rattle.std.specs.List.{AllByRecursion}
use Rattle.mud_chron.specs.declared.format.Format.{Format}
use Rattle.mud_world.specs.declared.limits.TheConstants.{MOST_ENTRIES}
use Rattle.mud_chron.specs.declared.line.Line.TheVariants as lines
use Rattle.mud_chron.specs.Entry.{Entry}
use Rattle.mud_chron.specs.Text.{line_feed, head_line, entry_line, entries_text}
use Rattle.mud_chron.specs.inner.Texts.{entry_text, begun_text}
use Rattle.mud_chron.specs.History.{IsEntryOf}
use Rattle.mud_chron.specs.Faults.{Begins, IsTooLong}
use Rattle.mud_chron.specs.inner.Lines.{IsLine}

each-push : (format : Format) (es : List Entry) (e : Entry) → AllByRecursion (IsEntryOf format) es
    → IsEntryOf format e → AllByRecursion (IsEntryOf format) (es ++ e ∷ [])
each-push format [] e h is = (is, tt)
each-push format (f ∷ es) e h is = (h.0, each-push format es e h.1 is)

-- one more line
pub entries_text-push : (version : ℕ) (es : List Entry) (e : Entry)
    → entries_text version (es ++ e ∷ []) ≡ entries_text version es ++ entry_text (version + length es) e
entries_text-push version [] e = let now : version ≡ version + 0 = omega arith in
    append-nil (entry_text version e) ∙ ap (λ v. entry_text v e) now
entries_text-push version (f ∷ es) e =
    let now : version + 1 + length es ≡ version + length (f ∷ es) = omega arith in
    ap (λ text. entry_text version f ++ text)
    (entries_text-push (version + 1) es e ∙ ap (λ v. entries_text (version + 1) es ++ entry_text v e) now)
    ∙ sym (append_assoc (entry_text version f) (entries_text (version + 1) es)
    (entry_text (version + length (f ∷ es)) e))

begun-push : (format : Format) (es : List Entry) (e : Entry) (more : List ℕ)
    → begun_text format es (entry_line (length es + 1) e ++ line_feed ++ more) ≡ begun_text format (es ++ e ∷ []) more
begun-push format es e more =
    let head : List ℕ = head_line format ++ line_feed in
    let text : List ℕ = entry_text (length es + 1) e in
    let now : length es + 1 ≡ 1 + length es = omega arith in
    sym (append_assoc (head ++ entries_text 1 es) text more)
    ∙ ap (λ (x : List ℕ). x ++ more) (append_assoc head (entries_text 1 es) text)
    ∙ ap (λ (x : List ℕ). head ++ x ++ more)
    (ap (λ v. entries_text 1 es ++ entry_text v e) now ∙ sym (entries_text-push 1 es e))

-- after an entry's line, the text begins with that entry too
pub next_entry : (format : Format) (es : List Entry) (bytes rest line more : List ℕ) (count : ℕ) (e : Entry)
    → Begins format es bytes rest → rest ≡ line ++ line_feed ++ more
    → count ≡ length es → IsLine format count line (lines.Entry e) → length es < MOST_ENTRIES
    → Begins format (es ++ e ∷ []) bytes more
next_entry format es bytes rest line more count e b cut counted is few = record {
  allowed = record { each = each-push format es e b.allowed.each is.0; few = omega (arith, length-append es (e ∷ [])) };
  spelled =
      b.spelled
      ∙ ap (begun_text format es)
      (cut ∙ ap (λ (l : List ℕ). l ++ line_feed ++ more) (is.1 ∙ ap (λ n. entry_line (n + 1) e) counted))
      ∙ begun-push format es e more;
}

-- one more entry follows the last one that a text may have
pub too_long : (format : Format) (es : List Entry) (bytes rest line more : List ℕ) (count : ℕ) (e : Entry)
    → Begins format es bytes rest → rest ≡ line ++ line_feed ++ more
    → count ≡ length es → IsLine format count line (lines.Entry e) → length es ≡ MOST_ENTRIES → IsTooLong bytes
too_long format es bytes rest line more count e b cut counted is full = record {
  format = format;
  entries = es;
  next = e;
  rest = more;
  begins = record {
    allowed = b.allowed;
    spelled = let now : count + 1 ≡ MOST_ENTRIES + 1 = omega arith in
        b.spelled
        ∙ ap (begun_text format es)
        (cut ∙ ap (λ (l : List ℕ). l ++ line_feed ++ more) (is.1 ∙ ap (λ n. entry_line n e) now));
  };
  full = full;
  has_line = is.0;
}
