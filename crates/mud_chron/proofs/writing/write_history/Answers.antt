use Rattle.std.proofs.Common.{ℕ, List, ◌++◌, codes, ◌∙◌, ap, append_assoc, length}
use Rattle.std.specs.Prelude.{string_bytes}
use Rattle.mud_chron.specs.Text.{entries_text, end_line, line_feed}
use Rattle.mud_chron.proofs.writing.write_history.Goals as goal

pub returns-clause-ok : goal.returns-clause-ok
returns-clause-ok c =
    let head : List ℕ = codes "mud history 2\n" in
    let text : List ℕ = entries_text 1 c.args.entries.now in
    let end : List ℕ = end_line (length c.args.entries.now) in
    let old : List ℕ = string_bytes c.args.out.now in
    c.in_ok-push_str-2.ensures.bytes
    ∙ ap (λ (x : List ℕ). old ++ x) (c.as_str.ensures.value
    ∙ c.in_ok-push_str.ensures.bytes
    ∙ ap (λ (x : List ℕ). x ++ line_feed)
    (c.in_ok-push_end.ensures
    ∙ ap (λ (x : List ℕ). x ++ end)
    (c.in_ok-push_entries.ensures
    ∙ ap (λ (x : List ℕ). x ++ text) (c.in_ok-text.ensures.ok ∙ c.first_line.ensures)))
    ∙ append_assoc (head ++ text) end line_feed)
