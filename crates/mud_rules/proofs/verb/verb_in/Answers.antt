use Rattle.std.proofs.Common.{[], ◌∙◌, sym}
use Rattle.std.specs.Str.{str_eq_ignore_ascii_case}
use Rattle.mud_rules.specs.declared.verb.Verb.TheVariants.{Connect}
use Rattle.mud_rules.specs.inner.Verbs.{row_of}
use Rattle.mud_rules.proofs.Finding.{lookup_past, lookup_here}
use Rattle.mud_rules.proofs.verb.verb_in.Goals as goal

pub returns-then-is_word : goal.returns-then-is_word
returns-then-is_word c =
    sym (lookup_here (str_eq_ignore_ascii_case c.args.text.now) row_of c.args.rows.now c.loop-word.word-index
    (record { ref_ptr = (0, 0); now = [] }, Connect) c.loop-word-test.true
    (sym c.if-is_word.ensures))
    ∙ c.loop-word.invariant

pub loop-word-preserved : goal.loop-word-preserved
loop-word-preserved c =
    sym (lookup_past (str_eq_ignore_ascii_case c.args.text.now) row_of c.args.rows.now c.loop-word.word-index
    (record { ref_ptr = (0, 0); now = [] }, Connect) c.loop-word-test.true
    (sym c.if-is_word.ensures))
    ∙ c.loop-word.invariant
