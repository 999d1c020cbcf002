use Rattle.std.proofs.Common.{[], ◌∙◌, sym}
use Rattle.std.specs.Str.{str_eq_ignore_ascii_case}
use Rattle.mud_rules.proofs.Finding.{any_here, any_past}
use Rattle.mud_rules.proofs.verb.is_any.Goals as goal

pub returns-then-is_word : goal.returns-then-is_word
returns-then-is_word c =
    sym (any_here (str_eq_ignore_ascii_case c.args.text.now) (λ t. t.now) c.args.words.now c.loop-word.word-index
    (record { ref_ptr = (0, 0); now = [] }) c.loop-word-test.true (sym c.if-is_word.ensures))
    ∙ c.loop-word.invariant

pub loop-word-preserved : goal.loop-word-preserved
loop-word-preserved c =
    sym (any_past (str_eq_ignore_ascii_case c.args.text.now) (λ t. t.now) c.args.words.now c.loop-word.word-index
    (record { ref_ptr = (0, 0); now = [] }) c.loop-word-test.true (sym c.if-is_word.ensures))
    ∙ c.loop-word.invariant
