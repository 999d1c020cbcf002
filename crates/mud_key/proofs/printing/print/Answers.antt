use Rattle.std.proofs.Common.{List, ◌++◌, ap, ◌∙◌, ℕ}
use Rattle.mud_key.specs.Printed.{printed, by_text}
use Rattle.mud_key.specs.Node.{key_of}
use Rattle.mud_key.proofs.LeastParentheses.{reads_back, key_is_least}
use Rattle.mud_key.proofs.printing.print.Goals as goal

pub returns-clause-reads_back : goal.returns-clause-reads_back
returns-clause-reads_back c = reads_back c.args.key.now _ c.node.ensures.key
    (c.in_ok-print_node.ensures
    ∙ ap (λ (x : List ℕ). x ++ printed (by_text (key_of c.node.result.now))) c.new-out.ensures.bytes
    ∙ ap (λ k. printed (by_text k)) c.node.ensures.node)

pub returns-clause-least : goal.returns-clause-least
returns-clause-least c = key_is_least c.args.key.now _
    (c.in_ok-print_node.ensures
    ∙ ap (λ (x : List ℕ). x ++ printed (by_text (key_of c.node.result.now))) c.new-out.ensures.bytes
    ∙ ap (λ k. printed (by_text k)) c.node.ensures.node)
