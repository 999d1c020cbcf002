use Rattle.std.proofs.Common.{◌≡◌, ◌++◌, codes, string_bytes, decimal, ap, ◌∙◌}
use Rattle.std.proofs.lemmas.Result.{IfOk-weaker}
use Rattle.mud_key.specs.Node.{reading_of}
use Rattle.mud_explain.specs.Key.{group_text, SaysKey, a_key, no_key, too_many}
use Rattle.mud_explain.proofs.lines.said_key.Goals as goal

pub returns-in_ok-push_grouped-in-Ok : goal.returns-in_ok-push_grouped-in-Ok
returns-in_ok-push_grouped-in-Ok c =
    let text : string_bytes c.push_grouped.new.out ≡ string_bytes c.new-answer.result
    ++ group_text (reading_of c.node.result.now) = c.in_ok-push_grouped-in-Ok.ensures in
    a_key c.in-Ok.key c.in-Ok.ensures.reads.0 c.in-Ok.ensures.reads.1
    (text ∙ ap (λ t. t ++ group_text (reading_of c.node.result.now)) c.new-answer.ensures.bytes
    ∙ ap group_text c.node.ensures.node)

pub returns-in-Err-BadKey : goal.returns-in-Err-BadKey
returns-in-Err-BadKey c =
    let reads = rw c.in-Err-BadKey.field-0-is at c.in-Err-BadKey.ensures.reads in
    IfOk-weaker c.format.result (λ s. string_bytes s ≡ codes "bad key at " ++ decimal c.in-Err-BadKey.at)
    (λ answer. SaysKey c.args.text.now (string_bytes answer))
    (λ s text. no_key c.in-Err-BadKey.at reads.0 reads.1 text) c.format.ensures.ok

pub returns-in-Err-TooManyAtoms : goal.returns-in-Err-TooManyAtoms
returns-in-Err-TooManyAtoms c =
    let reads = rw c.in-Err-TooManyAtoms.field-0-is at c.in-Err-TooManyAtoms.ensures.reads in
    IfOk-weaker c.from_str.result (λ s. string_bytes s ≡ codes "too many objects")
    (λ answer. SaysKey c.args.text.now (string_bytes answer))
    (λ s text. too_many reads.0 reads.1 reads.2 text) c.from_str.ensures.ok
