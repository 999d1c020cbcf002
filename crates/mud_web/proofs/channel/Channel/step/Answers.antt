use Rattle.std.proofs.Common.{◌≡◌, sym, arith, drop, length}
use Rattle.std.proofs.lemmas.Grind.{common_steps}
use Rattle.mud_web.proofs.Runs.{is_read, role_after, took_from}
use Rattle.mud_web.proofs.channel.Channel.step.Goals as goal

pub invariant_of-self-in-Err-type_message : goal.invariant_of-self-in-Err-type_message
invariant_of-self-in-Err-type_message c =
    role_after c.self.inside.context.value c.read.new.self c.as_mut_slice.result.now c.read.new.input
    c.in-Ok-Complete.step c.args.replies.now.items c.read.new.output.items c.self.invariant
    (rw (c.deref_mut.ensures.value, c.in-Ok-Complete.field-0-is) at c.in-Ok-Complete.ensures.returns)
    (rw c.deref_mut.ensures.value at c.in-Ok-Complete.ensures.leaves)

pub invariant_of-self-in-Ok-Complete : goal.invariant_of-self-in-Ok-Complete
invariant_of-self-in-Ok-Complete c =
    role_after c.self.inside.context.value c.read.new.self c.as_mut_slice.result.now c.read.new.input
    c.in-Ok-Complete.step c.args.replies.now.items c.read.new.output.items c.self.invariant
    (rw (c.deref_mut.ensures.value, c.in-Ok-Complete.field-0-is) at c.in-Ok-Complete.ensures.returns)
    (rw c.deref_mut.ensures.value at c.in-Ok-Complete.ensures.leaves)

pub returns-in-Ok-clause-took : goal.returns-in-Ok-clause-took
returns-in-Ok-clause-took c =
    let read =
    is_read c.self.inside.context.value c.read.new.self c.as_mut_slice.result.now c.read.new.input c.in-Ok-Complete.step
    c.args.replies.now.items c.read.new.output.items c.self.invariant
    (rw (c.deref_mut.ensures.value, c.in-Ok-Complete.field-0-is) at c.in-Ok-Complete.ensures.returns)
    (rw c.deref_mut.ensures.value at c.in-Ok-Complete.ensures.leaves) in
    let kept = rw c.in-Ok-Complete.field-0-is at c.in-Ok-Complete.ensures.keeps_rest in
    let types = c.in-Ok.ensures in
    let whole : length c.read.new.input ≡ c.self.inside.unread.len =
    grind (arith, common_steps, c.read.auto.input, c.as_mut_slice.ensures.len, c.as_mut_slice.ensures.value) in
    let left : c.drop_front.new.unread.items ≡ drop c.in-Ok-Complete.step.consumed c.as_mut_slice.result.now =
    grind (arith, common_steps, whole, kept, c.drop_front.ensures) in
    let text : c.deref.result.now ≡ c.read.new.input = grind (arith, common_steps, whole, c.deref.ensures.value) in
    rw (sym c.self.view_is)
    (took_from c.self.inside.context.value c.read.new.self c.self.inside.unread.items c.read.new.input
    c.drop_front.new.unread.items
    c.in-Ok-Complete.step c.self.inside.has_ended c.args.typed.now.items c.type_message.new.typed.items
    c.args.replies.now.items c.read.new.output.items
    (rw c.as_mut_slice.ensures.value at read) (rw text at types) (rw c.as_mut_slice.ensures.value at left))
