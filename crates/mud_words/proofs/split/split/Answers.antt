use Rattle.std.specs.Cow.{cow_str_bytes}
use Rattle.mud_words.proofs.split.split.Goals as goal

pub returns : goal.returns
returns c =
    rw c.as_slice.ensures.value at (c.in_ok-objects.ensures (cow_str_bytes c.args.verb) c.args.rest.now)
