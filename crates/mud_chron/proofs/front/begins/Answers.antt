use Rattle.std.proofs.lemmas.Bool.Decides.{Decides-eqb}
use Rattle.std.proofs.lemmas.Slice.Eq.{starts_is}
use Rattle.mud_chron.proofs.Fronts.{prefix_cases}
use Rattle.mud_chron.proofs.front.begins.Goals as goal

pub returns : goal.returns
returns c =
    prefix_cases c.starts_with.result c.args.bytes.now c.args.text.now
    (starts_is Decides-eqb c.args.text.now c.args.bytes.now c.starts_with.result c.starts_with.ensures.value)
