use Rattle.std.proofs.Common.{rules}
use Rattle.std.specs.Cow.{cow_str_bytes}
use Rattle.std.proofs.lemmas.List.{take_rest}
use Rattle.mud_words.proofs.JoinLemmas.{split_is}
use Rattle.mud_words.proofs.split.objects_of.Goals as goal

pub returns : goal.returns
returns c =
    λ verb rest.
    split_is cow_str_bytes verb rest _ _ c.args.args.now c.in-Some.spot (search rules) (search rules)
    (search (rules, take_rest))
