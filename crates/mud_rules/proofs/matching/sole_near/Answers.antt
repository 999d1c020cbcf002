use Rattle.std.proofs.Common.{◌∙◌, sym, ap, ◌++◌, []}
use Rattle.std.specs.Prelude.{filter}
use Rattle.std.specs.Option.{option_map_or}
use Rattle.mud_world.specs.State.{contents_of, leaving_of}
use Rattle.mud_rules.specs.Matches.{sole}
use Rattle.mud_rules.specs.inner.Matches.{is_named, fits, together}
use Rattle.mud_rules.proofs.Joining.{sole_of-three}
use Rattle.mud_rules.proofs.matching.sole_near.Goals as goal

pub returns : goal.returns
returns c =
    let w = c.args.world.now in
    let p = is_named (fits c.args.likeness c.args.text.now) w in
    let room = c.in-Some.room in
    c.together-2.ensures
    ∙ ap (together c.sole_fit-own.result) c.together.ensures
    ∙ ap (λ a. together a (together c.sole_fit-lying.result c.sole_fit-leaving.result))
    (c.sole_fit-own.ensures ∙ ap (λ ns. sole (filter p ns)) c.contents.ensures)
    ∙ ap (λ a. together (sole (filter p (contents_of w c.args.player))) (together a c.sole_fit-leaving.result))
    (c.sole_fit-lying.ensures ∙ ap (λ ns. sole (filter p ns)) c.contents-2.ensures)
    ∙ ap (λ a. together (sole (filter p (contents_of w c.args.player)))
    (together (sole (filter p (contents_of w room))) a))
    (c.sole_fit-leaving.ensures ∙ ap (λ ns. sole (filter p ns)) c.leaving.ensures)
    ∙ sole_of-three p (contents_of w c.args.player) (contents_of w room) (leaving_of w room)
    ∙ ap (λ o. sole
    (filter p (contents_of w c.args.player ++ option_map_or (λ room. contents_of w room ++ leaving_of w room) o [])))
    (sym c.in-Some.is ∙ c.requires)
