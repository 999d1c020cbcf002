use Rattle.std.proofs.Common.{◌∙◌, ap}
use Rattle.std.specs.Prelude.{filter}
use Rattle.std.specs.List.{range_with_len}
use Rattle.mud_survey.specs.inner.Tests.{is_unreached, is_unpassed, is_out_of_reach}
use Rattle.mud_survey.proofs.Testing.{unreached-lists, unpassed-lists, one-way-lists, gone-lists, out-lists}
use Rattle.mud_survey.proofs.finding.survey_world.Goals as goal

pub returns : goal.returns
returns c =
    let w = c.args.world.now in
    let sound = c.next_number-known.ensures.sound in
    let ps = c.args.players.now in
    let comes = c.in_ok-comes.field-0.comes.items in
    let passes = c.in_ok-comes.field-0.passes.items in
    let trails = c.in_ok-comes.ensures in
    let numbers = range_with_len 0 w.next in
    record {
      rooms = unreached-lists w sound ps comes trails.comes c.in_ok-unreached.field-0.items
          (c.in_ok-unreached.ensures ∙ ap (λ l. filter (is_unreached w l) numbers) c.deref.ensures.value);
      exits = unpassed-lists w sound ps passes trails.passes c.in_ok-unpassed.field-0.items
          (c.in_ok-unpassed.ensures ∙ ap (λ l. filter (is_unpassed w l) numbers) c.deref-2.ensures.value);
      one_way = one-way-lists w sound c.in_ok-one_way.field-0.items c.in_ok-one_way.ensures;
      no_way_back = trails.stranded;
      keys = gone-lists w sound c.in_ok-gone_keys.field-0.items c.in_ok-gone_keys.ensures;
      things = out-lists w sound ps c.requires.players comes trails.comes c.in_ok-out_of_reach.field-0.items
          (c.in_ok-out_of_reach.ensures ∙ ap (λ l. filter (is_out_of_reach w l ps) numbers) c.deref-3.ensures.value);
    }
