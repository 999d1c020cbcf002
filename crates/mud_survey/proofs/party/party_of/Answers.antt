use Rattle.std.proofs.Common.{ap, map, ◌∙◌}
use Rattle.std.specs.Prelude.{filter}
use Rattle.std.specs.List.{range_with_len}
use Rattle.mud_survey.specs.inner.Meant.{is_in}
use Rattle.mud_survey.proofs.Parties.{party-is}
use Rattle.mud_survey.proofs.party.party_of.Goals as goal

pub returns-clause-ok : goal.returns-clause-ok
returns-clause-ok c =
    let w = c.args.world.now in
    party-is w c.next_number-known.ensures.sound (map (λ s. s.now) c.args.words.now) c.in-Ok.meant.items
    c.in-Ok.ensures.ok c.in_ok-party.party.items
    (c.in_ok-party.ensures ∙ ap (λ l. filter (is_in w l) (range_with_len 0 w.next)) c.deref.ensures.value)
