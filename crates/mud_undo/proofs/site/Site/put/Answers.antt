use Rattle.std.proofs.Common.{ap, sym, ◌∙◌}
use Rattle.mud_world.specs.Legal.{refusal}
use Rattle.mud_undo.proofs.Built.{put_built, refused-push}
use Rattle.mud_undo.proofs.site.Site.put.Goals as goal

pub returns-in-Err-clause-put : goal.returns-in-Err-clause-put
returns-in-Err-clause-put c =
    let w = c.args.self.now.world in
    refused-push c.args.self.now.entries.items w c.args.entry.now c.in-Err.field-0 c.requires
    (ap (refusal w) (sym c.change.ensures.change) ∙ c.in-Err.ensures)

pub returns-clause-built : goal.returns-clause-built
returns-clause-built c =
    put_built c.args.self.now.entries.items c.push.new.self.items c.args.self.now.world c.apply.new.self
    c.args.entry.now c.in_ok-copy.field-0 c.change.result.now c.change-2.result.now c.requires
    c.change.ensures.change c.in-Ok.ensures c.change-2.ensures.change c.in_ok-apply.ensures.ok
    c.in_ok-copy.ensures c.in_ok-push.ensures.items
