use Rattle.std.proofs.Common.{◌∙◌, ap, sym}
use Rattle.mud_index.specs.Owners.{owner_of}
use Rattle.mud_index.proofs.Texts.{owner_seen}
use Rattle.mud_index.proofs.owners.Owners.owner.Goals as goal

pub returns : goal.returns
returns c = c.copied.ensures ∙ c.get.ensures.value ∙ sym (owner_seen c.args.text.now c.self.inside.owners.entries)
    ∙ ap (λ v. owner_of v c.args.text.now) c.self.view_is
