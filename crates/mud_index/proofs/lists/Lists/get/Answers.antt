use Rattle.std.proofs.Common.{◌∙◌, [], get_or, sym, ap}
use Rattle.mud_index.specs.Lists.{list_at}
use Rattle.mud_index.proofs.Seen.{list_placed}
use Rattle.mud_index.proofs.lists.Lists.get.Goals as goal

pub returns : goal.returns
returns c =
    c.list_of.ensures
    ∙ ap (λ v. get_or v c.args.holder []) c.deref.ensures.value
    ∙ sym (list_placed c.self.inside.lists.items c.args.holder)
    ∙ ap (λ v. list_at v c.args.holder) c.self.view_is
