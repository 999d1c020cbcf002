use Rattle.std.proofs.Common.{◌∙◌, [], get_or, sym, ap}
use Rattle.std.specs.Prelude.{nat_eq}
use Rattle.std.specs.List.{list_any}
use Rattle.mud_index.specs.Lists.{list_at}
use Rattle.mud_index.proofs.Seen.{list_placed}
use Rattle.mud_index.proofs.lists.Lists.has.Goals as goal

pub returns : goal.returns
returns c =
    c.has_at.ensures
    ∙ ap (λ v. list_any (nat_eq c.args.number) (get_or v c.args.holder [])) c.deref.ensures.value
    ∙ ap (λ v. list_any (nat_eq c.args.number) v)
    (sym (list_placed c.self.inside.lists.items c.args.holder)
    ∙ ap (λ v. list_at v c.args.holder) c.self.view_is)
