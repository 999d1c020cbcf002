use Rattle.std.proofs.Common.{◌≡◌, length, sym, ap, ◌∙◌}
use Rattle.mud_chron.specs.Replay.{world_at}
use Rattle.mud_hall.specs.Notices.{world_after}
use Rattle.mud_hall.specs.Desk.{View}
use Rattle.mud_hall.specs.declared.desk.Inner.{Inner}
use Rattle.mud_hall.proofs.Storing.{all_in}
use Rattle.mud_hall.proofs.desk.Desk.world.Goals as goal

pub returns : goal.returns
returns g c =
    let r = c.self.inside.inner.value.replica in
    let whole : r.at ≡ length r.list = ap (λ (v : View). v.at) c.self.view_is ∙ (c.requires
    ∙ sym (ap (λ (v : View). length v.state.seen) c.self.view_is)) in
    c.world.ensures ∙ ap (λ (i : Inner). world_at i.replica.list i.replica.at) c.deref.ensures
    ∙ (all_in r.list r.at whole ∙ ap (λ (v : View). world_after v.state.seen) c.self.view_is)
