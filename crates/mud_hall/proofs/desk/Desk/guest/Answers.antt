use Rattle.std.proofs.Common.{◌≡◌, ◌++◌, [], None, map, take, drop, ap, ◌∙◌}
use Rattle.std.specs.Prelude.{string_bytes}
use Rattle.mud_hall.specs.Notices.{notices}
use Rattle.mud_hall.specs.Desk.{View, as_guest}
use Rattle.mud_hall.specs.inner.Desks.{state_of}
use Rattle.mud_hall.specs.declared.desk.Inner.{Inner}
use Rattle.mud_hall.proofs.Notices.{notices-none}
use Rattle.mud_hall.proofs.desk.Desk.guest.Goals as goal

pub returns : goal.returns
returns g c =
    let d = c.self.inside in
    let was : Inner = c.deref_mut.result.now in
    let r = was.replica in
    let none : map string_bytes c.clear.new.self.items ++ notices None (take r.at r.list) (drop r.at r.list) ≡ [] =
    rw c.clear.ensures.items (notices-none (take r.at r.list) (drop r.at r.list)) in
    let view : Inner → View = λ i. record {
      state = as_guest (state_of d.number d.player i.replica i.calls.items (map string_bytes i.told.items));
      at = i.replica.at;
    } in
    (λ i. record {
      state = record { number = d.number; player = None; seen = r.list; calls = was.calls.items; told = none i };
      at = r.at;
    }) ∙ (ap view c.deref_mut.ensures.value
    ∙ ap (λ (v : View). record { state = as_guest v.state; at = v.at }) c.self.view_is)
