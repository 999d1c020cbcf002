use Rattle.std.proofs.Common.{None, map, take, drop, refl}
use Rattle.std.specs.Prelude.{string_bytes}
use Rattle.mud_hall.specs.Desk.{new_desk}
use Rattle.mud_hall.specs.inner.Desks.{state_of}
use Rattle.mud_hall.proofs.Notices.{notices-none, state_eq}
use Rattle.mud_hall.proofs.desk.Desk.guest_at.Goals as goal

pub returns-clause-new : goal.returns-clause-new
returns-clause-new g c =
    let i = c.args.inner.value in
    let r = i.replica in
    let new = state_of c.args.number None r i.calls.items (map string_bytes i.told.items) in
    record {
      from = c.requires.number.0;
      to = c.requires.number.1;
      begun = c.requires.loaded;
      is = state_eq new (new_desk c.args.number r.list) refl refl refl c.requires.unused.calls
          (rw c.requires.unused.told (notices-none (take r.at r.list) (drop r.at r.list)));
    }
