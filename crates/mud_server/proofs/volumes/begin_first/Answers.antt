use Rattle.std.proofs.Common.{rules, arith, ◌≡◌, length, drop, sym, subst, ap}
use Rattle.std.proofs.lemmas.List.{places, length-take-le, length-drop}
use Rattle.mud_server_end.proofs.Keeping.{all_loaded}
use Rattle.mud_server.proofs.volumes.begin_first.Goals as goal

pub returns-clause-ready : goal.returns-clause-ready
returns-clause-ready g c =
    let n = c.args.first.found.count in
    let loaded = c.args.first.loaded.items in
    let same : c.in_ok-more.more.items ≡ drop n loaded = search (rules, places) in
    let rest : c.deref-4.result.now ≡ drop n loaded =
    subst (λ l. l ≡ drop n loaded) (sym c.deref-4.ensures.value) same in
    let held =
    c.in_ok-journal.ensures.holds _ c.requires.found (length-take-le n loaded c.requires.within) in
    record {
      holds = all_loaded _ n loaded c.deref-4.result.now c.in_ok-hall.hall.loaded held rest c.in_ok-hall.ensures.loaded;
      counted = omega (
        arith,
        c.in_ok-journal.ensures.count,
        c.requires.within,
        ap length rest,
        length-drop n loaded,
        ap length c.in_ok-hall.ensures.loaded,
      );
      going = c.in_ok-journal.ensures.going;
    }
