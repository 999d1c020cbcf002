use Rattle.std.proofs.Common.{inl, inr, refl, rules, ◌≡◌, ◌++◌, ◌⊎◌, ℕ, List, length, string_bytes, Some}
use Rattle.std.proofs.lemmas.Result.{on_ok_weaker}
use Rattle.mud_hall.specs.Settlement.{IsCloseFault, IsSettled, entries_made}
use Rattle.mud_explain.specs.inner.Steps.{Settles, GoesOn}
use Rattle.mud_explain.specs.inner.StepLines.{settled_lines, unsettled_line}
use Rattle.mud_explain.proofs.play.Play.settle.Goals as goal

pub returns-in-Ok : goal.returns-in-Ok
returns-in-Ok g c =
    let settled : IsSettled g.J.HallName.loaded c.args.handed.items c.in-Ok.settled.history = search rules in
    let accepted : c.in-Ok.settled.accepted ≡ length (entries_made g.J.HallName.loaded c.in-Ok.settled.history)
    = search rules in
    let loaded : c.in-Ok.settled.loaded ≡ length g.J.HallName.loaded = search rules in
    let told : settled_lines c.in-Ok.settled.accepted c.in-Ok.settled.loaded c.in-Ok.settled.history
    ≡ settled_lines (length (entries_made g.J.HallName.loaded c.in-Ok.settled.history))
    (length g.J.HallName.loaded) c.in-Ok.settled.history
    = rw accepted (rw loaded refl) in
    on_ok_weaker {Q = (told : List ℕ) × (string_bytes c.push_settled.new.out ≡ string_bytes c.args.out.now ++ told)
    × (Settles g.J.HallName.loaded c.args.handed.items c.args.self.now.hall told
    ⊎ GoesOn g.J.HallName.loaded c.args.handed.items c.args.self.now.desks.items (Some c.args.hall)
    c.args.self.now.hall c.args.self.now.desks.items told)} c.push_settled.result
    (λ said. (
      settled_lines c.in-Ok.settled.accepted c.in-Ok.settled.loaded c.in-Ok.settled.history,
      said,
      inl (c.in-Ok.settled.history, settled, c.requires, told),
    ))
    c.push_settled.ensures

pub returns-in_ok-take_back-in-Err : goal.returns-in_ok-take_back-in-Err
returns-in_ok-take_back-in-Err g c =
    let fault : IsCloseFault g.J.HallName.loaded c.args.handed.items c.in-Err.fault = search rules in
    let hall : Some c.in-Err.hall ≡ Some c.args.hall = search rules in
    let desks : c.take_back.new.desks.items ≡ c.args.self.now.desks.items ++ c.args.handed.items = search rules in
    on_ok_weaker {Q = (told : List ℕ) × (string_bytes c.push_unsettled.new.out ≡ string_bytes c.args.out.now ++ told)
    × (Settles g.J.HallName.loaded c.args.handed.items (Some c.in-Err.hall) told
    ⊎ GoesOn g.J.HallName.loaded c.args.handed.items c.args.self.now.desks.items (Some c.args.hall)
    (Some c.in-Err.hall) c.take_back.new.desks.items told)} c.push_unsettled.result
    (λ said. (unsettled_line c.in-Err.fault, said, inr (c.in-Err.fault, fault, hall, desks, refl)))
    c.push_unsettled.ensures
