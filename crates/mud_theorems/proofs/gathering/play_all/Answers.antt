use Rattle.std.proofs.Common.{◌≡◌, length, map, Ok, sym, ◌∙◌, ap, subst}
use Rattle.std.specs.Prelude.{IfOk}
use Rattle.std.proofs.lemmas.List.{length-map}
use Rattle.mud_theorems.proofs.Jobs.{if-ok, maps_alike, ok-at}
use Rattle.mud_theorems.proofs.gathering.play_all.Goals as goal

pub returns : goal.returns
returns g c =
    let results = c.in_ok-map_vec.field-0 in
    let players = c.args.players in
    if-ok (λ all. results.items ≡ map Ok all.items)
    (λ all. map g.K.Plays.typed all.items ≡ map g.K.Plays.to_type players.items) c.all_of.result
    (λ all is.
    maps_alike g.K.Plays.typed g.K.Plays.to_type players.items all.items
    (sym (length-map all.items Ok) ∙ ap length (sym is) ∙ sym results.ok.0 ∙ c.in_ok-map_vec.ensures.len
    ∙ players.ok.0)
    (λ i p x lt.
    let each = (c.in_ok-map_vec.ensures.each i (Ok x) lt).1 in
    subst (λ r. IfOk r (λ played. g.K.Plays.typed played ≡ g.K.Plays.to_type each.job))
    (ok-at results.items all.items is i x) each.call.met
    ∙ ap g.K.Plays.to_type (sym (each.job_is p))))
    c.all_of.ensures
