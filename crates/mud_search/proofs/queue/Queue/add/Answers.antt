use Rattle.std.proofs.Common.{Some, set, ap, ◌∙◌}
use Rattle.mud_search.specs.declared.queue.Entry.{Entry}
use Rattle.mud_search.proofs.Heaps.{written_labels}
use Rattle.mud_search.proofs.queue.Queue.add.Goals as goal

pub returns : goal.returns
returns c =
    let heap = c.admit-at.new.self in
    let entry : Entry = record { label = c.args.label; room = c.args.room } in
    c.mend.ensures.labels
    ∙ written_labels heap.entries.items heap.places.items heap.waiting c.admit-at.result entry
    c.admit-at.ensures.matched c.admit-at.ensures.fits c.admit-at.ensures.within c.admit-at.ensures.here
    ∙ c.admit-at.ensures.labels (Some c.args.label)
    ∙ ap (λ xs. set xs c.args.room (Some c.args.label)) c.self.view_is
