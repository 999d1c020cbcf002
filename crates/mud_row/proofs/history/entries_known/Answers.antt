use Rattle.std.proofs.Common.{◌≡◌, ◌+◌, ◌∙◌, ℕ, List, [], ◌∷◌, ◌++◌, take, Some, slice_get, get_or, sym, ap, arith}
use Rattle.std.proofs.lemmas.List.{take_all, take_more}
use Rattle.std.proofs.lemmas.Option.{slice_get_within, get_or_from_slice_get}
use Rattle.mud_chron.specs.Entry.{Entry}
use Rattle.mud_row.specs.Known.{Known, entry_at}
use Rattle.mud_row.proofs.Lines.{entry_at-place}
use Rattle.mud_row.proofs.history.entries_known.Goals as goal

-- one more entry was copied
copied : (es : List Entry) (n : ℕ) (e copy : Entry) (old new : List Entry) → slice_get es n ≡ Some e → copy ≡ e
    → old ≡ take n es → new ≡ old ++ copy ∷ [] → new ≡ take (n + 1) es
copied es n e copy old new at same so is =
    is ∙ ap (λ (xs : List Entry). xs ++ copy ∷ []) so
    ∙ ap (λ (x : Entry). take n es ++ x ∷ []) (same ∙ sym (get_or_from_slice_get es n e e at))
    ∙ sym (take_more es n e (slice_get_within es n e at))

pub loop-n-preserved : goal.loop-n-preserved
loop-n-preserved c =
    let es : List Entry = c.args.pass.now.list in
    let n : ℕ = c.loop-n.n in
    let at : slice_get es n ≡ Some c.in-Some.entry.now =
    sym (entry_at-place es n) ∙ sym (c.in-Some.ensures.entry
    ∙ ap (λ (p : Known). entry_at p.list (n + 1)) c.loop-n.invariant.0) in (
      c.entry.ensures.same ∙ c.loop-n.invariant.0,
      copied es n c.in-Some.entry.now c.in_ok-copy.field-0 c.loop-n.entries.items c.push.new.self.items at
          c.in_ok-copy.ensures c.loop-n.invariant.1 c.in_ok-push.ensures.items,
    )
