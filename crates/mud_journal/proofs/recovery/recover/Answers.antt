use Rattle.std.proofs.Common.{◌≡◌, ◌-◌, List, ℕ, length, sym, ◌∙◌, ap, subst, arith, inr}
use Rattle.mud_chron.specs.declared.format.Format.TheVariants.{Two}
use Rattle.mud_chron.specs.Fronts.{Recovers}
use Rattle.mud_chron.specs.Zeros.{up_to_zero}
use Rattle.mud_journal.specs.Found.{IsBlank, HasJournal}
use Rattle.mud_journal.specs.OpenFaults.{IsRefusedIn}
use Rattle.mud_journal.proofs.Finding.{IsKept, kept_of, refused_as}
use Rattle.mud_journal.proofs.recovery.recover.Goals as goal

pub returns-in-Err-clause-err : goal.returns-in-Err-clause-err
returns-in-Err-clause-err g c =
    let items : List ℕ = c.args.bytes.items in
    let before : c.before_zero.result.now ≡ up_to_zero items =
    c.before_zero.ensures.is ∙ ap up_to_zero c.deref-2.ensures.value in
    refused_as items c.in-Err.fault (λ blank. c.if-is_blank.ensures (subst IsBlank (sym c.deref.ensures.value) blank))
    (subst (λ b. IsRefusedIn b c.in-Err.fault) before c.in-Err.ensures.err)

pub overflow_sub-result : goal.overflow_sub-result
overflow_sub-result g c =
    let items : List ℕ = c.args.bytes.items in
    let before : c.before_zero.result.now ≡ up_to_zero items =
    c.before_zero.ensures.is ∙ ap up_to_zero c.deref-2.ensures.value in
    let k : IsKept items c.in-Ok.front.entries.items c.in-Ok.front.keep =
    kept_of items c.in-Ok.front.entries.items c.in-Ok.front.keep
    (subst (λ b. Recovers b Two c.in-Ok.front.entries.items c.in-Ok.front.keep) before c.in-Ok.ensures.ok)
    c.in-Ok.ensures.begun in
    omega (arith, k.within, c.len-len.ensures)

pub returns-clause-found : goal.returns-clause-found
returns-clause-found g c =
    let items : List ℕ = c.args.bytes.items in
    let before : c.before_zero.result.now ≡ up_to_zero items =
    c.before_zero.ensures.is ∙ ap up_to_zero c.deref-2.ensures.value in
    let k : IsKept items c.in-Ok.front.entries.items c.in-Ok.front.keep =
    kept_of items c.in-Ok.front.entries.items c.in-Ok.front.keep
    (subst (λ b. Recovers b Two c.in-Ok.front.entries.items c.in-Ok.front.keep) before c.in-Ok.ensures.ok)
    c.in-Ok.ensures.begun in
    let long : length items ≡ c.len-len.result = omega (arith, c.len-len.ensures) in
    inr (subst (λ n. HasJournal items c.in-Ok.front.entries.items (n - c.in-Ok.front.keep)) long k.found)

pub returns-clause-text : goal.returns-clause-text
returns-clause-text g c =
    let items : List ℕ = c.args.bytes.items in
    let before : c.before_zero.result.now ≡ up_to_zero items =
    c.before_zero.ensures.is ∙ ap up_to_zero c.deref-2.ensures.value in
    let k : IsKept items c.in-Ok.front.entries.items c.in-Ok.front.keep =
    kept_of items c.in-Ok.front.entries.items c.in-Ok.front.keep
    (subst (λ b. Recovers b Two c.in-Ok.front.entries.items c.in-Ok.front.keep) before c.in-Ok.ensures.ok)
    c.in-Ok.ensures.begun in
    ap (λ f. f.text.items) c.new-found.ensures ∙ c.truncate.ensures.items ∙ k.text
