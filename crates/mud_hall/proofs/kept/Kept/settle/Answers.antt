use Rattle.std.proofs.Common.{◌≡◌, ◌≤◌, ◌+◌, ◌-◌, ℕ, List, length, drop, sym, subst, ap, arith, ◌∙◌}
use Rattle.std.proofs.Common.{length-drop, length-append}
use Rattle.std.specs.Prelude.{All}
use mathlib.Core.List.{IsPrefix}
use Rattle.mud_chron.specs.Entry.{Entry}
use Rattle.mud_row.specs.Known.{Known}
use Rattle.mud_hall.specs.declared.fault.CloseFault.{CloseFault}
use Rattle.mud_hall.specs.Desk.{View}
use Rattle.mud_hall.specs.Settlement.{HasNumber, AreApart, IsSettled, versions_by, entries_made}
use Rattle.mud_hall.specs.inner.CheckFaults.{IsCheckFault}
use Rattle.mud_hall.proofs.Checks.{fault_of}
use Rattle.mud_hall.proofs.kept.Kept.settle.Goals as goal

-- the loaded entries are not longer than the whole
not_longer : (n : ℕ) (loaded h : List Entry) → n ≡ length loaded → IsPrefix loaded h → n ≤ length h
not_longer n loaded h count (more, is) = omega (arith, count, ap length is, length-append loaded more)

-- the number of entries made is the difference of the lengths
made_count : (n : ℕ) (loaded h : List Entry) → n ≡ length loaded → length h - n ≡ length (entries_made loaded h)
made_count n loaded h count = omega (arith, count, length-drop (length loaded) h)

-- the entries checked are the entries made, of the desks as they were handed in
carried : (P : List View → ℕ → List Entry → Type 0) (loaded h new : List Entry) (n : ℕ) (ds was : List View)
    → new ≡ drop n h → n ≡ length loaded → ds ≡ was → P ds (n + 1) new
    → P was (length loaded + 1) (entries_made loaded h)
carried P loaded h new n ds was is count desks p =
    let one : new ≡ entries_made loaded h = is ∙ ap (λ (m : ℕ). drop m h) count in
    let at_desks : P was (n + 1) new = subst (λ (xs : List View). P xs (n + 1) new) desks p in
    let at_new : P was (n + 1) (entries_made loaded h) = subst (λ (es : List Entry). P was (n + 1) es) one at_desks in
    subst (λ (m : ℕ). P was (m + 1) (entries_made loaded h)) count at_new

pub overflow_sub-accepted : goal.overflow_sub-accepted
overflow_sub-accepted g c =
    omega (
      arith,
      c.known.ensures.known,
      not_longer c.args.loaded g.J.HallName.loaded c.in_ok-whole.whole.list c.requires.loaded
          c.in_ok-whole.ensures.gathered.begun,
    )

pub new-new-requires-clause-row : goal.new-new-requires-clause-row
new-new-requires-clause-row g c =
    ap (λ (k : Known). k.row) c.in_ok-again.ensures.copy ∙ c.in_ok-whole.ensures.row ∙ sym c.requires.row

pub new-new-requires-clause-loaded : goal.new-new-requires-clause-loaded
new-new-requires-clause-loaded g c =
    omega (
      arith,
      ap (λ (k : Known). length k.list) c.in_ok-again.ensures.copy,
      not_longer c.args.loaded g.J.HallName.loaded c.in_ok-whole.whole.list c.requires.loaded
          c.in_ok-whole.ensures.gathered.begun,
    )

pub check-requires-clause-few : goal.check-requires-clause-few
check-requires-clause-few g c =
    let h : List Entry = c.in_ok-whole.whole.list in
    let is : c.new-new.result ≡ drop c.args.loaded h =
    c.new-new.ensures ∙ ap (λ (k : Known). drop c.args.loaded k.list) c.in_ok-again.ensures.copy in
    omega (
      arith,
      c.known.ensures.known,
      c.known.ensures.limit,
      ap length is,
      length-drop c.args.loaded h,
      not_longer c.args.loaded g.J.HallName.loaded h c.requires.loaded c.in_ok-whole.ensures.gathered.begun,
    )

pub returns-clause-settled : goal.returns-clause-settled
returns-clause-settled g c =
    let loaded : List Entry = g.J.HallName.loaded in
    let h : List Entry = c.in_ok-whole.whole.list in
    let ds : List View = c.args.desks.now.items in
    let desks : c.deref.result.now ≡ ds = c.deref.ensures.value ∙ c.gather.ensures.same in
    let is : c.new-new.result ≡ drop c.args.loaded h =
    c.new-new.ensures ∙ ap (λ (k : Known). drop c.args.loaded k.list) c.in_ok-again.ensures.copy in
    let C : List View → ℕ → List Entry → Type 0 =
    λ xs m es. All (λ (d : View). d.state.calls ≡ versions_by d.state.number m es) xs in
    let N : List View → ℕ → List Entry → Type 0 = λ xs m es. All (λ (e : Entry). HasNumber xs e.desk) es in
    let carry = λ (P : List View → ℕ → List Entry → Type 0).
    carried P loaded h c.new-new.result c.args.loaded c.deref.result.now ds is c.requires.loaded desks in
    let S : List Entry → Type 0 = λ es. IsSettled loaded ds es in
    subst S (sym (ap (λ (k : Known). k.list) c.again.ensures.same)) (record {
      gathered = c.in_ok-whole.ensures.gathered;
      calls = carry C c.in_default.ensures.calls;
      apart = subst AreApart desks c.in_default.ensures.apart;
      named = carry N c.in_default.ensures.named;
    })

pub returns-clause-accepted : goal.returns-clause-accepted
returns-clause-accepted g c =
    let loaded : List Entry = g.J.HallName.loaded in
    let whole : Known = c.in_ok-whole.whole in
    ap (λ (n : ℕ). n - c.args.loaded) c.known.ensures.known
    ∙ made_count c.args.loaded loaded whole.list c.requires.loaded
    ∙ ap (λ (k : Known). length (entries_made loaded k.list)) (sym c.again.ensures.same)

pub returns-in-Err-clause-fault : goal.returns-in-Err-clause-fault
returns-in-Err-clause-fault g c =
    let loaded : List Entry = g.J.HallName.loaded in
    let h : List Entry = c.in_ok-whole.whole.list in
    let ds : List View = c.args.desks.now.items in
    let desks : c.deref.result.now ≡ ds = c.deref.ensures.value ∙ c.gather.ensures.same in
    let is : c.new-new.result ≡ drop c.args.loaded h =
    c.new-new.ensures ∙ ap (λ (k : Known). drop c.args.loaded k.list) c.in_ok-again.ensures.copy in
    let f : CloseFault = c.in-Err.fault in
    let P : List View → ℕ → List Entry → Type 0 = λ xs m es. IsCheckFault xs m es f in
    fault_of loaded ds h f c.in_ok-whole.ensures.gathered
    (carried P loaded h c.new-new.result c.args.loaded c.deref.result.now ds is c.requires.loaded desks
    c.in-Err.ensures.fault)
