use Rattle.std.proofs.Common.{ℕ, List, sym, subst, arith}
use Rattle.std.specs.List.{enumerate_from}
use Rattle.std.specs.Prelude.{nat_eq, Ok, Err, OnErr}
use Rattle.std.specs.declared.result.Result.{Result}
use Rattle.std.proofs.lemmas.Result.{on_ok_weaker, on_err_weaker}
use Rattle.mud_index.specs.Rising.{insert}
use Rattle.mud_index.specs.Lists.{AreSame, AreChanged}
use Rattle.mud_index.proofs.Seen.{changed_later, same_seen}
use Rattle.mud_index.proofs.lists.Lists.insert.Goals as goal

on_any_err : {T E P : Type 0} (r : Result T E) → P → OnErr r P
on_any_err (Ok v) is = tt
on_any_err (Err e) is = is

pub returns-in_err-fill-clause-err : goal.returns-in_err-fill-clause-err
returns-in_err-fill-clause-err c =
    on_any_err c.from_residual.result
    (subst (λ (v : List (ℕ × List ℕ)). AreSame v (enumerate_from 0 c.fill.new.lists.items)) c.self.view_is
    (same_seen c.self.inside.lists.items c.fill.new.lists.items c.fill.ensures.same))

pub returns-clause-ok : goal.returns-clause-ok
returns-clause-ok c =
    let f = insert c.args.number in
    let old = c.self.inside.lists.items in
    let new = c.insert_at.new.lists.items in
    on_ok_weaker c.insert_at.result
    (λ is.
    subst (λ (v : List (ℕ × List ℕ)). AreChanged (λ n. nat_eq n c.args.holder) f v (enumerate_from 0 new))
    c.self.view_is
    (subst
    (λ (v : List (List ℕ)). AreChanged (λ n. nat_eq n c.args.holder) f (enumerate_from 0 old) (enumerate_from 0 v))
    (sym is)
    (changed_later old c.fill.new.lists.items c.args.holder f c.fill.ensures.same
    (omega (arith, c.in_ok-fill.ensures.len)))))
    c.insert_at.ensures.ok

pub returns-clause-err : goal.returns-clause-err
returns-clause-err c =
    let old = c.self.inside.lists.items in
    on_err_weaker c.insert_at.result
    (λ is.
    subst (λ (v : List (ℕ × List ℕ)). AreSame v (enumerate_from 0 c.insert_at.new.lists.items)) c.self.view_is
    (subst (λ (v : List (List ℕ)). AreSame (enumerate_from 0 old) (enumerate_from 0 v)) (sym is)
    (same_seen old c.fill.new.lists.items c.fill.ensures.same)))
    c.insert_at.ensures.err
