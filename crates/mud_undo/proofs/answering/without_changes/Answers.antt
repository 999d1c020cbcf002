use Rattle.std.proofs.Common.{◌≡◌, ◌<◌, refl, sym, subst, length, ◌∙◌, rules}
use Rattle.std.specs.Prelude.{◌⊎◌}
use Rattle.std.proofs.lemmas.Result.{IfErr-weaker}
use Rattle.mud_undo.specs.declared.choice.Choice.TheVariants.{Versions}
use Rattle.mud_undo.specs.Answer.{MeansVersions, IsNoUndo, HasNoUndo}
use Rattle.mud_undo.proofs.Reasons.{no_undo, means_all, all_within}
use Rattle.mud_undo.proofs.answering.without_changes.Goals as goal

pub returns-in-Some-clause-err : goal.returns-in-Some-clause-err
returns-in-Some-clause-err c =
    let entries = c.in-Ok.whole.entries.items in
    let count : c.len.result ≡ length entries = search rules in
    let told : c.len-in-Some.result ≡ length entries = search rules in (
      entries,
      c.in-Ok.whole.torn,
      c.in-Ok.ensures.keeps,
      (
        told,
        subst (λ n. (c.in-Some.version ≡ 0) ⊎ (n < c.in-Some.version)) (count ∙ sym told) c.in-Some.ensures.0,
        λ choice means. c.in-Some.ensures.1
            (all_within c.args.versions.items c.deref.result.now (length entries) c.len.result
            (sym c.deref.ensures.value) (sym count) (means_all c.args.versions.items entries choice means)),
      ),
    )

pub returns-clause-err : goal.returns-clause-err
returns-clause-err c =
    let entries = c.in-Ok.whole.entries.items in
    let count : c.len.result ≡ length entries = search rules in
    IfErr-weaker c.undo.result (IsNoUndo entries (λ d. d ≡ Versions c.args.versions))
    (HasNoUndo c.args.kind c.args.bytes.now (MeansVersions c.args.versions.items))
    (no_undo c.args.kind c.args.bytes.now c.in-Ok.whole.torn entries
    (MeansVersions c.args.versions.items) (Versions c.args.versions) c.in-Ok.ensures.keeps (
      refl,
      all_within c.deref.result.now c.args.versions.items c.len.result (length entries) c.deref.ensures.value count
          c.in_default.ensures,
    ))
    c.undo.ensures.err
