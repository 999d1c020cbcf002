use Rattle.std.proofs.Common.{refl}
use Rattle.std.proofs.lemmas.Bool.Decides.{Decides-eqb}
use Rattle.std.proofs.lemmas.Slice.Eq.{slice_eq-Decides}
use Rattle.mud_web.proofs.Heads.{fit_at, played_at}
use Rattle.mud_web.proofs.asking.route.Goals as goal

pub returns-then-not-names-clause-answers : goal.returns-then-not-names-clause-answers
returns-then-not-names-clause-answers c h at = (
  fit_at c.args.head.now c.args.spans.now c.args.request.now h at (c.has_host.ensures.0 c.if-not-has_host.false)
      (rw c.of-method.ensures at (c.is_read.ensures.0 c.if-not-is_read.false)),
  λ page. cc (c.is_page.ensures.1 (rw (c.of-target.ensures, at.path) page), c.if-is_page.false),
  λ play. cc (c.names.ensures.1 (rw (c.of-target.ensures, at.path) play), c.if-not-names.true),
)

pub returns-clause-answers : goal.returns-clause-answers
returns-clause-answers c h at =
    let get = slice_eq-Decides Decides-eqb c.of-method.result.now c.as_slice.result.now c.eq.result c.eq.ensures in
    played_at c.args.head.now c.args.spans.now c.args.request.now h c.args.origin.now _ c.play.result at
    (c.has_host.ensures.0 c.if-not-has_host.false)
    (rw c.of-method.ensures at (c.is_read.ensures.0 c.if-not-is_read.false))
    (rw c.of-target.ensures at (c.names.ensures.0 c.if-not-names.false))
    (rw (c.of-method.ensures, c.as_slice.ensures) at get) refl refl c.play.ensures.answers
