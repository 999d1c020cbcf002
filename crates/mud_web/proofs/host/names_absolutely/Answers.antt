use Rattle.std.proofs.lemmas.Bool.Decides.{Decides-eqb}
use Rattle.std.proofs.lemmas.Slice.Eq.{slice_eq-Decides}
use Rattle.mud_web.proofs.Hosts.{absolute_decides, other_path}
use Rattle.mud_web.proofs.host.names_absolutely.Goals as goal

pub returns-then-eq : goal.returns-then-eq
returns-then-eq c =
    absolute_decides c.args.target.now c.args.path.now c.split_at.result.0.now c.split_at.result.1.now c.is_site.result
    c.split_at.ensures.front c.split_at.ensures.back ((slice_eq-Decides Decides-eqb _ _ _ c.eq.ensures).0 c.if-eq.true)
    c.is_site.ensures

pub returns-else-eq : goal.returns-else-eq
returns-else-eq c = (
  λ h. absurd (cc (h, c.if-eq.false)),
  λ form. absurd (other_path c.args.target.now c.args.path.now
      c.split_at.result.1.now c.split_at.ensures.back
      (λ same. cc ((slice_eq-Decides Decides-eqb _ _ _ c.eq.ensures).1 same, c.if-eq.false)) form),
)
