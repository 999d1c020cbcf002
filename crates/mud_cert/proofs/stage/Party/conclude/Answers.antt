use Rattle.std.proofs.Common.{◌≡◌, true, length, sym, subst, arith}
use Rattle.std.proofs.lemmas.Grind.{common_steps}
use Rattle.mud_cert.specs.inner.Opening.{Opening, IsOpening}
use Rattle.mud_cert.specs.inner.Stages.{suits}
use Rattle.mud_cert.proofs.Heads.{conclusion-takes}
use Rattle.mud_cert.proofs.Machine.{closes}
use Rattle.mud_cert.proofs.stage.Party.conclude.Goals as goal

pub new-requires : goal.new-requires
new-requires c =
    let p : Opening =
    record { form = c.self.inside.form; version = c.self.inside.version; members = c.self.inside.members.items } in
    let s : suits (length p.members) c.in_ok-conclusion.conclusion ≡ true = grind (arith, common_steps) in
    closes p c.in_ok-conclusion.conclusion (subst IsOpening (sym c.self.view_is) c.requires)
    (conclusion-takes c.args.line.now c.in_ok-conclusion.conclusion (sym c.in_ok-conclusion.ensures)).1 s
