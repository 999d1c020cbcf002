use Rattle.std.proofs.Common.{◌≡◌, Some, arith}
use Rattle.std.proofs.lemmas.Grind.{common_steps}
use Rattle.mud_cert.specs.inner.Reader.{labels_at}
use Rattle.mud_cert.proofs.Machine.{account-read}
use Rattle.mud_cert.proofs.stage.Party.label.Goals as goal

pub new-member-requires : goal.new-member-requires
new-member-requires c =
    let e : labels_at c.self.inside.form c.args.line.now ≡ Some c.in-Some.labels.items = grind (arith, common_steps) in
    account-read c.self.inside.form c.args.player c.args.from c.args.line.now
    c.in-Some.labels.items c.requires.0 c.requires.1 e
