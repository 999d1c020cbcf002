use Rattle.std.proofs.Common.{◌≡◌, Some, Option, List, ℕ, arith}
use Rattle.std.specs.Prelude.{option_map}
use Rattle.std.proofs.lemmas.Grind.{common_steps}
use Rattle.mud_cert.specs.Certificate.{Account}
use Rattle.mud_cert.specs.inner.Reader.{walk_at}
use Rattle.mud_cert.proofs.Machine.{account-walks}
use Rattle.mud_cert.proofs.stage.Party.walk.Goals as goal

pub new-requires : goal.new-requires
new-requires c =
    let m : Account = record {
      player = c.member.inside.player;
      from = c.member.inside.from;
      labels =
          c.member.inside.labels.items;
      walk = option_map (λ w. w.items) c.member.inside.walk;
    } in
    let w : Option (List ℕ) = option_map (λ w. w.items) c.in-Some.walk in
    let e : walk_at c.args.line.now ≡ Some w = grind (arith, common_steps) in
    account-walks m c.args.line.now w c.member.invariant e
