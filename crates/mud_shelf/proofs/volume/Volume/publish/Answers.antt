use Rattle.std.proofs.Common.{◌≡◌, ◌∙◌, ap, subst, true, Err}
use Rattle.mud_shelf.specs.Draft.{IsFresh}
use Rattle.mud_shelf.specs.Volume.{is_at}
use Rattle.mud_shelf.proofs.Volumes.{fresh_of, off_at}
use Rattle.mud_shelf.proofs.volume.Volume.publish.Goals as goal

pub invariant_of-self-in-Err-CalledOff : goal.invariant_of-self-in-Err-CalledOff
invariant_of-self-in-Err-CalledOff g c =
    let fresh : IsFresh (g.N.Draft.stage c.args.self.now.draft) =
    fresh_of (g.N.Draft.stage c.args.self.now.draft)
    (subst (λ s. is_at (g.N.Draft.stage c.args.self.now.draft) s ≡ true) c.requires c.args.self.now.stands) in
    record {
      stands = off_at (g.N.Draft.stage c.publish.new.draft)
          (c.publish.ensures.called_off fresh c.in-Err-CalledOff.fault
          (c.in-Err-CalledOff.is ∙ ap Err c.in-Err-CalledOff.field-0-is));
    }
