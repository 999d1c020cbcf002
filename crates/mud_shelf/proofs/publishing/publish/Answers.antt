use Rattle.std.proofs.Common.{◌≡◌}
use Rattle.mud_shelf.specs.declared.publishing.PublishFault.TheVariants.{CalledOff}
use Rattle.mud_shelf.proofs.Moments.{renamed, failed}
use Rattle.mud_shelf.proofs.publishing.publish.Goals as goal

pub returns-in-Err-rename-clause-called_off : goal.returns-in-Err-rename-clause-called_off
returns-in-Err-rename-clause-called_off g c = λ fresh why is.
    let fault : c.after_fault.result ≡ CalledOff why = cc in
    c.after_fault.ensures.called_off c.args.text.now
    (renamed (g.N.Draft.stage c.fill.new.draft) (g.N.Draft.stage c.rename.new.self) c.args.text.now
    (c.in_default.ensures.ok fresh) c.in-Err-rename.ensures.err)
    why fault

pub returns-in-Err-rename-clause-crash : goal.returns-in-Err-rename-clause-crash
returns-in-Err-rename-clause-crash g c = λ fresh.
    let has = c.in_default.ensures.ok fresh in
    let moved = c.in-Err-rename.ensures.err in
    failed g.N.Draft.tears c.args.text.now (g.N.Draft.stage c.fill.new.draft) (g.N.Draft.stage c.rename.new.self)
    _ _ _ _ _ _ _ _ has moved
    (λ none moment left. g.met.N.Draft.unknown c.fill.new.draft moment left none)
    (c.fill.ensures.crash fresh) c.rename.ensures.crash
    (c.after_fault.ensures.crash c.args.text.now
    (renamed (g.N.Draft.stage c.fill.new.draft) (g.N.Draft.stage c.rename.new.self) c.args.text.now has moved))
