use Rattle.std.proofs.Common.{◌≡◌, take, map}
use Rattle.std.specs.Prelude.{string_bytes}
use Rattle.std.specs.List.{flat_map}
use Rattle.mud_session.specs.Session.{wire_text}
use Rattle.mud_session.specs.inner.TurnTexts.{sends}
use Rattle.mud_session.proofs.session.Session.tell.Given as goal

-- the lines so far are sent
abbrev pub invariant-loop-line : goal.invariant-loop-line
invariant-loop-line g l = l.self ≡ sends l.initial.self
    (flat_map wire_text (map string_bytes (take l.line-index l.line-items)))
