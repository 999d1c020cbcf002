use Rattle.std.proofs.Common.{◌≡◌, List, [], ◌++◌, sym, ap, ◌∙◌}
use Rattle.mud_nvt.specs.UnitViews.{all_shown}
use Rattle.mud_nvt.specs.Units.{Given}
use Rattle.mud_explain.proofs.units.units_of.Goals as goal

-- there was no unit before, and no bytes complete none
pub returns-in-Ok : goal.returns-in-Ok
returns-in-Ok c =
    let grown = c.in-Ok.ensures.ok.grows [] c.new-terminal.ensures in
    let before : all_shown c.new-given.result.items ≡ [] = ap all_shown c.new-given.ensures.items in
    grown.1 ∙ ap (λ (l : List Given). l ++ grown.0) before ∙ sym grown.2
