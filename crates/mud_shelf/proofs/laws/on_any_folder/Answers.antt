use Rattle.mud_shelf.proofs.Turns.{on_any_folder}
use Rattle.mud_shelf.proofs.laws.on_any_folder.Goals as goal

pub returns : goal.returns
returns c = on_any_folder c.on_any_disk.ensures
