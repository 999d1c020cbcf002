use Rattle.mud_session.proofs.Ones.{script_text_is_one}
use Rattle.mud_session.proofs.laws.one_script_text.Goals as goal

pub returns : goal.returns
returns c = script_text_is_one
