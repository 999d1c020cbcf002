use Rattle.std.proofs.lemmas.Str.Pattern.{split_once_first}
use Rattle.mud_chron.proofs.Cutting.{cut_found, cut_none}
use Rattle.mud_chron.proofs.fields.cut.Goals as goal

pub returns-in-Some : goal.returns-in-Some
returns-in-Some c =
    let h = split_once_first c.args.sign c.args.text.now _ c.split_once.ensures.cases c.requires in
    let f = rw c.in-Some.is at h in
    rw (f.1, f.2) (cut_found c.args.sign c.args.text.now f.0)

pub returns-in-None : goal.returns-in-None
returns-in-None c =
    let h = split_once_first c.args.sign c.args.text.now _ c.split_once.ensures.cases c.requires in
    let f = rw c.in-None.is at h in
    cut_none c.args.sign c.args.text.now f
