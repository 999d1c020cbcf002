use Rattle.std.proofs.Common.{◌≡◌, ℕ, List, ◌++◌, ◌∙◌, ap}
use Rattle.std.proofs.lemmas.Bool.Decides.{Decides-eqb}
use Rattle.std.proofs.lemmas.Slice.Eq.{strip_prefix_is}
use Rattle.mud_chron.proofs.reading.format_of.Goals as goal

pub returns-in-Some-strip_prefix : goal.returns-in-Some-strip_prefix
returns-in-Some-strip_prefix c =
    let h = strip_prefix_is Decides-eqb c.args.bytes.now c.as_bytes-2.result.now c.strip_prefix-2.result
    c.strip_prefix-2.ensures.cases in
    let parts : c.args.bytes.now ≡ c.as_bytes-2.result.now ++ c.in-Some-strip_prefix.rest.now =
    rw c.in-Some-strip_prefix.is at h in
    parts
    ∙ ap (λ (x : List ℕ). x ++ c.in-Some-strip_prefix.rest.now) (c.as_bytes-2.ensures.value ∙ c.first_line-2.ensures)
