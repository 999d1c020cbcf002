use Rattle.std.proofs.Common.{ℕ, Bool, false, ap, ◌∙◌, replicate, get_or}
use Rattle.std.proofs.lemmas.List.{length-replicate, get_or-replicate}
use Rattle.mud_world.specs.declared.limits.TheConstants.{NUMBERS}
use Rattle.mud_world.specs.State.{unlocked_in}
use Rattle.mud_world.proofs.Marking.{marks-within}
use Rattle.mud_world.proofs.world.World.is_unlocked_by_marks.Goals as goal

pub returns : goal.returns
returns c =
    let w = c.args.self.now in
    let within = λ (a : ℕ).
    ap (λ t. get_or t a false) c.marks_of-marks.ensures
    ∙ marks-within w c.know_sound.ensures c.args.candidate c.args.numbers.now c.requires (replicate NUMBERS false)
    (length-replicate NUMBERS false) (λ o lt. get_or-replicate NUMBERS o false false lt) a in
    c.is_unlocked_in.ensures ∙ ap (λ (held : ℕ → Bool). unlocked_in w 4 held c.args.object) (λ i a. within a i)
