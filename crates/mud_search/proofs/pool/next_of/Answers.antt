-- The next room is the one that was taken; a rest or the end is not a room.
use Rattle.std.proofs.Common.{◌≡◌, ◌<◌, length, subst}
use Rattle.mud_search.specs.declared.task.Task.{Task}
use Rattle.mud_search.specs.declared.pool.Next.TheVariants.{Room, Rest, End}
use Rattle.mud_search.proofs.pool.next_of.Goals as goal

same-room : (a b : Task) → Room a ≡ Room b → a ≡ b
same-room a b e = cc

not-rest : (t : Task) → Rest ≡ Room t → ⊥
not-rest t e = cc

not-end : (t : Task) → End ≡ Room t → ⊥
not-end t e = cc

pub returns-in-Some : goal.returns-in-Some
returns-in-Some g c = λ t e.
    let P : Task → Type 0 = λ x. x.member < length g.J.Job.travellers in
    subst P (same-room c.in-Some.task t e) c.in-Some.ensures.member

pub returns-in-None : goal.returns-in-None
returns-in-None g c = λ t e. absurd (not-rest t e)

pub returns-in-None-2 : goal.returns-in-None-2
returns-in-None-2 g c = λ t e. absurd (not-end t e)
