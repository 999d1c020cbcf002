-- The trails of the players so far.
use Rattle.std.specs.Prelude.{◌≡◌, ℕ, Bool, not, ◌&&◌, List, length, filter, map, Any}
use Rattle.mud_world.specs.State.{State}
use Rattle.mud_survey.specs.declared.survey.Stranded.{Stranded}
use Rattle.mud_survey.specs.declared.trails.Trails.{Trails}
use Rattle.mud_survey.specs.Ways.{Comes, Passes}
use Rattle.mud_survey.specs.Survey.{Lists, IsStranded, IsStrandedBefore}
use Rattle.mud_survey.specs.inner.Marks.{mark_at, Marks}

-- of these rooms those that are reached, and that are not back
abbrev pub strandings : ℕ → List Bool → List Bool → List ℕ → List Stranded
strandings player reached back rooms =
    map (λ room. record { player = player; room = room })
    (filter (λ room. mark_at reached room && not (mark_at back room)) rooms)

-- the rooms that one of the players reaches, the exits that one of them passes, and the players without a way back
pub record IsTrailed (w : State) (ps : List ℕ) (t : Trails) : Type 0 where
  pub comes : Marks (λ room. Any (λ p. Comes w p room) ps) t.comes.items
  pub comes_size : length t.comes.items ≡ w.next
  pub passes : Marks (λ x. Any (λ p. Passes w p x) ps) t.passes.items
  pub passes_size : length t.passes.items ≡ w.next
  pub stranded : Lists IsStrandedBefore (IsStranded w ps) t.stranded.items
