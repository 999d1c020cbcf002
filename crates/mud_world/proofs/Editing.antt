-- The record of an object changes, but not its place and its ends.
use Rattle.std.proofs.Common.{◌≡◌, ℕ, Some, ap}
use Rattle.std.specs.Option.{option_map, option_map_or}
use Rattle.mud_world.specs.declared.record.Record.{Record}
use Rattle.mud_world.specs.declared.record.Kind.{Kind}
use Rattle.mud_world.specs.Kinds.{kind_place, kind_passage}
use Rattle.mud_world.specs.State.{State, record_at}
use Rattle.mud_world.specs.Legal.{with_record_changed}
use Rattle.mud_world.specs.inner.Fields.{with_record}

pub changed_by : (w : State) (n : ℕ) (f : Record → Record) (r : Record) → record_at w n ≡ Some r
    → with_record_changed w n f ≡ with_record w n (f r)
changed_by w n f r at = ap (λ v. option_map_or (λ r. with_record w n (f r)) v w) at

-- both have the same place and the same ends
pub record SameLinks (k l : Kind) : Type 0 where
  pub place : kind_place k ≡ kind_place l
  pub source : option_map (λ p. p.source) (kind_passage k) ≡ option_map (λ p. p.source) (kind_passage l)
  pub destination : option_map (λ p. p.destination) (kind_passage k) ≡ option_map (λ p. p.destination) (kind_passage l)
