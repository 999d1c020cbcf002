-- The kind of an object does not change when it moves.
use Rattle.std.proofs.Common.{◌≡◌, ℕ, refl}
use Rattle.mud_world.specs.declared.record.Kind.{Kind}
use Rattle.mud_world.specs.declared.record.Kind.TheVariants.{Room, Exit, Thing, Player}
use Rattle.mud_world.specs.State.{is_room_kind, is_exit_kind, is_player_kind}
use Rattle.mud_world.specs.Kinds.{kind_at, kind_passage}

pub same_room : (place : ℕ) (k : Kind) → is_room_kind (kind_at place k) ≡ is_room_kind k
same_room place Room = refl
same_room place (Exit p) = refl
same_room place (Thing p) = refl
same_room place (Player p) = refl

pub same_exit : (place : ℕ) (k : Kind) → is_exit_kind (kind_at place k) ≡ is_exit_kind k
same_exit place Room = refl
same_exit place (Exit p) = refl
same_exit place (Thing p) = refl
same_exit place (Player p) = refl

pub same_player : (place : ℕ) (k : Kind) → is_player_kind (kind_at place k) ≡ is_player_kind k
same_player place Room = refl
same_player place (Exit p) = refl
same_player place (Thing p) = refl
same_player place (Player p) = refl

pub same_passage : (place : ℕ) (k : Kind) → kind_passage (kind_at place k) ≡ kind_passage k
same_passage place Room = refl
same_passage place (Exit p) = refl
same_passage place (Thing p) = refl
same_passage place (Player p) = refl
