-- The steps of a room are those of its open exits.
use Rattle.std.proofs.Common.{◌≡◌, ℕ, Option, None, Some, true, false, ◌&&◌, refl, sym, ◌∙◌, ap, subst}
use Rattle.std.specs.Prelude.{Contains}
use Rattle.std.specs.Option.{option_map, option_map_or}
use Rattle.std.proofs.lemmas.Bool.{eqb-true, eq-eqb, false≢true}
use Rattle.mud_world.specs.declared.record.Passage.{Passage}
use Rattle.mud_world.specs.declared.record.Record.{Record}
use Rattle.mud_world.specs.State.{State, record_at, passage_of, source_of, is_number, unlocked}
use Rattle.mud_world.specs.Sound.{IsSound}
use Rattle.mud_world.proofs.Records.{in_bounds}
use Rattle.mud_roads.specs.declared.label.Step.{Step}
use Rattle.mud_roads.specs.Passable.{passable, roads_of, step_by}
use Rattle.mud_roads.specs.Laws.{IsRoad}
use Rattle.mud_roads.proofs.Roads as roads
use Rattle.mud_cert.specs.inner.Ways.{step_of}
use Rattle.mud_cert.specs.inner.Tests.{leaves, numbers}
use Rattle.mud_cert.proofs.Finds.{below-contained}

-- the exit of a step
pub record IsWay (w : State) (p room : ℕ) (s : Step) : Type 0 where
  pub numbered : Contains (numbers w) s.exit
  pub source : source_of w s.exit ≡ Some room
  pub leaves : leaves w room s.exit ≡ true
  pub is_passable : passable w p s.exit ≡ true
  pub is : step_of w s.exit ≡ s

-- an object with ends has a number of the world
pub passage-numbered : (w : State) → IsSound w → (x : ℕ) (a : Passage)
    → passage_of w x ≡ Some a → Contains (numbers w) x
passage-numbered w sound x a e = go (record_at w x) refl
  where
    go : (o : Option Record) → record_at w x ≡ o → Contains (numbers w) x
    go None f = absurd (let bad : None ≡ Some a = sym (rw f refl) ∙ e in cc)
    go (Some r) f = below-contained w.next x (in_bounds 0 w.next x r w.objects sound.rising f).1

-- each road is an exit's
pub road-at : (w : State) → IsSound w → (p room : ℕ) (s : Step) → Contains (roads_of w p room) s → IsWay w p room s
road-at w sound p room s c =
    let r : IsRoad w p room s = roads.road-at w sound p room s c in
    let a : Passage = record { source = room; destination = s.to; cost = s.cost } in
    record {
      numbered = passage-numbered w sound s.exit a r.0;
      source = ap (option_map (λ (q : Passage). q.source)) r.0;
      leaves = ap (λ (o : Option Passage). is_number room (option_map (λ (q : Passage). q.source) o)) r.0
          ∙ eq-eqb room room refl;
      is_passable = r.1;
      is = ap (λ (o : Option Passage). option_map_or (step_by s.exit) o (record { exit = s.exit; to = 0; cost = 0 }))
          r.0;
    }

-- an exit with a source has ends
pub source-passage : (w : State) (room x : ℕ) → source_of w x ≡ Some room
    → (a : Passage) × (passage_of w x ≡ Some a) × (a.source ≡ room)
source-passage w room x e = go (passage_of w x) refl e
  where
    go : (o : Option Passage) → passage_of w x ≡ o → option_map (λ (q : Passage). q.source) o ≡ Some room
        → (a : Passage) × (passage_of w x ≡ Some a) × (a.source ≡ room)
    go None f e = absurd (cc)
    go (Some a) f e = (a, f, cc)

-- the source of an exit that leaves the room
pub leaves-source : (w : State) (room x : ℕ) → leaves w room x ≡ true → source_of w x ≡ Some room
leaves-source w room x e = go (source_of w x) e
  where
    go : (o : Option ℕ) → is_number room o ≡ true → o ≡ Some room
    go None e = absurd (false≢true e)
    go (Some n) e = ap Some (sym (eqb-true room n e))

-- each open exit gives a road
pub road-of : (w : State) → IsSound w → (p room x : ℕ) → source_of w x ≡ Some room → passable w p x ≡ true
    → Contains (roads_of w p room) (step_of w x)
road-of w sound p room x source o =
    let q : (a : Passage) × (passage_of w x ≡ Some a) × (a.source ≡ room) = source-passage w room x source in
    let is : step_of w x ≡ step_by x q.0 =
    ap (λ (o : Option Passage). option_map_or (step_by x) o (record { exit = x; to = 0; cost = 0 })) q.1 in
    let at : ℕ → Passage = λ n. record { source = n; destination = q.0.destination; cost = q.0.cost } in
    let r : IsRoad w p room (step_by x q.0) = (q.1 ∙ ap (λ n. Some (at n)) q.2, o) in
    let P : Step → Type 0 = λ s. Contains (roads_of w p room) s in
    subst P (sym is) (roads.road-to w sound p room (step_by x q.0) r)

pub road-to : (w : State) → IsSound w → (p room x : ℕ) → leaves w room x ≡ true → passable w p x ≡ true
    → Contains (roads_of w p room) (step_of w x)
road-to w sound p room x l o = road-of w sound p room x (leaves-source w room x l) o

-- an open exit has a source
pub open-source : (w : State) (p x : ℕ) → passable w p x ≡ true → (room : ℕ) × (source_of w x ≡ Some room)
open-source w p x e = go (passage_of w x) refl e
  where
    go : (o : Option Passage) → passage_of w x ≡ o
        → option_map_or (λ (a : Passage). unlocked w p x && unlocked w p a.destination) o false ≡ true
        → (room : ℕ) × (source_of w x ≡ Some room)
    go None f e = absurd (false≢true e)
    go (Some a) f e = (a.source, ap (option_map (λ (q : Passage). q.source)) f)

-- the step of an exit names it
pub step-exit : (w : State) (x : ℕ) → (step_of w x).exit ≡ x
step-exit w x = go (passage_of w x)
  where
    go : (o : Option Passage) → (option_map_or (step_by x) o (record { exit = x; to = 0; cost = 0 })).exit ≡ x
    go None = refl
    go (Some a) = refl
