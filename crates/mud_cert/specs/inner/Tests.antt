-- The tests of a certificate in order. Doubts and Valid define their meaning.
use Rattle.std.specs.Prelude.{ℕ, ◌+◌, nat_eq, nat_lt, nat_le, not, Bool, true, false, ◌&&◌, ◌||◌, if◌then◌else◌}
use Rattle.std.specs.Prelude.{List, [], ◌∷◌, ◌++◌, find, Option, None, Some, option_map, option_and_then, is_none}
use Rattle.std.specs.List.{list_any, list_all, range_with_len}
use Rattle.mud_roads.specs.declared.label.Label.{Label}
use Rattle.mud_roads.specs.declared.label.Step.{Step}
use Rattle.mud_roads.specs.Walks.{total, after}
use Rattle.mud_roads.specs.Labels.{start_label}
use Rattle.mud_roads.specs.Passable.{passable}
use Rattle.mud_world.specs.State.{State, is_player, is_room, place_of, source_of, is_number}
use Rattle.mud_cert.specs.declared.cert.Form.{Form}
use Rattle.mud_cert.specs.declared.cert.Conclusion.{Conclusion}
use Rattle.mud_cert.specs.declared.cert.Conclusion.TheVariants.{Route, Meet}
use Rattle.mud_cert.specs.declared.doubt.Doubt.{Doubt}
use Rattle.mud_cert.specs.declared.doubt.Doubt.TheVariants as doubts
use Rattle.mud_cert.specs.Certificate.{Account, Certificate, hop_of}
use Rattle.mud_cert.specs.Lookup.{label_at}
use Rattle.mud_cert.specs.inner.Ways.{step_of, steps_of, end_of, arrival_of}
use Rattle.mud_cert.specs.inner.Agreement.{greatest_cost}

-- a smaller cost, or an equal cost and no more exits
abbrev pub is_at_most : Label → Label → Bool
is_at_most a b = nat_lt a.cost b.cost || (nat_eq a.cost b.cost && nat_le a.exits b.exits)

-- there is a label, and it is this one
abbrev pub is_label : Option Label → Label → Bool
is_label (Some k) l = nat_eq k.cost l.cost && nat_eq k.exits l.exits
is_label None l = false

-- x is an exit that leaves the room
abbrev pub leaves : State → ℕ → ℕ → Bool
leaves w room x = is_number room (source_of w x)

-- the place, counted from i, of the first exit that does not leave the room where the walk has arrived
abbrev pub first_break : State → ℕ → ℕ → List ℕ → Option ℕ
first_break w at i [] = None
first_break w at i (x ∷ xs) = if leaves w at x then first_break w (step_of w x).to (i + 1) xs else Some i

-- the place, counted from i, of the first exit that is not open to p
abbrev pub first_lock : State → ℕ → ℕ → List ℕ → Option ℕ
first_lock w p i [] = None
first_lock w p i (x ∷ xs) = if passable w p x then first_lock w p (i + 1) xs else Some i

-- a walk ends at the room and has exactly this cost
abbrev pub is_there_at : ℕ → ℕ → Option (ℕ × ℕ) → Bool
is_there_at room cost None = false
is_there_at room cost (Some a) = nat_eq a.0 room && nat_eq a.1 cost

-- a walk ends at the room and has at most this cost
abbrev pub is_there_within : ℕ → ℕ → Option (ℕ × ℕ) → Bool
is_there_within room cost None = false
is_there_within room cost (Some a) = nat_eq a.0 room && nat_le a.1 cost

-- the cost and the room do not come after the other ones
abbrev pub is_no_worse : ℕ → ℕ → ℕ → Option ℕ → Bool
is_no_worse cost room other None = true
is_no_worse cost room other (Some c) = nat_lt cost c || (nat_eq cost c && nat_le room other)

-- the labels of the first member; they contain each room that is labelled for all
abbrev pub first_labels : List Account → List (ℕ × Label)
first_labels [] = []
first_labels (m ∷ ms) = m.labels

-- no walk is given
abbrev pub stays : Account → Bool
stays m = is_none m.walk

-- no walk is given, and the room has no label
abbrev pub misses : ℕ → Account → Bool
misses room m = stays m && is_none (label_at m room)

-- the conclusion agrees with the walks and the labels
abbrev pub concludes : State → List Account → Conclusion → Bool
concludes w ms (Route to (Some cost)) = is_room w to && list_all (λ m. is_there_at to cost (arrival_of w m)) ms
concludes w ms (Route to None) = is_room w to && list_all (misses to) ms
concludes w ms (Meet (Some a)) =
    is_room w a.room
    && list_all (λ m. is_there_within a.room a.cost (arrival_of w m)) ms
    && list_any (λ m. is_there_at a.room a.cost (arrival_of w m)) ms
    && list_all (λ (e : ℕ × Label). is_no_worse a.cost a.room e.0 (greatest_cost ms e.0)) (first_labels ms)
concludes w ms (Meet None) =
    list_all stays ms && list_all (λ (e : ℕ × Label). is_none (greatest_cost ms e.0)) (first_labels ms)

-- the first of two doubts that exists, if one does
infixr 5 ◌or◌
abbrev pub ◌or◌ : Option Doubt → Option Doubt → Option Doubt
(Some d) or o = Some d
None or o = o

-- the doubt, unless the test passes
abbrev pub unless : Bool → Doubt → Option Doubt
unless true d = None
unless false d = Some d

-- all numbers that were given to objects, sorted
abbrev pub numbers : State → List ℕ
numbers w = range_with_len 0 w.next

-- the member is a player of the world, and not an earlier member
abbrev pub is_new : State → List Account → Account → Bool
is_new w earlier m = is_player w m.player && not (list_any (λ e. nat_eq e.player m.player) earlier)

-- the member stands where the certificate claims
abbrev pub stands : State → Account → Bool
stands w m = is_number m.from (place_of w m.player)

-- the member's start is labelled 0, and each labelled number is a room
abbrev pub is_started : State → Account → Bool
is_started w m = is_label (label_at m m.from) start_label && list_all (λ (e : ℕ × Label). is_room w e.0) m.labels

-- from a labelled room the step leads to a label that is at most the label after the step
abbrev pub is_kept : ℕ → Option Label → Option Label → Step → Bool
is_kept hop None there s = true
is_kept hop (Some l) None s = false
is_kept hop (Some l) (Some k) s = is_at_most k (after hop l s)

-- the label of the room that exit x leaves
abbrev pub label_behind : State → Account → ℕ → Option Label
label_behind w m x = option_and_then (label_at m) (source_of w x)

-- exit x is open to the member, and leads from a labelled room to one without a label or with a label that is too great
abbrev pub breaks : State → Form → Account → ℕ → Bool
breaks w form m x =
    passable w m.player x
    && not (is_kept (hop_of form) (label_behind w m x) (label_at m (step_of w x).to) (step_of w x))

-- the first doubt of a walk
abbrev pub walk_doubt : State → Form → Account → List ℕ → Option Doubt
walk_doubt w form m walk =
    let ss = steps_of w walk in
    option_map (λ i. doubts.WalkBroken m.player i) (first_break w m.from 1 walk)
    or option_map (λ i. doubts.WalkLocked m.player i) (first_lock w m.player 1 walk)
    or unless (is_label (label_at m (end_of m.from ss)) (total (hop_of form) ss)) (doubts.WalkCost m.player)

-- the first doubt of a walk, if one is given; a member may have no walk
abbrev pub given_doubt : State → Form → Account → Option (List ℕ) → Option Doubt
given_doubt w form m None = None
given_doubt w form m (Some walk) = walk_doubt w form m walk

-- the first doubt of a member that follows these
abbrev pub member_doubt : State → Form → List Account → Account → Option Doubt
member_doubt w form earlier m =
    unless (is_new w earlier m) (doubts.NoSuchPlayer m.player)
    or unless (stands w m) (doubts.WrongStart m.player)
    or unless (is_started w m) (doubts.StartLabel m.player)
    or option_map (λ x. doubts.Arc m.player x) (find (breaks w form m) (numbers w))
    or given_doubt w form m m.walk

-- the first doubt of members that follow these
abbrev pub members_doubt : State → Form → List Account → List Account → Option Doubt
members_doubt w form earlier [] = None
members_doubt w form earlier (m ∷ ms) = member_doubt w form earlier m or members_doubt w form (earlier ++ m ∷ []) ms

-- the first doubt of a certificate
abbrev pub first_doubt : State → Certificate → Option Doubt
first_doubt w c = members_doubt w c.form [] c.members or unless (concludes w c.members c.conclusion) doubts.Conclusion
