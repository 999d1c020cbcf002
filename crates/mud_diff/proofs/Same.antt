-- Worlds that differ in nothing are the same.
use Rattle.std.proofs.Common.{◌≡◌, ◌≢◌, ℕ, ◌⊎◌, inl, inr, List, [], ◌∷◌, refl, ap, ⊎_elim}
use Rattle.std.specs.Prelude.{Option, Some, None}
use Rattle.std.specs.Option.{option_map}
use Rattle.std.proofs.lemmas.Bool.{cases_eq}
use Rattle.mud_key.specs.declared.operator.Operator.{Operator}
use Rattle.mud_key.specs.declared.operator.Operator.TheVariants.{And, Or}
use Rattle.mud_key.specs.Tree.{Tree, Has, Asks, Not, Join}
use Rattle.mud_world.specs.Kinds.{kind_place, kind_passage}
use Rattle.mud_world.specs.State.{record_at}
use Rattle.mud_world.specs.declared.record.Kind.{Kind}
use Rattle.mud_world.specs.declared.record.Kind.TheVariants as kinds
use Rattle.mud_world.specs.declared.record.Record.{Record}
use Rattle.mud_diff.proofs.Objects.{same_worlds}
use Rattle.mud_diff.specs.declared.difference.What.{What}
use Rattle.mud_diff.specs.declared.difference.What.TheVariants.{Added, Removed, Names, Owner, Kind as KindOf, Place}
use Rattle.mud_diff.specs.declared.difference.What.TheVariants.{Source, Destination, Cost, Key}
use Rattle.mud_diff.specs.Differences.{AreAlike, DiffersIn, source_in, destination_in, cost_in}
use Rattle.mud_diff.specs.Laws.{SameWithoutDifference, NothingDiffersFromItself}

-- two values are the same, or not
abbrev Decided : {A : Type 0} → A → A → Type 0
Decided a b = (a ≡ b) ⊎ (a ≢ b)

-- values that do not differ are the same
sure : {A : Type 0} (a b : A) → Decided a b → (a ≢ b → ⊥) → a ≡ b
sure a b (inl same) not = same
sure a b (inr other) not = absurd (not other)

numbers : (xs ys : List ℕ) → Decided xs ys
numbers [] [] = inl refl
numbers [] (y ∷ ys) = inr (λ e. absurd (cc))
numbers (x ∷ xs) [] = inr (λ e. absurd (cc))
numbers (x ∷ xs) (y ∷ ys) =
    ⊎_elim
    (λ (one : x ≡ y). ⊎_elim
    (λ (rest : xs ≡ ys). inl (λ i. one i ∷ rest i))
    (λ (other : xs ≢ ys). inr (λ e. other (cc)))
    (numbers xs ys))
    (λ (other : x ≢ y). inr (λ e. other (cc)))
    (cases_eq x y)

texts : (xs ys : List (List ℕ)) → Decided xs ys
texts [] [] = inl refl
texts [] (y ∷ ys) = inr (λ e. absurd (cc))
texts (x ∷ xs) [] = inr (λ e. absurd (cc))
texts (x ∷ xs) (y ∷ ys) =
    ⊎_elim
    (λ (one : x ≡ y). ⊎_elim
    (λ (rest : xs ≡ ys). inl (λ i. one i ∷ rest i))
    (λ (other : xs ≢ ys). inr (λ e. other (cc)))
    (texts xs ys))
    (λ (other : x ≢ y). inr (λ e. other (cc)))
    (numbers x y)

operators : (a b : Operator) → Decided a b
operators And And = inl refl
operators And Or = inr (λ e. absurd (cc))
operators Or And = inr (λ e. absurd (cc))
operators Or Or = inl refl

trees : (k l : Tree ℕ) → Decided k l
trees (Has n) (Has m) =
    ⊎_elim (λ (same : n ≡ m). inl (ap (λ x. Has x) same)) (λ (other : n ≢ m). inr (λ e. other (cc))) (cases_eq n m)
trees (Has n) (Asks m) = inr (λ e. absurd (cc))
trees (Has n) (Not l) = inr (λ e. absurd (cc))
trees (Has n) (Join q c d) = inr (λ e. absurd (cc))
trees (Asks n) (Asks m) =
    ⊎_elim (λ (same : n ≡ m). inl (ap (λ x. Asks x) same)) (λ (other : n ≢ m). inr (λ e. other (cc))) (cases_eq n m)
trees (Asks n) (Has m) = inr (λ e. absurd (cc))
trees (Asks n) (Not l) = inr (λ e. absurd (cc))
trees (Asks n) (Join q c d) = inr (λ e. absurd (cc))
trees (Not k) (Not l) =
    ⊎_elim (λ (same : k ≡ l). inl (ap (λ x. Not x) same)) (λ (other : k ≢ l). inr (λ e. other (cc))) (trees k l)
trees (Not k) (Has m) = inr (λ e. absurd (cc))
trees (Not k) (Asks m) = inr (λ e. absurd (cc))
trees (Not k) (Join q c d) = inr (λ e. absurd (cc))
trees (Join p a b) (Has m) = inr (λ e. absurd (cc))
trees (Join p a b) (Asks m) = inr (λ e. absurd (cc))
trees (Join p a b) (Not l) = inr (λ e. absurd (cc))
trees (Join p a b) (Join q c d) =
    ⊎_elim
    (λ (one : p ≡ q). ⊎_elim
    (λ (two : a ≡ c). ⊎_elim
    (λ (three : b ≡ d). inl (λ i. Join (one i) (two i) (three i)))
    (λ (other : b ≢ d). inr (λ e. other (cc)))
    (trees b d))
    (λ (other : a ≢ c). inr (λ e. other (cc)))
    (trees a c))
    (λ (other : p ≢ q). inr (λ e. other (cc)))
    (operators p q)

keys : (k l : Option (Tree ℕ)) → Decided k l
keys None None = inl refl
keys None (Some l) = inr (λ e. absurd (cc))
keys (Some k) None = inr (λ e. absurd (cc))
keys (Some k) (Some l) =
    ⊎_elim (λ (same : k ≡ l). inl (ap (λ x. Some x) same)) (λ (other : k ≢ l). inr (λ e. other (cc))) (trees k l)

options : (a b : Option ℕ) → Decided a b
options None None = inl refl
options None (Some b) = inr (λ e. absurd (cc))
options (Some a) None = inr (λ e. absurd (cc))
options (Some a) (Some b) =
    ⊎_elim (λ (same : a ≡ b). inl (ap (λ x. Some x) same)) (λ (other : a ≢ b). inr (λ e. other (cc))) (cases_eq a b)

alike-or-not : (k l : Kind) → AreAlike k l ⊎ (AreAlike k l → ⊥)
alike-or-not kinds.Room kinds.Room = inl tt
alike-or-not kinds.Room (kinds.Exit q) = inr (λ h. h)
alike-or-not kinds.Room (kinds.Thing q) = inr (λ h. h)
alike-or-not kinds.Room (kinds.Player q) = inr (λ h. h)
alike-or-not (kinds.Exit p) kinds.Room = inr (λ h. h)
alike-or-not (kinds.Exit p) (kinds.Exit q) = inl tt
alike-or-not (kinds.Exit p) (kinds.Thing q) = inr (λ h. h)
alike-or-not (kinds.Exit p) (kinds.Player q) = inr (λ h. h)
alike-or-not (kinds.Thing p) kinds.Room = inr (λ h. h)
alike-or-not (kinds.Thing p) (kinds.Exit q) = inr (λ h. h)
alike-or-not (kinds.Thing p) (kinds.Thing q) = inl tt
alike-or-not (kinds.Thing p) (kinds.Player q) = inr (λ h. h)
alike-or-not (kinds.Player p) kinds.Room = inr (λ h. h)
alike-or-not (kinds.Player p) (kinds.Exit q) = inr (λ h. h)
alike-or-not (kinds.Player p) (kinds.Thing q) = inr (λ h. h)
alike-or-not (kinds.Player p) (kinds.Player q) = inl tt

-- ---- records
-- the parts of a kind
places : (k l : Kind) → AreAlike k l → kind_place k ≡ kind_place l
    → option_map (λ p. p.source) (kind_passage k) ≡ option_map (λ p. p.source) (kind_passage l)
    → option_map (λ p. p.destination) (kind_passage k) ≡ option_map (λ p. p.destination) (kind_passage l)
    → option_map (λ p. p.cost) (kind_passage k) ≡ option_map (λ p. p.cost) (kind_passage l) → k ≡ l
places kinds.Room kinds.Room alike place source destination cost = refl
places kinds.Room (kinds.Exit q) alike place source destination cost = absurd alike
places kinds.Room (kinds.Thing q) alike place source destination cost = absurd alike
places kinds.Room (kinds.Player q) alike place source destination cost = absurd alike
places (kinds.Exit p) kinds.Room alike place source destination cost = absurd alike
places (kinds.Exit p) (kinds.Thing q) alike place source destination cost = absurd alike
places (kinds.Exit p) (kinds.Player q) alike place source destination cost = absurd alike
places (kinds.Exit p) (kinds.Exit q) alike place source destination cost =
    let one : p.source ≡ q.source = cc in
    let two : p.destination ≡ q.destination = cc in
    let three : p.cost ≡ q.cost = cc in
    λ i. kinds.Exit (record { source = one i; destination = two i; cost = three i })
places (kinds.Thing p) kinds.Room alike place source destination cost = absurd alike
places (kinds.Thing p) (kinds.Exit q) alike place source destination cost = absurd alike
places (kinds.Thing p) (kinds.Player q) alike place source destination cost = absurd alike
places (kinds.Thing p) (kinds.Thing q) alike place source destination cost =
    let same : p ≡ q = cc in ap (λ n. kinds.Thing n) same
places (kinds.Player p) kinds.Room alike place source destination cost = absurd alike
places (kinds.Player p) (kinds.Exit q) alike place source destination cost = absurd alike
places (kinds.Player p) (kinds.Thing q) alike place source destination cost = absurd alike
places (kinds.Player p) (kinds.Player q) alike place source destination cost =
    let same : p ≡ q = cc in ap (λ n. kinds.Player n) same

-- records that differ in nothing are the same
same_records : (r s : Record) → ((what : What) → DiffersIn what (Some r) (Some s) → ⊥) → r ≡ s
same_records r s not =
    let names : r.names ≡ s.names = sure r.names s.names (texts r.names s.names) (not Names) in
    let owner : r.owner ≡ s.owner = sure r.owner s.owner (cases_eq r.owner s.owner) (not Owner) in
    let alike : AreAlike r.kind s.kind =
    ⊎_elim (λ (is : AreAlike r.kind s.kind). is) (λ (other : AreAlike r.kind s.kind → ⊥). absurd (not KindOf other))
    (alike-or-not r.kind s.kind) in
    let either = options (kind_place r.kind) (kind_place s.kind) in
    let place = sure (kind_place r.kind) (kind_place s.kind) either (not Place) in
    let source = sure (source_in r) (source_in s) (options (source_in r) (source_in s)) (not Source) in
    let destination =
    sure (destination_in r) (destination_in s) (options (destination_in r) (destination_in s)) (not Destination) in
    let cost = sure (cost_in r) (cost_in s) (options (cost_in r) (cost_in s)) (not Cost) in
    let kind : r.kind ≡ s.kind = places r.kind s.kind alike place source destination cost in
    let key : r.key ≡ s.key = sure r.key s.key (keys r.key s.key) (not Key) in
    λ i. record { names = names i; owner = owner i; kind = kind i; key = key i }

same_kept : (o p : Option Record) → ((what : What) → DiffersIn what o p → ⊥) → o ≡ p
same_kept None None not = refl
same_kept None (Some s) not = absurd (not Added tt)
same_kept (Some r) None not = absurd (not Removed tt)
same_kept (Some r) (Some s) not = ap (λ x. Some x) (same_records r s not)

pub same_without_difference : SameWithoutDifference
same_without_difference old new sound sound' next not =
    same_worlds old new sound sound' next
    (λ n. same_kept (record_at old n) (record_at new n) (λ what. not (record { number = n; what = what })))

-- nothing differs from itself
itself : (what : What) (o : Option Record) → DiffersIn what o o → ⊥
itself Added None h = h
itself Added (Some r) h = h
itself Removed None h = h
itself Removed (Some r) h = h
itself Names None h = h
itself Names (Some r) h = h refl
itself Owner None h = h
itself Owner (Some r) h = h refl
itself KindOf None h = h
itself KindOf (Some r) h = h (alike r.kind)
  where
    alike : (k : Kind) → AreAlike k k
    alike kinds.Room = tt
    alike (kinds.Exit p) = tt
    alike (kinds.Thing p) = tt
    alike (kinds.Player p) = tt
itself Place None h = h
itself Place (Some r) h = h refl
itself Source None h = h
itself Source (Some r) h = h refl
itself Destination None h = h
itself Destination (Some r) h = h refl
itself Cost None h = h
itself Cost (Some r) h = h refl
itself Key None h = h
itself Key (Some r) h = h refl

pub nothing_differs_from_itself : NothingDiffersFromItself
nothing_differs_from_itself w d = itself d.what (record_at w d.number)
