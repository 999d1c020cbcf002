-- Single edits of the records and of the maps beside them. The edits of `Results` are composed of them.
use Rattle.std.specs.Prelude.{◌≡◌, ℕ, Bool, false, not, ◌&&◌, List, [], nat_eq, Option, if◌then◌else◌}
use Rattle.std.specs.List.{list_any}
use Rattle.std.specs.Option.{option_map, option_map_or}
use Rattle.std.specs.Map.{lookup, set_value}
use Rattle.mud_key.specs.Tree.{Tree, asks_of}
use Rattle.mud_index.specs.Lists.{list_at, AreChanged, AreSame}
use Rattle.mud_index.specs.inner.Views.{AreEmpty}
use Rattle.mud_index.specs.Rising.{insert, put, without}
use Rattle.mud_world.specs.declared.record.Record.{Record}
use Rattle.mud_world.specs.declared.record.Kind.{Kind}
use Rattle.mud_world.specs.declared.links.Links.{Links}
use Rattle.mud_world.specs.Kinds.{kind_at, kind_costing, kind_place, kind_passage, is_player_kind}
use Rattle.mud_world.specs.State.{is_number}

-- f applied to the record of n, if there is one
abbrev pub edit : ℕ → (Record → Record) → List (ℕ × Record) → List (ℕ × Record)
edit n f es = option_map_or (λ r. set_value (nat_eq n) es (f r)) (lookup (nat_eq n) es) es

-- the record with another place
abbrev pub placed_at : ℕ → Record → Record
placed_at place r = record r { kind = kind_at place r.kind }

-- the record with another cost
abbrev pub costing_at : ℕ → Record → Record
costing_at cost r = record r { kind = kind_costing cost r.kind }

-- the record with other names
abbrev pub with_names : List (List ℕ) → Record → Record
with_names names r = record r { names = names }

-- the record with another key, or none
abbrev pub with_key : Option (Tree ℕ) → Record → Record
with_key key r = record r { key = key }

-- the names by which an object of this kind is found: only players are found by name
abbrev pub called_by : Kind → List (List ℕ) → List (List ℕ)
called_by k names = if is_player_kind k then names else []

-- the names by which the object of the record is found
abbrev pub names_to_find : Record → List (List ℕ)
names_to_find r = called_by r.kind r.names

-- all lists are empty
pub record AreNone (links : Links) : Type 0 where
  pub contents : AreEmpty links.contents
  pub leaving : AreEmpty links.leaving
  pub arriving : AreEmpty links.arriving

-- n is in no list
pub record IsInNone (n : ℕ) (links : Links) : Type 0 where
  pub contents : (m : ℕ) → list_any (nat_eq n) (list_at links.contents m) ≡ false
  pub leaving : (m : ℕ) → list_any (nat_eq n) (list_at links.leaving m) ≡ false
  pub arriving : (m : ℕ) → list_any (nat_eq n) (list_at links.arriving m) ≡ false

-- all lists are equal
pub record AreSameLinks (old new : Links) : Type 0 where
  pub contents : AreSame old.contents new.contents
  pub leaving : AreSame old.leaving new.leaving
  pub arriving : AreSame old.arriving new.arriving

-- f changes the lists of the object's place, source and destination, and no others
pub record AreLinked (k : Kind) (f : List ℕ → List ℕ) (old new : Links) : Type 0 where
  pub contents : AreChanged (λ n. is_number n (kind_place k)) f old.contents new.contents
  pub leaving :
      AreChanged (λ n. is_number n (option_map (λ p. p.source) (kind_passage k))) f old.leaving new.leaving
  pub arriving :
      AreChanged (λ n. is_number n (option_map (λ p. p.destination) (kind_passage k))) f old.arriving new.arriving

-- object t was moved from the list of q to that of y
abbrev pub AreMoved : ℕ → ℕ → ℕ → List (ℕ × List ℕ) → List (ℕ × List ℕ) → Type 0
AreMoved t q y old new =
    (n : ℕ) → list_at new n
    ≡ (let more = if nat_eq n y then insert t (list_at old n) else list_at old n in
    if nat_eq n q then without t more else more)

-- the key, if there is one, asks about object n
abbrev pub asked_by : ℕ → Option (Tree ℕ) → Bool
asked_by n key = option_map_or (λ k. list_any (nat_eq n) (asks_of k)) key false

-- the asker is in the lists of the objects that its new key asks about, and no longer in those that only its old key
-- asked about
abbrev pub AreRekeyed : ℕ → Option (Tree ℕ) → Option (Tree ℕ) → List (ℕ × List ℕ) → List (ℕ × List ℕ) → Type 0
AreRekeyed asker old new l l' =
    (n : ℕ) → list_at l' n
    ≡ (let more = if asked_by n new then put asker (list_at l n) else list_at l n in
    if not (asked_by n new) && asked_by n old then without asker more else more)
