-- Worlds that are equal but for the numbers of their objects.
use Rattle.std.specs.Prelude.{◌≡◌, ◌≤◌, ◌<◌, ℕ, List, length, Option, IfSome, IsTrue}
use Rattle.std.specs.Option.{option_map}
use Rattle.mud_key.specs.Tree.{Tree, Has, Asks, Not, Join, AllObjects}
use Rattle.mud_world.specs.declared.record.Kind.{Kind}
use Rattle.mud_world.specs.declared.record.Kind.TheVariants.{Room, Exit, Thing, Player}
use Rattle.mud_world.specs.declared.record.Record.{Record}
use Rattle.mud_world.specs.State.{State, record_at, exists, key_of}
use Rattle.mud_world.specs.History.{world_of}
use Rattle.mud_chron.specs.Entry.{Entry}
use Rattle.mud_chron.specs.Replay.{changes_of, AreLegal}

-- the key with f of each of its numbers
abbrev pub key_under : (ℕ → ℕ) → Tree ℕ → Tree ℕ
key_under f (Has n) = Has (f n)
key_under f (Asks n) = Asks (f n)
key_under f (Not k) = Not (key_under f k)
key_under f (Join op a b) = Join op (key_under f a) (key_under f b)

-- the kind with f of its place, or of its ends
abbrev pub kind_under : (ℕ → ℕ) → Kind → Kind
kind_under f Room = Room
kind_under f (Exit p) = Exit (record p { source = f p.source; destination = f p.destination })
kind_under f (Thing place) = Thing (f place)
kind_under f (Player place) = Player (f place)

-- the record with f of each of its numbers: those of its owner, its kind and its key; the names stay
abbrev pub record_under : (ℕ → ℕ) → Record → Record
record_under f r = record r { owner = f r.owner; kind = kind_under f r.kind; key = option_map (key_under f) r.key }

-- u is the world w with the number f n in place of each number n
pub record IsRenumbered (f : ℕ → ℕ) (w u : State) : Type 0 where
  -- an object has the same record under its new number; a number without an object gets one without an object
  pub records : (n : ℕ) → record_at u (f n) ≡ option_map (record_under f) (record_at w n)
  -- nothing else exists in u
  pub no_others : (m : ℕ) → IsTrue (exists u m) → (n : ℕ) × IsTrue (exists w n) × (f n ≡ m)
  -- objects stay in their order
  pub rising : (a b : ℕ) → IsTrue (exists w a) → IsTrue (exists w b) → a < b → f a < f b
  -- a number that a key names, and that was given in w, was given in u: no later object gets it
  pub given : (n : ℕ) → IfSome (key_of w n) (AllObjects (λ o. o < w.next → f o < u.next))
  pub no_more : u.next ≤ w.next

-- the other history is no longer, and leads to the same world but for its numbers
pub record LeadsToRenumbered (f : ℕ → ℕ) (entries others : List Entry) : Type 0 where
  pub legal : AreLegal (changes_of entries)
  pub others_legal : AreLegal (changes_of others)
  pub renumbered : IsRenumbered f (world_of (changes_of entries)) (world_of (changes_of others))
  pub no_longer : length others ≤ length entries
