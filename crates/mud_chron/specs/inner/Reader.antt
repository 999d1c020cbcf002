-- The result of each reader of a line.
use Rattle.std.specs.Prelude.{◌≡◌, ℕ, nat_eq, nat_le, List, [], ◌∷◌, codes, if◌then◌else◌}
use Rattle.std.specs.Prelude.{Option, None, Some, Result, Ok, Err}
use Rattle.std.specs.Option.{option_map, ok_or}
use Rattle.std.specs.Str.{bytes_eq}
use Rattle.mud_key.specs.declared.namer.Miss.{Miss}
use Rattle.mud_key.specs.declared.namer.Miss.TheVariants.{NoSuch}
use Rattle.mud_key.specs.declared.codes.TheConstants.{SPACE}
use Rattle.mud_key.specs.Tree.{Tree}
use Rattle.mud_key.specs.Namer.{resolved}
use Rattle.mud_key.specs.Finds.{names_in, name_in, key_in}
use Rattle.mud_world.specs.Speech.{is_speech}
use Rattle.mud_world.specs.declared.change.Change.{Change}
use Rattle.mud_world.specs.declared.change.Doors.{Doors}
use Rattle.mud_world.specs.declared.change.Target.TheVariants.{New, Old}
use Rattle.mud_world.specs.declared.change.Deed.{Deed}
use Rattle.mud_world.specs.declared.change.Deed.TheVariants as deed
use Rattle.mud_chron.specs.declared.verb.Verb.{Verb}
use Rattle.mud_chron.specs.declared.verb.Verb.TheVariants.{Dig, Make, Lock, Unlock, Move, Walk, Cost, Player, Rename}
use Rattle.mud_chron.specs.declared.verb.Verb.TheVariants.{Recycle, Say, Emote}
use Rattle.mud_world.specs.declared.limits.TheConstants.{MOST_COST}
use Rattle.mud_chron.specs.declared.codes.TheConstants.{QUOTE}
use Rattle.mud_chron.specs.declared.limits.TheConstants.{MOST_DESKS}
use Rattle.mud_chron.specs.Entry.{Entry}
use Rattle.mud_chron.specs.declared.fields.Unread.{Unread}
use Rattle.mud_chron.specs.declared.fields.Unread.TheVariants.{OutOfMemory, NoEntry}
use Rattle.mud_chron.specs.inner.Fields.{digits_on, up_to, object_in}

infixl 10 ◌>>=◌
-- the second result, if the first one exists
abbrev pub ◌>>=◌ : {A B : Type 0} → Option A → (A → Option B) → Option B
(Some x) >>= f = f x
None >>= f = None

-- unless memory ran out, there is no value
abbrev pub Missed : {Y : Type 0} → Unread → Option Y → Type 0
Missed OutOfMemory found = Unit {0}
Missed NoEntry found = found ≡ None

-- unless memory ran out, the call returned the value, as f shows it, or that there is none
abbrev pub Tells : {X Y : Type 0} → (X → Y) → Result X Unread → Option Y → Type 0
Tells view (Ok x) found = found ≡ Some (view x)
Tells view (Err fault) found = Missed fault found

-- the bytes before the first occurrence of a byte, and those after it
abbrev pub cut : ℕ → List ℕ → Option (List ℕ × List ℕ)
cut b [] = None
cut b (c ∷ text) = if nat_eq c b then Some ([], text) else option_map (λ p. (c ∷ p.0, p.1)) (cut b text)

-- a number up to this one
abbrev pub number_up_to : ℕ → List ℕ → Option ℕ
number_up_to most text = up_to most (digits_on 0 text)

-- the number of an object up to a space, and the text after the space
unfoldable pub object_before : List ℕ → Option (ℕ × List ℕ)
object_before text = do
  p ← cut SPACE text
  n ← object_in p.0
  Some (n, p.1)

-- the text as a speech
unfoldable pub speech_in : List ℕ → Option (List ℕ)
speech_in text = if is_speech text then Some text else None

-- the numbers that the texts of a key mean
abbrev pub meaning : List ℕ → Result ℕ Miss
meaning text = ok_or (object_in text) NoSuch

-- the key, if each object has a number
abbrev pub without_miss : Result (Tree ℕ) Miss → Option (Tree ℕ)
without_miss (Ok key) = Some key
without_miss (Err miss) = None

-- the key whose objects are numbers
unfoldable pub number_key_in : List ℕ → Option (Tree ℕ)
number_key_in text = do
  key ← key_in text
  without_miss (resolved meaning key)

-- the names up to a quote, and the text after it
unfoldable pub names_before : List ℕ → Option (List (List ℕ) × List ℕ)
names_before text = do
  p ← cut QUOTE text
  names ← names_in p.0
  Some (names, p.1)

-- the names between the first two quotes, and the text after them
unfoldable pub quoted_in : List ℕ → Option (List (List ℕ) × List ℕ)
quoted_in text = do
  p ← cut QUOTE text
  names_before p.1

-- the name between the first two quotes
unfoldable pub quoted_name_in : List ℕ → Option (List ℕ)
quoted_name_in text = do
  p ← cut QUOTE text
  q ← cut QUOTE p.1
  name_in q.0

-- the names of the exit back, or none if no text is left
unfoldable pub back_in : List ℕ → Option (Option (List (List ℕ)))
back_in [] = Some None
back_in (b ∷ text) = do
  names ← quoted_in (b ∷ text)
  Some (Some names.0)

-- the exits of a dig, or none if no text is left
unfoldable pub doors_in : List ℕ → Option (Option Doors)
doors_in [] = Some None
doors_in (b ∷ text) = do
  out ← quoted_in (b ∷ text)
  back ← back_in out.1
  Some (Some (record { out = out.0; back = back }))

-- a dig of a new room
unfoldable pub new_in : List ℕ → Option Deed
new_in text = do
  names ← quoted_in text
  doors ← doors_in names.1
  Some (deed.Dig (New names.0) doors)

-- a dig to an existing room, if it has an exit
abbrev pub way_to : ℕ → Option Doors → Option Deed
way_to room None = None
way_to room (Some doors) = Some (deed.Dig (Old room) (Some doors))

unfoldable pub old_in : List ℕ → Option Deed
old_in text = do
  room ← object_before text
  doors ← doors_in room.1
  way_to room.0 doors

unfoldable pub dig_in : List ℕ → Option Deed
dig_in text = do
  p ← cut SPACE text
  if bytes_eq p.0 (codes "new") then new_in p.1 else old_in p.1

unfoldable pub make_in : List ℕ → Option Deed
make_in text = do
  names ← quoted_in text
  Some (deed.Make names.0)

unfoldable pub player_in : List ℕ → Option Deed
player_in text = do
  name ← quoted_name_in text
  Some (deed.Player name)

unfoldable pub lock_in : List ℕ → Option Deed
lock_in text = do
  object ← object_before text
  key ← number_key_in object.1
  Some (deed.Lock object.0 key)

unfoldable pub unlock_in : List ℕ → Option Deed
unlock_in text = do
  object ← object_in text
  Some (deed.Unlock object)

unfoldable pub move_in : List ℕ → Option Deed
move_in text = do
  thing ← object_before text
  to ← object_in thing.1
  Some (deed.Move thing.0 to)

unfoldable pub walk_in : List ℕ → Option Deed
walk_in text = do
  exit ← object_in text
  Some (deed.Walk exit)

unfoldable pub cost_in : List ℕ → Option Deed
cost_in text = do
  exit ← object_before text
  cost ← number_up_to MOST_COST exit.1
  Some (deed.Cost exit.0 cost)

unfoldable pub rename_in : List ℕ → Option Deed
rename_in text = do
  object ← object_before text
  names ← quoted_in object.1
  Some (deed.Rename object.0 names.0)

unfoldable pub recycle_in : List ℕ → Option Deed
recycle_in text = do
  object ← object_in text
  Some (deed.Recycle object)

unfoldable pub say_in : List ℕ → Option Deed
say_in text = do
  speech ← speech_in text
  Some (deed.Say speech)

unfoldable pub emote_in : List ℕ → Option Deed
emote_in text = do
  speech ← speech_in text
  Some (deed.Emote speech)

-- the deed after a verb
unfoldable pub deed_in : Verb → List ℕ → Option Deed
deed_in Dig text = dig_in text
deed_in Make text = make_in text
deed_in Player text = player_in text
deed_in Lock text = lock_in text
deed_in Unlock text = unlock_in text
deed_in Move text = move_in text
deed_in Walk text = walk_in text
deed_in Cost text = cost_in text
deed_in Rename text = rename_in text
deed_in Recycle text = recycle_in text
deed_in Say text = say_in text
deed_in Emote text = emote_in text

-- the verb of a word
unfoldable pub verb_in : List ℕ → Option Verb
verb_in word =
    if bytes_eq word (codes "dig") then Some Dig
    else if bytes_eq word (codes "make") then Some Make
    else if bytes_eq word (codes "player") then Some Player
    else if bytes_eq word (codes "lock") then Some Lock
    else if bytes_eq word (codes "unlock") then Some Unlock
    else if bytes_eq word (codes "move") then Some Move
    else if bytes_eq word (codes "walk") then Some Walk
    else if bytes_eq word (codes "cost") then Some Cost
    else if bytes_eq word (codes "rename") then Some Rename
    else if bytes_eq word (codes "recycle") then Some Recycle
    else if bytes_eq word (codes "say") then Some Say
    else if bytes_eq word (codes "emote") then Some Emote
    else None

-- the change of a text
unfoldable pub change_in : List ℕ → Option Change
change_in text = do
  word ← cut SPACE text
  verb ← verb_in word.0
  actor ← object_before word.1
  deed ← deed_in verb actor.1
  Some (record { actor = actor.0; deed = deed })

-- a desk
unfoldable pub desk_in : List ℕ → Option ℕ
desk_in text = do
  desk ← number_up_to MOST_DESKS text
  if nat_le 1 desk then Some desk else None

-- the entry of a line, whatever its version
unfoldable pub entry_in : List ℕ → Option Entry
entry_in line = do
  version ← cut SPACE line
  p ← cut SPACE version.1
  desk ← desk_in p.0
  change ← change_in p.1
  Some (record { desk = desk; change = change })
