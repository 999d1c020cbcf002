-- The output of a server, and the reasons why it ends.
use Rattle.std.specs.Prelude.{◌≡◌, ◌≤◌, ◌⊎◌, ℕ, Bool, true, List, ◌++◌, length, take, All, Contains, codes}
use Rattle.std.specs.Prelude.{Option, None, Some, is_some}
use Rattle.std.specs.Fmt.{decimal}
use Rattle.std.specs.Io.KnownBytes.{Appends}
use mathlib.Core.List.{IsPrefix}
use Rattle.mud_io.specs.Streams.{Writer}
use Rattle.mud_chron.specs.Entry.{Entry}
use Rattle.mud_chron.specs.Text.{line_feed, history_text}
use Rattle.mud_chron.specs.declared.format.Format.TheVariants.{Two}
use Rattle.mud_hall.specs.NewHall.{IsLoadFault}
use Rattle.mud_hall.specs.Settlement.{entries_made}
use Rattle.mud_hall.specs.Steps.{AreLoadable}
use Rattle.mud_server_state.specs.declared.limits.Limits.{Limits}
use Rattle.mud_server_end.specs.declared.fault.ServerFault.{ServerFault}
use Rattle.mud_server_end.specs.declared.fault.ServerFault.TheVariants.{Write, Load}

-- the lines that name the ports: the Telnet port, and then the web port, if there is one
abbrev pub opening_lines : ℕ → (web : Option ℕ) → List ℕ
opening_lines port None = codes "listening on " ++ decimal port ++ line_feed
opening_lines port (Some web) =
    (codes "listening on " ++ decimal port ++ line_feed) ++ (codes "web on " ++ decimal web ++ line_feed)

-- a final history: a hall can begin with it, and after the loaded entries it has no more desks than simultaneous
-- sessions
pub record MayEnd (limits : Limits) (loaded history : List Entry) : Type 0 where
  pub loadable : AreLoadable limits.capacity history
  pub begun : IsPrefix loaded history
  pub desks : List ℕ
  pub few : length desks ≤ limits.sessions
  pub of_desks : All (λ e. Contains desks e.desk) (entries_made loaded history)

-- some ports; there is a web port exactly if there is a web listener
abbrev pub Opening : Bool → Type 0
Opening has_web = (port : ℕ) × (web : Option ℕ) × (is_some web ≡ has_web)

abbrev pub lines_of : (has_web : Bool) → Opening has_web → List ℕ
lines_of has_web opening = opening_lines opening.0 opening.1

-- the lines of some ports were written, and after them the whole text of a possible final history
pub record Settles (limits : Limits) (has_web : Bool) (loaded : List Entry)
    (held now_held : Option (List ℕ)) : Type 0 where
  pub opening : Opening has_web
  pub history : List Entry
  pub ends : MayEnd limits loaded history
  pub written : Appends held now_held (lines_of has_web opening ++ history_text Two history)

-- a prefix of the lines was written, or the lines and a prefix of the text of such a history
abbrev pub SettlesInPart : Limits → (has_web : Bool) → List Entry → Option (List ℕ) → Option (List ℕ) → Type 0
SettlesInPart limits has_web loaded held now_held =
    ((opening : Opening has_web) × (n : ℕ) × Appends held now_held (take n (lines_of has_web opening)))
    ⊎ ((opening : Opening has_web) × (n : ℕ) × (history : List Entry) × MayEnd limits loaded history
    × Appends held now_held (lines_of has_web opening ++ take n (history_text Two history)))

-- the conditions of `Write` and `Load`, and their effect on the writer; nothing is said about other faults
abbrev pub IsServerFault : ℕ → List Entry → Writer → Writer → ServerFault → Type 0
IsServerFault capacity loaded old new Write = new.has_failed ≡ true
IsServerFault capacity loaded old new (Load fault) = IsLoadFault capacity loaded fault × (new ≡ old)
IsServerFault capacity loaded old new other = Unit {0}

-- neither `Write` nor `Load`
abbrev pub IsInnerFault : ServerFault → Type 0
IsInnerFault f = (capacity : ℕ) (loaded : List Entry) (old new : Writer) → IsServerFault capacity loaded old new f
