-- The output in full, and the history in it.
use Rattle.std.proofs.Common.{◌≡◌, ◌≤◌, ◌<◌, ℕ, List, Option, Result, Ok, Err, OnErr, sym, subst, ◌∙◌}
use Rattle.std.proofs.Common.{ap, map, length, take, Bool, true, false, Some, None, refl, ◌⊎◌, inl, inr, arith}
use Rattle.std.proofs.Common.{◌++◌, codes, append_assoc}
use Rattle.std.specs.Fmt.{decimal}
use Rattle.std.specs.Prelude.{Contains, is_some}
use Rattle.std.specs.Io.KnownBytes.{Appends}
use Rattle.std.proofs.KnownBytes.{Appends-nil, Appends-trans}
use Rattle.std.proofs.lemmas.List.{take_all, length-map, get_or-map}
use Rattle.std.proofs.lemmas.List.Elements.{All-weaker}
use Rattle.mud_io.specs.Streams.{Writer}
use Rattle.mud_chron.specs.Entry.{Entry}
use Rattle.mud_chron.specs.inner.Texts.{written_text}
use Rattle.mud_chron.specs.Text.{line_feed}
use Rattle.mud_hall.specs.Desk.{View}
use Rattle.mud_hall.specs.Settlement.{HasNumber, IsSettled, entries_made}
use Rattle.mud_hall.specs.Steps.{AreLoadable}
use Rattle.mud_journal.specs.Disk.{Kept, Holds}
use Rattle.mud_server_end.specs.declared.fault.ServerFault.{ServerFault}
use Rattle.mud_server_end.specs.declared.fault.ServerFault.TheVariants.{OutOfMemory, Write}
use Rattle.mud_server_state.specs.declared.limits.Limits.{Limits}
use Rattle.mud_server_end.specs.Server.{MayEnd, Opening, Settles, SettlesInPart, IsServerFault, lines_of, opening_lines}

abbrev number_of : View → ℕ
number_of d = d.state.number

numbered : (desks : List View) (n : ℕ) → HasNumber desks n → Contains (map number_of desks) n
numbered desks n (k, d, within, is, number) = (
  k,
  subst (λ m. k < m) (sym (length-map desks number_of)) within,
  get_or-map number_of desks k d n within ∙ ap number_of is ∙ number,
)

pub may_end : (limits : Limits) (loaded history : List Entry) (desks : List View)
    → length desks ≤ limits.sessions → IsSettled loaded desks history → AreLoadable limits.capacity history
    → MayEnd limits loaded history
may_end limits loaded history desks few settled loadable = record {
  loadable = loadable;
  begun = settled.gathered.begun;
  desks = map number_of desks;
  few = subst (λ m. m ≤ limits.sessions) (sym (length-map desks number_of)) few;
  of_desks = All-weaker (λ (e : Entry). HasNumber desks e.desk)
      (λ e. Contains (map number_of desks) e.desk) (λ e. numbered desks e.desk) (entries_made loaded history)
      settled.named;
}

pub end_of : (limits : Limits) (loaded begun history : List Entry) → begun ≡ loaded
    → MayEnd limits begun history → MayEnd limits loaded history
end_of limits loaded begun history is ends = subst (λ l. MayEnd limits l history) is ends

-- the lines of two ports
pub two_lines : (telnet web : ℕ)
    → codes "listening on " ++ (decimal telnet ++ (codes "\nweb on " ++ (decimal web ++ codes "\n")))
    ≡ opening_lines telnet (Some web)
two_lines telnet web =
    let web_line : List ℕ = codes "web on " ++ decimal web ++ line_feed in
    ap (λ (l : List ℕ). codes "listening on " ++ l) (sym (append_assoc (decimal telnet) line_feed web_line))

-- the lines of these ports
abbrev pub opened : (has_web : Bool) (port : ℕ) (web : Option ℕ) → is_some web ≡ has_web → Opening has_web
opened has_web port web named = (port, web, named)

some_opening : (has_web : Bool) → Opening has_web
some_opening true = opened true 0 (Some 0) refl
some_opening false = opened false 0 None refl

pub none_written : (limits : Limits) (has_web : Bool) (loaded : List Entry) (held : Option (List ℕ))
    → SettlesInPart limits has_web loaded held held
none_written limits has_web loaded held = inl (some_opening has_web, 0, Appends-nil held)

pub front_written : (limits : Limits) (has_web : Bool) (opening : Opening has_web) (n : ℕ) (loaded : List Entry)
    (held now_held : Option (List ℕ))
    → Appends held now_held (take n (lines_of has_web opening)) → SettlesInPart limits has_web loaded held now_held
front_written limits has_web opening n loaded held now_held written = inl (opening, n, written)

pub line_written : (limits : Limits) (has_web : Bool) (opening : Opening has_web) (loaded : List Entry)
    (held now_held : Option (List ℕ))
    → Appends held now_held (lines_of has_web opening) → SettlesInPart limits has_web loaded held now_held
line_written limits has_web opening loaded held now_held written =
    let line = lines_of has_web opening in
    inl (opening, length line, subst (Appends held now_held) (sym (take_all (length line) line (omega arith))) written)

pub any_err : {A E : Type 0} {P : Type 0} (r : Result A E) → P → OnErr r P
any_err (Ok x) p = tt
any_err (Err e) p = p

pub part_written : (limits : Limits) (has_web : Bool) (opening : Opening has_web) (n : ℕ)
    (loaded history : List Entry)
    (held mid now_held : Option (List ℕ)) → MayEnd limits loaded history → Appends held mid (lines_of has_web opening)
    → Appends mid now_held (take n (written_text history)) → SettlesInPart limits has_web loaded held now_held
part_written limits has_web opening n loaded history held mid now_held ends one two = inr (
  opening,
  n,
  history,
  ends,
  Appends-trans held mid now_held (lines_of has_web opening) (take n (written_text history)) one two,
)

pub all_written : (limits : Limits) (has_web : Bool) (opening : Opening has_web) (loaded history : List Entry)
    (held mid now_held : Option (List ℕ))
    → MayEnd limits loaded history → Appends held mid (lines_of has_web opening)
    → Appends mid now_held (written_text history) → Settles limits has_web loaded held now_held
all_written limits has_web opening loaded history held mid now_held ends one two = record {
  opening = opening;
  history = history;
  ends = ends;
  written = Appends-trans held mid now_held (lines_of has_web opening) (written_text history) one two;
}

-- everything was written, and a disk has its entries
pub all_journaled : (limits : Limits) (has_web : Bool) (opening : Opening has_web) (loaded history : List Entry)
    (held mid now_held : Option (List ℕ)) (kept : Option Kept) → MayEnd limits loaded history
    → Appends held mid (lines_of has_web opening) → Appends mid now_held (written_text history) → Holds kept history
    → (s : Settles limits has_web loaded held now_held) × Holds kept s.history
all_journaled limits has_web opening loaded history held mid now_held kept ends one two there = (
  record {
    opening = opening;
    history = history;
    ends = ends;
    written = Appends-trans held mid now_held (lines_of has_web opening) (written_text history) one two;
  },
  there,
)

-- a fault of a write is one of a server
pub write_fault : (capacity : ℕ) (loaded : List Entry) (old new : Writer) (fault : ServerFault)
    → (fault ≡ OutOfMemory) ⊎ ((fault ≡ Write) × (new.has_failed ≡ true))
    → IsServerFault capacity loaded old new fault
write_fault capacity loaded old new fault (inl is) = subst (IsServerFault capacity loaded old new) (sym is) tt
write_fault capacity loaded old new fault (inr (is, failed)) =
    subst (IsServerFault capacity loaded old new) (sym is) failed

-- the whole was written, which is a part
pub whole_written : (limits : Limits) (has_web : Bool) (opening : Opening has_web) (loaded history : List Entry)
    (held mid now_held : Option (List ℕ)) → MayEnd limits loaded history → Appends held mid (lines_of has_web opening)
    → Appends mid now_held (written_text history) → SettlesInPart limits has_web loaded held now_held
whole_written limits has_web opening loaded history held mid now_held ends one two =
    let text = written_text history in
    part_written limits has_web opening (length text) loaded history held mid now_held ends one
    (subst (Appends mid now_held) (sym (take_all (length text) text (omega arith))) two)
