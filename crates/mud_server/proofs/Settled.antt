-- The output of a server with volumes.
use Rattle.std.proofs.Common.{◌≡◌, inl, inr, ℕ, Bool, true, false, List, [], ◌∷◌, length, take, Option, Some}
use Rattle.std.proofs.Common.{None, Result, Ok, Err, IfOk, OnErr, refl, sym, subst, arith}
use Rattle.std.specs.Io.KnownBytes.{Appends}
use Rattle.std.proofs.KnownBytes.{Appends-nil, Appends-trans}
use Rattle.std.proofs.lemmas.List.{append-nil, take_all}
use Rattle.mud_chron.specs.Entry.{Entry}
use Rattle.mud_chron.specs.Text.{history_text}
use Rattle.mud_chron.specs.declared.format.Format.TheVariants.{Two}
use Rattle.mud_journal.specs.Disk.{Kept}
use Rattle.mud_server_state.specs.declared.limits.Limits.{Limits}
use Rattle.mud_server_end.specs.Server.{Opening, lines_of}
use Rattle.mud_server.specs.Volumes.{AreVolumes, Files, FinishesFirst, SettlesVolumes, SettlesVolumesInPart}
use Rattle.mud_server.specs.inner.Between.{MayClose, WritesLast, WritesLastInPart}

-- ---- the text of the last volume

abbrev pub wrote : (limits : Limits) (loaded history : List Entry) (old new : Files) (kept : Option Kept)
    (held now_held : Option (List ℕ)) → MayClose limits loaded old new kept history
    → Appends held now_held (history_text Two history) → WritesLast limits loaded old new held now_held
wrote limits loaded history old new kept held now_held closes written = record {
  earlier = closes.earlier;
  last = record { begun = closes.begun; ended = history; kept = kept };
  are = closes.are;
  finishes = closes.finishes;
  written = written;
}

pub wrote_part : (limits : Limits) (loaded history : List Entry) (old new : Files) (kept : Option Kept)
    (held now_held : Option (List ℕ)) → MayClose limits loaded old new kept history
    → (n : ℕ) × Appends held now_held (take n (history_text Two history))
    → WritesLastInPart limits loaded old new held now_held
wrote_part limits loaded history old new kept held now_held closes written = inr (
  written.0,
  closes.earlier,
  record { begun = closes.begun; ended = history; kept = kept },
  closes.are,
  closes.finishes,
  written.1,
)

pub wrote_nothing : (limits : Limits) (loaded : List Entry) (old new : Files) (held : Option (List ℕ))
    → FinishesFirst limits loaded old new → WritesLastInPart limits loaded old new held held
wrote_nothing limits loaded old new held finishes = inl (finishes, Appends-nil held)

-- a whole text is a part of it
pub whole_part : (history : List Entry) (held now_held : Option (List ℕ))
    → Appends held now_held (history_text Two history)
    → (n : ℕ) × Appends held now_held (take n (history_text Two history))
whole_part history held now_held written =
    let text : List ℕ = history_text Two history in
    (length text, subst (Appends held now_held) (sym (take_all (length text) text (omega arith))) written)

-- ---- the lines of the ports, and that text

some_opening : (has_web : Bool) → Opening has_web
some_opening true = (0, Some 0, refl)
some_opening false = (0, None, refl)

pub none_settled : (limits : Limits) (has_web : Bool) (loaded : List Entry) (files : Files) (held : Option (List ℕ))
    → SettlesVolumesInPart limits has_web loaded files files held held
none_settled limits has_web loaded files held = inl (inl refl, some_opening has_web, 0, Appends-nil held)

pub front_settled : (limits : Limits) (has_web : Bool) (opening : Opening has_web) (n : ℕ) (loaded : List Entry)
    (files : Files) (held now_held : Option (List ℕ))
    → Appends held now_held (take n (lines_of has_web opening))
    → SettlesVolumesInPart limits has_web loaded files files held now_held
front_settled limits has_web opening n loaded files held now_held written = inl (inl refl, opening, n, written)

pub line_settled : (limits : Limits) (has_web : Bool) (opening : Opening has_web) (loaded : List Entry)
    (old new : Files) (held now_held : Option (List ℕ)) → FinishesFirst limits loaded old new
    → Appends held now_held (lines_of has_web opening)
    → SettlesVolumesInPart limits has_web loaded old new held now_held
line_settled limits has_web opening loaded old new held now_held finishes written =
    let lines : List ℕ = lines_of has_web opening in
    inl (
      finishes,
      opening,
      length lines,
      subst (Appends held now_held) (sym (take_all (length lines) lines (omega arith))) written,
    )

pub all_settled : {A E : Type 0} (Of : List Entry → A → Type 0) (r : Result A E) (limits : Limits) (has_web : Bool)
    (opening : Opening has_web) (loaded begun : List Entry) (old new : Files) (held mid now_held : Option (List ℕ))
    → begun ≡ loaded → Appends held mid (lines_of has_web opening)
    → IfOk r (λ x. (w : WritesLast limits begun old new mid now_held) × Of w.last.ended x)
    → IfOk r (λ x. (s : SettlesVolumes limits has_web loaded old new held now_held) × Of s.last.ended x)
all_settled Of (Ok x) limits has_web opening loaded begun old new held mid now_held is one (w, of) = (
  record {
    opening = opening;
    earlier = w.earlier;
    last = w.last;
    are = subst (λ (l : List Entry). AreVolumes limits l (w.last ∷ w.earlier)) is w.are;
    finishes = w.finishes;
    written = Appends-trans held mid now_held (lines_of has_web opening) (history_text Two w.last.ended) one w.written;
  },
  of,
)
all_settled Of (Err e) limits has_web opening loaded begun old new held mid now_held is one all = tt

part_settled : (limits : Limits) (has_web : Bool) (opening : Opening has_web) (loaded : List Entry) (old new : Files)
    (held mid now_held : Option (List ℕ)) → Appends held mid (lines_of has_web opening)
    → WritesLastInPart limits loaded old new mid now_held
    → SettlesVolumesInPart limits has_web loaded old new held now_held
part_settled limits has_web opening loaded old new held mid now one (inl (finishes, none)) =
    let lines : List ℕ = lines_of has_web opening in
    line_settled limits has_web opening loaded old new held now finishes
    (subst (Appends held now) (append-nil lines) (Appends-trans held mid now lines [] one none))
part_settled limits has_web opening loaded old new held mid now one (inr (n, earlier, last, are, files, two)) = inr (
  opening,
  n,
  earlier,
  last,
  are,
  files,
  Appends-trans held mid now (lines_of has_web opening) (take n (history_text Two last.ended)) one two,
)

pub any_settled : {A E : Type 0} (r : Result A E) (limits : Limits) (has_web : Bool) (opening : Opening has_web)
    (loaded begun : List Entry) (old new : Files) (held mid now_held : Option (List ℕ)) → begun ≡ loaded
    → Appends held mid (lines_of has_web opening) → OnErr r (WritesLastInPart limits begun old new mid now_held)
    → OnErr r (SettlesVolumesInPart limits has_web loaded old new held now_held)
any_settled (Ok x) limits has_web opening loaded begun old new held mid now_held is one two = tt
any_settled (Err e) limits has_web opening loaded begun old new held mid now_held is one two =
    part_settled limits has_web opening loaded old new held mid now_held one
    (subst (λ (l : List Entry). WritesLastInPart limits l old new mid now_held) is two)
