-- The volumes of a server, one after another.
use Rattle.std.proofs.Common.{◌≡◌, ◌⊎◌, inl, inr, List, [], ◌∷◌, ◌++◌, map, Option, Some, None, option_map}
use Rattle.std.proofs.Common.{refl, sym, ◌∙◌, subst, ap}
use Rattle.mud_chron.specs.Entry.{Entry}
use Rattle.mud_journal.specs.Disk.{Kept, Holds}
use Rattle.mud_server_state.specs.declared.limits.Limits.{Limits}
use Rattle.mud_server_end.specs.Server.{MayEnd}
use Rattle.mud_server.specs.MayBegin.{MayBegin}
use Rattle.mud_server.specs.Volumes.{Volume, MayLast, Once, Again, IsWhole, AreVolumes, First, Next, Files, Finishes}
use Rattle.mud_server.specs.Volumes.{FinishesFirst}
use Rattle.mud_server.specs.inner.Between.{MayTurn, MayStop, MayFollow, MayClose}

-- ---- one volume

-- a volume that began with these entries has these now: it was not served yet, or its turns were called off
abbrev pub HasLasted : Limits → List Entry → List Entry → Type 0
HasLasted limits begun now = (now ≡ begun) ⊎ MayLast limits begun now

pub lasts : (limits : Limits) (begun now ended : List Entry) → HasLasted limits begun now → MayEnd limits now ended
    → MayLast limits begun ended
lasts limits begun now ended (inl is) ends = Once ended (subst (λ (l : List Entry). MayEnd limits l ended) is ends)
lasts limits begun now ended (inr so) ends = Again now ended so ends

-- ---- finished files

pub finishes_none : (files : Files) → Finishes [] files files
finishes_none None = refl
finishes_none (Some files) = refl

-- a volume is finished after others
finishes_next : (volume : Volume) (earlier : List Volume) (old mid new : Files) → Finishes earlier old mid
    → Finishes (volume ∷ []) mid new → Finishes (volume ∷ earlier) old new
finishes_next volume earlier None mid new one two = two ∙ ap (option_map (λ files. volume.kept ∷ files)) one
finishes_next volume earlier (Some files) mid new one two = two ∙ ap (option_map (λ f. volume.kept ∷ f)) one

-- the files of volumes after a first one
after_first : (volume : Volume) (later : List Volume) (files : List (Option Kept))
    → map (λ (v : Volume). v.kept) later ++ (volume.kept ∷ files)
    ≡ map (λ (v : Volume). v.kept) (later ++ (volume ∷ [])) ++ files
after_first volume [] files = refl
after_first volume (v ∷ later) files = ap (λ f. v.kept ∷ f) (after_first volume later files)

-- a volume is finished before others
finishes_first : (volume : Volume) (later : List Volume) (old mid new : Files) → Finishes (volume ∷ []) old mid
    → Finishes later mid new → Finishes (later ++ (volume ∷ [])) old new
finishes_first volume later None mid new one two =
    two ∙ ap (option_map (λ files. map (λ (v : Volume). v.kept) later ++ files)) one
finishes_first volume later (Some files) mid new one two =
    two ∙ ap (option_map (λ f. map (λ (v : Volume). v.kept) later ++ f)) one ∙ ap Some (after_first volume later files)

pub turns : (limits : Limits) (begun now ended next : List Entry) (kept : Option Kept) (old mid new : Files)
    → HasLasted limits begun now → MayEnd limits now ended → Holds kept ended → MayBegin ended next → mid ≡ old
    → new ≡ option_map (λ files. kept ∷ files) mid → MayTurn limits begun next old new
turns limits begun now ended next kept old mid new so ends holds begins same finished = record {
  volume = record { begun = begun; ended = ended; kept = kept };
  from = refl;
  whole = record { lasts = lasts limits begun now ended so ends; holds = holds };
  begins = begins;
  finishes = finished ∙ ap (option_map (λ files. kept ∷ files)) same;
}

-- a turn failed after it had finished the volume, or before
pub turn_stops : (limits : Limits) (begun now ended : List Entry) (kept : Option Kept) (old mid new : Files)
    → HasLasted limits begun now → MayEnd limits now ended → Holds kept ended → mid ≡ old
    → (new ≡ mid) ⊎ (new ≡ option_map (λ files. kept ∷ files) mid) → MayStop limits begun old new
turn_stops limits begun now ended kept old mid new so ends holds same (inl still) = inl (still ∙ same)
turn_stops limits begun now ended kept old mid new so ends holds same (inr finished) = inr (
  record { begun = begun; ended = ended; kept = kept },
  refl,
  record { lasts = lasts limits begun now ended so ends; holds = holds },
  finished ∙ ap (option_map (λ files. kept ∷ files)) same,
)

-- ---- one volume after another

-- the next volume of a server begins with these entries: it is the first one, or follows from the last one
abbrev pub HasFollowed : Limits → List Entry → List Entry → Files → Files → Type 0
HasFollowed limits loaded now old new = ((now ≡ loaded) × (new ≡ old)) ⊎ MayFollow limits loaded now old new

pub follows : (limits : Limits) (loaded now next : List Entry) (old mid new : Files)
    → HasFollowed limits loaded now old mid → MayTurn limits now next mid new → MayFollow limits loaded next old new
follows limits loaded now next old mid new (inl (is, same)) t = record {
  earlier = [];
  last = t.volume;
  are = First t.volume (t.from ∙ is) t.whole;
  begins = t.begins;
  finishes = subst (λ (files : Files). Finishes (t.volume ∷ []) files new) same t.finishes;
}
follows limits loaded now next old mid new (inr f) t = record {
  earlier = f.last ∷ f.earlier;
  last = t.volume;
  are = Next f.earlier f.last t.volume f.are
      (subst (λ (l : List Entry). MayBegin f.last.ended l) (sym t.from) f.begins) t.whole;
  begins = t.begins;
  finishes = finishes_next t.volume (f.last ∷ f.earlier) old mid new f.finishes t.finishes;
}

pub closes : (limits : Limits) (loaded now history : List Entry) (old mid new : Files) (kept : Option Kept)
    → HasFollowed limits loaded now old mid → MayLast limits now history → Holds kept history → new ≡ mid
    → MayClose limits loaded old new kept history
closes limits loaded now history old mid new kept (inl (is, same)) lasts holds still = record {
  begun = now;
  earlier = [];
  are = First (record { begun = now; ended = history; kept = kept }) is (record { lasts = lasts; holds = holds });
  holds = holds;
  finishes = subst (Finishes [] old) (sym (still ∙ same)) (finishes_none old);
}
closes limits loaded now history old mid new kept (inr f) lasts holds still = record {
  begun = now;
  earlier = f.last ∷ f.earlier;
  are = Next f.earlier f.last (record { begun = now; ended = history; kept = kept }) f.are f.begins
      (record { lasts = lasts; holds = holds });
  holds = holds;
  finishes = still ∙ f.finishes;
}

-- a volume before others
before : {limits : Limits} {loaded next : List Entry} {volumes : List Volume} (volume : Volume)
    → volume.begun ≡ loaded → IsWhole limits volume → MayBegin volume.ended next → AreVolumes limits next volumes
    → AreVolumes limits loaded (volumes ++ (volume ∷ []))
before volume from whole begins (First first is one) =
    Next [] volume first (First volume from whole)
    (subst (λ (l : List Entry). MayBegin volume.ended l) (sym is) begins) one
before volume from whole begins (Next earlier last next are after one) =
    Next (earlier ++ (volume ∷ [])) last next (before volume from whole begins are) after one

pub closes_later : (limits : Limits) (loaded next history : List Entry) (old mid new : Files) (kept : Option Kept)
    → MayTurn limits loaded next old mid → MayClose limits next mid new kept history
    → MayClose limits loaded old new kept history
closes_later limits loaded next history old mid new kept t c = record {
  begun = c.begun;
  earlier = c.earlier ++ (t.volume ∷ []);
  are = before t.volume t.from t.whole t.begins c.are;
  holds = c.holds;
  finishes = finishes_first t.volume c.earlier old mid new t.finishes c.finishes;
}

-- ---- a server that fails

-- it failed in the first volume, or in a later one
pub stops : (limits : Limits) (loaded now : List Entry) (old mid new : Files) → HasFollowed limits loaded now old mid
    → MayStop limits now mid new → FinishesFirst limits loaded old new
stops limits loaded now old mid new (inl (is, same)) (inl still) = inl (still ∙ same)
stops limits loaded now old mid new (inl (is, same)) (inr (volume, from, whole, finishes)) = inr (
  volume ∷ [],
  First volume (from ∙ is) whole,
  subst (λ (files : Files). Finishes (volume ∷ []) files new) same finishes,
)
stops limits loaded now old mid new (inr f) (inl still) = inr (f.last ∷ f.earlier, f.are, still ∙ f.finishes)
stops limits loaded now old mid new (inr f) (inr (volume, from, whole, finishes)) = inr (
  volume ∷ f.last ∷ f.earlier,
  Next f.earlier f.last volume f.are
      (subst (λ (l : List Entry). MayBegin f.last.ended l) (sym from) f.begins) whole,
  finishes_next volume (f.last ∷ f.earlier) old mid new f.finishes finishes,
)

-- it failed after its first turn
pub stops_later : (limits : Limits) (loaded next : List Entry) (old mid new : Files)
    → MayTurn limits loaded next old mid → FinishesFirst limits next mid new → FinishesFirst limits loaded old new
stops_later limits loaded next old mid new t (inl still) =
    inr (t.volume ∷ [], First t.volume t.from t.whole, still ∙ t.finishes)
stops_later limits loaded next old mid new t (inr (volumes, are, finishes)) = inr (
  volumes ++ (t.volume ∷ []),
  before t.volume t.from t.whole t.begins are,
  finishes_first t.volume volumes old mid new t.finishes finishes,
)
