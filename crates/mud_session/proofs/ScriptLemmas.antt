-- The output of a script.
use Rattle.std.proofs.Common.{◌≡◌, ℕ, ◌+◌, ◌<◌, ◌≤◌, Bool, true, false, List, [], ◌∷◌, ◌++◌, length, map, take, refl}
use Rattle.std.proofs.Common.{sym, ap, subst, ◌∙◌, append-nil, arith, inl, inr, length-append}
use Rattle.std.specs.Prelude.{Option, Some, if◌then◌else◌, ◌==◌, ◌&&◌, nat_lt}
use Rattle.std.proofs.lemmas.Bool.Decides.{nat_tests}
use Rattle.std.specs.Io.KnownBytes.{Appends, Consumes, Keeps, IsAtEnd}
use Rattle.std.proofs.KnownBytes.{Appends-nil, Appends-trans, Consumes-nil, Consumes-trans, Consumes-kept}
use Rattle.std.proofs.lemmas.Bool.{cases_Bool, true≢false}
use Rattle.std.proofs.Math.Seq.{take-append-add, take-length}
use Rattle.mud_nvt.specs.declared.codes.TheConstants.{LF}
use Rattle.mud_nvt.specs.Units.{Given, units}
use Rattle.mud_nvt.specs.History.{StandsAfter}
use Rattle.mud_hall.specs.Desk.{DeskState}
use Rattle.mud_session.specs.State.{SessionState, DoorState}
use Rattle.mud_io.specs.Streams.{Reader, Writer, new_reader}
use Rattle.mud_session.specs.Session.{TakingIn, Turn, Plays, Play, is_over, text_of}
use Rattle.mud_session.specs.inner.Service.{Serves, ServesInPart, IsWholeAt}
use Rattle.mud_session.specs.Script.{Script, IsWhole, IsFront, IsOpen}
use Rattle.mud_session.proofs.Playing.{unit_in, retold, joined, over-by, text_of-append}

-- a read saw the end, or did not
pub ends_here : (at_end : Bool) (n : ℕ) (buffer : List ℕ) → at_end ≡ (n == 0 && nat_lt 0 (length buffer)) → n ≡ 0
    → 0 < length buffer → at_end ≡ true
ends_here at_end n buffer is none some = is ∙ grind (arith, nat_tests)

pub goes_on_here : (at_end : Bool) (n : ℕ) (buffer : List ℕ)
    → at_end ≡ (n == 0 && nat_lt 0 (length buffer)) → 0 < n → at_end ≡ false
goes_on_here at_end n buffer is some = is ∙ grind (arith, nat_tests)

-- the state of the script after some reads
pub record Reached (takes_in : TakingIn) (capacity : ℕ) (start : DeskState) (reader read : Reader)
    (held now : Option (List ℕ)) (state : SessionState) (door : DoorState) : Type 0 where
  pub bytes : List ℕ
  pub turns : List Turn
  pub units_are : map Some (units bytes) ≡ map unit_in turns
  pub plays : Plays takes_in capacity start turns door.desk
  pub same : door.capacity ≡ capacity
  pub stands : StandsAfter state.terminal bytes
  pub goes_on : is_over turns ≡ false
  pub out : state.out ≡ []
  pub consumed : Consumes reader.left read.left bytes
  pub no_end : read.at_end ≡ false
  pub many : read.reads ≤ length bytes
  pub written : Appends held now (text_of turns)

pub reached_none : (takes_in : TakingIn) (reader : Reader) (held : Option (List ℕ)) (state : SessionState)
    (door : DoorState) → reader ≡ new_reader reader.left
    → StandsAfter state.terminal [] → state.out ≡ []
    → Reached takes_in door.capacity door.desk reader reader held held state door
reached_none takes_in reader held state door fresh stands out = record {
  bytes = [];
  turns = [];
  units_are = refl;
  plays = refl;
  same = refl;
  stands = stands;
  goes_on = refl;
  out = out;
  consumed = Consumes-nil reader.left;
  no_end = ap (λ (r : Reader). r.at_end) fresh;
  many = let none : reader.reads ≡ 0 = ap (λ (r : Reader). r.reads) fresh in omega arith;
  written = Appends-nil held;
}

-- ---- the script that was played
heard_bytes : (bytes : List ℕ) (at_end ended : Bool) → at_end ≡ ended
    → (if at_end then bytes ++ LF ∷ [] else bytes) ≡ (if ended then bytes ++ LF ∷ [] else bytes)
heard_bytes bytes at_end ended e = ap (λ (b : Bool). if b then bytes ++ LF ∷ [] else bytes) e

-- before the end
abbrev played : {takes_in : TakingIn} {capacity : ℕ} {start : DeskState}
    {old new : Reader} {desk : DeskState} (bytes : List ℕ)
    → Consumes old.left new.left bytes → new.at_end ≡ false
    → Play takes_in capacity start (units bytes) desk → Script takes_in capacity start old new
played {new = new} {desk = desk} bytes consumed open_still play = record {
  bytes = bytes;
  read = consumed;
  end = λ e. absurd (true≢false (sym e ∙ open_still));
  desk = desk;
  play = retold (ap units (heard_bytes bytes new.at_end false open_still)) play;
}

-- at the end
abbrev played_out : {takes_in : TakingIn} {capacity : ℕ} {start : DeskState}
    {old new : Reader} {desk : DeskState} (bytes : List ℕ)
    → Consumes old.left new.left bytes → new.at_end ≡ true → IsAtEnd new.left
    → Play takes_in capacity start (units (bytes ++ LF ∷ [])) desk → Script takes_in capacity start old new
played_out {new = new} {desk = desk} bytes consumed ended end play = record {
  bytes = bytes;
  read = consumed;
  end = λ _. end;
  desk = desk;
  play = retold (ap units (heard_bytes bytes new.at_end true ended)) play;
}

-- the turns played so far
abbrev so_far_play : {takes_in : TakingIn} {capacity : ℕ} {start : DeskState}
    {reader read : Reader} {held now : Option (List ℕ)}
    {state : SessionState} {door : DoorState}
    → (so_far : Reached takes_in capacity start reader read held now state door)
    → Play takes_in capacity start (units so_far.bytes) door.desk
so_far_play so_far = record {
  turns = so_far.turns;
  left = [];
  units_are =
      so_far.units_are ∙ sym (append-nil (map unit_in so_far.turns));
  plays = so_far.plays;
}

-- and for more bytes
abbrev more_play : {takes_in : TakingIn} {capacity : ℕ} {start : DeskState}
    {reader read : Reader}
    {held now : Option (List ℕ)} {state : SessionState} {door : DoorState} {fresh : List Given} {desk : DeskState}
    → (so_far : Reached takes_in capacity start reader read held now state door) (more : List ℕ)
    → units (so_far.bytes ++ more) ≡ units so_far.bytes ++ fresh → Play takes_in door.capacity door.desk fresh desk
    → Play takes_in capacity start (units (so_far.bytes ++ more)) desk
more_play {takes_in = takes_in} {door = door} {desk = desk} so_far more is play =
    retold is (joined _ so_far.turns so_far.units_are so_far.goes_on so_far.plays (record {
      turns = play.turns;
      left = play.left;
      units_are = play.units_are;
      plays = subst (λ (n : ℕ). Plays takes_in n door.desk play.turns desk) so_far.same play.plays;
    }))

more_written : (held now later : Option (List ℕ)) (xs ys : List Turn) → Appends held now (text_of xs)
    → Appends now later (text_of ys) → Appends held later (text_of (xs ++ ys))
more_written held now later xs ys p q = subst (Appends held later) (sym (text_of-append xs ys))
    (Appends-trans held now later (text_of xs) (text_of ys) p q)

pub reached_more : {takes_in : TakingIn} {capacity : ℕ} {start : DeskState}
    {reader read next : Reader} {held now later : Option (List ℕ)}
    {state new : SessionState} {door new_door : DoorState} {more : List ℕ}
    → (so_far : Reached takes_in capacity start reader read held now state door) → Consumes read.left next.left more
    → next.at_end ≡ false → next.reads ≡ read.reads + 1 → 0 < length more
    → new.has_ended ≡ false → Serves takes_in so_far.bytes more state new door new_door now later
    → Reached takes_in capacity start reader next held later new new_door
reached_more {more = more} so_far consumed no_end reads some goes_on serves =
    let play = more_play so_far more serves.feeds.units serves.feeds.play in
    record {
      bytes = so_far.bytes ++ more;
      turns = play.turns;
      units_are = play.units_are ∙ ap (λ l. map unit_in play.turns ++ map Some l) (serves.feeds.all goes_on)
          ∙ append-nil (map unit_in play.turns);
      plays = play.plays;
      same = serves.capacity ∙ so_far.same;
      stands = serves.feeds.stands;
      goes_on = over-by so_far.turns serves.feeds.play.turns _ so_far.goes_on serves.feeds.ended ∙ goes_on;
      out = serves.out;
      consumed = Consumes-trans _ _ _ so_far.bytes more so_far.consumed consumed;
      no_end = no_end;
      many = let m = so_far.many in omega (arith, length-append so_far.bytes more);
      written = more_written _ _ _ so_far.turns serves.feeds.play.turns so_far.written serves.written;
    }

-- an answered `quit`
pub whole_at_quit : {takes_in : TakingIn} {capacity : ℕ} {start : DeskState}
    {reader read next : Reader} {writer written : Writer}
    {now : Option (List ℕ)} {state new : SessionState} {door new_door : DoorState} {more : List ℕ}
    → (so_far : Reached takes_in capacity start reader read writer.holds now state door)
    → Consumes read.left next.left more
    → next.at_end ≡ false → new.has_ended ≡ true
    → Serves takes_in so_far.bytes more state new door new_door now written.holds
    → IsWholeAt takes_in capacity start reader next writer written new_door.desk
whole_at_quit {more = more} so_far consumed no_end over serves = record {
  desk_is = refl;
  whole = record {
    script = played (so_far.bytes ++ more) (Consumes-trans _ _ _ so_far.bytes more so_far.consumed consumed) no_end
        (more_play so_far more serves.feeds.units serves.feeds.play);
    writes = more_written _ _ _ so_far.turns serves.feeds.play.turns so_far.written serves.written;
    done = inr (over-by so_far.turns serves.feeds.play.turns _ so_far.goes_on serves.feeds.ended ∙ over);
  };
}

-- the end of the input, and the last line
pub whole_at_end : {takes_in : TakingIn} {capacity : ℕ} {start : DeskState}
    {reader read next : Reader} {writer written : Writer}
    {now : Option (List ℕ)} {state new : SessionState} {door new_door : DoorState}
    → (so_far : Reached takes_in capacity start reader read writer.holds now state door)
    → Consumes read.left next.left []
    → next.at_end ≡ true → IsAtEnd next.left
    → Serves takes_in so_far.bytes (LF ∷ []) state new door new_door now written.holds
    → IsWholeAt takes_in capacity start reader next writer written new_door.desk
whole_at_end {new = new} so_far consumed ended end serves = record {
  desk_is = refl;
  whole = record {
    script = played_out so_far.bytes (rw append-nil at (Consumes-trans _ _ _ so_far.bytes [] so_far.consumed consumed))
        ended end (more_play so_far (LF ∷ []) serves.feeds.units serves.feeds.play);
    writes = more_written _ _ _ so_far.turns serves.feeds.play.turns so_far.written serves.written;
    done = elim (cases_Bool new.has_ended) [
      | inl e ↦ inr (over-by so_far.turns serves.feeds.play.turns _ so_far.goes_on serves.feeds.ended ∙ e)
      | inr e ↦ inl (ended, serves.feeds.all e)
    ];
  };
}

-- ---- prefixes
more_front : (held now later : Option (List ℕ)) (xs ys : List Turn) (n : ℕ) → Appends held now (text_of xs)
    → Appends now later (take n (text_of ys))
    → Appends held later (take (length (text_of xs) + n) (text_of (xs ++ ys)))
more_front held now later xs ys n p q =
    subst (Appends held later)
    (sym (ap (take (length (text_of xs) + n)) (text_of-append xs ys) ∙ take-append-add (text_of xs) (text_of ys) n))
    (Appends-trans held now later (text_of xs) (take n (text_of ys)) p q)

-- if the door could not be opened
pub front_at_start : (takes_in : TakingIn) (capacity : ℕ) (start : DeskState) (reader : Reader) (writer : Writer)
    → reader ≡ new_reader reader.left → IsFront takes_in capacity start reader reader writer writer
front_at_start takes_in capacity start reader writer fresh = record {
  script = played [] (Consumes-nil reader.left) (ap (λ (r : Reader). r.at_end) fresh)
      (record { turns = []; left = units []; units_are = refl; plays = refl });
  count = 0;
  writes = Appends-nil writer.holds;
}

-- if a read fails, or there were too many reads
pub front_so_far : {takes_in : TakingIn} {capacity : ℕ} {start : DeskState}
    {reader read next : Reader} {writer written : Writer}
    {state : SessionState} {door : DoorState}
    → Reached takes_in capacity start reader read writer.holds written.holds state door → Keeps read.left next.left
    → next.at_end ≡ false → IsFront takes_in capacity start reader next writer written
front_so_far {writer = writer} {written = written} so_far kept no_end = record {
  script = played so_far.bytes (Consumes-kept _ _ _ so_far.bytes so_far.consumed kept) no_end (so_far_play so_far);
  count = length (text_of so_far.turns);
  writes = subst (Appends writer.holds written.holds) (sym (take-length (text_of so_far.turns))) so_far.written;
}

-- if the session or a write fails
pub front_served : {takes_in : TakingIn} {capacity : ℕ} {start : DeskState}
    {reader read next : Reader} {writer written : Writer}
    {now : Option (List ℕ)} {state : SessionState} {door : DoorState} {more : List ℕ}
    → (so_far : Reached takes_in capacity start reader read writer.holds now state door)
    → Consumes read.left next.left more → next.at_end ≡ false
    → ServesInPart takes_in so_far.bytes more door now written.holds
    → IsFront takes_in capacity start reader next writer written
front_served {more = more} so_far consumed no_end part = record {
  script = played (so_far.bytes ++ more) (Consumes-trans _ _ _ so_far.bytes more so_far.consumed consumed) no_end
      (more_play so_far more part.units part.play);
  count = length (text_of so_far.turns) + part.count;
  writes = more_front _ _ _ so_far.turns part.play.turns part.count so_far.written part.written;
}

-- likewise at the end of the input, in the last line
pub front_at_end : {takes_in : TakingIn} {capacity : ℕ} {start : DeskState}
    {reader read next : Reader} {writer written : Writer}
    {now : Option (List ℕ)} {state : SessionState} {door : DoorState}
    → (so_far : Reached takes_in capacity start reader read writer.holds now state door)
    → Consumes read.left next.left []
    → next.at_end ≡ true → IsAtEnd next.left
    → ServesInPart takes_in so_far.bytes (LF ∷ []) door now written.holds
    → IsFront takes_in capacity start reader next writer written
front_at_end so_far consumed ended end part = record {
  script = played_out so_far.bytes (rw append-nil at (Consumes-trans _ _ _ so_far.bytes [] so_far.consumed consumed))
      ended end (more_play so_far (LF ∷ []) part.units part.play);
  count = length (text_of so_far.turns) + part.count;
  writes = more_front _ _ _ so_far.turns part.play.turns part.count so_far.written part.written;
}

-- the script continues
pub is_open : {takes_in : TakingIn} {capacity : ℕ} {start : DeskState}
    {reader read : Reader} {writer written : Writer}
    {state : SessionState} {door : DoorState}
    → Reached takes_in capacity start reader read writer.holds written.holds state door
    → IsOpen takes_in capacity start reader read writer written
is_open so_far = record {
  script = played so_far.bytes so_far.consumed so_far.no_end (so_far_play so_far);
  writes = so_far.written;
  all = refl;
  goes_on = so_far.goes_on;
  no_end = so_far.no_end;
  many = so_far.many;
}
