-- The turns of a script are a run of the single-user hall.
use Rattle.std.proofs.Common.{◌≡◌, ℕ, List, [], ◌∷◌, ◌++◌, Some, refl, sym, ap, ◌∙◌, subst, map, ◌⊎◌, inl, inr}
use Rattle.std.proofs.lemmas.List.{append-nil}
use Rattle.mud_words.specs.Parse.{parse_of}
use Rattle.mud_world.specs.declared.change.Change.{Change}
use Rattle.mud_rules.specs.declared.verdict.Verdict.{Verdict}
use Rattle.mud_rules.specs.declared.verdict.Verdict.TheVariants as verdict
use Rattle.mud_chron.specs.Entry.{Entry}
use Rattle.mud_hall.specs.declared.fault.Fault.TheVariants.{OutOfMemory, HistoryFull, Unpublished, DesksFull}
use Rattle.mud_hall.specs.Desk.{DeskState}
use Rattle.mud_hall.specs.inner.Desks.{took_in}
use Rattle.mud_hall.specs.Replies.{Reply, Accepted, Became, Refused, Question, Failed, Stores, Replies, verdict_on}
use Rattle.mud_hall.specs.Steps.{Call, Act, Performs, Hall, seats, lone_desk, opened_alone, At, Makes, Grows, IsRun}
use Rattle.mud_hall.proofs.Coming.{Plain, plainly}
use Rattle.mud_session.specs.Session.{TakesNone, Turn, Plays}
use Rattle.mud_session.specs.Laws.{all_calls, AreScript}
use Rattle.mud_session.proofs.Calling.{HoldsOfCalls, HoldsOfAll, all_turned}

-- ---- one call of a single-user desk

-- the call, and the growth of the desk's entries as a history
record IsOne (capacity : ℕ) (old : DeskState) (call : Call) (new : DeskState) : Type 0 where
  performs : Performs capacity old call new
  grows : Grows call old.seen new new.seen

takes-none : (d : DeskState) → d ≡ took_in d []
takes-none d =
    ap (λ (l : List Entry). let x : DeskState = record d { seen = l } in x) (sym (append-nil d.seen))
    ∙ ap (λ (l : List (List ℕ)). let x : DeskState = record d { seen = d.seen ++ []; told = l } in x)
    (sym (append-nil d.told))

seen-same : (old new : DeskState) → new ≡ old → new.seen ≡ old.seen
seen-same old new same = ap (λ (d : DeskState). d.seen) same

stored-grows : (capacity : ℕ) (old : DeskState) (line : List ℕ) (e : Change) (reply : Reply) (new : DeskState)
    → Stores capacity old e reply new → Grows (Act line reply) old.seen new new.seen
stored-grows capacity old line e (Accepted v text) new h =
    let entry : Entry = record { desk = old.number; change = e } in
    (entry, ap (λ (d : DeskState). d.seen) h.3, refl)
stored-grows capacity old line e (Failed HistoryFull) new h = seen-same old new h.1
stored-grows capacity old line e (Failed Unpublished) new h = seen-same old new h.1
stored-grows capacity old line e (Failed OutOfMemory) new h = seen-same old new h
stored-grows capacity old line e (Failed DesksFull) new h = absurd h
stored-grows capacity old line e (Became v text) new h = absurd h
stored-grows capacity old line e (Refused v f text) new h = absurd h
stored-grows capacity old line e (Question v) new h = absurd h

grown : (capacity : ℕ) (old : DeskState) (line : List ℕ) (reply : Reply) (new : DeskState)
    → Replies capacity old (parse_of line) reply new → Grows (Act line reply) old.seen new new.seen
grown capacity old line reply new h =
    let v : Verdict = verdict_on old.seen old.player (parse_of line) in
    go v (plainly capacity old v reply new h)
  where
    by : (other : Reply) → reply ≡ other → Grows (Act line other) old.seen new new.seen
        → Grows (Act line reply) old.seen new new.seen
    by other is grows = subst (λ (r : Reply). Grows (Act line r) old.seen new new.seen) (sym is) grows

    go : (v : Verdict) → ((reply ≡ Failed OutOfMemory) × (new ≡ old)) ⊎ Plain capacity old v reply new
        → Grows (Act line reply) old.seen new new.seen
    go v (inl c) = by (Failed OutOfMemory) c.0 (seen-same old new c.1)
    go (verdict.Change e) (inr c) = stored-grows capacity old line e reply new c
    go (verdict.Become p) (inr c) = by _ c.0 (ap (λ (d : DeskState). d.seen) c.1)
    go (verdict.Refused f) (inr c) = by _ c.0 (seen-same old new c.1)
    go (verdict.Ask q) (inr c) = by _ c.0 (seen-same old new c.1)

ones : HoldsOfCalls TakesNone IsOne
ones = record {
  sees = λ capacity old new same. record {
    performs = record { entries = []; is = same ∙ takes-none old };
    grows = ap (λ (d : DeskState). d.seen) same;
  };
  tells = λ capacity old lines new hands.
      record { performs = hands; grows = ap (λ (d : DeskState). d.seen) hands.is };
  asks = λ capacity old line answer answers. record { performs = (answers, refl); grows = refl };
  acts = λ capacity old ready line reply new same replies.
      subst (λ (d : DeskState). IsOne capacity d (Act line reply) new) same (record {
        performs = record {
          ready = ready;
          takes_in = record { entries = []; is = takes-none ready };
          replies = replies;
        };
        grows = grown capacity ready line reply new replies;
      });
}

-- ---- the run

-- desk 1 has seen all of the history
record Stands (hall : Hall) (d : DeskState) : Type 0 where
  at : hall.desks 1 ≡ Some d
  whole : hall.history ≡ d.seen

-- from a hall to one in which desk 1 has this state
record Runs (capacity : ℕ) (hall : Hall) (calls : List Call) (new : DeskState) : Type 0 where
  later : Hall
  run : IsRun capacity [] hall (map (At 1) calls) later
  stands : Stands later new

moved : (hall : Hall) (d : DeskState) → Stands (seats hall d.seen 1 d) d
moved hall d = record { at = refl; whole = refl }

made : (capacity : ℕ) (hall : Hall) (old new : DeskState) (call : Call) → Stands hall old → IsOne capacity old call new
    → Makes capacity [] hall (At 1 call) (seats hall new.seen 1 new)
made capacity hall old new call stands one = (
  old,
  new,
  record { before = stands.at; known = ([], append-nil new.seen); after = refl },
  subst (λ (h : List Entry). Grows call h new new.seen) (sym stands.whole) one.grows,
  one.performs,
)

runs : (capacity : ℕ) (hall : Hall) (old : DeskState) (calls : List Call) (new : DeskState) → Stands hall old
    → HoldsOfAll (IsOne capacity) old calls new → Runs capacity hall calls new
runs capacity hall old [] new stands same =
    record { later = hall; run = refl; stands = subst (Stands hall) (sym same) stands }
runs capacity hall old (call ∷ calls) new stands (now, one, ones) =
    let next : Hall = seats hall now.seen 1 now in
    let rest : Runs capacity next calls new = runs capacity next now calls new (moved hall now) ones in
    record {
      later = rest.later;
      run = (next, made capacity hall old now call stands one, rest.run);
      stands = rest.stands;
    }

pub script_is_run : (capacity : ℕ) (turns : List Turn) (new : DeskState) → Plays TakesNone capacity lone_desk turns new
    → AreScript capacity turns new
script_is_run capacity turns new plays =
    let ran : Runs capacity opened_alone (all_calls turns) new =
    runs capacity opened_alone lone_desk (all_calls turns) new (record { at = refl; whole = refl })
    (all_turned TakesNone IsOne ones capacity lone_desk new turns plays) in
    record { hall = ran.later; run = ran.run; desk = ran.stands.at }
