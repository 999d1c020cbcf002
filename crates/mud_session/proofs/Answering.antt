-- The effect of a line on a session.
use Rattle.std.proofs.Common.{◌≡◌, ◌≢◌, ℕ, Bool, true, false, List, [], ◌++◌, Some, Result, Ok, Err, refl, sym, ap}
use Rattle.std.proofs.Common.{subst, ◌∙◌, append_assoc, ◌⊎◌, inl, inr}
use Rattle.std.specs.Prelude.{OnOk, codes, is_some}
use Rattle.std.specs.List.{flat_map}
use Rattle.std.proofs.lemmas.Bool.{true≢false}
use Rattle.mud_words.specs.Words.{is_blank}
use Rattle.mud_words.specs.Line.{Line}
use Rattle.mud_words.specs.Parse.{parse_of}
use Rattle.mud_nvt.specs.Units.{Given, Text}
use Rattle.mud_world.specs.declared.change.Change.{Change}
use Rattle.mud_rules.specs.declared.verdict.Verdict.{Verdict}
use Rattle.mud_rules.specs.declared.verdict.Verdict.TheVariants as verdict
use Rattle.mud_rules.specs.Table.{is_question, is_quit}
use Rattle.mud_rules.specs.Laws.{AreQuestions}
use Rattle.mud_hall.specs.declared.fault.Fault.TheVariants.{OutOfMemory, HistoryFull, Unpublished, DesksFull}
use Rattle.mud_hall.specs.Notices.{world_after}
use Rattle.mud_hall.specs.Desk.{DeskState, with_told}
use Rattle.mud_hall.specs.Replies.{Reply, Accepted, Became, Refused, Question, Failed, Stores, Replies, verdict_on}
use Rattle.mud_hall.proofs.Coming.{Plain, plainly, stays_in_memory}
use Rattle.mud_hall.specs.Answers.{Answered, Answers}
use Rattle.mud_session.specs.State.{SessionState, DoorState}
use Rattle.mud_session.specs.Session.{TakingIn, IsShared, Rests, Fails, Asks, Acts, Sees, is_heard, with_version}
use Rattle.mud_session.specs.Session.{reply_line, wire_text, answer_to}
use Rattle.mud_session.specs.Feeds.{Nudges}
use Rattle.mud_session.specs.inner.TurnTexts.{sends, sent_for, Told, IsSaid, HasTurn}

pub on_ok : {A E P Q : Type 0} (r : Result A E) → (P → Q) → OnOk r P → OnOk r Q
on_ok (Ok x) f h = f h
on_ok (Err e) f h = tt

-- ---- the reply

-- the reply to a change
stored : (capacity : ℕ) (ready : DeskState) (e : Change) (reply : Reply) (new : DeskState)
    → Stores capacity ready e reply new → IsSaid reply
stored capacity ready e (Accepted v text) new h = tt
stored capacity ready e (Failed HistoryFull) new h = tt
stored capacity ready e (Failed Unpublished) new h = tt
stored capacity ready e (Failed OutOfMemory) new h = tt
stored capacity ready e (Failed DesksFull) new h = absurd h
stored capacity ready e (Became v text) new h = absurd h
stored capacity ready e (Refused v refusal text) new h = absurd h
stored capacity ready e (Question v) new h = absurd h

-- a line that does not ask gets a reply of one that acts
pub sayable : AreQuestions → (capacity : ℕ) (ready : DeskState) (line : Line) (reply : Reply) (new : DeskState)
    → is_question line ≡ false
    → Replies capacity ready line reply new → IsSaid reply
sayable law capacity ready line reply new other h =
    let v : Verdict = verdict_on ready.seen ready.player line in
    go v refl (plainly capacity ready v reply new h)
  where
    go : (v : Verdict) → verdict_on ready.seen ready.player line ≡ v
        → ((reply ≡ Failed OutOfMemory) × (new ≡ ready)) ⊎ Plain capacity ready v reply new → IsSaid reply
    go v is (inl c) = subst IsSaid (sym c.0) tt
    go (verdict.Change e) is (inr c) = stored capacity ready e reply new c
    go (verdict.Become p) is (inr c) = subst IsSaid (sym c.0) tt
    go (verdict.Refused f) is (inr c) = subst IsSaid (sym c.0) tt
    go (verdict.Ask q) is (inr c) =
        absurd (true≢false (sym (law (world_after ready.seen) ready.player line q is) ∙ other))

-- ---- a look

pub looked : (T : TakingIn) (s0 s1 : SessionState) (d0 d1 d2 : DoorState) → s0.has_ended ≡ false → T d0.desk d1.desk
    → Told s0 s1 d1.desk d2.desk → Nudges T s0 s1 d0 d2
looked T s0 s1 d0 d1 d2 goes takes told = record {
  lines = told.lines;
  looks = record { ready = d1.desk; takes = takes; tells = told.tells };
  goes_on = goes;
  is = told.is;
}

-- ---- the turn of a line

-- an allocation failed before the line had an effect
pub unanswered : (T : TakingIn) (line : List ℕ) (s0 s1 s2 : SessionState) (d0 d1 d2 : DoorState) → is_blank line ≡ false
    → Nudges T s0 s1 d0 d1 → d2.desk ≡ d1.desk → s2 ≡ sends s1 (wire_text (codes "(out of memory)"))
    → HasTurn T (Text line) s0 s2 d0 d2
unanswered T line s0 s1 s2 d0 d1 d2 heard nudged same said = record {
  turn = record { case = Fails line; notices = nudged.lines };
  of = refl;
  does = (heard, subst (λ (d : DeskState). Sees T d0.desk nudged.lines d) (sym same) nudged.looks);
  ended = ap (λ (s : SessionState). s.has_ended) said ∙ ap (λ (s : SessionState). s.has_ended) nudged.is
      ∙ nudged.goes_on;
  terminal = ap (λ (s : SessionState). s.terminal) said ∙ ap (λ (s : SessionState). s.terminal) nudged.is;
  out = ap (λ (s : SessionState). s.out) said ∙ ap (λ (s : SessionState). s.out ++ answer_to (Fails line)) nudged.is
      ∙ append_assoc s0.out (flat_map wire_text nudged.lines) (answer_to (Fails line));
}

-- a question was answered
pub asked : (T : TakingIn) (text : List ℕ) (line : Line) (s0 s1 s2 : SessionState) (d0 d1 d2 : DoorState) (last : Bool)
    (answer : Answered) → is_blank text ≡ false → parse_of text ≡ line → is_question line ≡ true → last ≡ is_quit line
    → Nudges T s0 s1 d0 d1 → d1.desk.told ≡ [] → d2.desk ≡ d1.desk → Answers d1.desk line answer
    → s2 ≡ record (sends s1 (wire_text (with_version answer.version answer.text))) { has_ended = last }
    → HasTurn T (Text text) s0 s2 d0 d2
asked T text line s0 s1 s2 d0 d1 d2 last answer heard read question quits nudged all same answers said =
    let reply : List ℕ = wire_text (with_version answer.version answer.text) in
    record {
      turn = record { case = Asks text answer; notices = nudged.lines };
      of = refl;
      does = (
        heard,
        ap is_question read ∙ question,
        subst (λ (d : DeskState). Sees T d0.desk nudged.lines d) (sym same) nudged.looks,
        ap (λ (d : DeskState). d.told) same ∙ all,
        subst (λ (l : Line). Answers d2.desk l answer) (sym read)
            (subst (λ (d : DeskState). Answers d line answer) (sym same) answers),
      );
      ended = ap (λ (s : SessionState). s.has_ended) said ∙ quits ∙ ap is_quit (sym read);
      terminal = ap (λ (s : SessionState). s.terminal) said ∙ ap (λ (s : SessionState). s.terminal) nudged.is;
      out = ap (λ (s : SessionState). s.out) said ∙ ap (λ (s : SessionState). s.out ++ reply) nudged.is
          ∙ append_assoc s0.out (flat_map wire_text nudged.lines) reply;
    }

-- the desk acted
pub acted : (T : TakingIn) (text : List ℕ) (line : Line) (s0 s1 s2 : SessionState) (d0 d1 d2 : DoorState)
    (reply : Reply) → s0.has_ended ≡ false → is_blank text ≡ false → parse_of text ≡ line → is_question line ≡ false
    → ((ready : DeskState) × T d0.desk ready × Replies d0.capacity ready line reply d1.desk)
    → (reply ≡ Failed Unpublished → IsShared T) → (reply ≢ Failed OutOfMemory → d1.pending ≡ [])
    → d2.desk ≡ with_told d1.desk d1.pending → Told s0 s1 d1.desk d2.desk → IsSaid reply
    → s2 ≡ sends s1 (sent_for reply) → HasTurn T (Text text) s0 s2 d0 d2
acted T text line s0 s1 s2 d0 d1 d2 reply goes heard read other (ready, takes, replies) stored told rest tells
    is_said said = go reply replies stored told is_said said
  where
    texted : (r : Reply) (words : List ℕ) → reply_line r ≡ Some words → r ≢ Failed OutOfMemory
        → Replies d0.capacity ready line r d1.desk → (r ≡ Failed Unpublished → IsShared T)
        → (r ≢ Failed OutOfMemory → d1.pending ≡ [])
        → s2 ≡ sends s1 (answer_to (Acts text r)) → HasTurn T (Text text) s0 s2 d0 d2
    texted r words has sure rs kept all is = record {
      turn = record { case = Acts text r; notices = tells.lines };
      of = refl;
      does = (
        heard,
        ap is_question read ∙ other,
        record {
          ready = ready;
          takes = takes;
          acted = d1.desk;
          replies = subst (λ (l : Line). Replies d0.capacity ready l r d1.desk) (sym read) rs;
          stored = kept;
          tells = tells.tells;
          all = ap (λ (d : DeskState). d.told) rest ∙ all sure;
          says = ap is_some has;
        },
      );
      ended = ap (λ (s : SessionState). s.has_ended) is ∙ ap (λ (s : SessionState). s.has_ended) tells.is ∙ goes;
      terminal = ap (λ (s : SessionState). s.terminal) is ∙ ap (λ (s : SessionState). s.terminal) tells.is;
      out = ap (λ (s : SessionState). s.out) is ∙ ap (λ (s : SessionState). s.out ++ answer_to (Acts text r)) tells.is
          ∙ append_assoc s0.out (flat_map wire_text tells.lines) (answer_to (Acts text r));
    }

    go : (r : Reply) → Replies d0.capacity ready line r d1.desk → (r ≡ Failed Unpublished → IsShared T)
        → (r ≢ Failed OutOfMemory → d1.pending ≡ []) → IsSaid r → s2 ≡ sends s1 (sent_for r)
        → HasTurn T (Text text) s0 s2 d0 d2
    go (Accepted v said) rs kept all can is =
        texted (Accepted v said) (with_version v said) refl
        (λ e. let bad : ◌≡◌ {A = Reply} (Accepted v said) (Failed OutOfMemory) = e in cc) rs kept all is
    go (Became v said) rs kept all can is =
        texted (Became v said) (with_version v said) refl
        (λ e. let bad : ◌≡◌ {A = Reply} (Became v said) (Failed OutOfMemory) = e in cc) rs kept all is
    go (Refused v f said) rs kept all can is =
        texted (Refused v f said) (with_version v said) refl
        (λ e. let bad : ◌≡◌ {A = Reply} (Refused v f said) (Failed OutOfMemory) = e in cc) rs kept all is
    go (Question v) rs kept all can is = absurd can
    go (Failed OutOfMemory) rs kept all can is =
        let same : d1.desk ≡ ready =
        stays_in_memory d0.capacity ready (verdict_on ready.seen ready.player line) d1.desk rs in
        unanswered T text s0 s1 s2 d0 d2 d2 heard
        (looked T s0 s1 d0 d1 d2 goes (subst (T d0.desk) (sym same) takes) tells) refl is
    go (Failed HistoryFull) rs kept all can is =
        texted (Failed HistoryFull) (codes "(history full)") refl
        (λ e. let bad : ◌≡◌ {A = Reply} (Failed HistoryFull) (Failed OutOfMemory) = e in cc) rs kept all is
    go (Failed Unpublished) rs kept all can is =
        texted (Failed Unpublished) (codes "(not stored)") refl
        (λ e. let bad : ◌≡◌ {A = Reply} (Failed Unpublished) (Failed OutOfMemory) = e in cc) rs kept all is
    go (Failed DesksFull) rs kept all can is = absurd can

-- ---- the turn of a unit that does not reach the desk

pub rested : (T : TakingIn) (u : Given) (old new : SessionState) (old_door new_door : DoorState) → old.has_ended ≡ false
    → is_heard u ≡ false → new ≡ sends old (answer_to (Rests u)) → new_door ≡ old_door
    → HasTurn T u old new old_door new_door
rested T u old new old_door new_door goes quiet is same = record {
  turn = record { case = Rests u; notices = [] };
  of = refl;
  does = (quiet, refl, ap (λ (d : DoorState). d.desk) same);
  ended = ap (λ (s : SessionState). s.has_ended) is ∙ goes;
  terminal = ap (λ (s : SessionState). s.terminal) is;
  out = ap (λ (s : SessionState). s.out) is;
}
