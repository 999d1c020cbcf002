-- Each notice comes once.
use Rattle.std.proofs.Common.{◌≡◌, ℕ, List, [], ◌∷◌, ◌++◌, refl, sym, ap, ◌∙◌, append_assoc, inl, inr}
use Rattle.std.specs.Prelude.{◌⊎◌}
use Rattle.std.proofs.lemmas.List.{append-nil}
use Rattle.mud_words.specs.Line.{Line}
use Rattle.mud_words.specs.Parse.{parse_of}
use Rattle.mud_world.specs.declared.change.Change.{Change}
use Rattle.mud_rules.specs.declared.verdict.Verdict.{Verdict}
use Rattle.mud_rules.specs.declared.verdict.Verdict.TheVariants as verdict
use Rattle.mud_chron.specs.Entry.{Entry}
use Rattle.mud_hall.specs.declared.fault.Fault.TheVariants.{OutOfMemory, HistoryFull, Unpublished, DesksFull}
use Rattle.mud_hall.specs.Desk.{DeskState, TakesIn, HandsOut}
use Rattle.mud_hall.specs.Replies.{Reply, Accepted, Became, Refused, Question, Failed, Stores, Replies, verdict_on}
use Rattle.mud_hall.proofs.Coming.{Plain, plainly}
use Rattle.mud_session.specs.Session.{Case, Rests, Looks, Fails, Asks, Acts, Sees, Does}
use Rattle.mud_session.specs.Laws.{IsToldOnce}

-- the desk made an entry itself, or none, and gets no notice of it
record Adds (old new : DeskState) : Type 0 where
  own : List Entry
  seen : new.seen ≡ old.seen ++ own
  mine : (own ≡ []) ⊎ ((e : Entry) × (own ≡ e ∷ []) × (e.desk ≡ old.number))
  told : new.told ≡ old.told

adds-none : (old new : DeskState) → new.seen ≡ old.seen → new.told ≡ old.told → Adds old new
adds-none old new seen told = record { own = []; seen = seen ∙ sym (append-nil old.seen); mine = inl refl; told = told }

adds-same : (old new : DeskState) → new ≡ old → Adds old new
adds-same old new same = adds-none old new (ap (λ (d : DeskState). d.seen) same) (ap (λ (d : DeskState). d.told) same)

stores-add : (capacity : ℕ) (old : DeskState) (e : Change) (reply : Reply) (new : DeskState)
    → Stores capacity old e reply new → Adds old new
stores-add capacity old e (Accepted v text) new h =
    let entry : Entry = record { desk = old.number; change = e } in
    record {
      own = entry ∷ [];
      seen = ap (λ (d : DeskState). d.seen) h.3;
      mine = inr (entry, refl, refl);
      told = ap (λ (d : DeskState). d.told) h.3;
    }
stores-add capacity old e (Failed HistoryFull) new h = adds-same old new h.1
stores-add capacity old e (Failed Unpublished) new h = adds-same old new h.1
stores-add capacity old e (Failed OutOfMemory) new h = adds-same old new h
stores-add capacity old e (Failed DesksFull) new h = absurd h
stores-add capacity old e (Became v text) new h = absurd h
stores-add capacity old e (Refused v refusal text) new h = absurd h
stores-add capacity old e (Question v) new h = absurd h

replies-add : (capacity : ℕ) (old : DeskState) (line : Line) (reply : Reply) (new : DeskState)
    → Replies capacity old line reply new → Adds old new
replies-add capacity old line reply new h =
    let v : Verdict = verdict_on old.seen old.player line in
    go v (plainly capacity old v reply new h)
  where
    go : (v : Verdict) → ((reply ≡ Failed OutOfMemory) × (new ≡ old)) ⊎ Plain capacity old v reply new → Adds old new
    go v (inl c) = adds-same old new c.1
    go (verdict.Change e) (inr c) = stores-add capacity old e reply new c
    go (verdict.Become p) (inr c) =
        adds-none old new (ap (λ (d : DeskState). d.seen) c.1) (ap (λ (d : DeskState). d.told) c.1)
    go (verdict.Refused f) (inr c) = adds-same old new c.1
    go (verdict.Ask q) (inr c) = adds-same old new c.1

-- entries are seen, an entry may be made, and some of the notices are sent
told : (old ready acted new : DeskState) (lines : List (List ℕ)) → TakesIn old ready → Adds ready acted
    → HandsOut acted lines new → IsToldOnce old lines new
told old ready acted new lines takes adds tells = record {
  others = takes.entries;
  own = adds.own;
  seen = ap (λ (d : DeskState). d.seen) tells.is ∙ adds.seen ∙ ap (λ (d : DeskState). d.seen ++ adds.own) takes.is
      ∙ append_assoc old.seen takes.entries adds.own;
  mine = elim adds.mine [
    | inl none ↦ inl none
    | inr one ↦ inr (one.0, one.1, one.2 ∙ ap (λ (d : DeskState). d.number) takes.is)
  ];
  told = sym (ap (λ (d : DeskState). d.told) takes.is) ∙ sym adds.told ∙ tells.told;
}

looked : (old new : DeskState) (lines : List (List ℕ)) → Sees TakesIn old lines new → IsToldOnce old lines new
looked old new lines sees = told old sees.ready sees.ready new lines sees.takes
    (adds-same sees.ready sees.ready refl) sees.tells

pub told_once : (capacity : ℕ) (old : DeskState) (case : Case) (lines : List (List ℕ)) (new : DeskState)
    → Does TakesIn capacity old case lines new → IsToldOnce old lines new
told_once capacity old (Rests unit) lines new (quiet, none, same) = record {
  others = [];
  own = [];
  seen = ap (λ (d : DeskState). d.seen) same ∙ sym (append-nil old.seen);
  mine = inl refl;
  told = append-nil old.told ∙ sym (ap (λ (d : DeskState). d.told) same)
      ∙ ap (λ (l : List (List ℕ)). l ++ new.told) (sym none);
}
told_once capacity old Looks lines new sees = looked old new lines sees
told_once capacity old (Fails line) lines new does = looked old new lines does.1
told_once capacity old (Asks line answer) lines new does = looked old new lines does.2
told_once capacity old (Acts line reply) lines new (heard, other, acts) =
    told old acts.ready acts.acted new lines acts.takes
    (replies-add capacity acts.ready (parse_of line) reply acts.acted acts.replies) acts.tells
