-- A desk of a player at another hall.
use Rattle.std.proofs.Common.{◌≡◌, ◌⊎◌, inl, inr, ℕ, Bool, true, false, List, [], ◌∷◌, Option, None, Some, refl, ap}
use Rattle.std.proofs.Common.{sym, subst, ◌∙◌}
use Rattle.mud_words.specs.Line.{Line}
use Rattle.mud_words.specs.Parse.{parse_of}
use Rattle.mud_world.specs.declared.change.Change.{Change}
use Rattle.mud_rules.specs.declared.verdict.Verdict.{Verdict}
use Rattle.mud_rules.specs.declared.verdict.Verdict.TheVariants as verdict
use Rattle.mud_hall.specs.declared.fault.Fault.TheVariants.{OutOfMemory, HistoryFull, Unpublished, DesksFull}
use Rattle.mud_hall.specs.Desk.{DeskState, View, as_guest}
use Rattle.mud_hall.specs.Replies.{Reply, Accepted, Became, Refused, Question, Failed, Stores, Replies, Acts}
use Rattle.mud_hall.specs.Replies.{verdict_on}
use Rattle.mud_hall.specs.Steps.{Call, Guest, Act, connect_text, IsSeated}
use Rattle.mud_hall.specs.inner.Seating.{Connects}
use Rattle.mud_hall.proofs.Coming.{Plain, plainly}
use Rattle.mud_hall.proofs.Notices.{notices-none}

-- ---- no notice comes

stores_told : (capacity : ℕ) (old : DeskState) (e : Change) (reply : Reply) (new : DeskState)
    → Stores capacity old e reply new → new.told ≡ old.told
stores_told capacity old e (Accepted v text) new h = ap (λ (d : DeskState). d.told) h.3
stores_told capacity old e (Failed HistoryFull) new h = ap (λ (d : DeskState). d.told) h.1
stores_told capacity old e (Failed Unpublished) new h = ap (λ (d : DeskState). d.told) h.1
stores_told capacity old e (Failed OutOfMemory) new h = ap (λ (d : DeskState). d.told) h
stores_told capacity old e (Failed DesksFull) new h = absurd h
stores_told capacity old e (Became v text) new h = absurd h
stores_told capacity old e (Refused v refusal text) new h = absurd h
stores_told capacity old e (Question v) new h = absurd h

replies_told : (capacity : ℕ) (old : DeskState) (line : Line) (reply : Reply) (new : DeskState)
    → Replies capacity old line reply new → new.told ≡ old.told
replies_told capacity old line reply new h =
    let v : Verdict = verdict_on old.seen old.player line in
    go v (plainly capacity old v reply new h)
  where
    go : (v : Verdict) → ((reply ≡ Failed OutOfMemory) × (new ≡ old)) ⊎ Plain capacity old v reply new
        → new.told ≡ old.told
    go v (inl c) = ap (λ (d : DeskState). d.told) c.1
    go (verdict.Change e) (inr c) = stores_told capacity old e reply new c
    go (verdict.Become p) (inr c) = ap (λ (d : DeskState). d.told) c.1
    go (verdict.Refused f) (inr c) = ap (λ (d : DeskState). d.told) c.1
    go (verdict.Ask q) (inr c) = ap (λ (d : DeskState). d.told) c.1

connects_told : (capacity : ℕ) (old new : DeskState) → Connects capacity (as_guest old) new → new.told ≡ []
connects_told capacity old new (inl same) = ap (λ (d : DeskState). d.told) same
connects_told capacity old new (inr (name, reply, acts)) =
    replies_told capacity acts.ready (parse_of (connect_text name)) reply new acts.replies
    ∙ ap (λ (d : DeskState). d.told) acts.takes_in.is ∙ notices-none old.seen acts.takes_in.entries

-- ---- the desk afterwards

-- a guest's desk again
abbrev pub Guests : (old new : View) → Type 0
Guests old new = new ≡ record { state = as_guest old.state; at = old.at }

pub seated_none : (capacity : ℕ) (player : Option ℕ) (old new : View) → player ≡ None → Guests old new
    → IsSeated capacity player true old.state new.state
seated_none capacity player old new none is = record {
  calls = Guest ∷ [];
  performs = (new.state, ap (λ (v : View). v.state) is, refl);
  only = (tt, tt);
  is = ap (λ (v : View). v.state.player) is ∙ sym none;
  told = ap (λ (v : View). v.state.told) is;
}

pub seated : (capacity p : ℕ) (player : Option ℕ) (sits : Bool) (old at new : View) → player ≡ Some p → Guests old at
    → Connects capacity at.state new.state → (sits ≡ true → new.state.player ≡ Some p) → sits ≡ true
    → IsSeated capacity player true old.state new.state
seated capacity p player sits old at new some is (inl same) so sat = record {
  calls = Guest ∷ [];
  performs = (at.state, ap (λ (v : View). v.state) is, same);
  only = (tt, tt);
  is = so sat ∙ sym some;
  told = ap (λ (d : DeskState). d.told) same ∙ ap (λ (v : View). v.state.told) is;
}
seated capacity p player sits old at new some is (inr (name, reply, acts)) so sat =
    let guest : at.state ≡ as_guest old.state = ap (λ (v : View). v.state) is in
    record {
      calls = Guest ∷ Act (connect_text name) reply ∷ [];
      performs = (at.state, guest, (new.state, acts, refl));
      only = (tt, ((name, refl), tt));
      is = so sat ∙ sym some;
      told = connects_told capacity old.state new.state
          (subst (λ (d : DeskState). Connects capacity d new.state) guest (inr (name, reply, acts)));
    }

pub unseated : (capacity : ℕ) (player : Option ℕ) (old at mid new : View) → Guests old at
    → Connects capacity at.state mid.state → Guests mid new → IsSeated capacity player false old.state new.state
unseated capacity player old at mid new is (inl same) again = record {
  calls = Guest ∷ Guest ∷ [];
  performs = (
    at.state,
    ap (λ (v : View). v.state) is,
    (new.state, ap (λ (v : View). v.state) again ∙ ap as_guest same, refl),
  );
  only = (tt, (tt, tt));
  is = ap (λ (v : View). v.state.player) again;
  told = ap (λ (v : View). v.state.told) again;
}
unseated capacity player old at mid new is (inr (name, reply, acts)) again = record {
  calls = Guest ∷ Act (connect_text name) reply ∷ Guest ∷ [];
  performs = (
    at.state,
    ap (λ (v : View). v.state) is,
    (mid.state, acts, (new.state, ap (λ (v : View). v.state) again, refl)),
  );
  only = (tt, ((name, refl), (tt, tt)));
  is = ap (λ (v : View). v.state.player) again;
  told = ap (λ (v : View). v.state.told) again;
}

-- the line that was acted on
pub connected : (capacity : ℕ) (old new : DeskState) (line : Line) (text name : List ℕ) (reply : Reply)
    → text ≡ connect_text name → line ≡ parse_of text → Acts capacity old line reply new → Connects capacity old new
connected capacity old new line text name reply is parsed acts =
    inr (name, reply, subst (λ (l : Line). Acts capacity old l reply new) (parsed ∙ ap parse_of is) acts)
