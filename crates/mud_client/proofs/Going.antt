-- A client that goes on at its next hall.
use Rattle.std.proofs.Common.{◌≡◌, ◌⊎◌, inl, inr, ℕ, false, List, [], ◌++◌, length, Option, refl, sym, ap, subst}
use Rattle.std.proofs.Common.{◌∙◌, append-nil}
use Rattle.std.proofs.lemmas.List.Elements.{All-nil}
use Rattle.std.specs.Prelude.{All}
use Rattle.std.proofs.Math.Logic.{∥∥₁_map}
use Rattle.mud_nvt.specs.History.{StandsAfter}
use Rattle.mud_web.specs.declared.closing.Ending.{Ending}
use Rattle.mud_hall.specs.Desk.{DeskState}
use Rattle.mud_session.specs.State.{SessionState}
use Rattle.mud_session.specs.Notices.{NamesUpTo, IsNotice}
use Rattle.mud_session.specs.Laws.{NamesSeen}
use Rattle.mud_session.specs.Talks.{Start, next_start, as_begun, IsTalk}
use Rattle.mud_session.proofs.Naming.{names-nil}
use Rattle.mud_session.proofs.Talking.{talks_go_on}
use Rattle.mud_client.specs.declared.framing.Framing.{Framing}
use Rattle.mud_client.specs.Framed.{Frames, last_words, last_close}
use Rattle.mud_client.specs.Client.{ClientState, StandsFrom, IsSound}
use Rattle.mud_client.specs.Resting.{RestingState, at_rest, IsAtRest, IsLast}
use Rattle.mud_client.proofs.Stepping.{said_so}

-- a desk without notices begins as its player's
begun_so : (desk : DeskState) → desk.told ≡ [] → as_begun desk.player desk ≡ desk
begun_so desk none = ap (λ (told : List (List ℕ)). record desk { told = told }) (sym none)

-- it keeps what was received, typed, said and sent
pub again_stands : (start : Start) (came sent : List ℕ) (old new : ClientState)
    → at_rest new ≡ record (at_rest old) { player = new.desk.player } → old.session.has_ended ≡ false
    → new.desk.told ≡ [] → (s : StandsFrom start came sent old)
    → StandsFrom (next_start start s.talk.turns new.desk.player) came sent new
again_stands start came sent old new same going none s =
    let player : Option ℕ = new.desk.player in
    let next : Start = next_start start s.talk.turns player in
    let moved : IsTalk new.capacity next s.typed s.said old.session (as_begun player new.desk) =
    (talks_go_on old.capacity start).moves s.typed s.said old.session old.desk new.desk new.capacity player going s.talk
    in
    record {
      typed = s.typed;
      said = s.said;
      talk = subst (λ (x : SessionState). IsTalk new.capacity next s.typed s.said x new.desk)
          (sym (ap (λ (r : RestingState). r.session) same))
          (subst (IsTalk new.capacity next s.typed s.said old.session) (begun_so new.desk none) moved);
      frames = subst (λ (r : RestingState). Frames r.framing came (s.typed ++ r.waiting) s.said sent) (sym same)
          s.frames;
    }

-- it has no output and no notice, so it names no version
names_none : (typed : List ℕ) (session : SessionState) (desk : DeskState) → StandsAfter session.terminal typed
    → session.out ≡ [] → desk.told ≡ [] → NamesSeen session desk
names_none typed session desk stands silent none =
    let seen : ℕ = length desk.seen in
    record {
      earlier = typed;
      stands = stands;
      out = subst (NamesUpTo seen) (sym silent) (names-nil seen);
      told = subst (All (IsNotice seen)) (sym none) (All-nil (IsNotice seen));
    }

again_sound : (old new : ClientState) → at_rest new ≡ record (at_rest old) { player = new.desk.player }
    → new.desk.told ≡ [] → old.session.out ≡ [] → old.has_ended ≡ false → IsSound old → IsSound new
again_sound old new same none silent going i =
    let session : new.session ≡ old.session = ap (λ (r : RestingState). r.session) same in
    record {
      start = next_start i.start i.stands.talk.turns new.desk.player;
      came = i.came;
      sent = i.sent;
      stands = again_stands i.start i.came i.sent old new same (sym i.ended ∙ going) none i.stands;
      names = names_none i.stands.typed new.session new.desk
          (subst (λ (x : SessionState). StandsAfter x.terminal i.stands.typed) (sym session) i.stands.talk.stands)
          (ap (λ (x : SessionState). x.out) session ∙ silent) none;
      ended = ap (λ (r : RestingState). r.has_ended) same ∙ i.ended
          ∙ sym (ap (λ (x : SessionState). x.has_ended) session);
    }

-- ---- in the code's terms

pub rests_so : (client : ClientState) (resting : RestingState) → resting ≡ at_rest client → client.session.out ≡ []
    → ∥ (client.has_ended ≡ false → IsSound client) ∥₁ → IsAtRest resting
rests_so client resting is silent sound = record {
  silent = ap (λ (r : RestingState). r.session.out) is ∙ silent;
  left = ∥∥₁_map sound (λ i going. (client, is, i (sym (ap (λ (r : RestingState). r.has_ended) is) ∙ going)));
}

pub again_kept : (resting : RestingState) (new : ClientState)
    → at_rest new ≡ record resting { player = new.desk.player } → new.desk.told ≡ [] → IsAtRest resting
    → ∥ (new.has_ended ≡ false → IsSound new) ∥₁
again_kept resting new same none rests =
    ∥∥₁_map rests.left (λ l going.
    let was : resting.has_ended ≡ false = sym (ap (λ (r : RestingState). r.has_ended) same) ∙ going in
    let old = l was in
    again_sound old.0 new (same ∙ ap (λ (r : RestingState). record r { player = new.desk.player }) old.1) none
    (sym (ap (λ (r : RestingState). r.session.out) old.1) ∙ rests.silent)
    (sym (ap (λ (r : RestingState). r.has_ended) old.1) ∙ was) old.2)

-- ---- the last output

pub last_so : (line none said text : List ℕ) (ending : Option Ending) (mid framing : Framing) → none ≡ []
    → mid ≡ framing → (said ≡ none ++ last_words framing line) ⊎ (said ≡ none)
    → (text ≡ said ++ last_close mid ending) ⊎ (text ≡ said) → IsLast line ending framing text
last_so line none said text ending mid framing nothing same words (inl close) = record {
  words = said;
  says = said_so none said (last_words framing line) nothing words;
  close = last_close mid ending;
  closes = inl (ap (λ (f : Framing). last_close f ending) same);
  is = close;
}
last_so line none said text ending mid framing nothing same words (inr close) = record {
  words = said;
  says = said_so none said (last_words framing line) nothing words;
  close = [];
  closes = inr refl;
  is = close ∙ sym (append-nil said);
}
