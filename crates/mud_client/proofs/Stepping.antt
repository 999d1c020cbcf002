-- A client after a step.
use Rattle.std.proofs.Common.{◌≡◌, ℕ, Bool, true, false, ◌||◌, List, [], ◌++◌, Option, None, Some, is_some, refl}
use Rattle.std.proofs.Common.{sym, ap, subst, ◌∙◌, append-nil, append_assoc, ◌⊎◌, inl, inr, Result, Ok, Err, OnOk}
use Rattle.std.proofs.Common.{OnErr, ◌≢◌, length}
use Rattle.std.specs.List.{after_first}
use Rattle.std.proofs.Math.Logic.{∥∥₁_map}
use Rattle.websocket.specs.declared.error.Error.{Error}
use Rattle.mud_nvt.specs.History.{StandsAfter}
use Rattle.mud_hall.specs.Desk.{DeskState, TakesIn, as_guest}
use Rattle.mud_session.specs.State.{SessionState, DoorState}
use Rattle.mud_session.specs.Feeds.{Feeds, Nudges}
use Rattle.mud_session.specs.Laws.{NamesSeen}
use Rattle.mud_session.specs.Talks.{Start, fresh, as_begun, IsTalk, greeting}
use Rattle.mud_session.proofs.Naming.{begins_so, taken_so, nothing_beyond}
use Rattle.mud_session.proofs.Talking.{talks_go_on}
use Rattle.mud_client.specs.declared.framing.Framing.{Framing}
use Rattle.mud_client.specs.declared.outgoing.End.{End}
use Rattle.mud_web.specs.declared.closing.Ending.{Ending}
use Rattle.mud_web.specs.declared.fault.Fault.{Fault}
use Rattle.mud_web.specs.declared.fault.Fault.TheVariants.{OutOfMemory, Over, Ended}
use Rattle.mud_web.specs.Channel.{IfOver}
use Rattle.mud_client.specs.Framed.{IsNew, Breaks, Frames, framed, last_words, last_close}
use Rattle.mud_client.specs.Sayings.{AreReplies}
use Rattle.mud_client.specs.Client.{ClientState, state_of, StandsFrom, Stands, IsSound}
use Rattle.mud_client.specs.Steps.{MatchEnd, IfDone, door_of, IsFed, saying, ends_line, first_line, has_line}
use Rattle.mud_client.specs.Steps.{Comes, FeedsLine, AnswersFrames, Says, Steps, IsFedAll, CutsOff, LooksFor, Looks}
use Rattle.mud_client.specs.Steps.{Output, Parts}
use Rattle.mud_client.proofs.Leaving.{frames_new, frames_on, frames_more, replies_broken}
use Rattle.mud_client.proofs.Feeding.{line_splits}

-- ---- the initial state

pub begins : (client : ClientState) (desk : DeskState) → IsNew client.framing → client.waiting ≡ []
    → StandsAfter client.session.terminal [] → client.session.has_ended ≡ false → client.session.out ≡ greeting
    → client.desk ≡ as_guest desk → Stands [] [] client
begins client desk new none stands going out is = record {
  typed = [];
  said = [];
  talk = subst (IsTalk client.capacity (fresh greeting) [] [] client.session) (sym is)
      ((talks_go_on client.capacity (fresh greeting)).begins [] [] client.session desk stands going refl (sym out));
  frames = subst (λ (w : List ℕ). Frames client.framing [] w [] []) (sym none) (frames_new client.framing new);
}

pub sound_new : (client : ClientState) (desk : DeskState) → IsNew client.framing → client.waiting ≡ []
    → StandsAfter client.session.terminal [] → client.session.has_ended ≡ false → client.session.out ≡ greeting
    → client.desk ≡ as_guest desk → client.has_ended ≡ false → IsSound client
sound_new client desk new none stands going out is goes_on = record {
  start = fresh greeting;
  came = [];
  sent = [];
  stands = begins client desk new none stands going out is;
  names = begins_so client.session client.desk true stands out (ap (λ (d : DeskState). d.told) is);
  ended = goes_on ∙ sym going;
}

-- ---- what a part of a step leaves

comes_stands : (start : Start) (bytes answered came sent : List ℕ) (old new : ClientState)
    → Comes bytes answered old new → StandsFrom start came sent old
    → StandsFrom start (came ++ bytes) (sent ++ answered) new
comes_stands start bytes answered came sent old new c s =
    subst (StandsFrom start (came ++ bytes) (sent ++ answered)) (sym c.same) (record {
      typed = s.typed;
      said = s.said;
      talk = s.talk;
      frames = frames_on old.framing new.framing came bytes s.typed old.waiting new.waiting s.said sent answered
          c.reads s.frames;
    })

fed_stands : (start : Start) (came sent : List ℕ) (old new : ClientState) → FeedsLine old new
    → StandsFrom start came sent old → StandsFrom start came sent new
fed_stands start came sent old new f s =
    let line : List ℕ = first_line old.waiting in
    record {
      typed = s.typed ++ line;
      said = s.said;
      talk = subst (λ (n : ℕ). IsTalk n start (s.typed ++ line) s.said new.session new.desk) (sym f.same.0)
          ((talks_go_on old.capacity start).feeds s.typed s.said line old.session new.session (door_of old)
          (door_of new) refl s.talk (f.feeds s.typed s.talk.stands));
      frames = subst (λ (x : Framing). Frames x came ((s.typed ++ line) ++ new.waiting) s.said sent) (sym f.same.1)
          (subst (λ (t : List ℕ). Frames old.framing came t s.said sent)
          (ap (λ (l : List ℕ). s.typed ++ l)
          (line_splits old.waiting ∙ ap (λ (l : List ℕ). line ++ l) (sym f.rest))
          ∙ sym (append_assoc s.typed line new.waiting)) s.frames);
    }

looked_stands : (start : Start) (came sent : List ℕ) (old new : ClientState) → LooksFor old new
    → StandsFrom start came sent old → StandsFrom start came sent new
looked_stands start came sent old new l s = record {
  typed = s.typed;
  said = s.said;
  talk = subst (λ (x : ClientState). IsTalk x.capacity start s.typed s.said new.session new.desk) (sym l.same)
      ((talks_go_on old.capacity start).nudges s.typed s.said old.session new.session (door_of old) (door_of new)
      refl s.talk l.nudges);
  frames = subst (λ (x : ClientState). Frames x.framing came (s.typed ++ x.waiting) s.said sent) (sym l.same) s.frames;
}

silent_stands : (start : Start) (came sent : List ℕ) (client : ClientState) → StandsFrom start came sent client
    → StandsFrom start came (sent ++ framed client.framing client.session.out) (saying [] client)
silent_stands start came sent client s = record {
  typed = s.typed;
  said = s.said ++ client.session.out;
  talk = (talks_go_on client.capacity start).sends s.typed s.said client.session client.desk s.talk;
  frames = frames_more client.framing came (s.typed ++ client.waiting) s.said client.session.out sent s.frames;
}

said_stands : (start : Start) (came sent : List ℕ) (line : Bool) (old new : ClientState) (out : Output)
    → Says line old new out → StandsFrom start came sent old → StandsFrom start came (sent ++ out.text) new
said_stands start came sent line old new out says s =
    subst (λ (t : List ℕ). StandsFrom start came (sent ++ t) new) (sym says.gives)
    (subst (StandsFrom start came (sent ++ framed old.framing old.session.out)) (sym says.same)
    (silent_stands start came sent old s))

-- ---- the invariant

pub comes_sound : (bytes answered : List ℕ) (old new : ClientState) → Comes bytes answered old new → IsSound old
    → IsSound new
comes_sound bytes answered old new c i = record {
  start = i.start;
  came = i.came ++ bytes;
  sent = i.sent ++ answered;
  stands = comes_stands i.start bytes answered i.came i.sent old new c i.stands;
  names = subst (λ (x : ClientState). NamesSeen x.session x.desk) (sym c.same) i.names;
  ended = subst (λ (x : ClientState). x.has_ended ≡ x.session.has_ended) (sym c.same) i.ended;
}

pub fed_names : (old new : ClientState) → FeedsLine old new → IsSound old → NamesSeen new.session new.desk
fed_names old new f i =
    (nothing_beyond old.session new.session (door_of old) (door_of new) i.names).0 (first_line old.waiting)
    (f.feeds i.names.earlier i.names.stands)

pub fed_sound : (old new : ClientState) → FeedsLine old new → old.has_ended ≡ false → IsSound old → IsSound new
fed_sound old new f going i = record {
  start = i.start;
  came = i.came;
  sent = i.sent;
  stands = fed_stands i.start i.came i.sent old new f i.stands;
  names = fed_names old new f i;
  ended = f.ended ∙ ap (λ (b : Bool). b || new.session.has_ended) going;
}

pub looked_names : (old new : ClientState) → LooksFor old new → IsSound old → NamesSeen new.session new.desk
looked_names old new l i =
    (nothing_beyond old.session new.session (door_of old) (door_of new) i.names).1 l.nudges

pub looked_sound : (old new : ClientState) → LooksFor old new → IsSound old → IsSound new
looked_sound old new l i = record {
  start = i.start;
  came = i.came;
  sent = i.sent;
  stands = looked_stands i.start i.came i.sent old new l i.stands;
  names = looked_names old new l i;
  ended = ap (λ (x : ClientState). x.has_ended) l.same ∙ i.ended
      ∙ sym (ap (λ (s : SessionState). s.has_ended) l.nudges.is);
}

pub silent_sound : (client : ClientState) → IsSound client → IsSound (saying [] client)
silent_sound client i = record {
  start = i.start;
  came = i.came;
  sent = i.sent ++ framed client.framing client.session.out;
  stands = silent_stands i.start i.came i.sent client i.stands;
  names = taken_so client.session (saying [] client).session client.desk i.names refl;
  ended = i.ended;
}

pub silent_kept : (client : ClientState) (framing : Framing) (session : SessionState) → framing ≡ client.framing
    → session ≡ (saying [] client).session → ∥ (client.has_ended ≡ false → IsSound client) ∥₁
    → ∥ (client.has_ended ≡ false → IsSound (record client { framing = framing; session = session })) ∥₁
silent_kept client framing session same is sound =
    ∥∥₁_map sound (λ i going.
    subst (λ (f : Framing). IsSound (record client { framing = f; session = session })) (sym same)
    (subst (λ (s : SessionState). IsSound (record client { session = s })) (sym is) (silent_sound client (i going))))

pub given_sound : (end : Option End) (client : ClientState) (ended : Bool) → ended ≡ is_some end
    → (end ≡ None → client.has_ended ≡ false) → ∥ (client.has_ended ≡ false → IsSound client) ∥₁
    → ∥ (ended ≡ false → IsSound (record client { has_ended = ended })) ∥₁
given_sound (Some e) client ended is goes sound = ∣ (λ going. absurd (cc)) ∣₁
given_sound None client ended is goes sound =
    ∥∥₁_map sound (λ i going.
    subst (λ (b : Bool). IsSound (record client { has_ended = b })) (goes refl ∙ sym is) (i (goes refl)))

-- ---- a whole step

pub match_end : {P Q R S : Type 0} {F G : Error → Type 0} (end : Option End) → (P → Q)
    → ((e : Error) → end ≡ Some (End.Over e) → F e → G e) → (R → S) → MatchEnd end P F R → MatchEnd end Q G S
match_end None done over refused m = done m
match_end (Some End.Quit) done over refused m = done m
match_end (Some (End.Over e)) done over refused m = over e refl m
match_end (Some End.OutOfMemory) done over refused m = refused m
match_end (Some End.NotText) done over refused m = refused m
match_end (Some End.Earlier) done over refused m = refused m

-- a step whose output is the replies to frames
pub frames_step : (bytes replies : List ℕ) (old mid new : ClientState) (out : Output)
    → Comes bytes replies old mid → replies ≢ [] → mid.has_ended ≡ false → new ≡ record mid { has_ended = false }
    → out.text ≡ replies → out.version ≡ 0 → out.has_line ≡ false → Steps bytes old new out
frames_step bytes replies old mid new out comes some going is gives version line = record {
  answered = replies;
  mid = mid;
  comes = comes;
  gives = inl (record {
    some = some;
    same = is ∙ ap (λ (b : Bool). record mid { has_ended = b }) (sym going);
    gives = gives;
    version = version;
    line = line;
  });
}

-- a step that answers the first waiting line
pub line_step : (bytes replies : List ℕ) (line : Bool) (old mid fed new : ClientState) (out : Output)
    → Comes bytes replies old mid → replies ≡ [] → FeedsLine mid fed → line ≡ has_line mid.waiting
    → MatchEnd out.end (Says line fed new out) (λ error. ⊥) (out.text ≡ [])
    → MatchEnd out.end (Steps bytes old new out) (λ error. CutsOff bytes error old new out) (out.text ≡ [])
line_step bytes replies line old mid fed new out comes none feeds has says =
    match_end out.end
    (λ said. record {
      answered = replies;
      mid = mid;
      comes = comes;
      gives = inr (none, fed, feeds, subst (λ (b : Bool). Says b fed new out) has said);
    }) (λ e is over. absurd over) (λ undone. undone) says

given_stands : (start : Start) (came sent answered : List ℕ) (mid new : ClientState) (out : Output)
    → AnswersFrames answered mid new out
    ⊎ ((answered ≡ []) × (fed : ClientState) × FeedsLine mid fed × Says (has_line mid.waiting) fed new out)
    → StandsFrom start came (sent ++ answered) mid → StandsFrom start came (sent ++ out.text) new
given_stands start came sent answered mid new out (inl a) s =
    subst (λ (t : List ℕ). StandsFrom start came (sent ++ t) new) (sym a.gives)
    (subst (StandsFrom start came (sent ++ answered)) (sym a.same) s)
given_stands start came sent answered mid new out (inr (none, fed, feeds, says)) s =
    said_stands start came sent _ fed new out says (fed_stands start came sent mid fed feeds
    (subst (λ (t : List ℕ). StandsFrom start came t mid) (ap (λ (l : List ℕ). sent ++ l) none ∙ append-nil sent) s))

pub step_stands : (start : Start) (bytes came sent : List ℕ) (old new : ClientState) (out : Output)
    → MatchEnd out.end (Steps bytes old new out) (λ error. CutsOff bytes error old new out) (out.text ≡ [])
    → StandsFrom start came sent old → IfDone out.end (StandsFrom start (came ++ bytes) (sent ++ out.text) new)
step_stands start bytes came sent old new out m s =
    match_end out.end
    (λ step. given_stands start (came ++ bytes) sent step.answered step.mid new out step.gives
    (comes_stands start bytes step.answered came sent old step.mid step.comes s)) (λ e is f. tt) (λ r. tt) m

pub look_stands : (start : Start) (came sent : List ℕ) (old new : ClientState) (out : Output)
    → MatchEnd out.end (Looks old new out) (λ error. ⊥) (out.text ≡ []) → StandsFrom start came sent old
    → IfDone out.end (StandsFrom start came (sent ++ out.text) new)
look_stands start came sent old new out m s =
    match_end out.end
    (λ looks. said_stands start came sent false looks.0 new out looks.2
    (looked_stands start came sent old looks.0 looks.1 s))
    (λ e is f. tt) (λ r. tt) m

-- ---- in the code's terms

-- a door is determined by its desk and the capacity of the history
pub fed_at : (line earlier : List ℕ) (old new : SessionState) (was is : DoorState) (capacity : ℕ)
    → Feeds TakesIn earlier line old new was is
    → Feeds TakesIn earlier line old new (record was { pending = [] })
    (record { capacity = capacity; desk = is.desk; pending = [] })
fed_at line earlier old new was is capacity f = record {
  stands = f.stands;
  fresh = f.fresh;
  units = f.units;
  play = f.play;
  goes_on = f.goes_on;
  ended = f.ended;
  all = f.all;
  out = f.out;
}

pub nudged_at : (old new : SessionState) (was is : DoorState) (capacity : ℕ) → Nudges TakesIn old new was is
    → Nudges TakesIn old new (record was { pending = [] })
    (record { capacity = capacity; desk = is.desk; pending = [] })
nudged_at old new was is capacity n = record { lines = n.lines; looks = n.looks; goes_on = n.goes_on; is = n.is }

pub fed_line : (capacity : ℕ) (framing : Framing) (waiting rest line : List ℕ) (old new : SessionState)
    (desk after : DeskState) (pending : List (List ℕ)) (was is : DoorState) (before ended : Bool)
    → was ≡ record { capacity = capacity; desk = desk; pending = pending } → after ≡ is.desk
    → line ≡ first_line waiting → rest ≡ after_first ends_line waiting → ended ≡ (before || new.has_ended)
    → ((earlier : List ℕ) → StandsAfter old.terminal earlier → Feeds TakesIn earlier line old new was is)
    → FeedsLine (state_of capacity framing waiting old desk before)
    (state_of capacity framing rest new after ended)
fed_line capacity framing waiting rest line old new desk after pending was is before ended sits leaves first is_rest
    ends feeds = record {
      feeds = λ earlier stands.
          subst (λ (l : List ℕ). Feeds TakesIn earlier l old new
          (record { capacity = capacity; desk = desk; pending = [] })
          (record { capacity = capacity; desk = after; pending = [] })) first
          (subst (λ (d : DeskState). Feeds TakesIn earlier line old new
          (record { capacity = capacity; desk = desk; pending = [] })
          (record { capacity = capacity; desk = d; pending = [] })) (sym leaves)
          (subst (λ (w : DoorState). Feeds TakesIn earlier line old new (record w { pending = [] })
          (record { capacity = capacity; desk = is.desk; pending = [] })) sits
          (fed_at line earlier old new was is capacity (feeds earlier stands))));
      same = (refl, refl);
      rest = is_rest;
      ended = ends;
    }

pub looked_at : (capacity : ℕ) (framing : Framing) (waiting : List ℕ) (old new : SessionState)
    (desk after : DeskState) (pending : List (List ℕ)) (was is : DoorState) (before ended : Bool)
    → was ≡ record { capacity = capacity; desk = desk; pending = pending } → after ≡ is.desk → ended ≡ before
    → Nudges TakesIn old new was is
    → LooksFor (state_of capacity framing waiting old desk before) (state_of capacity framing waiting new after ended)
looked_at capacity framing waiting old new desk after pending was is before ended sits leaves ends nudges = record {
  nudges =
      subst (λ (d : DeskState). Nudges TakesIn old new (record { capacity = capacity; desk = desk; pending = [] })
      (record { capacity = capacity; desk = d; pending = [] })) (sym leaves)
      (subst (λ (w : DoorState). Nudges TakesIn old new (record w { pending = [] })
      (record { capacity = capacity; desk = is.desk; pending = [] })) sits
      (nudged_at old new was is capacity nudges));
  same = ap (λ (b : Bool). state_of capacity framing waiting new after b) ends;
}

neither : (a b : Bool) → (a || b) ≡ false → a ≡ false
neither true b none = none
neither false b none = refl

ended_too : (a b : Bool) → b ≡ true → (a || b) ≡ true
ended_too true b ended = refl
ended_too false b ended = ended

-- the invariant after a line was fed, or was not
pub fed_kept : {E : Type 0} (r : Result (Unit {0}) E) (old new : ClientState) → OnOk r (FeedsLine old new)
    → OnErr r (new.session.has_ended ≡ true) → new.has_ended ≡ (old.has_ended || new.session.has_ended)
    → ∥ (old.has_ended ≡ false → IsSound old) ∥₁ → ∥ (new.has_ended ≡ false → IsSound new) ∥₁
fed_kept (Ok x) old new fed err ends sound =
    ∥∥₁_map sound (λ i going.
    let was : old.has_ended ≡ false = neither old.has_ended new.session.has_ended (sym ends ∙ going) in
    fed_sound old new fed was (i was))
fed_kept (Err e) old new fed err ends sound =
    let ended : new.has_ended ≡ true = ends ∙ ended_too old.has_ended new.session.has_ended err in
    ∣ (λ going. absurd (cc (ended, going))) ∣₁

pub fed_names_at : (old new : ClientState) → FeedsLine old new → ∥ (old.has_ended ≡ false → IsSound old) ∥₁
    → old.has_ended ≡ false → ∥ NamesSeen new.session new.desk ∥₁
fed_names_at old new fed sound going = ∥∥₁_map sound (λ i. fed_names old new fed (i going))

-- the invariant after a look, or none
pub looked_kept : {E : Type 0} (r : Result (Unit {0}) E) (old new : ClientState) → OnOk r (LooksFor old new)
    → OnErr r (new.has_ended ≡ true) → old.has_ended ≡ false → ∥ (old.has_ended ≡ false → IsSound old) ∥₁
    → ∥ (new.has_ended ≡ false → IsSound new) ∥₁
looked_kept (Ok x) old new looked err going sound = ∥∥₁_map sound (λ i still. looked_sound old new looked (i going))
looked_kept (Err e) old new looked err going sound = ∣ (λ still. absurd (cc (err, still))) ∣₁

pub on_ok : {E : Type 0} {P Q : Type 0} (r : Result (Unit {0}) E) → OnOk r P → (P → Q) → OnOk r Q
on_ok (Ok x) p f = f p
on_ok (Err e) p f = tt

-- the output of the session
pub says_so : (line : Bool) (end : Option End) (old : ClientState) (framing : Framing) (session : SessionState)
    (new : ClientState) (out : Output) → framing ≡ old.framing → session ≡ (saying [] old).session
    → new ≡ record old { framing = framing; session = session; has_ended = is_some end }
    → is_some end ≡ old.has_ended → out.text ≡ framed old.framing old.session.out
    → out.version ≡ length old.desk.seen → out.has_line ≡ line → Says line old new out
says_so line end old framing session new out same silent is ended gives version ends = record {
  same = is ∙ ap (λ (f : Framing). record old { framing = f; session = session; has_ended = is_some end }) same
      ∙ ap (λ (s : SessionState). record old { session = s; has_ended = is_some end }) silent
      ∙ ap (λ (b : Bool). record (saying [] old) { has_ended = b }) ended;
  gives = gives;
  version = version;
  ends = ends;
}

pub said_end : (P R : Type 0) (F : Error → Type 0) (end given : Option End) → given ≡ end
    → (end ≡ Some End.Quit) ⊎ (end ≡ None) → P → MatchEnd given P F R
said_end P R F end given is (inl quit) p =
    subst (λ (e : Option End). MatchEnd e P F R) (sym (is ∙ quit)) p
said_end P R F end given is (inr none) p =
    subst (λ (e : Option End). MatchEnd e P F R) (sym (is ∙ none)) p

-- the last output
pub said_so : (none said words : List ℕ) → none ≡ [] → (said ≡ none ++ words) ⊎ (said ≡ none)
    → (said ≡ words) ⊎ (said ≡ [])
said_so none said words nothing (inl is) = inl (is ∙ ap (λ (l : List ℕ). l ++ words) nothing)
said_so none said words nothing (inr is) = inr (is ∙ nothing)

pub parted : (line none said text : List ℕ) (ending : Option Ending) (mid : Framing) (old new : ClientState)
    → none ≡ [] → mid ≡ old.framing → new ≡ record old { framing = new.framing; has_ended = true }
    → (said ≡ none ++ last_words old.framing line) ⊎ (said ≡ none)
    → (text ≡ said ++ last_close mid ending) ⊎ (text ≡ said) → Parts line ending old new text
parted line none said text ending mid old new nothing same is words (inl close) = record {
  words = said;
  says = said_so none said (last_words old.framing line) nothing words;
  close = last_close mid ending;
  closes = inl (ap (λ (f : Framing). last_close f ending) same);
  is = close;
  same = is;
}
parted line none said text ending mid old new nothing same is words (inr close) = record {
  words = said;
  says = said_so none said (last_words old.framing line) nothing words;
  close = [];
  closes = inr refl;
  is = close ∙ sym (append-nil said);
  same = is;
}

-- frames ended it
pub cut_so : (bytes replies : List ℕ) (fault : Fault) (error : Error) (old cut new : ClientState) (out : Output)
    → cut ≡ record old { framing = cut.framing; waiting = cut.waiting; has_ended = cut.has_ended }
    → IfOver fault (Breaks old.framing bytes old.waiting cut.waiting replies) → fault ≡ Over error
    → out.text ≡ replies → IsFedAll cut new → CutsOff bytes error old new out
cut_so bytes replies fault error old cut new out same breaks is given fed = record {
  typed = cut.waiting;
  breaks = subst (λ (l : List ℕ). Breaks old.framing bytes old.waiting cut.waiting l error) (sym given)
      (subst (λ (f : Fault). IfOver f (Breaks old.framing bytes old.waiting cut.waiting replies)) is breaks);
  fed = record {
    done = fed.done;
    splits = fed.splits;
    all = fed.all;
    said = fed.said;
    feeds = subst (λ (x : ClientState). IsFed fed.done x (saying fed.said new)) same fed.feeds;
  };
}

pub fed_all : (old fed new : ClientState) (has_ended : Bool) → new ≡ record fed { has_ended = has_ended }
    → IsFedAll old fed → IsFedAll old new
fed_all old fed new has_ended is f =
    subst (IsFedAll old) (sym is)
    (record { done = f.done; splits = f.splits; all = f.all; said = f.said; feeds = f.feeds })

pub broken_replies : (fault : Fault) (client : ClientState) (bytes typed replies : List ℕ)
    → IfOver fault (Breaks client.framing bytes client.waiting typed replies) → ∥ IsSound client ∥₁
    → IfOver fault (λ error. ∥ AreReplies replies ∥₁)
broken_replies OutOfMemory client bytes typed replies breaks sound = tt
broken_replies Ended client bytes typed replies breaks sound = tt
broken_replies (Over error) client bytes typed replies breaks sound =
    ∥∥₁_map sound (λ i.
    replies_broken client.framing i.came bytes (i.stands.typed ++ client.waiting) client.waiting typed
    i.stands.said i.sent replies error breaks i.stands.frames)
