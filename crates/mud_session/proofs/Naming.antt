-- A session names no version beyond what its desk has seen.
use Rattle.std.proofs.Common.{◌≡◌, ◌≤◌, ◌+◌, ℕ, Bool, true, false, List, [], ◌∷◌, ◌++◌, Option, Some, None, refl, sym}
use Rattle.std.proofs.Common.{ap, ◌∙◌, subst, map, codes, length, length-append, arith, inl, inr, ◌⊎◌}
use Rattle.std.specs.Prelude.{All, Contains, if◌then◌else◌}
use Rattle.std.specs.List.{flat_map}
use Rattle.std.specs.Option.{option_map_or}
use Rattle.std.proofs.lemmas.List.{append-nil}
use Rattle.std.proofs.lemmas.List.Concat.{flat_map-append}
use Rattle.std.proofs.lemmas.List.Elements.{All-nil, All-cons, All-head, All-tail, All-append, All-weaker}
use Rattle.mud_words.specs.Line.{Line}
use Rattle.mud_words.specs.Parse.{parse_of}
use Rattle.mud_nvt.specs.declared.codes.TheConstants.{IAC}
use Rattle.mud_nvt.specs.declared.strokes.Stroke.{Stroke}
use Rattle.mud_nvt.specs.declared.strokes.Stroke.TheVariants.{Character, EraseCharacter, EraseLine, EndLine}
use Rattle.mud_nvt.specs.declared.strokes.Stroke.TheVariants.{AreYouThere, Refuse, Nothing}
use Rattle.mud_nvt.specs.Units.{Given, Text, TooLong, Ayt, Answer, units_at, units_after, units}
use Rattle.mud_nvt.specs.Telnet.{pieces}
use Rattle.mud_nvt.specs.Strokes.{strokes, line as typed, is_too_long}
use Rattle.mud_nvt.specs.History.{StandsAfter}
use Rattle.mud_world.specs.State.{State as World}
use Rattle.mud_world.specs.declared.change.Change.{Change}
use Rattle.mud_rules.specs.declared.verdict.Verdict.{Verdict}
use Rattle.mud_rules.specs.declared.verdict.Verdict.TheVariants as verdict
use Rattle.mud_rules.specs.HeardLine.{heard_line}
use Rattle.mud_rules.specs.Replies.{welcome_text, refusal_text}
use Rattle.mud_chron.specs.Entry.{Entry}
use Rattle.mud_hall.specs.declared.fault.Fault.TheVariants.{OutOfMemory, HistoryFull, Unpublished, DesksFull}
use Rattle.mud_hall.specs.Notices.{world_after, notices}
use Rattle.mud_hall.specs.inner.Desks.{notice_of, notice_in}
use Rattle.mud_hall.specs.Desk.{DeskState, TakesIn}
use Rattle.mud_hall.specs.Replies.{Reply, Accepted, Became, Refused, Question, Failed, Stores, Replies, verdict_on}
use Rattle.mud_hall.proofs.Coming.{Plain as Comes, plainly}
use Rattle.mud_session.specs.State.{SessionState, DoorState}
use Rattle.mud_session.specs.Session.{Case, Rests, Looks, Fails, Asks, Acts, Turn, Does, Plays}
use Rattle.mud_session.specs.Session.{unit_of, with_version, reply_line, wire_text, answer_to, text_of}
use Rattle.mud_session.specs.Talks.{greeting}
use Rattle.mud_session.specs.Feeds.{Feeds, Nudges}
use Rattle.mud_session.specs.Notices.{plain_lines, IsSaidOf, IsNotice, IsPiece, NamesUpTo}
use Rattle.mud_session.specs.Laws.{IsToldOnce, NamesSeen}
use Rattle.mud_session.proofs.Playing.{unit_in, text_in}
use Rattle.mud_session.proofs.Telling.{told_once}

-- ---- texts that name no version above a number

abbrev piece : List ℕ → List ℕ
piece bytes = bytes

pub names-nil : (n : ℕ) → NamesUpTo n []
names-nil n = record { pieces = []; each = All-nil (IsPiece n); is = refl }

names-one : (n : ℕ) (bytes : List ℕ) → IsPiece n bytes → NamesUpTo n bytes
names-one n bytes h = record {
  pieces = bytes ∷ [];
  each = All-cons (IsPiece n) bytes [] h (All-nil (IsPiece n));
  is = sym (append-nil bytes);
}

pub names-append : (n : ℕ) (a b : List ℕ) → NamesUpTo n a → NamesUpTo n b → NamesUpTo n (a ++ b)
names-append n a b x y = record {
  pieces = x.pieces ++ y.pieces;
  each = All-append (IsPiece n) x.pieces y.pieces x.each y.each;
  is = ap (λ (l : List ℕ). l ++ b) x.is ∙ ap (λ (l : List ℕ). flat_map piece x.pieces ++ l) y.is
      ∙ sym (flat_map-append piece x.pieces y.pieces);
}

notice-more : (n m : ℕ) → n ≤ m → (text : List ℕ) → IsNotice n text → IsNotice m text
notice-more n m le text (v, w, e, p, line, few, heard, is) = (v, w, e, p, line, omega arith, heard, is)

piece-more : (n m : ℕ) → n ≤ m → (bytes : List ℕ) → IsPiece n bytes → IsPiece m bytes
piece-more n m le bytes (inl (v, text, few, said, is)) = inl (v, text, omega arith, said, is)
piece-more n m le bytes (inr (inl (text, notice, is))) = inr (inl (text, notice-more n m le text notice, is))
piece-more n m le bytes (inr (inr other)) = inr (inr other)

pub names-more : (n m : ℕ) (text : List ℕ) → n ≤ m → NamesUpTo n text → NamesUpTo m text
names-more n m text le x = record {
  pieces = x.pieces;
  each = All-weaker (IsPiece n) (IsPiece m) (piece-more n m le) x.pieces x.each;
  is = x.is;
}

names-is : (n : ℕ) (a b : List ℕ) → b ≡ a → NamesUpTo n a → NamesUpTo n b
names-is n a b is x = subst (NamesUpTo n) (sym is) x

names-plain : (n : ℕ) (text : List ℕ) → Contains plain_lines text → NamesUpTo n (wire_text text)
names-plain n text h = names-one n (wire_text text) (inr (inr (inl (text, h, refl))))

names-numbered : (n v : ℕ) (text said : List ℕ) → said ≡ with_version v text → v ≤ n → IsSaidOf v text
    → NamesUpTo n (wire_text said)
names-numbered n v text said is le h =
    names-one n (wire_text said) (inl (v, text, le, h, ap wire_text is))

names-notices : (n : ℕ) (lines : List (List ℕ)) → All (IsNotice n) lines → NamesUpTo n (flat_map wire_text lines)
names-notices n [] all = names-nil n
names-notices n (text ∷ lines) all =
    names-append n (wire_text text) (flat_map wire_text lines)
    (names-one n (wire_text text) (inr (inl (text, All-head (IsNotice n) text lines all, refl))))
    (names-notices n lines (All-tail (IsNotice n) text lines all))

-- ---- both parts of a list

all-left : {X : Type 0} (P : X → Type 0) (xs ys : List X) → All P (xs ++ ys) → All P xs
all-left P [] ys all = All-nil P
all-left P (x ∷ xs) ys all =
    All-cons P x xs (All-head P x (xs ++ ys) all) (all-left P xs ys (All-tail P x (xs ++ ys) all))

all-right : {X : Type 0} (P : X → Type 0) (xs ys : List X) → All P (xs ++ ys) → All P ys
all-right P [] ys all = all
all-right P (x ∷ xs) ys all = all-right P xs ys (All-tail P x (xs ++ ys) all)

-- ---- the notices of a desk

of-notice : (n v : ℕ) (w : World) (e : Change) (p : ℕ) (line : Option (List ℕ)) → heard_line w e p ≡ line → v ≤ n
    → All (IsNotice n) (notice_of v line)
of-notice n v w e p None is le = All-nil (IsNotice n)
of-notice n v w e p (Some line) is le =
    All-cons (IsNotice n) _ [] (v, w, e, p, line, le, is, refl) (All-nil (IsNotice n))

in-notice : (n v : ℕ) (player : Option ℕ) (w : World) (e : Entry) → v ≤ n → All (IsNotice n) (notice_in player v w e)
in-notice n v None w e le = All-nil (IsNotice n)
in-notice n v (Some p) w e le = of-notice n v w e.change p (heard_line w e.change p) refl le

all-notices : (n : ℕ) (player : Option ℕ) (h es : List Entry) → length h + length es ≤ n
    → All (IsNotice n) (notices player h es)
all-notices n player h [] le = All-nil (IsNotice n)
all-notices n player h (e ∷ es) le =
    All-append (IsNotice n) (notice_in player (length h + 1) (world_after h) e) (notices player (h ++ e ∷ []) es)
    (in-notice n (length h + 1) player (world_after h) e (omega arith))
    (all-notices n player (h ++ e ∷ []) es (omega (arith, length-append h (e ∷ []))))

-- a desk has seen more, and neither the notices sent nor the later ones name a version beyond that
record Tells (old : DeskState) (lines : List (List ℕ)) (new : DeskState) : Type 0 where
  grows : length old.seen ≤ length new.seen
  handed : All (IsNotice (length new.seen)) lines
  told : All (IsNotice (length new.seen)) new.told

tells : (old : DeskState) (lines : List (List ℕ)) (new : DeskState) → IsToldOnce old lines new
    → All (IsNotice (length old.seen)) old.told → Tells old lines new
tells old lines new once told =
    let n : ℕ = length new.seen in
    let seen : n ≡ length (old.seen ++ (once.others ++ once.own)) = ap length once.seen in
    let first : length (old.seen ++ (once.others ++ once.own)) ≡ length old.seen + length (once.others ++ once.own) =
    length-append old.seen (once.others ++ once.own) in
    let second : length (once.others ++ once.own) ≡ length once.others + length once.own =
    length-append once.others once.own in
    let grows : length old.seen ≤ n = omega (arith, seen, first) in
    let few : length old.seen + length once.others ≤ n = omega (arith, seen, first, second) in
    let all : All (IsNotice n) (old.told ++ notices old.player old.seen once.others) =
    All-append (IsNotice n) old.told (notices old.player old.seen once.others)
    (All-weaker (IsNotice (length old.seen)) (IsNotice n) (notice-more (length old.seen) n grows) old.told told)
    (all-notices n old.player old.seen once.others few) in
    let both : All (IsNotice n) (lines ++ new.told) = subst (All (IsNotice n)) once.told all in
    record {
      grows = grows;
      handed = all-left (IsNotice n) lines new.told both;
      told = all-right (IsNotice n) lines new.told both;
    }

-- ---- replies

-- the reply to a line that acts, if there is one, names no version beyond
abbrev NamesSaid : ℕ → Option (List ℕ) → Type 0
NamesSaid n None = Unit {0}
NamesSaid n (Some text) = NamesUpTo n (wire_text text)

stored : (capacity : ℕ) (ready : DeskState) (e : Change) (reply : Reply) (new : DeskState)
    → Stores capacity ready e reply new → NamesSaid (length new.seen) (reply_line reply)
stored capacity ready e (Accepted v text) new h =
    let entry : Entry = record { desk = ready.number; change = e } in
    let seen : length new.seen ≡ length (ready.seen ++ entry ∷ []) = ap (λ (d : DeskState). length d.seen) h.3 in
    names-numbered (length new.seen) v text (with_version v text) refl
    (omega (arith, seen, h.1, length-append ready.seen (entry ∷ []))) (inl (world_after ready.seen, e, h.2))
stored capacity ready e (Failed HistoryFull) new h =
    names-plain (length new.seen) (codes "(history full)") (2, omega arith, refl)
stored capacity ready e (Failed Unpublished) new h =
    names-plain (length new.seen) (codes "(not stored)") (3, omega arith, refl)
stored capacity ready e (Failed OutOfMemory) new h = tt
stored capacity ready e (Failed DesksFull) new h = absurd h
stored capacity ready e (Became v text) new h = absurd h
stored capacity ready e (Refused v refusal text) new h = absurd h
stored capacity ready e (Question v) new h = absurd h

replied : (capacity : ℕ) (ready : DeskState) (line : Line) (reply : Reply) (new : DeskState)
    → Replies capacity ready line reply new → NamesSaid (length new.seen) (reply_line reply)
replied capacity ready line reply new h =
    let v : Verdict = verdict_on ready.seen ready.player line in
    go v (plainly capacity ready v reply new h)
  where
    by : (other : Reply) → reply ≡ other → NamesSaid (length new.seen) (reply_line other)
        → NamesSaid (length new.seen) (reply_line reply)
    by other is names = subst (λ (r : Reply). NamesSaid (length new.seen) (reply_line r)) (sym is) names

    go : (v : Verdict) → ((reply ≡ Failed OutOfMemory) × (new ≡ ready)) ⊎ Comes capacity ready v reply new
        → NamesSaid (length new.seen) (reply_line reply)
    go v (inl c) = by (Failed OutOfMemory) c.0 tt
    go (verdict.Change e) (inr c) = stored capacity ready e reply new c
    go (verdict.Become p) (inr c) =
        let seen : length new.seen ≡ length ready.seen = ap (λ (d : DeskState). length d.seen) c.1 in
        by (Became (length ready.seen) (welcome_text p)) c.0
        (names-numbered (length new.seen) (length ready.seen) (welcome_text p) _ refl (omega (arith, seen))
        (inr (inl (p, refl))))
    go (verdict.Refused f) (inr c) =
        let seen : length new.seen ≡ length ready.seen = ap (λ (d : DeskState). length d.seen) c.1 in
        by (Refused (length ready.seen) f (refusal_text f)) c.0
        (names-numbered (length new.seen) (length ready.seen) (refusal_text f) _ refl (omega (arith, seen))
        (inr (inr (inl (f, refl)))))
    go (verdict.Ask q) (inr c) = by (Question (length ready.seen)) c.0 tt

-- neither does the output for the reply
said-or-none : (n : ℕ) (reply : Option (List ℕ)) → NamesSaid n reply → NamesUpTo n (option_map_or wire_text reply [])
said-or-none n None names = names-nil n
said-or-none n (Some text) names = names

-- ---- answers of the terminal

-- an answer of the terminal answers a request
abbrev Signals : Option Given → Type 0
Signals (Some (Answer bytes)) = (verb : ℕ) × (option : ℕ) × (bytes ≡ IAC ∷ verb ∷ option ∷ [])
Signals other = Unit {0}

abbrev AllSignal : List Given → Type 0
AllSignal given = All Signals (map Some given)

one-signal : (g : Given) → Signals (Some g) → AllSignal (g ∷ [])
one-signal g h = All-cons Signals (Some g) [] h (All-nil Signals)

ended-signals : (long : Bool) (text : List ℕ) → AllSignal ((if long then TooLong else Text text) ∷ [])
ended-signals true text = one-signal TooLong tt
ended-signals false text = one-signal (Text text) tt

at-signals : (earlier : List Stroke) (s : Stroke) → AllSignal (units_at earlier s)
at-signals earlier EndLine = ended-signals (is_too_long earlier) (typed earlier)
at-signals earlier AreYouThere = one-signal Ayt tt
at-signals earlier (Refuse verb option) = one-signal (Answer (IAC ∷ verb ∷ option ∷ [])) (verb, option, refl)
at-signals earlier (Character c) = All-nil Signals
at-signals earlier EraseCharacter = All-nil Signals
at-signals earlier EraseLine = All-nil Signals
at-signals earlier Nothing = All-nil Signals

map-some : (xs ys : List Given) → map Some (xs ++ ys) ≡ map Some xs ++ map Some ys
map-some [] ys = refl
map-some (x ∷ xs) ys = ap (λ (l : List (Option Given)). Some x ∷ l) (map-some xs ys)

both-signal : (xs ys : List Given) → AllSignal xs → AllSignal ys → AllSignal (xs ++ ys)
both-signal xs ys a b = subst (All Signals) (sym (map-some xs ys)) (All-append Signals (map Some xs) (map Some ys) a b)

after-signals : (earlier later : List Stroke) → AllSignal (units_after earlier later)
after-signals earlier [] = All-nil Signals
after-signals earlier (s ∷ later) =
    both-signal (units_at earlier s) (units_after (s ∷ earlier) later) (at-signals earlier s)
    (after-signals (s ∷ earlier) later)

fresh-signals : (before fresh after : List Given) → after ≡ before ++ fresh → AllSignal after → AllSignal fresh
fresh-signals before fresh after is all =
    all-right Signals (map Some before) (map Some fresh)
    (subst (All Signals) (ap (map Some) is ∙ map-some before fresh) all)

-- ---- turns

-- the output of these turns names no version beyond the entries that the desk has seen then
record Goes (old : DeskState) (text : List ℕ) (new : DeskState) : Type 0 where
  grows : length old.seen ≤ length new.seen
  names : NamesUpTo (length new.seen) text
  told : All (IsNotice (length new.seen)) new.told

-- the output for a unit names no version beyond
rested : (n : ℕ) (unit : Given) → Signals (Some unit) → NamesUpTo n (answer_to (Rests unit))
rested n TooLong signals = names-plain n (codes "(line too long)") (4, omega arith, refl)
rested n Ayt signals = names-plain n (codes "[Yes]") (5, omega arith, refl)
rested n (Answer bytes) (verb, option, is) =
    names-one n bytes (inr (inr (inr (verb, option, is))))
rested n (Text line) signals = names-nil n

turned : (capacity : ℕ) (old : DeskState) (case : Case) (lines : List (List ℕ)) (new : DeskState)
    → Signals (unit_of case) → Does TakesIn capacity old case lines new → NamesUpTo (length new.seen) (answer_to case)
turned capacity old (Rests unit) lines new signals does = rested (length new.seen) unit signals
turned capacity old Looks lines new signals does = names-nil (length new.seen)
turned capacity old (Fails line) lines new signals does =
    names-plain (length new.seen) (codes "(out of memory)") (1, omega arith, refl)
turned capacity old (Asks line answer) lines new signals (heard, question, sees, all, answers) =
    names-numbered (length new.seen) answer.version answer.text (with_version answer.version answer.text) refl
    (omega (arith, answers.version)) (inr (inr (inr (new, parse_of line, answer, answers, refl, refl))))
turned capacity old (Acts line reply) lines new signals (heard, other, acts) =
    subst (λ (n : ℕ). NamesUpTo n (answer_to (Acts line reply)))
    (sym (ap (λ (d : DeskState). length d.seen) acts.tells.is))
    (said-or-none (length acts.acted.seen) (reply_line reply)
    (replied capacity acts.ready (parse_of line) reply acts.acted acts.replies))

takes-turn : (capacity : ℕ) (old new : DeskState) (turn : Turn) → Signals (unit_of turn.case)
    → Does TakesIn capacity old turn.case turn.notices new → All (IsNotice (length old.seen)) old.told
    → Goes old (text_in turn) new
takes-turn capacity old new turn signals does told =
    let t : Tells old turn.notices new =
    tells old turn.notices new (told_once capacity old turn.case turn.notices new does) told in
    record {
      grows = t.grows;
      names = names-append (length new.seen) (flat_map wire_text turn.notices) (answer_to turn.case)
          (names-notices (length new.seen) turn.notices t.handed)
          (turned capacity old turn.case turn.notices new signals does);
      told = t.told;
    }

plays-on : (capacity : ℕ) (old new : DeskState) (turns : List Turn) → All Signals (map unit_in turns)
    → Plays TakesIn capacity old turns new → All (IsNotice (length old.seen)) old.told → Goes old (text_of turns) new
plays-on capacity old new [] signals same told = record {
  grows = omega (arith, ap (λ (d : DeskState). length d.seen) same);
  names = names-nil (length new.seen);
  told = subst (λ (d : DeskState). All (IsNotice (length d.seen)) d.told) (sym same) told;
}
plays-on capacity old new (turn ∷ turns) signals (mid, does, last, plays) told =
    let units : List (Option Given) = map unit_in turns in
    let one : Goes old (text_in turn) mid =
    takes-turn capacity old mid turn (All-head Signals (unit_in turn) units signals) does told in
    let rest : Goes mid (text_of turns) new =
    plays-on capacity mid new turns (All-tail Signals (unit_in turn) units signals) plays one.told in
    record {
      grows = omega (arith, one.grows, rest.grows);
      names = names-append (length new.seen) (text_in turn) (text_of turns)
          (names-more (length mid.seen) (length new.seen) (text_in turn) rest.grows one.names)
          rest.names;
      told = rest.told;
    }

-- ---- the session

goes-on : (old new : SessionState) (was is : DeskState) (earlier text : List ℕ) → NamesSeen old was → Goes was text is
    → StandsAfter new.terminal earlier → new.out ≡ old.out ++ text → NamesSeen new is
goes-on old new was is earlier text names goes stands out = record {
  earlier = earlier;
  stands = stands;
  out = names-is (length is.seen) (old.out ++ text) new.out out (names-append (length is.seen) old.out text
      (names-more (length was.seen) (length is.seen) old.out goes.grows names.out) goes.names);
  told = goes.told;
}

feeds : (old new : SessionState) (was is : DoorState) (names : NamesSeen old was.desk) (bytes : List ℕ)
    → Feeds TakesIn names.earlier bytes old new was is → NamesSeen new is.desk
feeds old new was is names bytes f =
    let turns : List Turn = f.play.turns in
    let fresh : AllSignal f.fresh = fresh-signals (units names.earlier) f.fresh (units (names.earlier ++ bytes)) f.units
    (after-signals [] (strokes (pieces (names.earlier ++ bytes)))) in
    let signals : All Signals (map unit_in turns) =
    all-left Signals (map unit_in turns) (map Some f.play.left)
    (subst (All Signals) f.play.units_are fresh) in
    goes-on old new was.desk is.desk (names.earlier ++ bytes) (text_of turns) names
    (plays-on was.capacity was.desk is.desk turns signals f.play.plays names.told) f.stands f.out

nudges : (old new : SessionState) (was is : DoorState) (names : NamesSeen old was.desk) → Nudges TakesIn old new was is
    → NamesSeen new is.desk
nudges old new was is names n =
    let turn : Turn = record { case = Looks; notices = n.lines } in
    goes-on old new was.desk is.desk names.earlier (text_in turn) names
    (takes-turn was.capacity was.desk is.desk turn tt n.looks names.told)
    (subst (λ t. StandsAfter t names.earlier) (sym (ap (λ (s : SessionState). s.terminal) n.is)) names.stands)
    (ap (λ (s : SessionState). s.out) n.is
    ∙ ap (λ (l : List ℕ). old.out ++ l) (sym (append-nil (flat_map wire_text n.lines))))

pub nothing_beyond : (old new : SessionState) (was is : DoorState) (names : NamesSeen old was.desk)
    → ((bytes : List ℕ) → Feeds TakesIn names.earlier bytes old new was is → NamesSeen new is.desk)
    × (Nudges TakesIn old new was is → NamesSeen new is.desk)
nothing_beyond old new was is names = (feeds old new was is names, nudges old new was is names)

-- ---- for callers

-- a session in its initial state, with or without a greeting, at a desk without notices
pub begins_so : (session : SessionState) (desk : DeskState) (greet : Bool) → StandsAfter session.terminal []
    → session.out ≡ (if greet then greeting else []) → desk.told ≡ [] → NamesSeen session desk
begins_so session desk greet stands out told = record {
  earlier = [];
  stands = stands;
  out = names-is (length desk.seen) (if greet then greeting else []) session.out out (go greet);
  told = subst (All (IsNotice (length desk.seen))) (sym told) (All-nil (IsNotice (length desk.seen)));
}
  where
    go : (greet : Bool) → NamesUpTo (length desk.seen) (if greet then greeting else [])
    go true = names-plain (length desk.seen) (codes "Welcome. Type: connect NAME") (0, omega arith, refl)
    go false = names-nil (length desk.seen)

-- the output was taken out
pub taken_so : (old new : SessionState) (desk : DeskState) → NamesSeen old desk → new ≡ record old { out = [] }
    → NamesSeen new desk
taken_so old new desk names is = record {
  earlier = names.earlier;
  stands = subst (λ t. StandsAfter t names.earlier) (sym (ap (λ (s : SessionState). s.terminal) is)) names.stands;
  out = names-is (length desk.seen) [] new.out (ap (λ (s : SessionState). s.out) is) (names-nil (length desk.seen));
  told = names.told;
}
