-- A run: at one desk the wizard connects and asks for a room. At another desk a new player connects, which the wizard
-- hears. Then the wizard asks where the two can meet.
use Rattle.std.proofs.Common.{◌≡◌, ℕ, ◌+◌, ◌≤◌, ◌<◌, zero, suc, ◌⊎◌, inl, inr, List, [], ◌∷◌, codes, Option, None, Some}
use Rattle.std.proofs.Common.{Global, refl, sym, ◌∙◌, ap, subst, arith}
use Rattle.std.specs.Prelude.{◌≢◌, IsTrue, All, AllPairs, Contains}
use Rattle.std.specs.Option.{option_map}
use Rattle.std.specs.Str.{IsUtf8}
use Rattle.std.specs.Fmt.{digits}
use Rattle.std.proofs.StringFromBytes.{spelled}
use Rattle.std.proofs.lemmas.List.Elements.{All-nil, All-cons}
use Rattle.std.proofs.lemmas.List.Kept.{AllPairs-cons}
use Rattle.mud_words.specs.Words.{words}
use Rattle.mud_words.specs.Prepositions.{phrase_at, preposition_of}
use Rattle.mud_words.specs.Parse.{parse_of}
use Rattle.mud_key.specs.declared.limits.TheConstants.{LAST_NUMBER}
use Rattle.mud_key.specs.Finds.{names_in, name_in}
use Rattle.mud_world.specs.State.{State, is_player, is_room, place_of}
use Rattle.mud_world.specs.Legal.{refusal}
use Rattle.mud_world.specs.declared.change.Deed.TheVariants.{Player}
use Rattle.mud_roads.specs.declared.label.Label.{Label}
use Rattle.mud_roads.specs.declared.label.Step.{Step}
use Rattle.mud_roads.specs.Walks.{Roads, Walk, IsLeast, Goer, HasLeast, total}
use Rattle.mud_roads.specs.Labels.{start_label}
use Rattle.mud_roads.specs.Passable.{roads_of}
use Rattle.mud_rules.specs.Table.{verb_named, decision}
use Rattle.mud_rules.specs.Outcome.{outcome}
use Rattle.mud_rules.specs.Journeys.{meeting}
use Rattle.mud_rules.specs.declared.verdict.Journey.TheVariants.{Route, Meet}
use Rattle.mud_rules.specs.declared.verdict.Query.TheVariants as query
use Rattle.mud_rules.specs.declared.verdict.Verdict.{Verdict}
use Rattle.mud_rules.specs.declared.verdict.Verdict.TheVariants as verdict
use Rattle.mud_chron.specs.declared.limits.TheConstants.{MOST_DESKS}
use Rattle.mud_chron.specs.Entry.{Entry}
use Rattle.mud_cert.specs.Certificate.{Account, Certificate, IsNumber, IsAmount, IsAccount, CountsBy}
use Rattle.mud_cert.specs.declared.cert.Form.TheVariants.{Two}
use Rattle.mud_cert.specs.declared.cert.Conclusion.TheVariants as says
use Rattle.mud_cert.specs.declared.cert.Meeting.{Meeting}
use Rattle.mud_cert.specs.Lookup.{label_at}
use Rattle.mud_cert.specs.Valid.{States, IsMember, GoesTo, IsValid}
use Rattle.mud_cert.proofs.Finds.{contains-nil}
use Rattle.mud_guide.specs.declared.answer.Answer.{Answer}
use Rattle.mud_guide.specs.Legs.{Leg, IsLeg}
use Rattle.mud_guide.specs.Accounts.{IsAccountOf}
use Rattle.mud_guide.specs.Answers.{IsRouteAnswer, IsMeetAnswer}
use Rattle.mud_hall.specs.Notices.{world_after}
use Rattle.mud_hall.specs.Desk.{DeskState, new_desk, as_player, as_accepted, HandsOut, with_told}
use Rattle.mud_hall.specs.inner.Desks.{took_in}
use Rattle.mud_hall.specs.Replies.{Accepted, Became, verdict_on, Comes, Acts}
use Rattle.mud_hall.specs.Answers.{answer_shown, Shows, Answers}
use Rattle.mud_hall.specs.Steps.{See, Act, Ask, Told, Hall, hall_begun, seats, HallStep, Desk, At, Makes, IsRun}

-- ---- a player in a world without roads

-- the player is in #0, and no exit leads anywhere
record IsStill (w : State) (p : ℕ) : Type 0 where
  player : IsTrue (is_player w p)
  place : place_of w p ≡ Some 0
  room : IsTrue (is_room w 0)
  roads : (from : ℕ) → roads_of w p from ≡ []
  number : p ≤ LAST_NUMBER

abbrev journey : ℕ → Leg
journey p = record { player = p; from = 0; way = Some [] }

abbrev labels : List (ℕ × Label)
labels = (0, start_label) ∷ []

abbrev account : ℕ → Account
account p = record { player = p; from = 0; labels = labels; walk = Some [] }

nowhere : (roads : Roads) (from to : ℕ) (ss : List Step) → ((room : ℕ) → roads room ≡ []) → Walk roads from ss to
    → (from ≡ to) × (start_label ≡ total 1 ss)
nowhere roads from to [] none walk = (walk, refl)
nowhere roads from to (s ∷ ss) none walk =
    absurd (contains-nil s (subst (λ (l : List Step). Contains l s) (none from) walk.0))

-- a relation of pairs says nothing about one element, and relates two elements once
single : {X : Type 0} (R : X → X → Type 0) (x : X) → AllPairs R (x ∷ [])
single R x i j d lt within = absurd (omega (arith, lt, within))

two : {A : Type 0} (P : A → Type 0) (a b : A) → P a → P b → All P (a ∷ b ∷ [])
two P a b p q = All-cons P a (b ∷ []) p (All-cons P b [] q (All-nil P))

-- two members are not the same player
abbrev Apart : Account → Account → Type 0
Apart a b = a.player ≢ b.player

goes : (w : State) (p : ℕ) → IsStill w p → IsLeg w (Some 0) p (journey p)
goes w p still = record { player = refl; from = still.place; way = refl }

least : (w : State) (p : ℕ) → IsStill w p → IsLeast 1 (roads_of w p) 0 0 start_label
least w p still = record {
  walked = ([], refl, refl);
  least = λ ss walk. (omega arith, λ same. omega arith);
}

only : (w : State) (p : ℕ) → IsStill w p → (room : ℕ) (l : Label) → IsLeast 1 (roads_of w p) 0 room l
    → (0 ≡ room) × (start_label ≡ l)
only w p still room l is =
    let gone = nowhere (roads_of w p) 0 room is.walked.0 still.roads is.walked.1 in
    (gone.0, gone.1 ∙ is.walked.2)

one-label : (room : ℕ) (l : Label) → Contains labels (room, l) → (0 ≡ room) × (start_label ≡ l)
one-label room l (zero, lt, is) = (ap (λ (e : ℕ × Label). e.0) is, ap (λ (e : ℕ × Label). e.1) is)
one-label room l (suc k, lt, is) = absurd (omega (arith, lt))

is-account : (w : State) (p : ℕ) → IsStill w p → IsAccountOf w (journey p) (account p)
is-account w p still = record {
  goes = record { player = refl; from = refl; walk = refl };
  labels = record {
    rising = single (λ (d : ℕ × Label) (e : ℕ × Label). d.0 < e.0) (0, start_label);
    least = λ room l. (
      (λ has. let one = one-label room l has in
          subst (λ (r : ℕ). IsLeast 1 (roads_of w p) 0 r l) one.0
          (subst (λ (k : Label). IsLeast 1 (roads_of w p) 0 0 k) one.1 (least w p still))),
      (λ is. let one = only w p still room l is in
          subst (λ (r : ℕ). Contains labels (r, l)) one.0
          (subst (λ (k : Label). Contains labels (0, k)) one.1 (0, omega arith, refl))),
    );
  };
}

stated : (w : State) (p : ℕ) → IsStill w p → States w (account p) 0 []
stated w p still = record { stated = refl; walk = refl }

is-member : (w : State) (p : ℕ) → IsStill w p → IsMember w Two (account p)
is-member w p still = record {
  player = still.player;
  place = still.place;
  rooms = All-cons (λ (e : ℕ × Label). IsTrue (is_room w e.0)) (0, start_label) [] still.room (All-nil _);
  labels = record {
    start = refl;
    steps = λ room l s at has. absurd (contains-nil s (subst (λ (x : List Step). Contains x s) (still.roads room) has));
  };
  walk = inr (0, [], stated w p still, refl);
}

is-limited : (p : ℕ) → p ≤ LAST_NUMBER → IsAccount (account p)
is-limited p small = record {
  player = small;
  from = omega arith;
  entries = All-cons (λ (e : ℕ × Label). IsNumber e.0 × IsAmount e.1.cost × IsAmount e.1.exits) (0, start_label) []
      (omega arith, omega arith, omega arith) (All-nil _);
  rising = single (λ (d : ℕ × Label) (e : ℕ × Label). d.0 < e.0) (0, start_label);
  exits = All-nil IsNumber;
}

-- ---- the first answer: the way to the player's own room

abbrev route-cert : Certificate
route-cert = record { version = 0; form = Two; members = account 1 ∷ []; conclusion = says.Route 0 (Some 0) }

in-hall : IsStill (world_after []) 1
unfolding roads_of
in-hall = record { player = refl; place = refl; room = refl; roads = λ from. refl; number = omega arith }

abbrev cost : Label → ℕ
cost l = l.cost

route-valid : IsValid (world_after []) route-cert
route-valid =
    let w = world_after [] in
    record {
      distinct = single Apart (account 1);
      members = All-cons (IsMember w Two) (account 1) [] (is-member w 1 in-hall) (All-nil _);
      conclusion = (
        refl,
        All-cons (GoesTo w (Some 0)) (account 1) [] ([], stated w 1 in-hall) (All-nil _),
        All-cons (λ (m : Account). (o : Option Label) × (label_at m 0 ≡ o) × (option_map cost o ≡ Some 0))
            (account 1) [] (Some start_label, refl, refl) (All-nil _),
      );
    }

abbrev route-line : List ℕ
route-line = codes "route #0 to #0 cost 0 by nothing"

pub route-is-text : IsUtf8 route-line
unfolding lib.Utf8.encode
route-is-text = (route-line, (refl, refl))

abbrev route-answer : Global → Answer
route-answer heap = record {
  version = 0;
  text = spelled heap route-line ∣ route-is-text ∣₁ (omega arith);
  cert = Some route-cert;
  few = omega arith;
}

route-is : (heap : Global) → IsRouteAnswer (world_after []) 0 1 0 (route-answer heap)
unfolding digits
route-is heap = record {
  leg = journey 1;
  goes = goes (world_after []) 1 in-hall;
  version = refl;
  text = refl;
  cert = record {
    version = refl;
    form = refl;
    members = (is-account (world_after []) 1 in-hall, tt);
    conclusion = refl;
    limits = record {
      version = omega arith;
      members = All-cons IsAccount (account 1) [] (is-limited 1 (omega arith)) (All-nil _);
      counts = All-cons (CountsBy Two) (account 1) [] tt (All-nil _);
      conclusion = (refl, omega arith, omega arith);
    };
  };
  valid = route-valid;
}

-- ---- the second answer: the meeting of two players who are in one room

abbrev ann : Entry
ann = record { desk = 2; change = record { actor = 2; deed = Player (codes "Ann") } }

abbrev met : Option Meeting
met = Some (record { room = 0; cost = 0 })

abbrev meet-cert : Certificate
meet-cert = record { version = 1; form = Two; members = account 1 ∷ account 2 ∷ []; conclusion = says.Meet met }

first-there : IsStill (world_after (ann ∷ [])) 1
unfolding roads_of words name_in names_in refusal
first-there = record { player = refl; place = refl; room = refl; roads = λ from. refl; number = omega arith }

second-there : IsStill (world_after (ann ∷ [])) 2
unfolding roads_of words name_in names_in refusal
second-there = record { player = refl; place = refl; room = refl; roads = λ from. refl; number = omega arith }

-- no room is lower, and no cost less
lowest : (r c : ℕ) → (0 < c) ⊎ ((0 ≡ c) × (0 ≤ r))
lowest r zero = inr (refl, omega arith)
lowest r (suc c) = inl (omega arith)

meet-valid : IsValid (world_after (ann ∷ [])) meet-cert
meet-valid =
    let w = world_after (ann ∷ []) in
    record {
      distinct = AllPairs-cons Apart (account 1) (account 2 ∷ [])
          (All-cons (Apart (account 1)) (account 2) [] (λ e. omega (arith, e)) (All-nil _))
          (single Apart (account 2));
      members = two (IsMember w Two) (account 1) (account 2) (is-member w 1 first-there) (is-member w 2 second-there);
      conclusion = (
        two (GoesTo w (Some 0)) (account 1) (account 2) ([], stated w 1 first-there) ([], stated w 2 second-there),
        record {
          gathers = record {
            all = two (λ (m : Account). (l : Label) × (label_at m 0 ≡ Some l) × (l.cost ≤ 0)) (account 1) (account 2)
                (start_label, refl, omega arith) (start_label, refl, omega arith);
            one = (0, account 1, omega arith, refl, (start_label, refl, refl));
          };
          best = λ r c gathers. lowest r c;
        },
      );
    }

abbrev meet-lines : List ℕ
meet-lines = codes "meet #1 #2 at #0 cost 0\n  #1 from #0 cost 0 by nothing\n  #2 from #0 cost 0 by nothing"

pub meet-is-text : IsUtf8 meet-lines
unfolding lib.Utf8.encode
meet-is-text = (meet-lines, (refl, refl))

abbrev meet-answer : Global → Answer
meet-answer heap = record {
  version = 1;
  text = spelled heap meet-lines ∣ meet-is-text ∣₁ (omega arith);
  cert = Some meet-cert;
  few = omega arith;
}

meet-is : (heap : Global) → IsMeetAnswer (world_after (ann ∷ [])) 1 (1 ∷ 2 ∷ []) (meet-answer heap)
unfolding digits
meet-is heap =
    let w = world_after (ann ∷ []) in
    record {
      place = met;
      legs = journey 1 ∷ journey 2 ∷ [];
      go = (goes w 1 first-there, (goes w 2 second-there, tt));
      meet = record {
        gathers = record {
          all = two (λ (g : Goer). (l : Label) × HasLeast 1 g 0 (Some l) × (l.cost ≤ 0)) (roads_of w 1, 0)
              (roads_of w 2, 0) (start_label, least w 1 first-there, omega arith)
              (start_label, least w 2 second-there, omega arith);
          one = (0, (roads_of w 1, 0), omega arith, refl, (start_label, least w 1 first-there, refl));
        };
        best = λ r c gathers. lowest r c;
      };
      version = refl;
      text = refl;
      cert = record {
        version = refl;
        form = refl;
        members = (is-account w 1 first-there, (is-account w 2 second-there, tt));
        conclusion = refl;
        limits = record {
          version = omega arith;
          members = two IsAccount (account 1) (account 2) (is-limited 1 (omega arith)) (is-limited 2 (omega arith));
          counts = two (CountsBy Two) (account 1) (account 2) tt tt;
          conclusion = (omega arith, omega arith, (omega arith, omega arith));
        };
      };
      valid = meet-valid;
    }

-- ---- the verdicts of the lines

wizard-comes : verdict_on [] None (parse_of (codes "connect wizard")) ≡ verdict.Become 1
unfolding digits words phrase_at preposition_of parse_of verb_named decision name_in names_in
wizard-comes = refl

asks-route : verdict_on [] (Some 1) (parse_of (codes "route to #0")) ≡ verdict.Ask (query.Journey (Route 0))
unfolding digits words phrase_at preposition_of parse_of verb_named decision name_in names_in
asks-route = refl

ann-comes : verdict_on [] None (parse_of (codes "connect Ann")) ≡ verdict.Change ann.change
unfolding digits words phrase_at preposition_of parse_of verb_named decision name_in names_in outcome refusal
ann-comes = refl

asks-meeting : verdict_on (ann ∷ []) (Some 1) (parse_of (codes "meet #1, #2"))
    ≡ verdict.Ask (query.Journey (Meet (1 ∷ 2 ∷ [])))
unfolding digits words phrase_at preposition_of parse_of verb_named decision name_in names_in meeting refusal
asks-meeting = refl

-- ---- the desks and the halls

abbrev wizard : DeskState
wizard = as_player (new_desk 1 []) 1

abbrev newcomer : DeskState
newcomer = as_accepted (new_desk 2 []) ann.change

abbrev hearing : DeskState
hearing = took_in wizard (ann ∷ [])

abbrev hall1 : Hall
hall1 = record (seats (hall_begun []) [] 1 (new_desk 1 [])) { given = 1 }

abbrev hall2 : Hall
hall2 = seats hall1 [] 1 wizard

abbrev hall3 : Hall
hall3 = seats hall2 [] 1 wizard

abbrev hall4 : Hall
hall4 = record (seats hall3 [] 2 (new_desk 2 [])) { given = 2 }

abbrev hall5 : Hall
hall5 = seats hall4 (ann ∷ []) 2 newcomer

abbrev hall6 : Hall
hall6 = seats hall5 (ann ∷ []) 1 hearing

abbrev hall7 : Hall
hall7 = seats hall6 (ann ∷ []) 1 (with_told hearing [])

abbrev hall8 : Hall
hall8 = seats hall7 (ann ∷ []) 1 (with_told hearing [])

-- ---- the calls

sits : Acts 16 (new_desk 1 []) (parse_of (codes "connect wizard")) (Became 0 (codes "welcome #1")) wizard
unfolding digits
sits = record {
  ready = new_desk 1 [];
  takes_in = record { entries = []; is = refl };
  replies = subst (λ (v : Verdict). Comes 16 (new_desk 1 []) v (Became 0 (codes "welcome #1")) wizard)
      (sym wizard-comes) (refl, refl);
}

comes : Acts 16 (new_desk 2 []) (parse_of (codes "connect Ann")) (Accepted 1 (codes "welcome #2")) newcomer
unfolding digits
comes = record {
  ready = new_desk 2 [];
  takes_in = record { entries = []; is = refl };
  replies = subst (λ (v : Verdict). Comes 16 (new_desk 2 []) v (Accepted 1 (codes "welcome #2")) newcomer)
      (sym ann-comes) (omega arith, refl, refl, refl);
}

answers-route : (heap : Global) → Answers wizard (parse_of (codes "route to #0")) (answer_shown (route-answer heap))
answers-route heap = record {
  version = refl;
  shows = subst (λ (v : Verdict). Shows [] (Some 1) v (answer_shown (route-answer heap))) (sym asks-route)
      (route-answer heap, route-is heap, refl);
}

answers-meeting : (heap : Global)
    → Answers (with_told hearing []) (parse_of (codes "meet #1, #2")) (answer_shown (meet-answer heap))
answers-meeting heap = record {
  version = refl;
  shows = subst (λ (v : Verdict). Shows (ann ∷ []) (Some 1) v (answer_shown (meet-answer heap))) (sym asks-meeting)
      (meet-answer heap, meet-is heap, refl);
}

abbrev line : List ℕ
line = codes "(1) Ann arrives."

told : HandsOut hearing (line ∷ []) (with_told hearing [])
unfolding digits
told = record { told = refl; is = refl }

-- ---- the run

abbrev steps : Global → List HallStep
steps heap =
    Desk 1
    ∷ At 1 (Act (codes "connect wizard") (Became 0 (codes "welcome #1")))
    ∷ At 1 (Ask (codes "route to #0") (Some (answer_shown (route-answer heap))))
    ∷ Desk 2
    ∷ At 2 (Act (codes "connect Ann") (Accepted 1 (codes "welcome #2")))
    ∷ At 1 See
    ∷ At 1 (Told (line ∷ []))
    ∷ At 1 (Ask (codes "meet #1, #2") (Some (answer_shown (meet-answer heap))))
    ∷ []

given : (old : Hall) (s : ℕ) → 1 ≤ s → s ≤ MOST_DESKS → s ≡ old.given + 1
    → Makes 16 [] old (Desk s) (record (seats old old.history s (new_desk s [])) { given = s })
given old s from to next = (
  new_desk s [],
  record { from = from; to = to; begun = ([], refl); is = refl },
  refl,
  next,
  (old.history, refl),
  refl,
)

pub sample : (heap : Global) → IsRun 16 [] (hall_begun []) (steps heap) hall8
sample heap = (
  hall1,
  given (hall_begun []) 1 (omega arith) (omega arith) refl,
  (
    hall2,
    (new_desk 1 [], wizard, record { before = refl; known = ([], refl); after = refl }, refl, sits),
    (
      hall3,
      (wizard, wizard, record { before = refl; known = ([], refl); after = refl }, refl, (answers-route heap, refl)),
      (
        hall4,
        given hall3 2 (omega arith) (omega arith) refl,
        (
          hall5,
          (
            new_desk 2 [],
            newcomer,
            record { before = refl; known = ([], refl); after = refl },
            (ann, refl, refl),
            comes,
          ),
          (
            hall6,
            (
              wizard,
              hearing,
              record { before = refl; known = ([], refl); after = refl },
              refl,
              record { entries = ann ∷ []; is = refl },
            ),
            (
              hall7,
              (
                hearing,
                with_told hearing [],
                record { before = refl; known = ([], refl); after = refl },
                refl,
                told,
              ),
              (
                hall8,
                (
                  with_told hearing [],
                  with_told hearing [],
                  record { before = refl; known = ([], refl); after = refl },
                  refl,
                  (answers-meeting heap, refl),
                ),
                refl,
              ),
            ),
          ),
        ),
      ),
    ),
  ),
)
