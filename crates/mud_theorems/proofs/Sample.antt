-- A run with a lock. Ann digs a room, walks there, and locks the exit to it for all others. Bob is refused at the
-- lock, and gets the answer `no way`. Ann gets the way back, and then the room where the two can meet.
use Rattle.std.proofs.Common.{◌≡◌, ℕ, ◌+◌, ◌≤◌, ◌<◌, zero, suc, ◌⊎◌, inl, inr, List, [], ◌∷◌, length, codes, Option}
use Rattle.std.proofs.Common.{None, Some, Bool, true, false, eqb, append-nil, ◌++◌, Global, refl, sym, ◌∙◌, ap, subst}
use Rattle.std.proofs.Common.{arith}
use Rattle.std.specs.Prelude.{All, AllPairs, Contains}
use Rattle.std.specs.Option.{option_map}
use Rattle.std.specs.Str.{IsUtf8}
use Rattle.std.specs.Fmt.{digits}
use Rattle.std.proofs.StringFromBytes.{spelled}
use Rattle.std.proofs.lemmas.Bool.{eqb-true}
use Rattle.std.proofs.lemmas.Option.{none-some, same_Some}
use Rattle.std.proofs.lemmas.List.Elements.{All-nil, All-cons}
use Rattle.mud_words.specs.Words.{words}
use Rattle.mud_words.specs.Prepositions.{phrase_at, preposition_of}
use Rattle.mud_words.specs.Parse.{parse_of}
use Rattle.mud_key.specs.Tree.{Has}
use Rattle.mud_key.specs.Finds.{names_in, name_in, key_in}
use Rattle.mud_world.specs.State.{State}
use Rattle.mud_world.specs.Sound.{IsSound}
use Rattle.mud_world.specs.Legal.{refusal}
use Rattle.mud_world.specs.declared.record.Kind.{Kind}
use Rattle.mud_world.specs.declared.record.Kind.TheVariants.{Room, Exit, Player}
use Rattle.mud_world.specs.declared.change.Change.{Change}
use Rattle.mud_world.specs.declared.change.Doors.{Doors}
use Rattle.mud_world.specs.declared.change.Target.TheVariants.{New}
use Rattle.mud_world.specs.declared.change.Deed.TheVariants as deed
use Rattle.mud_world.specs.declared.refusal.Refusal.TheVariants.{LockedExit}
use Rattle.mud_roads.specs.declared.label.Label.{Label}
use Rattle.mud_roads.specs.declared.label.Step.{Step}
use Rattle.mud_roads.specs.Walks.{Roads, Walk, IsLeast, EndsLeast, Goer, HasLeast, Gathers, total}
use Rattle.mud_roads.specs.Labels.{start_label, AreValid}
use Rattle.mud_roads.specs.Passable.{roads_of}
use Rattle.mud_roads.proofs.Bounds.{valid_is_least}
use Rattle.mud_roads.proofs.Routes.{least-one}
use Rattle.mud_rules.specs.Table.{verb_named, decision}
use Rattle.mud_rules.specs.Outcome.{outcome}
use Rattle.mud_rules.specs.Journeys.{meeting}
use Rattle.mud_rules.specs.Replies.{reply_text}
use Rattle.mud_rules.specs.declared.verdict.Journey.TheVariants.{Route, Meet}
use Rattle.mud_rules.specs.declared.verdict.Query.TheVariants as query
use Rattle.mud_rules.specs.declared.verdict.Verdict.{Verdict}
use Rattle.mud_rules.specs.declared.verdict.Verdict.TheVariants as verdict
use Rattle.mud_chron.specs.declared.limits.TheConstants.{MOST_DESKS}
use Rattle.mud_chron.specs.Entry.{Entry}
use Rattle.mud_cert.specs.Certificate.{Account, Certificate, IsCertificate}
use Rattle.mud_cert.specs.declared.cert.Form.TheVariants.{Two}
use Rattle.mud_cert.specs.declared.cert.Conclusion.{Conclusion}
use Rattle.mud_cert.specs.declared.cert.Conclusion.TheVariants as says
use Rattle.mud_cert.specs.inner.Labels.{label_in}
use Rattle.mud_cert.specs.declared.cert.Meeting.{Meeting}
use Rattle.mud_cert.specs.Text.{cert_lines}
use Rattle.mud_cert.specs.declared.stage.Stage.{Stage}
use Rattle.mud_cert.specs.declared.stage.Stage.TheVariants.{Nothing, Whole}
use Rattle.mud_cert.specs.inner.Stages.{IsStage, conclude, join, next, run}
use Rattle.mud_cert.specs.inner.Reader.{number_at, object_at, after, whole, pieces_at, head_at, version_at, member_at}
use Rattle.mud_cert.specs.inner.Reader.{exits_at, entry_at, labels_at, exit_at, exits_of, walk_at, cost_at, way_at}
use Rattle.mud_cert.specs.inner.Reader.{route_at, meeting_at, conclusion_at}
use Rattle.mud_cert.proofs.Pieces.{bind_some}
use Rattle.mud_cert.proofs.Machine.{next-keeps}
use Rattle.mud_cert.specs.Lookup.{label_at}
use Rattle.mud_cert.specs.Valid.{IsValid}
use Rattle.mud_cert.proofs.Finds.{contains-head, contains-tail}
use Rattle.mud_cert.proofs.Lookups.{label-here, label-behind, label-found}
use Rattle.mud_cert.proofs.Valid.{passed-is-valid}
use Rattle.mud_guide.specs.declared.answer.Answer.{Answer}
use Rattle.mud_guide.specs.Ways as ways
use Rattle.mud_guide.specs.Legs.{Leg, IsLeg}
use Rattle.mud_guide.specs.Accounts.{AreLeastLabels, IsAccountOf}
use Rattle.mud_guide.specs.Answers.{IsRouteAnswer, IsMeetAnswer}
use Rattle.mud_hall.specs.Notices.{world_after}
use Rattle.mud_hall.specs.Desk.{DeskState, new_desk, as_accepted, TakesIn}
use Rattle.mud_hall.specs.inner.Desks.{took_in}
use Rattle.mud_hall.specs.Replies.{Reply, Accepted, Refused, verdict_on, Comes}
use Rattle.mud_hall.specs.Answers.{Answered, answer_shown, Shows}
use Rattle.mud_hall.specs.Steps.{Act, Ask, Hall, hall_begun, seats, HallStep, Desk, At, Makes, IsRun}
use Rattle.mud_hall.proofs.Worlds.{world-sound}

-- ---- the changes, and the world after them: #4 is locked for all but Ann

abbrev ann-comes : Change
ann-comes = record { actor = 2; deed = deed.Player (codes "Ann") }

abbrev doors : Doors
doors = record { out = codes "north" ∷ []; back = Some (codes "south" ∷ []) }

abbrev ann-digs : Change
ann-digs = record { actor = 2; deed = deed.Dig (New (codes "Library" ∷ [])) (Some doors) }

abbrev ann-walks : Change
ann-walks = record { actor = 2; deed = deed.Walk 4 }

abbrev bob-comes : Change
bob-comes = record { actor = 6; deed = deed.Player (codes "Bob") }

abbrev ann-locks : Change
ann-locks = record { actor = 2; deed = deed.Lock 4 (Has 2) }

abbrev first : List Entry
first =
    record { desk = 1; change = ann-comes } ∷ record { desk = 1; change = ann-digs }
    ∷ record { desk = 1; change = ann-walks } ∷ []

abbrev history : List Entry
history = first ++ record { desk = 2; change = bob-comes } ∷ record { desk = 1; change = ann-locks } ∷ []

abbrev north : Step
north = record { exit = 4; to = 3; cost = 1 }

abbrev south : Step
south = record { exit = 5; to = 0; cost = 1 }

abbrev exit : ℕ → ℕ → Kind
exit from to = Exit (record { source = from; destination = to; cost = 1 })

abbrev there : State
there = record {
  objects =
      (0, record { names = codes "The Hall" ∷ []; owner = 1; kind = Room; key = None })
      ∷ (1, record { names = codes "Wizard" ∷ []; owner = 1; kind = Player 0; key = None })
      ∷ (2, record { names = codes "Ann" ∷ []; owner = 2; kind = Player 3; key = None })
      ∷ (3, record { names = codes "Library" ∷ []; owner = 2; kind = Room; key = None })
      ∷ (4, record { names = codes "north" ∷ []; owner = 2; kind = exit 0 3; key = Some (Has 2) })
      ∷ (5, record { names = codes "south" ∷ []; owner = 2; kind = exit 3 0; key = None })
      ∷ (6, record { names = codes "Bob" ∷ []; owner = 6; kind = Player 0; key = None }) ∷ [];
  next = 7;
}

is-there : world_after history ≡ there
unfolding refusal
is-there = refl

sound : IsSound there
sound = subst IsSound is-there (world-sound history)

-- ---- valid labels are the least ones if each is the label of a walk

abbrev Below : ℕ × Label → ℕ × Label → Type 0
Below d e = d.0 < e.0

abbrev IsWalked : Roads → ℕ → ℕ × Label → Type 0
IsWalked roads from e = (ss : List Step) × Walk roads from ss e.0 × (total 1 ss ≡ e.1)

record AreWalked (roads : Roads) (m : Account) : Type 0 where
  rising : AllPairs Below m.labels
  valid : AreValid 1 roads m.from (label_at m)
  walked : All (IsWalked roads m.from) m.labels

-- a label that is found is in the list
listed : (es : List (ℕ × Label)) (room : ℕ) (l : Label) → label_in es room ≡ Some l → Contains es (room, l)
listed [] room l at = absurd (none-some l at)
listed (e ∷ es) room l at = go (λ h. contains-tail e (room, l) es (listed es room l h)) (eqb e.0 room) refl
  where
    go : (label_in es room ≡ Some l → Contains (e ∷ es) (room, l)) → (b : Bool) → eqb e.0 room ≡ b
        → Contains (e ∷ es) (room, l)
    go behind false other = behind (sym (label-behind e es room other) ∙ at)
    go behind true here = (
      0,
      omega arith,
      ap (λ (n : ℕ). (n, e.1)) (eqb-true e.0 room here)
          ∙ ap (λ (k : Label). (room, k)) (same_Some e.1 l (sym (label-here e es room here) ∙ at)),
    )

is-least : (roads : Roads) (m : Account) → AreWalked roads m → (room : ℕ) (l : Label) → Contains m.labels (room, l)
    → IsLeast 1 roads m.from room l
is-least roads m are room l (i, lt, is) =
    let x : IsWalked roads m.from (room, l) = subst (IsWalked roads m.from) is (are.walked i (room, l) lt) in
    let at : label_at m room ≡ Some l =
    label-found m.labels room i (room, l) are.rising lt (ap (λ (e : ℕ × Label). e.0) is)
    ∙ ap (λ (e : ℕ × Label). Some e.1) is in
    subst (λ (k : Label). IsLeast 1 roads m.from room k) x.2
    ((valid_is_least 1 roads m.from (label_at m) are.valid).0 room x.0 x.1 (at ∙ ap Some (sym x.2)))

has-label : (roads : Roads) (m : Account) → AreWalked roads m → (room : ℕ) (l : Label) → IsLeast 1 roads m.from room l
    → Contains m.labels (room, l)
has-label roads m are room l least = go (label_at m room) refl
  where
    go : (o : Option Label) → label_at m room ≡ o → Contains m.labels (room, l)
    go None at =
        absurd ((valid_is_least 1 roads m.from (label_at m) are.valid).1 room at least.walked.0 least.walked.1)
    go (Some k) at =
        let there : Contains m.labels (room, k) = listed m.labels room k at in
        subst (λ (j : Label). Contains m.labels (room, j))
        (same_Some k l (least-one 1 roads m.from room (Some k) l (is-least roads m are room k there) least)) there

are-least : (roads : Roads) (m : Account) → AreWalked roads m → AreLeastLabels roads m.from m.labels
are-least roads m are =
    record { rising = are.rising; least = λ room l. (is-least roads m are room l, has-label roads m are room l) }

-- ---- the certificates: they are within the limits, and no test of them fails

-- Ann has a walk by #5 to #0; Bob has none, or the empty one
abbrev one : Label
one = record { cost = 1; exits = 1 }

abbrev ann : Account
ann = record { player = 2; from = 3; labels = (0, one) ∷ (3, start_label) ∷ []; walk = Some (5 ∷ []) }

abbrev bob : Option (List ℕ) → Account
bob walk = record { player = 6; from = 0; labels = (0, start_label) ∷ []; walk = walk }

abbrev met : Option Meeting
met = Some (record { room = 0; cost = 1 })

abbrev cert : List Account → Conclusion → Certificate
cert members conclusion = record { version = 5; form = Two; members = members; conclusion = conclusion }

abbrev back-cert : Certificate
back-cert = cert (ann ∷ []) (says.Route 0 (Some 1))

abbrev stuck-cert : Certificate
stuck-cert = cert (bob None ∷ []) (says.Route 3 None)

abbrev meet-cert : Certificate
meet-cert = cert (ann ∷ bob (Some []) ∷ []) (says.Meet met)

lone : {A : Type 0} (P : A → Type 0) (a : A) → P a → All P (a ∷ [])
lone P a p = All-cons P a [] p (All-nil P)

two : {A : Type 0} (P : A → Type 0) (a b : A) → P a → P b → All P (a ∷ b ∷ [])
two P a b p q = All-cons P a (b ∷ []) p (lone P b q)

only : {X : Type 0} (x y : X) → Contains (x ∷ []) y → x ≡ y
only x y (zero, lt, is) = is
only x y (suc k, lt, is) = absurd (omega (arith, lt))

-- the reader of certificates accepts only those within the limits
reads : (s : Stage) (lines : List (List ℕ)) (t : Stage) → IsStage s → run s lines ≡ Some t → IsStage t
unfolding run
reads s [] t is e = subst IsStage (same_Some s t e) is
reads s (line ∷ lines) t is e =
    let a = bind_some (next s line) (λ u. run u lines) t e in
    reads a.0 lines t (next-keeps s line a.0 is a.1).0 a.2

fits : (c : Certificate) → run Nothing (cert_lines c) ≡ Some (Whole c) → IsCertificate c
unfolding IsStage
fits c e = reads Nothing (cert_lines c) (Whole c) tt e

fit : IsCertificate back-cert × IsCertificate stuck-cert × IsCertificate meet-cert
unfolding cert_lines run next join conclude number_at object_at after whole pieces_at head_at version_at member_at
    exits_at entry_at labels_at exit_at exits_of walk_at cost_at way_at route_at meeting_at conclusion_at digits
fit = (fits back-cert refl, fits stuck-cert refl, fits meet-cert refl)

valid : IsValid there back-cert × IsValid there stuck-cert × IsValid there meet-cert
valid = (
  (passed-is-valid there sound back-cert fit.0).0 refl,
  (passed-is-valid there sound stuck-cert fit.1).0 refl,
  (passed-is-valid there sound meet-cert fit.2).0 refl,
)

-- ---- Ann's ways: only #5 leads back to #0

ann-walked : AreWalked (roads_of there 2) ann
unfolding roads_of
ann-walked = record {
  rising = (fit.0.members 0 ann (omega arith)).rising;
  valid = (valid.0.members 0 ann (omega arith)).labels;
  walked = two (IsWalked (roads_of there 2) 3) (0, one) (3, start_label)
      (south ∷ [], (contains-head south [], refl), refl) ([], refl, refl);
}

ann-at-0 : IsLeast 1 (roads_of there 2) 3 0 one
ann-at-0 = is-least (roads_of there 2) ann ann-walked 0 one (0, omega arith, refl)

ann-at-3 : IsLeast 1 (roads_of there 2) 3 3 start_label
ann-at-3 = is-least (roads_of there 2) ann ann-walked 3 start_label (1, omega arith, refl)

ann-rooms : (room : ℕ) (l : Label) → Contains ann.labels (room, l) → (0 ≡ room) ⊎ (3 ≡ room)
ann-rooms room l (zero, lt, is) = inl (ap (λ (e : ℕ × Label). e.0) is)
ann-rooms room l (suc zero, lt, is) = inr (ap (λ (e : ℕ × Label). e.0) is)
ann-rooms room l (suc (suc k), lt, is) = absurd (omega (arith, lt))

lowest-exit : (by : ℕ) (s : Step) → EndsLeast 1 (roads_of there 2) 3 0 by s → 5 ≤ s.exit
unfolding roads_of
lowest-exit by s ends =
    go (ann-rooms by ends.least.0 (has-label (roads_of there 2) ann ann-walked by ends.least.0 ends.least.1))
  where
    at : (n : ℕ) → n ≡ by → Contains (roads_of there 2 n) s
    at n is = subst (λ (k : ℕ). Contains (roads_of there 2 k) s) (sym is) ends.step

    go : (0 ≡ by) ⊎ (3 ≡ by) → 5 ≤ s.exit
    go (inl is) =
        let to : 3 ≡ s.to = ap (λ (x : Step). x.to) (only north s (at 0 is)) in
        absurd (omega (arith, to, ends.leads))
    go (inr is) =
        let exit : 5 ≡ s.exit = ap (λ (x : Step). x.exit) (only south s (at 3 is)) in
        omega (arith, exit)

abbrev ann-leg : Leg
ann-leg = record { player = 2; from = 3; way = Some (south ∷ []) }

ann-ends : EndsLeast 1 (roads_of there 2) 3 0 3 south
unfolding roads_of
ann-ends = record { step = contains-head south []; leads = refl; least = (start_label, ann-at-3, ann-at-0) }

ann-back : IsLeg there (Some 0) 2 ann-leg
ann-back = record { player = refl; from = refl; way = (3, ann-ends, lowest-exit, refl) }

ann-account : IsAccountOf there ann-leg ann
ann-account = record {
  goes = record { player = refl; from = refl; walk = refl };
  labels = are-least (roads_of there 2) ann ann-walked;
}

-- ---- Bob's ways: no exit of #0 is open to Bob

abbrev bob-leg : Option (List Step) → Leg
bob-leg way = record { player = 6; from = 0; way = way }

bob-walked : AreWalked (roads_of there 6) (bob None)
bob-walked = record {
  rising = (fit.1.members 0 ann (omega arith)).rising;
  valid = (valid.1.members 0 ann (omega arith)).labels;
  walked = lone (IsWalked (roads_of there 6) 0) (0, start_label) ([], refl, refl);
}

bob-account : (way : Option (List Step)) → IsAccountOf there (bob-leg way) (bob (option_map ways.exits_of way))
bob-account way = record {
  goes = record { player = refl; from = refl; walk = refl };
  labels = are-least (roads_of there 6) (bob None) bob-walked;
}

bob-at-0 : IsLeast 1 (roads_of there 6) 0 0 start_label
bob-at-0 = is-least (roads_of there 6) (bob None) bob-walked 0 start_label (0, omega arith, refl)

bob-stays : (room : ℕ) (l : Label) → IsLeast 1 (roads_of there 6) 0 room l → 0 ≡ room
bob-stays room l least =
    ap (λ (e : ℕ × Label). e.0)
    (only (0, start_label) (room, l) (has-label (roads_of there 6) (bob None) bob-walked room l least))

-- ---- the answers

pub back-text : IsUtf8 (codes "route #3 to #0 cost 1 by #5")
unfolding lib.Utf8.encode
back-text = (codes "route #3 to #0 cost 1 by #5", (refl, refl))

abbrev back-answer : Global → Answer
back-answer heap = record {
  version = 5;
  text = spelled heap (codes "route #3 to #0 cost 1 by #5") ∣ back-text ∣₁ (omega arith);
  cert = Some back-cert;
  few = omega arith;
}

back-is : (heap : Global) → IsRouteAnswer there 5 2 0 (back-answer heap)
unfolding digits
back-is heap = record {
  leg = ann-leg;
  goes = ann-back;
  version = refl;
  text = refl;
  cert = record { version = refl; form = refl; members = (ann-account, tt); conclusion = refl; limits = fit.0 };
  valid = valid.0;
}

pub stuck-text : IsUtf8 (codes "route #0 to #3 no way")
unfolding lib.Utf8.encode
stuck-text = (codes "route #0 to #3 no way", (refl, refl))

abbrev stuck-answer : Global → Answer
stuck-answer heap = record {
  version = 5;
  text = spelled heap (codes "route #0 to #3 no way") ∣ stuck-text ∣₁ (omega arith);
  cert = Some stuck-cert;
  few = omega arith;
}

stuck-is : (heap : Global) → IsRouteAnswer there 5 6 3 (stuck-answer heap)
unfolding digits
stuck-is heap = record {
  leg = bob-leg None;
  goes = record {
    player = refl;
    from = refl;
    way = (valid_is_least 1 (roads_of there 6) 0 (label_at (bob None)) bob-walked.valid).1 3 refl;
  };
  version = refl;
  text = refl;
  cert = record { version = refl; form = refl; members = (bob-account None, tt); conclusion = refl; limits = fit.1 };
  valid = valid.1;
}

abbrev meet-lines : List ℕ
meet-lines = codes "meet #2 #6 at #0 cost 1\n  #2 from #3 cost 1 by #5\n  #6 from #0 cost 0 by nothing"

pub meet-text : IsUtf8 meet-lines
unfolding lib.Utf8.encode
meet-text = (meet-lines, (refl, refl))

abbrev meet-answer : Global → Answer
meet-answer heap = record {
  version = 5;
  text = spelled heap meet-lines ∣ meet-text ∣₁ (omega arith);
  cert = Some meet-cert;
  few = omega arith;
}

abbrev goers : List Goer
goers = (roads_of there 2, 3) ∷ (roads_of there 6, 0) ∷ []

lowest : (r c : ℕ) → 1 ≤ c → (1 < c) ⊎ ((1 ≡ c) × (0 ≤ r))
lowest r zero le = absurd (omega (arith, le))
lowest r (suc zero) le = inr (refl, omega arith)
lowest r (suc (suc c)) le = inl (omega arith)

-- Bob can be in #0 only, and Ann gets there at cost 1
best : (r c : ℕ) → Gathers (HasLeast 1) goers r c → (1 < c) ⊎ ((1 ≡ c) × (0 ≤ r))
best r c gathers =
    let hers = gathers.all 0 (roads_of there 2, 3) (omega arith) in
    let his = gathers.all 1 (roads_of there 2, 3) (omega arith) in
    let least : IsLeast 1 (roads_of there 2) 3 0 hers.0 =
    subst (λ (n : ℕ). IsLeast 1 (roads_of there 2) 3 n hers.0) (sym (bob-stays r his.0 his.1)) hers.1 in
    let is : one ≡ hers.0 =
    same_Some one hers.0 (least-one 1 (roads_of there 2) 3 0 (Some one) hers.0 ann-at-0 least) in
    lowest r c (subst (λ (l : Label). l.cost ≤ c) (sym is) hers.2)

meet-is : (heap : Global) → IsMeetAnswer there 5 (2 ∷ 6 ∷ []) (meet-answer heap)
unfolding digits
meet-is heap = record {
  place = met;
  legs = ann-leg ∷ bob-leg (Some []) ∷ [];
  go = (ann-back, (record { player = refl; from = refl; way = refl }, tt));
  meet = record {
    gathers = record {
      all = two (λ (g : Goer). (l : Label) × HasLeast 1 g 0 (Some l) × (l.cost ≤ 1)) (roads_of there 2, 3)
          (roads_of there 6, 0) (one, ann-at-0, omega arith) (start_label, bob-at-0, omega arith);
      one = (0, (roads_of there 2, 3), omega arith, refl, (one, ann-at-0, refl));
    };
    best = best;
  };
  version = refl;
  text = refl;
  cert = record {
    version = refl;
    form = refl;
    members = (ann-account, (bob-account (Some []), tt));
    conclusion = refl;
    limits = fit.2;
  };
  valid = valid.2;
}

-- ---- the steps

record IsMade (old : Hall) (step : HallStep) (new : Hall) : Type 0 where
  makes : Makes 16 [] old step new

record Ran (old : Hall) (steps : List HallStep) (new : Hall) : Type 0 where
  run : IsRun 16 [] old steps new

over : {hall : Hall} → Ran hall [] hall
over = record { run = refl }

infixr 5 ◌then◌
◌then◌ : {old hall new : Hall} {step : HallStep} {steps : List HallStep} → IsMade old step hall → Ran hall steps new
    → Ran old (step ∷ steps) new
◌then◌ {hall = hall} made ran = record { run = (hall, made.makes, ran.run) }

-- a new desk
given : {old : Hall} (s : ℕ) → 1 ≤ s → s ≤ MOST_DESKS → s ≡ old.given + 1
    → IsMade old (Desk s) (record (seats old old.history s (new_desk s [])) { given = s })
given {old = old} s from to next = record {
  makes = (
    new_desk s [],
    record { from = from; to = to; begun = ([], refl); is = refl },
    refl,
    next,
    (old.history, refl),
    refl,
  );
}

-- a line that makes a change, at a desk that has then seen the whole history
changes : {old : Hall} (was ready : DeskState) (n : ℕ) (line text : List ℕ) (e : Change)
    → old.desks ready.number ≡ Some was → TakesIn was ready → ready.seen ≡ old.history → length ready.seen ≡ n → n < 16
    → verdict_on ready.seen ready.player (parse_of line) ≡ verdict.Change e
    → text ≡ reply_text (world_after ready.seen) e
    → IsMade old (At ready.number (Act line (Accepted (n + 1) text)))
    (seats old (as_accepted ready e).seen ready.number (as_accepted ready e))
changes was ready n line text e at takes all count few says replies = record {
  makes = (
    was,
    as_accepted ready e,
    record { before = at; known = ([], append-nil (as_accepted ready e).seen); after = refl },
    (
      record { desk = ready.number; change = e },
      ap (λ (h : List Entry). h ++ record { desk = ready.number; change = e } ∷ []) all,
      refl,
    ),
    record {
      ready = ready;
      takes_in = takes;
      replies = subst (λ (v : Verdict). Comes 16 ready v (Accepted (n + 1) text) (as_accepted ready e)) (sym says)
          (omega (arith, count, few), ap (λ k. k + 1) (sym count), replies, refl);
    },
  );
}

-- a line that asks, at a desk that has seen the whole history
asks : {old : Hall} (s : ℕ) (was : DeskState) (line : List ℕ) (v : Verdict) (a : Answered) → old.desks s ≡ Some was
    → was.seen ≡ old.history → a.version ≡ length was.seen → verdict_on was.seen was.player (parse_of line) ≡ v
    → Shows was.seen was.player v a → IsMade old (At s (Ask line (Some a))) (seats old old.history s was)
asks s was line v a at all version says shows = record {
  makes = (
    was,
    was,
    record { before = at; known = ([], append-nil was.seen ∙ all); after = refl },
    refl,
    (
      record { version = version; shows = subst (λ (u : Verdict). Shows was.seen was.player u a) (sym says) shows },
      refl,
    ),
  );
}

-- ---- the run

abbrev dig-line : List ℕ
dig-line = codes "@dig north|south to \"Library\""

abbrev dug : List ℕ
dug = codes "dug room #3, exit #4, exit back #5"

abbrev locked : Reply
locked = Refused 5 LockedExit (codes "That exit is locked.")

abbrev steps : Global → List HallStep
steps heap =
    Desk 1
    ∷ At 1 (Act (codes "connect Ann") (Accepted 1 (codes "welcome #2")))
    ∷ At 1 (Act dig-line (Accepted 2 dug))
    ∷ At 1 (Act (codes "north") (Accepted 3 (codes "went by #4 to #3")))
    ∷ Desk 2
    ∷ At 2 (Act (codes "connect Bob") (Accepted 4 (codes "welcome #6")))
    ∷ At 1 (Act (codes "@lock #4 with me") (Accepted 5 (codes "locked #4 with #2")))
    ∷ At 2 (Act (codes "north") locked)
    ∷ At 2 (Ask (codes "route to Library") (Some (answer_shown (stuck-answer heap))))
    ∷ At 1 (Ask (codes "route to #0") (Some (answer_shown (back-answer heap))))
    ∷ At 1 (Ask (codes "meet Ann, Bob") (Some (answer_shown (meet-answer heap))))
    ∷ []

-- Bob's desk applies the lock before it refuses; the answers are by all five entries
pub sample : (heap : Global) → (end : Hall) × IsRun 16 [] (hall_begun []) (steps heap) end
unfolding digits words phrase_at preposition_of parse_of verb_named decision name_in names_in key_in
    outcome meeting refusal
sample heap =
    let ann1 : DeskState = as_accepted (new_desk 1 []) ann-comes in
    let ann2 : DeskState = as_accepted ann1 ann-digs in
    let ann3 : DeskState = as_accepted ann2 ann-walks in
    let ann4 : DeskState = took_in ann3 (record { desk = 2; change = bob-comes } ∷ []) in
    let ann5 : DeskState = as_accepted ann4 ann-locks in
    let bob3 : DeskState = took_in (new_desk 2 []) first in
    let bob4 : DeskState = as_accepted bob3 bob-comes in
    let bob5 : DeskState = took_in bob4 (record { desk = 1; change = ann-locks } ∷ []) in
    let route-to : ℕ → Verdict = λ room. verdict.Ask (query.Journey (Route room)) in
    let both : Verdict = verdict.Ask (query.Journey (Meet (2 ∷ 6 ∷ []))) in
    let no-way = subst (λ (w : State). IsRouteAnswer w 5 6 3 (stuck-answer heap)) (sym is-there) (stuck-is heap) in
    let way = subst (λ (w : State). IsRouteAnswer w 5 2 0 (back-answer heap)) (sym is-there) (back-is heap) in
    let room = subst (λ (w : State). IsMeetAnswer w 5 (2 ∷ 6 ∷ []) (meet-answer heap)) (sym is-there) (meet-is heap) in
    let ran : Ran (hall_begun []) (steps heap) _ =
    given 1 (omega arith) (omega arith) refl
    then changes (new_desk 1 []) (new_desk 1 []) 0 (codes "connect Ann") (codes "welcome #2") ann-comes refl
    (record { entries = []; is = refl }) refl refl (omega arith) refl refl
    then changes ann1 ann1 1 dig-line dug ann-digs refl
    (record { entries = []; is = refl }) refl refl (omega arith) refl refl
    then changes ann2 ann2 2 (codes "north") (codes "went by #4 to #3") ann-walks refl
    (record { entries = []; is = refl }) refl refl (omega arith) refl refl
    then given 2 (omega arith) (omega arith) refl
    then changes (new_desk 2 []) bob3 3 (codes "connect Bob") (codes "welcome #6") bob-comes refl
    (record { entries = first; is = refl }) refl refl (omega arith) refl refl
    then changes ann3 ann4 4 (codes "@lock #4 with me") (codes "locked #4 with #2") ann-locks refl
    (record { entries = record { desk = 2; change = bob-comes } ∷ []; is = refl }) refl refl (omega arith) refl refl
    then record {
      makes = (
        bob4,
        bob5,
        record { before = refl; known = ([], refl); after = refl },
        refl,
        record {
          ready = bob5;
          takes_in = record { entries = record { desk = 1; change = ann-locks } ∷ []; is = refl };
          replies = (refl, refl);
        },
      );
    }
    then asks 2 bob5 (codes "route to Library") (route-to 3) (answer_shown (stuck-answer heap)) refl refl refl refl
    (stuck-answer heap, no-way, refl)
    then asks 1 ann5 (codes "route to #0") (route-to 0) (answer_shown (back-answer heap)) refl refl refl refl
    (back-answer heap, way, refl)
    then asks 1 ann5 (codes "meet Ann, Bob") both (answer_shown (meet-answer heap)) refl refl refl refl
    (meet-answer heap, room, refl)
    then over in
    (_, ran.run)
