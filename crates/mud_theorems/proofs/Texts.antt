-- One text of a route tells one walk, and one text of a meeting one party.
use Rattle.std.proofs.Common.{◌≡◌, ℕ, ◌<◌, List, [], ◌∷◌, ◌++◌, length, map, get_or, Option, Some, None}
use Rattle.std.proofs.Common.{refl, sym, ◌∙◌, ap, subst, arith, append_assoc, append-nil}
use Rattle.std.specs.Prelude.{All, IfSome, codes, decimal, Contains}
use Rattle.std.specs.List.{AllZip, flat_map}
use Rattle.std.specs.Option.{option_map, IsSomeAnd}
use Rattle.std.proofs.lemmas.List.{append_cancel_left}
use Rattle.std.proofs.lemmas.List.Elements.{All-nil, All-cons, All-head, All-tail}
use Rattle.mud_key.specs.declared.limits.TheConstants.{AMOUNTS}
use Rattle.mud_world.specs.State.{State, passage_of}
use Rattle.mud_world.specs.Sound.{IsSound}
use Rattle.mud_world.specs.Numbers.{IsNumber}
use Rattle.mud_world.specs.declared.record.Passage.{Passage}
use Rattle.mud_roads.specs.declared.label.Step.{Step}
use Rattle.mud_roads.specs.Walks.{Walk, exits_of}
use Rattle.mud_roads.specs.Passable.{roads_of}
use Rattle.mud_roads.specs.Laws.{IsRoad}
use Rattle.mud_cert.specs.Certificate.{Account, Certificate, IsAccount, IsAmount, IsConclusion}
use Rattle.mud_cert.specs.Text.{exits_text}
use Rattle.mud_cert.specs.declared.cert.Meeting.{Meeting}
use Rattle.mud_cert.specs.declared.cert.Conclusion.TheVariants.{Route, Meet}
use Rattle.mud_cert.specs.inner.Reader.{digits_on, number_at}
use Rattle.mud_cert.proofs.Digits.{number-again}
use Rattle.mud_guide.specs.Ways.{cost_of, IsWayTo}
use Rattle.mud_guide.specs.Legs.{Leg, IsLeg}
use Rattle.mud_guide.specs.Accounts.{IsAccountOf}
use Rattle.mud_guide.specs.Texts.{object, way_text, route_text, place_text, meet_text}
use Rattle.mud_guide.specs.Answers.{IsCertOf, IsMeetAnswer}
use Rattle.mud_guide.specs.Laws.{RouteIsLeast, AreAlike}
use Rattle.mud_guide.specs.declared.answer.Answer.{Answer}
use Rattle.mud_theorems.specs.Laws.{RouteTextIsOne, MeetTextIsOne}

some-inj : {A : Type 0} (x y : A) → Some x ≡ Some y → x ≡ y
some-inj x y e = cc

-- ---- numbers

-- no digit stands in front
abbrev Stops : List ℕ → Type 0
Stops rest = (n : ℕ) → digits_on n rest ≡ (n, rest)

-- a number, and what stands after it
split : (m n : ℕ) (xs ys : List ℕ) → m < AMOUNTS → n < AMOUNTS → Stops xs → Stops ys
    → decimal m ++ xs ≡ decimal n ++ ys → (m ≡ n) × (xs ≡ ys)
split m n xs ys few less here there e =
    let both : Some (m, xs) ≡ Some (n, ys) =
    sym (number-again m xs few (here m)) ∙ ap number_at e ∙ number-again n ys less (there n) in
    let pair : (m, xs) ≡ (n, ys) = some-inj (m, xs) (n, ys) both in
    (ap (λ (p : ℕ × List ℕ). p.0) pair, ap (λ (p : ℕ × List ℕ). p.1) pair)

-- an object, and what stands after it
split-object : (m n : ℕ) (xs ys : List ℕ) → m < AMOUNTS → n < AMOUNTS → Stops xs → Stops ys
    → object m ++ xs ≡ object n ++ ys → (m ≡ n) × (xs ≡ ys)
split-object m n xs ys few less here there e =
    split m n xs ys few less here there (append_cancel_left (codes "#") (decimal m ++ xs) (decimal n ++ ys) e)

-- objects, each after a blank
abbrev listed : List ℕ → List ℕ
listed ns = flat_map (λ n. codes " #" ++ decimal n) ns

-- a text that begins with no further object
record Past (rest : List ℕ) : Type 0 where
  stops : Stops rest
  none : (more : List ℕ) → rest ≡ codes " #" ++ more → ⊥

listed-stops : (ns : List ℕ) (rest : List ℕ) → Past rest → Stops (listed ns ++ rest)
listed-stops [] rest past = past.stops
listed-stops (n ∷ ns) rest past = λ m. refl

split-listed : (ms ns : List ℕ) (xs ys : List ℕ) → All (λ n. n < AMOUNTS) ms → All (λ n. n < AMOUNTS) ns → Past xs
    → Past ys → listed ms ++ xs ≡ listed ns ++ ys → (ms ≡ ns) × (xs ≡ ys)
split-listed [] [] xs ys few less here there e = (refl, e)
split-listed [] (n ∷ ns) xs ys few less here there e =
    absurd (here.none ((decimal n ++ listed ns) ++ ys) e)
split-listed (m ∷ ms) [] xs ys few less here there e =
    absurd (there.none ((decimal m ++ listed ms) ++ xs) (sym e))
split-listed (m ∷ ms) (n ∷ ns) xs ys few less here there e =
    let tail : (decimal m ++ listed ms) ++ xs ≡ (decimal n ++ listed ns) ++ ys =
    append_cancel_left (codes " #") ((decimal m ++ listed ms) ++ xs) ((decimal n ++ listed ns) ++ ys) e in
    let first = split m n (listed ms ++ xs) (listed ns ++ ys) (All-head (λ n. n < AMOUNTS) m ms few)
    (All-head (λ n. n < AMOUNTS) n ns less) (listed-stops ms xs here) (listed-stops ns ys there)
    (sym (append_assoc (decimal m) (listed ms) xs) ∙ tail ∙ append_assoc (decimal n) (listed ns) ys) in
    let rest = split-listed ms ns xs ys (All-tail (λ n. n < AMOUNTS) m ms few) (All-tail (λ n. n < AMOUNTS) n ns less)
    here there first.1 in
    (ap (λ (k : ℕ). k ∷ ms) first.0 ∙ ap (λ (l : List ℕ). n ∷ l) rest.0, rest.1)

at-end : Past []
at-end = record { stops = λ n. refl; none = λ more e. absurd (cc) }

-- ---- ways

-- the second byte
second : List ℕ → ℕ
second bytes = get_or bytes 1 0

exits-one : (es fs : List ℕ) → All (λ n. n < AMOUNTS) es → All (λ n. n < AMOUNTS) fs → exits_text es ≡ exits_text fs
    → es ≡ fs
unfolding second
exits-one [] [] few less e = refl
exits-one [] (f ∷ fs) few less e = let bad : 110 ≡ 35 = ap second e in absurd (omega (arith, bad))
exits-one (x ∷ es) [] few less e = let bad : 35 ≡ 110 = ap second e in absurd (omega (arith, bad))
exits-one (x ∷ es) (f ∷ fs) few less e =
    (split-listed (x ∷ es) (f ∷ fs) [] [] few less at-end at-end
    (append-nil (listed (x ∷ es)) ∙ e ∙ sym (append-nil (listed (f ∷ fs))))).0

-- its numbers are within the limits
abbrev SmallWay : Option (List Step) → Type 0
SmallWay None = Unit {0}
SmallWay (Some ss) = (cost_of ss < AMOUNTS) × All (λ n. n < AMOUNTS) (exits_of ss)

way-one : (a b : Option (List Step)) → SmallWay a → SmallWay b → way_text a ≡ way_text b
    → option_map exits_of a ≡ option_map exits_of b
unfolding second
way-one None None few less e = refl
way-one None (Some ts) few less e = let bad : 110 ≡ 99 = ap second e in absurd (omega (arith, bad))
way-one (Some ss) None few less e = let bad : 99 ≡ 110 = ap second e in absurd (omega (arith, bad))
way-one (Some ss) (Some ts) few less e =
    let behind : List Step → List ℕ = λ us. codes " by" ++ exits_text (exits_of us) in
    let costs = split (cost_of ss) (cost_of ts) (behind ss) (behind ts) few.0 less.0 (λ n. refl) (λ n. refl)
    (append_cancel_left (codes " cost ") (decimal (cost_of ss) ++ behind ss) (decimal (cost_of ts) ++ behind ts) e) in
    ap (λ (xs : List ℕ). Some xs)
    (exits-one (exits_of ss) (exits_of ts) few.1 less.1
    (append_cancel_left (codes " by") (exits_text (exits_of ss)) (exits_text (exits_of ts)) costs.1))

-- in one world an exit makes one step
abbrev pub RoadsAre : Type 0
RoadsAre = (w : State) → IsSound w → (p room : ℕ) (s : Step) → Contains (roads_of w p room) s → IsRoad w p room s

step-one : (w : State) (p q a b : ℕ) (s t : Step) → IsRoad w p a s → IsRoad w q b t → s.exit ≡ t.exit → s ≡ t
step-one w p q a b s t here there same =
    let one : Passage = record { source = a; destination = s.to; cost = s.cost } in
    let two : Passage = record { source = b; destination = t.to; cost = t.cost } in
    let both : one ≡ two =
    some-inj one two (sym here.0 ∙ ap (passage_of w) same ∙ there.0) in
    let to : s.to ≡ t.to = ap (λ (x : Passage). x.destination) both in
    let cost : s.cost ≡ t.cost = ap (λ (x : Passage). x.cost) both in
    λ i. record { exit = same i; to = to i; cost = cost i }

walk-one : RoadsAre → (w : State) → IsSound w → (p q a b to room : ℕ) (ss ts : List Step)
    → Walk (roads_of w p) a ss to → Walk (roads_of w q) b ts room → exits_of ss ≡ exits_of ts → ss ≡ ts
walk-one roads w sound p q a b to room [] [] x y e = refl
walk-one roads w sound p q a b to room [] (t ∷ ts) x y e = absurd (cc)
walk-one roads w sound p q a b to room (s ∷ ss) [] x y e = absurd (cc)
walk-one roads w sound p q a b to room (s ∷ ss) (t ∷ ts) x y e =
    let head : s.exit ≡ t.exit = cc in
    let tail : exits_of ss ≡ exits_of ts = cc in
    ap (λ (k : Step). k ∷ ss)
    (step-one w p q a b s t (roads w sound p a s x.0) (roads w sound q b t y.0) head)
    ∙ ap (λ (l : List Step). t ∷ l) (walk-one roads w sound p q s.to t.to to room ss ts x.1 y.1 tail)

same-way : RoadsAre → RouteIsLeast → (w : State) → IsSound w → (p q a b to room : ℕ) (s t : Option (List Step))
    → IsWayTo (roads_of w p) a (Some to) s → IsWayTo (roads_of w q) b (Some room) t
    → option_map exits_of s ≡ option_map exits_of t → s ≡ t
same-way roads least w sound p q a b to room None None x y e = refl
same-way roads least w sound p q a b to room None (Some ts) x y e = absurd (cc)
same-way roads least w sound p q a b to room (Some ss) None x y e = absurd (cc)
same-way roads least w sound p q a b to room (Some ss) (Some ts) x y e =
    ap (λ (us : List Step). Some us)
    (walk-one roads w sound p q a b to room ss ts (least (roads_of w p) a to ss x).0
    (least (roads_of w q) b room ts y).0 (some-inj (exits_of ss) (exits_of ts) e))

-- ---- what is within the limits

small : (n : ℕ) → IsNumber n → n < AMOUNTS
small n is = omega (arith, is)

smalls : (ns : List ℕ) → All IsNumber ns → All (λ n. n < AMOUNTS) ns
smalls ns all = λ k d lt. small (get_or ns k d) (all k d lt)

-- of a route
record Within (to : ℕ) (j : Leg) : Type 0 where
  from : j.from < AMOUNTS
  to_small : to < AMOUNTS
  way : SmallWay j.way

way-within : (a : Option (List Step)) (walk : Option (List ℕ)) → walk ≡ option_map exits_of a
    → IfSome walk (All IsNumber) → IfSome (option_map cost_of a) IsAmount → SmallWay a
way-within None walk is exits cost = tt
way-within (Some ss) None is exits cost = absurd (cc)
way-within (Some ss) (Some es) is exits cost =
    (cost, subst (All (λ n. n < AMOUNTS)) (some-inj es (exits_of ss) is) (smalls es exits))

within-route : (w : State) (v to : ℕ) (j : Leg) (cert : Option Certificate)
    → IsSomeAnd cert (IsCertOf w v (j ∷ []) (Route to (option_map cost_of j.way))) → Within to j
within-route w v to j None is = absurd is
within-route w v to j (Some c) is = go c.members is.members is.limits.members
  where
    says : IsConclusion (length c.members) (Route to (option_map cost_of j.way))
    says = subst (IsConclusion (length c.members)) is.conclusion is.limits.conclusion

    go : (ms : List Account) → AllZip (IsAccountOf w) (j ∷ []) ms → All IsAccount ms → Within to j
    go [] zip all = absurd zip
    go (m ∷ ms) (one, more) all =
        let a : IsAccount m = All-head IsAccount m ms all in
        record {
          from = subst (λ (n : ℕ). n < AMOUNTS) one.goes.from (small m.from a.from);
          to_small = small to says.1;
          way = way-within j.way m.walk one.goes.walk a.exits says.2;
        }

-- of those who meet
within-meet : (w : State) (js : List Leg) (ms : List Account) → AllZip (IsAccountOf w) js ms → All IsAccount ms
    → All (λ n. n < AMOUNTS) (map (λ j. j.player) js)
within-meet w [] [] zip all = All-nil (λ n. n < AMOUNTS)
within-meet w [] (m ∷ ms) zip all = absurd zip
within-meet w (j ∷ js) [] zip all = absurd zip
within-meet w (j ∷ js) (m ∷ ms) (one, more) all =
    All-cons (λ n. n < AMOUNTS) j.player (map (λ j. j.player) js)
    (subst (λ (n : ℕ). n < AMOUNTS) one.goes.player (small m.player (All-head IsAccount m ms all).player))
    (within-meet w js ms more (All-tail IsAccount m ms all))

players-within : (w : State) (v : ℕ) (js : List Leg) (place : Option Meeting) (cert : Option Certificate)
    → IsSomeAnd cert (IsCertOf w v js (Meet place)) → All (λ n. n < AMOUNTS) (map (λ j. j.player) js)
players-within w v js place None is = absurd is
players-within w v js place (Some c) is = within-meet w js c.members is.members is.limits.members

-- ---- the laws

pub route_text_is_one : RoadsAre → RouteIsLeast → RouteTextIsOne
route_text_is_one roads least w sound u v p q to room a b x y same =
    let i : Within to x.leg = within-route w u to x.leg a.cert x.cert in
    let j : Within room y.leg = within-route w v room y.leg b.cert y.cert in
    let e : route_text to x.leg ≡ route_text room y.leg = sym x.text ∙ same ∙ y.text in
    let tail : ℕ → Leg → List ℕ = λ n l. codes " to " ++ (object n ++ way_text l.way) in
    let begun = append_cancel_left (codes "route ") (object x.leg.from ++ tail to x.leg)
    (object y.leg.from ++ tail room y.leg) e in
    let from = split-object x.leg.from y.leg.from (tail to x.leg) (tail room y.leg) i.from j.from (λ n. refl)
    (λ n. refl) begun in
    let behind = append_cancel_left (codes " to ") (object to ++ way_text x.leg.way)
    (object room ++ way_text y.leg.way) from.1 in
    let there = split-object to room (way_text x.leg.way) (way_text y.leg.way) i.to_small j.to_small
    (way-stops x.leg.way) (way-stops y.leg.way) behind in (
      there.0,
      from.0,
      same-way roads least w sound p q x.leg.from y.leg.from to room x.leg.way y.leg.way x.goes.way y.goes.way
          (way-one x.leg.way y.leg.way i.way j.way there.1),
    )
  where
    way-stops : (way : Option (List Step)) → Stops (way_text way)
    way-stops None = λ n. refl
    way-stops (Some ss) = λ n. refl

party-of : (w : State) (to : Option ℕ) (party : List ℕ) (js : List Leg) → AllZip (IsLeg w to) party js
    → map (λ j. j.player) js ≡ party
party-of w to [] [] zip = refl
party-of w to [] (j ∷ js) zip = absurd zip
party-of w to (p ∷ party) [] zip = absurd zip
party-of w to (p ∷ party) (j ∷ js) (one, more) =
    ap (λ (k : ℕ). k ∷ map (λ (l : Leg). l.player) js) one.player
    ∙ ap (λ (l : List ℕ). p ∷ l) (party-of w to party js more)

names-listed : (js : List Leg) → flat_map (λ j. codes " " ++ object j.player) js ≡ listed (map (λ j. j.player) js)
names-listed [] = refl
names-listed (j ∷ js) = ap (λ (l : List ℕ). (codes " #" ++ decimal j.player) ++ l) (names-listed js)

place-past : (place : Option Meeting) (js : List Leg) → Past (place_text place js)
unfolding second
place-past None js = record {
  stops = λ n. refl;
  none = λ more e. let bad : 110 ≡ 35 = ap second e in omega (arith, bad);
}
place-past (Some m) js = record {
  stops = λ n. refl;
  none = λ more e. let bad : 97 ≡ 35 = ap second e in omega (arith, bad);
}

pub meet_text_is_one : ((w : State) → IsSound w → (v : ℕ) (party : List ℕ) (a b : Answer) → IsMeetAnswer w v party a
    → IsMeetAnswer w v party b → AreAlike a b) → MeetTextIsOne
meet_text_is_one one w sound v party others a b x y same =
    let players : List Leg → List ℕ = λ js. map (λ j. j.player) js in
    let e : meet_text x.place x.legs ≡ meet_text y.place y.legs = sym x.text ∙ same ∙ y.text in
    let named : List Leg → List ℕ = λ js. flat_map (λ j. codes " " ++ object j.player) js in
    let after : named x.legs ++ place_text x.place x.legs ≡ named y.legs ++ place_text y.place y.legs =
    append_cancel_left (codes "meet") (named x.legs ++ place_text x.place x.legs)
    (named y.legs ++ place_text y.place y.legs) e in
    let both = split-listed (players x.legs) (players y.legs) (place_text x.place x.legs) (place_text y.place y.legs)
    (players-within w v x.legs x.place a.cert x.cert) (players-within w v y.legs y.place b.cert y.cert)
    (place-past x.place x.legs) (place-past y.place y.legs)
    (sym (ap (λ (l : List ℕ). l ++ place_text x.place x.legs) (names-listed x.legs)) ∙ after
    ∙ ap (λ (l : List ℕ). l ++ place_text y.place y.legs) (names-listed y.legs)) in
    let party_is : party ≡ others =
    sym (party-of w (option_map (λ m. m.room) x.place) party x.legs x.go) ∙ both.0
    ∙ party-of w (option_map (λ m. m.room) y.place) others y.legs y.go in
    (party_is, one w sound v others a b (subst (λ (ps : List ℕ). IsMeetAnswer w v ps a) party_is x) y)
