-- The claims about a party are true, and the certificate is valid.
use Rattle.std.proofs.Common.{◌≡◌, ◌≢◌, ℕ, suc, zero, ◌<◌, inl, inr, List, [], ◌∷◌, length, map, get_or, Option, None}
use Rattle.std.proofs.Common.{Some, false, refl, sym, ◌∙◌, ap, subst, arith}
use Rattle.std.specs.Prelude.{All, AllPairs, IfSome, IsTrue}
use Rattle.std.specs.Option.{option_map}
use Rattle.std.specs.List.{AllZip}
use Rattle.std.proofs.lemmas.List.{get_or_default}
use Rattle.std.proofs.lemmas.Option.{slice_get-get_or}
use Rattle.mud_world.specs.State.{State, is_room, is_player}
use Rattle.mud_world.specs.Sound.{IsSound}
use Rattle.mud_roads.specs.declared.label.Label.{Label}
use Rattle.mud_roads.specs.declared.label.Step.{Step}
use Rattle.mud_roads.specs.Walks.{total, IsLeast, Least, Goer, HasLeast, Gathers}
use Rattle.mud_roads.specs.Passable.{Knowledge, knowledge_of, IsTraveller, roads_of}
use Rattle.mud_roads.proofs.Routes.{least-one}
use Rattle.mud_cert.specs.declared.cert.Form.TheVariants.{Two}
use Rattle.mud_cert.specs.declared.cert.Meeting.{Meeting}
use Rattle.mud_cert.specs.declared.cert.Conclusion.TheVariants.{Route, Meet}
use Rattle.mud_cert.specs.Certificate.{Account, Certificate}
use Rattle.mud_cert.specs.Lookup.{label_at}
use Rattle.mud_cert.proofs.Conclusions.{Labels}
use Rattle.mud_cert.specs.Valid.{States, IsMember, GoesTo, IsPlace, Agrees, IsValid}
use Rattle.mud_search.specs.Least.{AreLeast}
use Rattle.mud_guide.specs.inner.Arrivals.{Labelled}
use Rattle.mud_guide.specs.Ways.{cost_of, IsWayTo}
use Rattle.mud_guide.specs.inner.Members.{IsWay}
use Rattle.mud_guide.specs.Legs.{Leg, IsLeg, goers_of}
use Rattle.mud_guide.specs.Accounts.{IsAccountOf}
use Rattle.mud_guide.specs.inner.Listings.{IsInside, AreListed}
use Rattle.mud_guide.specs.inner.Gatherings.{IsGreatest}
use Rattle.mud_guide.proofs.Lowest.{some-inj}
use Rattle.mud_guide.proofs.Totals.{route_is_least}
use Rattle.mud_guide.proofs.Gather.{goers, gathers-from_greatest}
use Rattle.mud_guide.proofs.Shown as shown

-- ---- lists side by side
pub allzip-at : {A B : Type 0} (R : A → B → Type 0) (xs : List A) (ys : List B) (i : ℕ) (d : A) (e : B) → AllZip R xs ys
    → i < length xs → R (get_or xs i d) (get_or ys i e)
allzip-at R [] ys i d e z h = absurd (omega (arith, h))
allzip-at R (x ∷ xs) [] i d e z h = absurd z
allzip-at R (x ∷ xs) (y ∷ ys) zero d e z h = z.0
allzip-at R (x ∷ xs) (y ∷ ys) (suc i) d e z h = allzip-at R xs ys i d e z.1 (omega (arith, h))

pub allzip-length : {A B : Type 0} (R : A → B → Type 0) (xs : List A) (ys : List B)
    → AllZip R xs ys → length ys ≡ length xs
allzip-length R [] [] z = refl
allzip-length R [] (y ∷ ys) z = absurd z
allzip-length R (x ∷ xs) [] z = absurd z
allzip-length R (x ∷ xs) (y ∷ ys) z = ap (λ n. suc n) (allzip-length R xs ys z.1)

pub allzip-from : {A B : Type 0} (R : A → B → Type 0) (xs : List A) (ys : List B) → length ys ≡ length xs
    → ((i : ℕ) (d : A) (e : B) → i < length ys → R (get_or xs i d) (get_or ys i e)) → AllZip R xs ys
allzip-from R [] [] same each = tt
allzip-from R [] (y ∷ ys) same each = omega (arith, same)
allzip-from R (x ∷ xs) [] same each = omega (arith, same)
allzip-from R (x ∷ xs) (y ∷ ys) same each = (
  each 0 x y (omega arith),
  allzip-from R xs ys (omega (arith, same))
      (λ i d e h. each (suc i) d e (omega (arith, h))),
)

-- ---- a party
pub record IsParty (w : State) (to : Option ℕ) (ts : List Knowledge) (js : List Leg) (labels : ℕ → ℕ → Option Label)
    (es : List Account) : Type 0 where
  pub are : All (IsTraveller w) ts
  pub distinct : AllPairs (λ s t. s.player ≢ t.player) ts
  pub go : AllZip (λ t j. IsLeg w to t.player j) ts js
  pub least : AreLeast w ts labels
  pub listed : AreListed labels w.next js es

abbrev pub nobody : Knowledge
nobody = knowledge_of 0 0 false ([], []) [] []

abbrev pub nowhere : Leg
nowhere = record { player = 0; from = 0; way = None }

-- a member's place is where its leg begins
same-place : (w : State) (to : Option ℕ) (t : Knowledge) (j : Leg) → IsTraveller w t
    → IsLeg w to t.player j → t.place ≡ j.from
same-place w to t j is goes = some-inj t.place j.from (sym is.place ∙ goes.from)

pub goers-same : (w : State) (to : Option ℕ) (ts : List Knowledge) (js : List Leg) → All (IsTraveller w) ts
    → AllZip (λ t j. IsLeg w to t.player j) ts js
    → goers w ts ≡ goers_of w js
goers-same w to [] [] are z = refl
goers-same w to [] (j ∷ js) are z = absurd z
goers-same w to (t ∷ ts) [] are z = absurd z
goers-same w to (t ∷ ts) (j ∷ js) are z =
    let is : IsTraveller w t = are 0 t (omega arith) in
    let one : ℕ → List Goer = λ p. (roads_of w p, t.place) ∷ goers w ts in
    let two : ℕ → List Goer = λ n. (roads_of w j.player, n) ∷ goers w ts in
    let rest : List Goer → List Goer = λ gs. (roads_of w j.player, j.from) ∷ gs in
    ap one (sym z.0.player) ∙ ap two (same-place w to t j is z.0)
    ∙ ap rest (goers-same w to ts js (λ k d h. are (suc k) d (omega (arith, h))) z.1)

pub legs-of : (w : State) (to : Option ℕ) (ts : List Knowledge) (js : List Leg)
    → AllZip (λ t j. IsLeg w to t.player j) ts js
    → AllZip (IsLeg w to) (map (λ t. t.player) ts) js
legs-of w to [] [] z = tt
legs-of w to [] (j ∷ js) z = absurd z
legs-of w to (t ∷ ts) [] z = absurd z
legs-of w to (t ∷ ts) (j ∷ js) z = (z.0, legs-of w to ts js z.1)

pub legs-inside : (w : State) → IsSound w
    → (to : Option ℕ) (ts : List Knowledge) (js : List Leg) → All (IsTraveller w) ts
    → AllZip (λ t j. IsLeg w to t.player j) ts js → All (IsInside w.next) js
legs-inside w sound to ts js are z k d h =
    let inside : k < length ts = omega (arith, allzip-length (λ t j. IsLeg w to t.player j) ts js z) in
    let t = get_or ts k nobody in
    shown.leg-inside w sound t.player (are k nobody inside).player to (get_or js k d)
    (allzip-at (λ t j. IsLeg w to t.player j) ts js k nobody d z inside)

module _ (w : State) (sound : IsSound w) (to : Option ℕ) (ts : List Knowledge) (js : List Leg)
    (labels : ℕ → ℕ → Option Label) (es : List Account)
    (party : IsParty w to ts js labels es) where
  long-js : length js ≡ length ts
  long-js = allzip-length (λ t j. IsLeg w to t.player j) ts js party.go

  within : (m : ℕ) → m < length es → m < length ts
  within m h = omega (arith, h, party.listed.long, long-js)

  abbrev who : ℕ → Knowledge
  who m = get_or ts m nobody

  abbrev leg : ℕ → Leg
  leg m = get_or js m nowhere

  is-player : (m : ℕ) → m < length es → IsTrue (is_player w (who m).player)
  is-player m h = (party.are m nobody (within m h)).player

  goes : (m : ℕ) → m < length es → IsLeg w to (who m).player (leg m)
  goes m h = allzip-at (λ t j. IsLeg w to t.player j) ts js m nobody nowhere party.go (within m h)

  labelled : (m : ℕ) → m < length es → Labelled (roads_of w (who m).player) (leg m).from (labels m)
  labelled m h room =
      let P : ℕ → Type 0 = λ from. Least 1 (roads_of w (who m).player) from room (labels m room) in
      subst P (same-place w to (who m) (leg m) (party.are m nobody (within m h)) (goes m h))
      (party.least m room (who m) (slice_get-get_or ts m nobody (within m h)))

  found : (m : ℕ) (d : Account) → m < length es → (room : ℕ) → label_at (get_or es m d) room ≡ labels m room
  found m d h = shown.found w sound (who m).player (is-player m h) to (leg m) (goes m h) (labels m) (labelled m h)
      (get_or es m d) (party.listed.each m nowhere d h)

  arrives : (m : ℕ) (d : Account) → m < length es → (r : ℕ) (ss : List Step) → to ≡ Some r → (leg m).way ≡ Some ss
      → States w (get_or es m d) r ss × (label_at (get_or es m d) r ≡ Some (total 1 ss))
  arrives m d h = shown.arrives w sound (who m).player (is-player m h) to (leg m) (goes m h) (labels m)
      (labelled m h) (get_or es m d) (party.listed.each m nowhere d h)

  stays : (m : ℕ) (d : Account) → m < length es → (leg m).way ≡ None → (get_or es m d).walk ≡ None
  stays m d h = shown.stays w sound (who m).player (is-player m h) to (leg m) (goes m h) (labels m) (labelled m h)
      (get_or es m d) (party.listed.each m nowhere d h)

  pub members : All (IsMember w Two) es
  members m d h = shown.valid w sound (who m).player (is-player m h) to (leg m) (goes m h) (labels m) (labelled m h)
      (get_or es m d) (party.listed.each m nowhere d h)

  -- likewise for any leg at that index
  goes-from : (m : ℕ) (j : Leg) → m < length es → IsLeg w to (who m).player (get_or js m j)
  goes-from m j h = allzip-at (λ t j. IsLeg w to t.player j) ts js m nobody j party.go (within m h)

  pub accounts : AllZip (IsAccountOf w) js es
  accounts = allzip-from (IsAccountOf w) js es party.listed.long (λ m j d h.
      let go = goes-from m j h in
      let least : Labelled (roads_of w (who m).player) (get_or js m j).from (labels m) = λ room.
      let P : ℕ → Type 0 = λ from. Least 1 (roads_of w (who m).player) from room (labels m room) in
      subst P (same-place w to (who m) (get_or js m j) (party.are m nobody (within m h)) go)
      (party.least m room (who m) (slice_get-get_or ts m nobody (within m h))) in
      shown.account w sound (who m).player (is-player m h) to (get_or js m j) go (labels m) least
      (get_or es m d) (party.listed.each m j d h))

  distinct : AllPairs (λ (a : Account) (b : Account). a.player ≢ b.player) es
  distinct i k d lt h same =
      let named : (m : ℕ) → m < length es → (get_or es m d).player ≡ (who m).player =
      λ m inside. (party.listed.each m nowhere d inside).player ∙ (goes m inside).player in
      let first : i < length es = omega (arith, lt, h) in
      party.distinct i k nobody lt (within k h) (sym (named i first) ∙ same ∙ named k h)

  pub all-valid : (c : Certificate) → c.form ≡ Two → c.members ≡ es → Agrees w Labels es c.conclusion → IsValid w c
  all-valid c form is concludes =
      let P : List Account → Type 0 = λ xs. AllPairs (λ (a : Account) (b : Account). a.player ≢ b.player) xs in
      let M : List Account → Type 0 = λ xs. All (IsMember w c.form) xs in
      let C : List Account → Type 0 = λ xs. Agrees w Labels xs c.conclusion in
      record {
        distinct = subst P (sym is) distinct;
        members = subst M (sym is) (subst (λ f. All (IsMember w f) es) (sym form) members);
        conclusion = subst C (sym is) concludes;
      }

  -- the default past the last account
  abbrev none-at-all : Account
  none-at-all = record { player = 0; from = 0; labels = []; walk = None }

  -- the rooms that the certificate's labels gather are those of the search
  gathered-greatest : (r c : ℕ) → Gathers Labels es r c → IsGreatest (λ m. labels m r) (length ts) c
  gathered-greatest r c g =
      let inside : (m : ℕ) → m < length ts → m < length es = λ m h. omega (arith, h, party.listed.long, long-js) in
      let (k, x, lt, e, (l, label, cost)) = g.one in
      record {
        all = λ m h.
            let own = g.all m none-at-all (inside m h) in
            (own.0, (sym (found m none-at-all (inside m h) r) ∙ own.1, own.2));
        one = inr (k, (within k lt, (l, (sym (found k x lt r) ∙ ap (λ (a : Account). label_at a r) e ∙ label, cost))));
      }

  gathered-gathers : (r c : ℕ) → 0 < length ts → Gathers Labels es r c → Gathers (HasLeast 1) (goers w ts) r c
  gathered-gathers r c some g = gathers-from_greatest w ts labels party.least r c some (gathered-greatest r c g)

  -- and conversely
  greatest-gathered : (r c : ℕ) → 0 < length ts → IsGreatest (λ m. labels m r) (length ts) c → Gathers Labels es r c
  greatest-gathered r c some greatest = record {
    all = λ m d h. let own = greatest.all m (within m h) in (own.0, found m d h r ∙ own.1.0, own.1.1);
    one = elim greatest.one [
      | inl none ↦ absurd (omega (arith, none.0, some))
      | inr own ↦
          let m : ℕ = own.0 in
          let h : m < length es = omega (arith, own.1.0, party.listed.long, long-js) in
          let x : Account = get_or es m none-at-all in (
            m,
            x,
            h,
            get_or_default es m x none-at-all h,
            (own.1.1.0, found m none-at-all h r ∙ own.1.1.1.0, own.1.1.1.1),
          )
    ];
  }

  -- a way leads to each labelled room
  way-there : (m : ℕ) → m < length es → (r : ℕ) → to ≡ Some r → (l : Label) → labels m r ≡ Some l → (ss : List Step)
      × (((leg m).way ≡ Some ss) × (cost_of ss ≡ l.cost))
  way-there m h r there l e =
      let P : Option ℕ → Type 0 = λ o. IsWayTo (roads_of w (who m).player) (leg m).from o (leg m).way in
      go (leg m).way refl (subst P there (goes m h).way)
    where
      least : IsLeast 1 (roads_of w (who m).player) (leg m).from r l
      least =
          let Q : Option Label → Type 0 = λ o. Least 1 (roads_of w (who m).player) (leg m).from r o in
          subst Q e (labelled m h r)

      go : (way : Option (List Step)) → (leg m).way ≡ way → IsWay (roads_of w (who m).player) (leg m).from r way
          → (ss : List Step) × (((leg m).way ≡ Some ss) × (cost_of ss ≡ l.cost))
      go None f none = absurd (none least.walked.0 least.walked.1)
      go (Some ss) f route =
          let best = (route_is_least (roads_of w (who m).player) (leg m).from r ss route).1 in
          let same : total 1 ss ≡ l = some-inj (total 1 ss) l
          (least-one 1 (roads_of w (who m).player) (leg m).from r (Some (total 1 ss)) l best least) in
          (ss, (f, ap (λ (x : Label). x.cost) same))

  there-at : (m : ℕ) (d : Account) → m < length es → (r : ℕ) → to ≡ Some r → (l : Label) → labels m r ≡ Some l
      → GoesTo w (Some r) (get_or es m d)
  there-at m d h r there l e =
      let way = way-there m h r there l e in
      (way.0, (arrives m d h r way.0 there way.1.0).0)

  -- the conclusion of a meeting
  pub concludes-meet : 0 < length ts → (place : Option Meeting) → to ≡ option_map (λ p. p.room) place
      → IfSome place (λ p. IsGreatest (λ m. labels m p.room) (length ts) p.cost)
      → IsPlace (HasLeast 1) (goers w ts) place → Agrees w Labels es (Meet place)
  concludes-meet some None there greatest none = (
    λ m d h.
        let P : Option ℕ → Type 0 = λ o. IsWayTo (roads_of w (who m).player) (leg m).from o (leg m).way in
        stays m d h (subst P there (goes m h).way),
    λ r c g. none r c (gathered-gathers r c some g),
  )
  concludes-meet some (Some p) there greatest is = (
    λ m d h. let own = greatest.all m (within m h) in there-at m d h p.room there own.0 own.1.0,
    record {
      gathers = greatest-gathered p.room p.cost some greatest;
      best = λ r c g. is.best r c (gathered-gathers r c some g);
    },
  )

  -- the conclusion of a route, of one member
  pub concludes-route : length ts ≡ 1 → (r : ℕ) → to ≡ Some r → IsTrue (is_room w r)
      → Agrees w Labels es (Route r (option_map cost_of (leg 0).way))
  concludes-route alone r there room = go (leg 0).way refl
    where
      only : (m : ℕ) → m < length es → m ≡ 0
      only m h = omega (arith, within m h, alone)

      none-at : (m : ℕ) → m < length es → (leg m).way ≡ None → (o : Option Label)
          → labels m r ≡ o → labels m r ≡ None
      none-at m h way None e = e
      none-at m h way (Some l) e =
          let own = way-there m h r there l e in
          let bad : None ≡ Some own.0 = sym way ∙ own.1.0 in
          absurd (cc)

      go : (way : Option (List Step)) → (leg 0).way ≡ way → Agrees w Labels es (Route r (option_map cost_of way))
      go (Some ss) e =
          let at : (m : ℕ) → m < length es → (leg m).way ≡ Some ss =
          λ m h. ap (λ (i : ℕ). (leg i).way) (only m h) ∙ e in (
            room,
            λ m d h. (ss, (arrives m d h r ss there (at m h)).0),
            λ m d h. (Some (total 1 ss), (arrives m d h r ss there (at m h)).1, refl),
          )
      go None e =
          let at : (m : ℕ) → m < length es → (leg m).way ≡ None =
          λ m h. ap (λ (i : ℕ). (leg i).way) (only m h) ∙ e in (
            room,
            λ m d h. stays m d h (at m h),
            λ m d h. (None, found m d h r ∙ none-at m h (at m h) (labels m r) refl, refl),
          )
