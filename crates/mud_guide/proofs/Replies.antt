-- Answers have the stated meaning.
use Rattle.std.proofs.Common.{◌≡◌, ◌≢◌, ℕ, ◌<◌, inl, inr, List, [], ◌∷◌, length, map, get_or, Option, None, Some, refl}
use Rattle.std.proofs.Common.{sym, ◌∙◌, subst, arith}
use Rattle.std.specs.Prelude.{All, AllPairs, IfSome, IsTrue, string_bytes}
use Rattle.std.specs.Option.{option_map, IsSomeAnd}
use Rattle.std.specs.List.{AllZip}
use Rattle.std.proofs.lemmas.List.{length-map, get_or-map}
use Rattle.mud_world.specs.State.{State, is_room}
use Rattle.mud_world.specs.Sound.{IsSound}
use Rattle.mud_roads.specs.declared.label.Label.{Label}
use Rattle.mud_roads.specs.declared.label.Step.{Step}
use Rattle.mud_roads.specs.Walks.{total, IsLeast, HasLeast}
use Rattle.mud_roads.specs.Passable.{Knowledge, IsTraveller, roads_of}
use Rattle.mud_roads.proofs.Roads.{room-below}
use Rattle.mud_roads.proofs.Routes.{least-one}
use Rattle.mud_cert.specs.declared.cert.Form.TheVariants.{Two}
use Rattle.mud_cert.specs.declared.cert.Meeting.{Meeting}
use Rattle.mud_cert.specs.declared.cert.Conclusion.{Conclusion}
use Rattle.mud_cert.specs.declared.cert.Conclusion.TheVariants.{Route, Meet}
use Rattle.mud_cert.specs.Certificate.{Certificate, IsNumber, IsAmount, IsCertificate}
use Rattle.mud_cert.specs.Valid.{IsPlace, Agrees, IsValid}
use Rattle.mud_cert.proofs.Conclusions.{Labels}
use Rattle.mud_search.specs.Least.{AreLeast, AreBounded}
use Rattle.mud_guide.specs.declared.answer.Answer.{Answer}
use Rattle.mud_guide.specs.Ways.{cost_of}
use Rattle.mud_guide.specs.inner.Members.{IsWay}
use Rattle.mud_guide.specs.Legs.{Leg, IsLeg}
use Rattle.mud_guide.specs.inner.Listings.{AreListed}
use Rattle.mud_guide.specs.inner.Gatherings.{IsGreatest}
use Rattle.mud_guide.specs.Texts.{route_text, meet_text}
use Rattle.mud_guide.specs.Answers.{IsCertOf, IsRouteAnswer, IsMeetAnswer}
use Rattle.mud_guide.proofs.Lowest.{some-inj}
use Rattle.mud_guide.proofs.Totals.{route_is_least}
use Rattle.mud_guide.proofs.Gather.{goers}
use Rattle.mud_guide.proofs.Party.{IsParty, goers-same, legs-of, accounts, all-valid, concludes-meet}
use Rattle.mud_guide.proofs.Party.{concludes-route}

-- the parts of the certificate
pub record IsMade (w : State) (v : ℕ) (labels : ℕ → ℕ → Option Label) (js : List Leg) (says : Conclusion)
    (c : Certificate) : Type 0 where
  pub version : c.version ≡ v
  pub form : c.form ≡ Two
  pub members : AreListed labels w.next js c.members
  pub conclusion : c.conclusion ≡ says
  pub limits : IsCertificate c

-- ---- limits
amount-is : (labels : ℕ → ℕ → Option Label) → AreBounded labels → (m room : ℕ) (l : Label)
    → labels m room ≡ Some l → IsAmount l.cost
amount-is labels bounded m room l e = omega (arith, (bounded m room l e).0)

pub meeting-limits : (w : State) → IsSound w → (labels : ℕ → ℕ → Option Label) → AreBounded labels → (members : ℕ)
    → 0 < members → (place : Option Meeting)
    → IfSome place (λ p. IsTrue (is_room w p.room))
    → IfSome place (λ p. IsGreatest (λ m. labels m p.room) members p.cost)
    → IfSome place (λ p. IsNumber p.room × IsAmount p.cost)
meeting-limits w sound labels bounded members some None room greatest = tt
meeting-limits w sound labels bounded members some (Some p) room greatest = (
  omega (arith, room-below w sound p.room room, sound.limit),
  elim greatest.one [
    | inl none ↦ omega (arith, none.0, some)
    | inr own ↦ omega (arith, amount-is labels bounded own.0 p.room own.1.1.0 own.1.1.1.0, own.1.1.1.1)
  ],
)

pub number-is : (w : State) → IsSound w → (room : ℕ) → IsTrue (is_room w room) → IsNumber room
number-is w sound room is = omega (arith, room-below w sound room is, sound.limit)

pub cost-limits : (w : State) (t : Knowledge) (j : Leg) (room : ℕ) (labels : ℕ → ℕ → Option Label) → IsTraveller w t
    → IsLeg w (Some room) t.player j
    → AreLeast w (t ∷ []) labels → AreBounded labels → IfSome (option_map cost_of j.way) IsAmount
cost-limits w t j room labels is goes least bounded = go j.way goes.way
  where
    from : t.place ≡ j.from
    from = some-inj t.place j.from (sym is.place ∙ goes.from)

    go : (way : Option (List Step)) → IsWay (roads_of w t.player) j.from room way
        → IfSome (option_map cost_of way) IsAmount
    go None none = tt
    go (Some ss) route =
        let P : ℕ → Type 0 = λ f. IsLeast 1 (roads_of w t.player) f room (total 1 ss) in
        let best : IsLeast 1 (roads_of w t.player) t.place room (total 1 ss) =
        subst P (sym from) (route_is_least (roads_of w t.player) j.from room ss route).1 in
        let label = least-one 1 (roads_of w t.player) t.place room (labels 0 room) (total 1 ss)
        (least 0 room t refl) best in
        amount-is labels bounded 0 room (total 1 ss) label

-- ---- one traveller
pub all-one : {X : Type 0} (P : X → Type 0) (x : X) → P x → All P (x ∷ [])
all-one P x p k d h =
    let same : k ≡ 0 = omega (arith, h) in
    let Q : ℕ → Type 0 = λ i. P (get_or (x ∷ []) i d) in
    subst Q (sym same) p

-- the least labels of a slice with one traveller
pub least_of_one : (w : State) (t : Knowledge) (ts : List Knowledge) (labels : ℕ → ℕ → Option Label) → ts ≡ t ∷ []
    → AreLeast w ts labels → AreLeast w (t ∷ []) labels
least_of_one w t ts labels is least =
    let P : List Knowledge → Type 0 = λ us. AreLeast w us labels in
    subst P is least

-- distinct players are those of distinct travellers
apart-from : (ts : List Knowledge) → AllPairs (λ p q. p ≢ q) (map (λ t. t.player) ts)
    → AllPairs (λ s t. s.player ≢ t.player) ts
apart-from ts apart i j d lt h same =
    let named : List ℕ = map (λ (t : Knowledge). t.player) ts in
    let inside : j < length named = omega (arith, h, length-map ts (λ (t : Knowledge). t.player)) in
    let at : (k : ℕ) → k < length ts → get_or named k 0 ≡ (get_or ts k d).player =
    λ k lt. get_or-map (λ (t : Knowledge). t.player) ts k d 0 lt in
    apart i j 0 lt inside (at i (omega (arith, lt, h)) ∙ same ∙ sym (at j h))

-- the certificate made from a party's labels is the right one, and valid
certified : (w : State) → IsSound w → (v : ℕ) (to : Option ℕ) (ts : List Knowledge) (js : List Leg)
    (labels : ℕ → ℕ → Option Label) (says : Conclusion) (c : Certificate) (o : Option Certificate)
    → IsParty w to ts js labels c.members → IsMade w v labels js says c → Agrees w Labels c.members says → o ≡ Some c
    → IsSomeAnd o (IsCertOf w v js says) × IsSomeAnd o (IsValid w)
certified w sound v to ts js labels says c o party made agrees is =
    let Q : Option Certificate → Type 0 = λ x. IsSomeAnd x (IsCertOf w v js says) × IsSomeAnd x (IsValid w) in
    let C : Conclusion → Type 0 = λ x. Agrees w Labels c.members x in
    let concludes : Agrees w Labels c.members c.conclusion = subst C (sym made.conclusion) agrees in
    subst Q (sym is) (
      record {
        version = made.version;
        form = made.form;
        members = accounts w sound to ts js labels c.members party;
        conclusion = made.conclusion;
        limits = made.limits;
      },
      all-valid w sound to ts js labels c.members party c made.form refl concludes,
    )

pub route-answer : (w : State) → IsSound w → (v : ℕ) (t : Knowledge) (labels : ℕ → ℕ → Option Label) (room : ℕ)
    (j : Leg) (c : Certificate) (a : Answer)
    → IsTraveller w t → AreLeast w (t ∷ []) labels → IsTrue (is_room w room) → IsLeg w (Some room) t.player j
    → IsMade w v labels (j ∷ []) (Route room (option_map cost_of j.way)) c
    → a.version ≡ v → string_bytes a.text ≡ route_text room j → a.cert ≡ Some c → IsRouteAnswer w v t.player room a
route-answer w sound v t labels room j c a is least here goes made version text cert =
    let ts = t ∷ [] in
    let js = j ∷ [] in
    let to : Option ℕ = Some room in
    let party : IsParty w to ts js labels c.members = record {
      are = all-one (IsTraveller w) t is;
      distinct = λ i k d lt h. absurd (omega (arith, lt, h));
      go = (goes, tt);
      least = least;
      listed = made.members;
    } in
    let says : Conclusion = Route room (option_map cost_of j.way) in
    let shown = certified w sound v to ts js labels says c a.cert party made
    (concludes-route w sound to ts js labels c.members party refl room refl here) cert in
    record {
      leg = j;
      goes = goes;
      version = version;
      text = text;
      cert = shown.0;
      valid = shown.1;
    }

pub meet-answer : (w : State) → IsSound w → (v : ℕ) (ts : List Knowledge) (labels : ℕ → ℕ → Option Label)
    (place : Option Meeting) (js : List Leg) (c : Certificate) (a : Answer)
    → All (IsTraveller w) ts → AllPairs (λ p q. p ≢ q) (map (λ t. t.player) ts) → 0 < length ts → AreLeast w ts labels
    → IsPlace (HasLeast 1) (goers w ts) place → IfSome place (λ p. IsGreatest (λ m. labels m p.room) (length ts) p.cost)
    → AllZip (λ t j. IsLeg w (option_map (λ p. p.room) place) t.player j) ts js
    → IsMade w v labels js (Meet place) c
    → a.version ≡ v → string_bytes a.text ≡ meet_text place js → a.cert ≡ Some c
    → IsMeetAnswer w v (map (λ t. t.player) ts) a
meet-answer w sound v ts labels place js c a are distinct some least is greatest go made version text cert =
    let to : Option ℕ = option_map (λ (p : Meeting). p.room) place in
    let party : IsParty w to ts js labels c.members =
    record { are = are; distinct = apart-from ts distinct; go = go; least = least; listed = made.members } in
    let shown = certified w sound v to ts js labels (Meet place) c a.cert party made
    (concludes-meet w sound to ts js labels c.members party some place refl greatest is) cert in
    record {
      place = place;
      legs = js;
      go = legs-of w to ts js go;
      meet = subst (λ gs. IsPlace (HasLeast 1) gs place) (goers-same w to ts js are go) is;
      version = version;
      text = text;
      cert = shown.0;
      valid = shown.1;
    }
