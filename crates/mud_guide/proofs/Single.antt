-- A question has one answer.
use Rattle.std.proofs.Common.{◌≡◌, ℕ, List, [], ◌∷◌, Option, None, Some, refl, sym, ◌∙◌, ap, subst}
use Rattle.std.specs.Option.{option_map, IsSomeAnd}
use Rattle.std.specs.List.{AllZip}
use Rattle.mud_world.specs.State.{State}
use Rattle.mud_world.specs.Sound.{IsSound}
use Rattle.mud_roads.specs.declared.label.Step.{Step}
use Rattle.mud_roads.specs.Walks.{Roads, Goer, HasLeast}
use Rattle.mud_roads.specs.Passable.{roads_of}
use Rattle.mud_roads.proofs.Single.{route_is_one, meeting_is_one}
use Rattle.mud_cert.specs.declared.cert.Form.{Form}
use Rattle.mud_cert.specs.declared.cert.Meeting.{Meeting}
use Rattle.mud_cert.specs.declared.cert.Conclusion.{Conclusion}
use Rattle.mud_cert.specs.declared.cert.Conclusion.TheVariants.{Route, Meet}
use Rattle.mud_cert.specs.Certificate.{Account, Certificate}
use Rattle.mud_guide.specs.Ways.{cost_of, IsWayTo}
use Rattle.mud_guide.specs.inner.Members.{IsWay}
use Rattle.mud_guide.specs.Legs.{Leg, IsLeg, goers_of}
use Rattle.mud_guide.specs.Accounts.{AreLeastLabels, IsAccountOf}
use Rattle.mud_cert.specs.Valid.{IsPlace}
use Rattle.mud_guide.specs.Texts.{route_text, meet_text}
use Rattle.mud_guide.specs.Answers.{IsCertOf, IsRouteAnswer, IsMeetAnswer}
use Rattle.mud_guide.specs.Laws.{AreAlike}
use Rattle.mud_guide.proofs.Lowest.{some-inj}
use Rattle.mud_guide.proofs.Totals.{route_is_least}
use Rattle.mud_guide.proofs.Rising.{Entry, AreAmong, rising-one}
use Rattle.mud_guide.specs.declared.answer.Answer.{Answer}

-- ---- legs
way-one : (w : State) → IsSound w → (p from to : ℕ) (a b : Option (List Step)) → IsWay (roads_of w p) from to a
    → IsWay (roads_of w p) from to b → a ≡ b
way-one w sound p from to None None x y = refl
way-one w sound p from to None (Some ss) x y = absurd (x ss (route_is_least (roads_of w p) from to ss y).0)
way-one w sound p from to (Some ss) None x y = absurd (y ss (route_is_least (roads_of w p) from to ss x).0)
way-one w sound p from to (Some ss) (Some ts) x y = ap Some (route_is_one w sound p from to ss ts x y)

way_to-one : (w : State) → IsSound w → (p from : ℕ) (to : Option ℕ) (a b : Option (List Step))
    → IsWayTo (roads_of w p) from to a
    → IsWayTo (roads_of w p) from to b → a ≡ b
way_to-one w sound p from None a b x y = x ∙ sym y
way_to-one w sound p from (Some to) a b x y = way-one w sound p from to a b x y

-- the player and its start, whatever the target is
same-start : (w : State) (to to' : Option ℕ) (p : ℕ) (i j : Leg) → IsLeg w to p i → IsLeg w to' p j
    → (i.player ≡ j.player) × (i.from ≡ j.from)
same-start w to to' p i j x y = (x.player ∙ sym y.player, some-inj i.from j.from (sym x.from ∙ y.from))

leg-one : (w : State) → IsSound w → (to : Option ℕ) (p : ℕ) (i j : Leg)
    → IsLeg w to p i → IsLeg w to p j → i ≡ j
leg-one w sound to p i j x y =
    let same = same-start w to to p i j x y in
    let there : IsWayTo (roads_of w p) j.from to i.way =
    subst (λ (n : ℕ). IsWayTo (roads_of w p) n to i.way) same.1 x.way in
    let way : i.way ≡ j.way = way_to-one w sound p j.from to i.way j.way there y.way in
    let one : ℕ → Leg = λ n. record { player = n; from = i.from; way = i.way } in
    let two : ℕ → Leg = λ n. record { player = j.player; from = n; way = i.way } in
    let three : Option (List Step) → Leg = λ o. record { player = j.player; from = j.from; way = o } in
    ap one same.0 ∙ ap two same.1 ∙ ap three way

legs-one : (w : State) → IsSound w → (to : Option ℕ) (party : List ℕ) (is js : List Leg)
    → AllZip (IsLeg w to) party is
    → AllZip (IsLeg w to) party js → is ≡ js
legs-one w sound to [] [] [] x y = refl
legs-one w sound to [] [] (j ∷ js) x y = absurd y
legs-one w sound to [] (i ∷ is) js x y = absurd x
legs-one w sound to (p ∷ ps) [] js x y = absurd x
legs-one w sound to (p ∷ ps) (i ∷ is) [] x y = absurd y
legs-one w sound to (p ∷ ps) (i ∷ is) (j ∷ js) x y =
    ap (λ (k : Leg). k ∷ is) (leg-one w sound to p i j x.0 y.0) ∙ ap (λ (ks : List Leg). j ∷ ks)
    (legs-one w sound to ps is js x.1 y.1)

goers-one : (w : State) (to to' : Option ℕ) (party : List ℕ) (is js : List Leg) → AllZip (IsLeg w to) party is
    → AllZip (IsLeg w to') party js
    → goers_of w is ≡ goers_of w js
goers-one w to to' [] [] [] x y = refl
goers-one w to to' [] [] (j ∷ js) x y = absurd y
goers-one w to to' [] (i ∷ is) js x y = absurd x
goers-one w to to' (p ∷ ps) [] js x y = absurd x
goers-one w to to' (p ∷ ps) (i ∷ is) [] x y = absurd y
goers-one w to to' (p ∷ ps) (i ∷ is) (j ∷ js) x y =
    let same = same-start w to to' p i j x.0 y.0 in
    let one : ℕ → List Goer = λ n. (roads_of w n, i.from) ∷ goers_of w is in
    let two : ℕ → List Goer = λ n. (roads_of w j.player, n) ∷ goers_of w is in
    let rest : List Goer → List Goer = λ gs. (roads_of w j.player, j.from) ∷ gs in
    ap one same.0 ∙ ap two same.1 ∙ ap rest (goers-one w to to' ps is js x.1 y.1)

-- ---- certificates
labels-among : (roads : Roads) (from : ℕ) (es fs : List Entry) → AreLeastLabels roads from es
    → AreLeastLabels roads from fs → AreAmong fs es
labels-among roads from es fs x y e c = (y.least e.0 e.1).1 ((x.least e.0 e.1).0 c)

labels-one : (roads : Roads) (from : ℕ) (es fs : List Entry) → AreLeastLabels roads from es
    → AreLeastLabels roads from fs → es ≡ fs
labels-one roads from es fs x y =
    rising-one es fs x.rising y.rising (labels-among roads from es fs x y) (labels-among roads from fs es y x)

account-one : (w : State) (j : Leg) (a b : Account) → IsAccountOf w j a → IsAccountOf w j b → a ≡ b
account-one w j a b x y =
    let player : a.player ≡ b.player = x.goes.player ∙ sym y.goes.player in
    let from : a.from ≡ b.from = x.goes.from ∙ sym y.goes.from in
    let labels : a.labels ≡ b.labels = labels-one (roads_of w j.player) j.from a.labels b.labels x.labels y.labels in
    let walk : a.walk ≡ b.walk = x.goes.walk ∙ sym y.goes.walk in
    let one : ℕ → Account = λ n. record { player = n; from = a.from; labels = a.labels; walk = a.walk } in
    let two : ℕ → Account = λ n. record { player = b.player; from = n; labels = a.labels; walk = a.walk } in
    let three : List Entry → Account = λ es. record { player = b.player; from = b.from; labels = es; walk = a.walk } in
    let four : Option (List ℕ) → Account =
    λ o. record { player = b.player; from = b.from; labels = b.labels; walk = o } in
    ap one player ∙ ap two from ∙ ap three labels ∙ ap four walk

accounts-one : (w : State) (js : List Leg) (es fs : List Account) → AllZip (IsAccountOf w) js es
    → AllZip (IsAccountOf w) js fs → es ≡ fs
accounts-one w [] [] [] x y = refl
accounts-one w [] [] (b ∷ others) x y = absurd y
accounts-one w [] (a ∷ more) others x y = absurd x
accounts-one w (j ∷ js) [] others x y = absurd x
accounts-one w (j ∷ js) (a ∷ more) [] x y = absurd y
accounts-one w (j ∷ js) (a ∷ more) (b ∷ others) x y =
    ap (λ (e : Account). e ∷ more) (account-one w j a b x.0 y.0) ∙ ap (λ (es : List Account). b ∷ es)
    (accounts-one w js more others x.1 y.1)

cert-one : (w : State) (v : ℕ) (js : List Leg) (says : Conclusion) (c d : Certificate) → IsCertOf w v js says c
    → IsCertOf w v js says d → c ≡ d
cert-one w v js says c d x y =
    let version : c.version ≡ d.version = x.version ∙ sym y.version in
    let form : c.form ≡ d.form = x.form ∙ sym y.form in
    let members : c.members ≡ d.members = accounts-one w js c.members d.members x.members y.members in
    let conclusion : c.conclusion ≡ d.conclusion = x.conclusion ∙ sym y.conclusion in
    let one : ℕ → Certificate =
    λ n. record { version = n; form = c.form; members = c.members; conclusion = c.conclusion } in
    let two : Form → Certificate =
    λ f. record { version = d.version; form = f; members = c.members; conclusion = c.conclusion } in
    let three : List Account → Certificate =
    λ es. record { version = d.version; form = d.form; members = es; conclusion = c.conclusion } in
    let four : Conclusion → Certificate =
    λ s. record { version = d.version; form = d.form; members = d.members; conclusion = s } in
    ap one version ∙ ap two form ∙ ap three members ∙ ap four conclusion

certs-one : (w : State) (v : ℕ) (js : List Leg) (says : Conclusion) (o q : Option Certificate)
    → IsSomeAnd o (IsCertOf w v js says)
    → IsSomeAnd q (IsCertOf w v js says) → o ≡ q
certs-one w v js says None q x y = absurd x
certs-one w v js says (Some c) None x y = absurd y
certs-one w v js says (Some c) (Some d) x y = ap Some (cert-one w v js says c d x y)

-- ---- answers
pub route_answer_is_one : (w : State) → IsSound w → (v p to : ℕ) (a b : Answer) → IsRouteAnswer w v p to a
    → IsRouteAnswer w v p to b
    → AreAlike a b
route_answer_is_one w sound v p to a b x y =
    let same : x.leg ≡ y.leg = leg-one w sound (Some to) p x.leg y.leg x.goes y.goes in
    let C : Leg → Type 0 = λ j. IsSomeAnd a.cert (IsCertOf w v (j ∷ []) (Route to (option_map cost_of j.way))) in
    let says : Conclusion = Route to (option_map cost_of y.leg.way) in (
      x.version ∙ sym y.version,
      x.text ∙ ap (route_text to) same ∙ sym y.text,
      certs-one w v (y.leg ∷ []) says a.cert b.cert (subst C same x.cert) y.cert,
    )

place-one : (party : List Goer) (a b : Option Meeting) → IsPlace (HasLeast 1) party a
    → IsPlace (HasLeast 1) party b → a ≡ b
place-one party None None x y = refl
place-one party None (Some q) x y = absurd (x q.room q.cost y.gathers)
place-one party (Some p) None x y = absurd (y p.room p.cost x.gathers)
place-one party (Some p) (Some q) x y =
    let same = meeting_is_one 1 party p.room p.cost q.room q.cost x y in
    let one : ℕ → Meeting = λ n. record { room = n; cost = p.cost } in
    let two : ℕ → Meeting = λ n. record { room = q.room; cost = n } in
    ap Some (ap one same.0 ∙ ap two same.1)

pub meet_answer_is_one : (w : State) → IsSound w → (v : ℕ) (party : List ℕ) (a b : Answer)
    → IsMeetAnswer w v party a → IsMeetAnswer w v party b → AreAlike a b
meet_answer_is_one w sound v party a b x y =
    let R : Option Meeting → Option ℕ = λ o. option_map (λ m. m.room) o in
    let goers : goers_of w x.legs ≡ goers_of w y.legs =
    goers-one w (R x.place) (R y.place) party x.legs y.legs x.go y.go in
    let here : IsPlace (HasLeast 1) (goers_of w y.legs) x.place =
    subst (λ (gs : List Goer). IsPlace (HasLeast 1) gs x.place) goers x.meet in
    let place : x.place ≡ y.place = place-one (goers_of w y.legs) x.place y.place here y.meet in
    let go : AllZip (IsLeg w (R y.place)) party x.legs =
    subst (λ (o : Option Meeting). AllZip (IsLeg w (R o)) party x.legs) place x.go in
    let same : x.legs ≡ y.legs = legs-one w sound (R y.place) party x.legs y.legs go y.go in
    let C : Option Meeting → Type 0 = λ o. IsSomeAnd a.cert (IsCertOf w v x.legs (Meet o)) in
    let D : List Leg → Type 0 = λ js. IsSomeAnd a.cert (IsCertOf w v js (Meet y.place)) in (
      x.version ∙ sym y.version,
      x.text ∙ ap (λ (o : Option Meeting). meet_text o x.legs) place ∙ ap (meet_text y.place) same ∙ sym y.text,
      certs-one w v y.legs (Meet y.place) a.cert b.cert (subst D same (subst C place x.cert)) y.cert,
    )
