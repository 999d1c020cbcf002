-- The statements of an answer about a journey are true.
use Rattle.std.proofs.Common.{◌≡◌, ℕ, ◌≤◌, List, [], ◌∷◌, length, Option, None, Some, refl, arith}
use Rattle.std.specs.Prelude.{string_bytes}
use Rattle.std.specs.Option.{option_map, IsSomeAnd}
use Rattle.std.specs.List.{AllZip, sum_by}
use Rattle.std.proofs.lemmas.List.Sums.{sum_by-cons}
use Rattle.mud_world.specs.State.{State}
use Rattle.mud_roads.specs.declared.label.Step.{Step}
use Rattle.mud_roads.specs.Walks.{total, Goer, HasLeast}
use Rattle.mud_roads.specs.Passable.{roads_of}
use Rattle.mud_roads.specs.Laws.{MeetingIsAlike}
use Rattle.mud_cert.specs.Certificate.{Account, Certificate}
use Rattle.mud_cert.specs.declared.cert.Conclusion.{Conclusion}
use Rattle.mud_cert.specs.declared.cert.Conclusion.TheVariants.{Route, Meet}
use Rattle.mud_cert.specs.declared.cert.Meeting.{Meeting}
use Rattle.mud_guide.specs.declared.answer.Answer.{Answer}
use Rattle.mud_guide.specs.Accounts.{IsAccountOf, IsMemberFor}
use Rattle.mud_guide.specs.Legs.{Leg, IsLeg, goers_of}
use Rattle.mud_cert.specs.Valid.{IsPlace}
use Rattle.mud_guide.specs.Ways.{cost_of, IsWayTo}
use Rattle.mud_guide.specs.Answers.{IsCertOf, IsRouteAnswer, IsMeetAnswer}
use Rattle.mud_guide.specs.Laws.{RouteIsLeast}
use Rattle.mud_hall.specs.Right.{Certifies, IsBestWay, GoesBest, TellsRoute, TellsMeeting}

-- a sum of ones is the number of elements
ones : (ss : List Step) → sum_by (λ (s : Step). 1) ss ≡ length ss
ones [] = refl
ones (s ∷ ss) = omega (arith, sum_by-cons (λ (x : Step). 1) s ss, ones ss)

best-way : RouteIsLeast → (w : State) (p from : ℕ) (to : Option ℕ) (way : Option (List Step))
    → IsWayTo (roads_of w p) from to way → IsBestWay w p from to way
best-way routes w p from None way none = none
best-way routes w p from (Some to) None none = none
best-way routes w p from (Some to) (Some ss) route =
    let is = routes (roads_of w p) from to ss route in
    record {
      walk = is.0;
      cheapest = λ ts walk. (is.1.least ts walk).0;
      shortest = λ ts walk same.
          let fewer : (total 1 ss).exits ≤ (total 1 ts).exits = (is.1.least ts walk).1 same in
          omega (arith, fewer, ones ss, ones ts);
    }

goes-best : RouteIsLeast → (w : State) (to : Option ℕ) (p : ℕ) (j : Leg) → IsLeg w to p j → GoesBest w to p j
goes-best routes w to p j goes =
    record { who = goes.player; place = goes.from; way = best-way routes w p j.from to j.way goes.way }

all-go-best : RouteIsLeast → (w : State) (to : Option ℕ) (party : List ℕ) (js : List Leg)
    → AllZip (IsLeg w to) party js → AllZip (GoesBest w to) party js
all-go-best routes w to [] [] z = tt
all-go-best routes w to [] (j ∷ js) z = absurd z
all-go-best routes w to (p ∷ ps) [] z = absurd z
all-go-best routes w to (p ∷ ps) (j ∷ js) z =
    (goes-best routes w to p j z.0, all-go-best routes w to ps js z.1)

-- the certificate of journeys is about their players
members-for : (w : State) (js : List Leg) (members : List Account) → AllZip (IsAccountOf w) js members
    → AllZip IsMemberFor js members
members-for w [] [] z = tt
members-for w [] (a ∷ members) z = absurd z
members-for w (j ∷ js) [] z = absurd z
members-for w (j ∷ js) (a ∷ members) z =
    (z.0.goes, members-for w js members z.1)

certifies-some : (w : State) (v : ℕ) (js : List Leg) (says : Conclusion) (o : Option Certificate)
    → IsSomeAnd o (IsCertOf w v js says) → IsSomeAnd o (Certifies js says)
certifies-some w v js says None is = absurd is
certifies-some w v js says (Some c) is =
    record { members = members-for w js c.members is.members; conclusion = is.conclusion }

pub route-told : RouteIsLeast → (w : State) (v p to : ℕ) (g : Answer) → IsRouteAnswer w v p to g
    → TellsRoute w p to (string_bytes g.text) g.cert
route-told routes w v p to g x = record {
  leg = x.leg;
  goes = goes-best routes w (Some to) p x.leg x.goes;
  text_is = x.text;
  certified = certifies-some w v (x.leg ∷ []) (Route to (option_map cost_of x.leg.way)) g.cert x.cert;
}

-- ---- meetings

best-place : MeetingIsAlike → (party : List Goer) (place : Option Meeting) → IsPlace (HasLeast 1) party place
    → IsPlace (HasLeast 0) party place
best-place alike party None none = (alike 1 0 party).1 none
best-place alike party (Some m) is = (alike 1 0 party).0 m.room m.cost is

pub meeting-told : RouteIsLeast → MeetingIsAlike → (w : State) (v : ℕ) (party : List ℕ) (g : Answer)
    → IsMeetAnswer w v party g → TellsMeeting w party (string_bytes g.text) g.cert
meeting-told routes alike w v party g x = record {
  place = x.place;
  legs = x.legs;
  go = all-go-best routes w (option_map (λ m. m.room) x.place) party x.legs x.go;
  best = best-place alike (goers_of w x.legs) x.place x.meet;
  text_is = x.text;
  certified = certifies-some w v x.legs (Meet x.place) g.cert x.cert;
}
