-- Correct answers about journeys, in terms of walks, costs and rooms.
use Rattle.std.specs.Prelude.{◌≡◌, ℕ, ◌≤◌, List, [], ◌∷◌, length, Option, Some, None}
use Rattle.std.specs.Option.{IsSomeAnd, option_map}
use Rattle.std.specs.List.{AllZip}
use mathlib.Core.List.{IsPrefix}
use Rattle.mud_world.specs.State.{State, place_of}
use Rattle.mud_roads.specs.declared.label.Step.{Step}
use Rattle.mud_roads.specs.Walks.{Walk, NoWalk, HasLeast}
use Rattle.mud_roads.specs.Passable.{roads_of}
use Rattle.mud_rules.specs.declared.verdict.Journey.{Journey}
use Rattle.mud_rules.specs.declared.verdict.Journey.TheVariants as question
use Rattle.mud_world.specs.declared.limits.TheConstants.{MOST_ENTRIES}
use Rattle.mud_chron.specs.Entry.{Entry}
use Rattle.mud_chron.specs.Text.{history_text}
use Rattle.mud_chron.specs.History.{SpellsHistory}
use Rattle.mud_cert.specs.Certificate.{Certificate}
use Rattle.mud_cert.specs.declared.cert.Conclusion.{Conclusion}
use Rattle.mud_cert.specs.declared.cert.Conclusion.TheVariants.{Route, Meet}
use Rattle.mud_cert.specs.Text.{cert_text}
use Rattle.mud_cert.specs.declared.cert.Meeting.{Meeting}
use Rattle.mud_checker.specs.declared.finding.Finding.TheVariants as finding
use Rattle.mud_checker.specs.Finding.{IsFinding}
use Rattle.mud_cert.specs.Valid.{IsPlace}
use Rattle.mud_guide.specs.Ways.{cost_of}
use Rattle.mud_guide.specs.Accounts.{IsMemberFor}
use Rattle.mud_guide.specs.Legs.{Leg, goers_of}
use Rattle.mud_guide.specs.Texts.{route_text, meet_text}
use Rattle.mud_hall.specs.Steps.{AreLoadable}
use Rattle.mud_chron.specs.declared.format.Format.TheVariants.{Two}

-- a walk open to p from one room to another; none costs less, or as much with fewer exits
pub record IsBestWalk (w : State) (p from to : ℕ) (ss : List Step) : Type 0 where
  pub walk : Walk (roads_of w p) from ss to
  pub cheapest : (ts : List Step) → Walk (roads_of w p) from ts to → cost_of ss ≤ cost_of ts
  pub shortest : (ts : List Step) → Walk (roads_of w p) from ts to → cost_of ss ≡ cost_of ts → length ss ≤ length ts

-- a best walk, or None if no walk is open to p or there is no room to go to
abbrev pub IsBestWay : State → ℕ → ℕ → Option ℕ → Option (List Step) → Type 0
IsBestWay w p from (Some to) (Some ss) = IsBestWalk w p from to ss
IsBestWay w p from (Some to) None = NoWalk (roads_of w p) from to
IsBestWay w p from None way = way ≡ None

-- p goes from its place to the room by a best way
pub record GoesBest (w : State) (to : Option ℕ) (p : ℕ) (j : Leg) : Type 0 where
  pub who : j.player ≡ p
  pub place : place_of w p ≡ Some j.from
  pub way : IsBestWay w p j.from to j.way

-- the certificate is about the players of these legs, and has this conclusion
pub record Certifies (legs : List Leg) (says : Conclusion) (c : Certificate) : Type 0 where
  pub members : AllZip IsMemberFor legs c.members
  pub conclusion : c.conclusion ≡ says

-- the text states a best way of p to the room, and the certificate is about that way
pub record TellsRoute (w : State) (p to : ℕ) (text : List ℕ) (cert : Option Certificate) : Type 0 where
  pub leg : Leg
  pub goes : GoesBest w (Some to) p leg
  pub text_is : text ≡ route_text to leg
  pub certified : IsSomeAnd cert (Certifies (leg ∷ []) (Route to (option_map cost_of leg.way)))

-- the text states the best meeting room and each best way, or that no room serves; the certificate is about those
pub record TellsMeeting (w : State) (party : List ℕ) (text : List ℕ) (cert : Option Certificate) : Type 0 where
  pub place : Option Meeting
  pub legs : List Leg
  pub go : AllZip (GoesBest w (option_map (λ m. m.room) place)) party legs
  pub best : IsPlace (HasLeast 0) (goers_of w legs) place
  pub text_is : text ≡ meet_text place legs
  pub certified : IsSomeAnd cert (Certifies legs (Meet place))

-- the text states the journey that p asked for, and the certificate is about that journey
abbrev pub TellsJourney : State → ℕ → Journey → List ℕ → Option Certificate → Type 0
TellsJourney w p (question.Route to) text cert = TellsRoute w p to text cert
TellsJourney w p (question.Meet party) text cert = TellsMeeting w party text cert

-- the history has a text, in format 2, and with each of its texts the checker accepts that of the certificate
pub record IsAcceptedWith (h : List Entry) (c : Certificate) : Type 0 where
  pub written : SpellsHistory (history_text Two h) h
  pub accepted : (text : List ℕ) → SpellsHistory text h → IsFinding text (cert_text c) finding.Accepted

-- a certificate with the version of these entries, accepted with every extension of them that a hall can begin with
abbrev pub IsCertified : List Entry → Option Certificate → Type 0
IsCertified h cert =
    IsSomeAnd cert (λ c.
    (c.version ≡ length h) × ((g : List Entry) → IsPrefix h g → AreLoadable MOST_ENTRIES g → IsAcceptedWith g c))
