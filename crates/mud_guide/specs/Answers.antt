-- The guide's answers.
use Rattle.std.specs.Prelude.{◌≡◌, ℕ, List, [], ◌∷◌, Option, Some, string_bytes}
use Rattle.std.specs.List.{AllZip}
use Rattle.std.specs.Option.{option_map, IsSomeAnd}
use Rattle.mud_world.specs.State.{State}
use Rattle.mud_cert.specs.Certificate.{Certificate, IsCertificate}
use Rattle.mud_roads.specs.Walks.{HasLeast}
use Rattle.mud_cert.specs.Valid.{IsPlace, IsValid}
use Rattle.mud_cert.specs.declared.cert.Form.TheVariants.{Two}
use Rattle.mud_cert.specs.declared.cert.Meeting.{Meeting}
use Rattle.mud_cert.specs.declared.cert.Conclusion.{Conclusion}
use Rattle.mud_cert.specs.declared.cert.Conclusion.TheVariants.{Route, Meet}
use Rattle.mud_guide.specs.declared.answer.Answer.{Answer}
use Rattle.mud_guide.specs.Ways.{cost_of}
use Rattle.mud_guide.specs.Legs.{Leg, IsLeg, goers_of}
use Rattle.mud_guide.specs.Accounts.{IsAccountOf}
use Rattle.mud_guide.specs.Texts.{route_text, meet_text}

-- the certificate of these legs: in form two, with an account of each and this conclusion, within the limits
pub record IsCertOf (w : State) (v : ℕ) (js : List Leg) (says : Conclusion) (c : Certificate) : Type 0 where
  pub version : c.version ≡ v
  pub form : c.form ≡ Two
  pub members : AllZip (IsAccountOf w) js c.members
  pub conclusion : c.conclusion ≡ says
  pub limits : IsCertificate c

-- the text states the player's leg to the room, and a valid certificate proves it optimal
pub record IsRouteAnswer (w : State) (v p to : ℕ) (a : Answer) : Type 0 where
  pub leg : Leg
  pub goes : IsLeg w (Some to) p leg
  pub version : a.version ≡ v
  pub text : string_bytes a.text ≡ route_text to leg
  pub cert : IsSomeAnd a.cert (IsCertOf w v (leg ∷ []) (Route to (option_map cost_of leg.way)))
  pub valid : IsSomeAnd a.cert (IsValid w)

-- the text states the meeting room and each member's leg there, and a valid certificate proves it optimal
pub record IsMeetAnswer (w : State) (v : ℕ) (party : List ℕ) (a : Answer) : Type 0 where
  pub place : Option Meeting
  pub legs : List Leg
  pub go : AllZip (IsLeg w (option_map (λ m. m.room) place)) party legs
  pub meet : IsPlace (HasLeast 1) (goers_of w legs) place
  pub version : a.version ≡ v
  pub text : string_bytes a.text ≡ meet_text place legs
  pub cert : IsSomeAnd a.cert (IsCertOf w v legs (Meet place))
  pub valid : IsSomeAnd a.cert (IsValid w)
