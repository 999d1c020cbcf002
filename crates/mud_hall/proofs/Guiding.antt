-- An answer about a journey is right.
use Rattle.std.proofs.Common.{◌≡◌, ℕ, List, [], ◌∷◌, length, Option, None, Some, sym, ◌∙◌, subst}
use Rattle.std.specs.Prelude.{string_bytes}
use Rattle.std.specs.Option.{IsSomeAnd, option_map}
use mathlib.Core.List.{IsPrefix}
use Rattle.mud_words.specs.Parse.{parse_of}
use Rattle.mud_world.specs.State.{State}
use Rattle.mud_roads.specs.Laws.{MeetingIsAlike}
use Rattle.mud_rules.specs.declared.verdict.Journey.{Journey}
use Rattle.mud_rules.specs.declared.verdict.Journey.TheVariants.{Route, Meet}
use Rattle.mud_rules.specs.declared.verdict.Query.TheVariants as query
use Rattle.mud_rules.specs.declared.verdict.Verdict.{Verdict}
use Rattle.mud_rules.specs.declared.verdict.Verdict.TheVariants as verdict
use Rattle.mud_chron.specs.Entry.{Entry}
use Rattle.mud_cert.specs.Certificate.{Certificate, IsCertificate}
use Rattle.mud_cert.specs.Valid.{IsValid}
use Rattle.mud_cert.specs.declared.cert.Conclusion.TheVariants as says
use Rattle.mud_guide.specs.Ways.{cost_of}
use Rattle.mud_guide.specs.declared.answer.Answer.{Answer}
use Rattle.mud_guide.specs.Answers.{IsCertOf}
use Rattle.mud_guide.specs.Laws.{RouteIsLeast}
use Rattle.mud_hall.specs.Notices.{world_after}
use Rattle.mud_hall.specs.Desk.{DeskState}
use Rattle.mud_hall.specs.Replies.{verdict_on}
use Rattle.mud_hall.specs.Answers.{Answered, IsGuided, Shows, Answers}
use Rattle.mud_hall.specs.Right.{TellsJourney, IsCertified}
use Rattle.mud_hall.specs.inner.Desks.{TellsProof}
use Rattle.mud_hall.specs.Laws.{IsRight}
use Rattle.mud_hall.proofs.Keeping.{IsDesk, Keeps, begun_kept, run_kept}
use Rattle.mud_hall.proofs.Journeys.{route-told, meeting-told}
use Rattle.mud_hall.proofs.Certified.{Below, IsGood, certified}
use Rattle.mud_hall.specs.Steps.{At, HallStep, Begins, IsRun, Hall, Ask, Makes}

some-inj : {A : Type 0} (x y : A) → Some x ≡ Some y → x ≡ y
some-inj x y e = cc

-- the known facts about journeys
pub record Known : Type 0 where
  pub routes : RouteIsLeast
  pub alike : MeetingIsAlike

-- ---- certificates

good-cert : (w : State) (v : ℕ) (P : Certificate → Type 0)
    → ((c : Certificate) → P c → IsCertificate c × (c.version ≡ v)) → (o : Option Certificate)
    → IsSomeAnd o P → IsSomeAnd o (IsValid w) → IsSomeAnd o (IsGood w v)
good-cert w v P is None p i = absurd p
good-cert w v P is (Some c) p i = let h = is c p in record { limits = h.0; version = h.1; valid = i }

-- the guide's answer states the journey, and its certificate satisfies the conditions
record IsTold (w : State) (v p : ℕ) (j : Journey) (g : Answer) : Type 0 where
  version : g.version ≡ v
  told : TellsJourney w p j (string_bytes g.text) g.cert
  good : IsSomeAnd g.cert (IsGood w v)

told : Known → (w : State) (v p : ℕ) (j : Journey) (g : Answer) → IsGuided w v (Some p) j g → IsTold w v p j g
told known w v p (Route to) g x =
    let P : Certificate → Type 0 = IsCertOf w v (x.leg ∷ []) (says.Route to (option_map cost_of x.leg.way)) in
    record {
      version = x.version;
      told = route-told known.routes w v p to g x;
      good = good-cert w v P (λ c i. (i.limits, i.version)) g.cert x.cert x.valid;
    }
told known w v p (Meet party) g x =
    let P : Certificate → Type 0 = IsCertOf w v x.legs (says.Meet x.place) in
    record {
      version = x.version;
      told = meeting-told known.routes known.alike w v party g x;
      good = good-cert w v P (λ c i. (i.limits, i.version)) g.cert x.cert x.valid;
    }

-- ---- answers

right : Below → Known → (f : List Entry) (player : Option ℕ) (v : Verdict) (a : Answered) → a.version ≡ length f
    → Shows f player v a → IsRight f player v a
right below known f (Some p) (verdict.Ask (query.Journey j)) a version (g, guided, is) =
    let w : State = world_after f in
    let i : IsTold w (length f) p j g = told known w (length f) p j g guided in
    let R : Answered → Type 0 = λ b. TellsJourney w p j b.text b.cert × IsCertified f b.cert in
    let r : R a = subst R (sym is) (i.told, certified below f g.cert i.good) in
    (version, r.0, r.1)
right below known f (Some p) (verdict.Ask (query.Proof j)) a version (g, guided, is) =
    let w : State = world_after f in
    let i : IsTold w (length f) p j g = told known w (length f) p j g guided in
    let R : Option Certificate → Type 0 =
    λ c. TellsJourney w p j (string_bytes g.text) c × TellsProof c a.text × IsCertified f c in
    let r : R a.cert = subst R (sym is.1) (i.told, is.0, certified below f g.cert i.good) in
    (string_bytes g.text, version, r.0, r.1, r.2)
right below known f (Some p) (verdict.Ask (query.View view)) a version h = tt
right below known f (Some p) (verdict.Ask query.History) a version h = tt
right below known f (Some p) (verdict.Change e) a version h = tt
right below known f (Some p) (verdict.Become n) a version h = tt
right below known f (Some p) (verdict.Refused r) a version h = tt
right below known f None (verdict.Ask q) a version h = tt
right below known f None (verdict.Change e) a version h = tt
right below known f None (verdict.Become n) a version h = tt
right below known f None (verdict.Refused r) a version h = tt

pub guide_is_right : Below → Known → (capacity : ℕ) (loaded : List Entry) (begin : Hall)
    → Begins capacity loaded begin
    → (steps : List HallStep) (hall : Hall) → IsRun capacity loaded begin steps hall
    → (s : ℕ) (line : List ℕ) (a : Answered) (next : Hall)
    → Makes capacity loaded hall (At s (Ask line (Some a))) next
    → (d : DeskState) → hall.desks s ≡ Some d
    → IsPrefix d.seen hall.history × IsRight d.seen d.player (verdict_on d.seen d.player (parse_of line)) a
guide_is_right below known capacity loaded begin begins steps hall run s line a next (was, is, turns, same, asks) d at =
    let first : Keeps capacity begin hall =
    run_kept capacity loaded begin steps hall (begun_kept capacity loaded begin begins) run in
    let desk : was ≡ d = some-inj was d (sym turns.before ∙ at) in
    let mine : IsDesk hall.history s d = first.kept.desks s d at in
    let answer : Answers d (parse_of line) a = subst (λ (x : DeskState). Answers x (parse_of line) a) desk asks.0 in (
      mine.known,
      right below known d.seen d.player
          (verdict_on d.seen d.player (parse_of line)) a answer.version answer.shows,
    )
