-- The members of a party.
use Rattle.std.proofs.Common.{◌≡◌, ◌≢◌, ℕ, Bool, true, false, cond, List, [], ◌∷◌, length, Option, Some, None, Result}
use Rattle.std.proofs.Common.{Ok, Err, refl, sym, ◌∙◌, ap, subst, arith}
use Rattle.std.specs.Prelude.{nat_eq, nat_le, nat_lt, not, ◌&&◌, ◌||◌, map, IsTrue, IfOk}
use Rattle.std.specs.Option.{option_map_or}
use Rattle.std.specs.List.{All, AllPairs, list_any}
use Rattle.std.proofs.lemmas.Bool.{and_parts, leb-true, eq-eqb}
use Rattle.std.proofs.lemmas.List.Elements.{All-nil, All-cons}
use Rattle.std.proofs.lemmas.List.Kept.{AllPairs-cons}
use Rattle.mud_world.specs.declared.refusal.Refusal.{Refusal}
use Rattle.mud_world.specs.declared.refusal.Refusal.TheVariants.{NoSuch, WrongKind, PartyBad}
use Rattle.mud_world.specs.Refusals.{number, lesser, refused_if}
use Rattle.mud_world.specs.State.{State, is_player}
use Rattle.mud_rules.specs.Matches.{match_among}
use Rattle.mud_rules.specs.Party.{IsParty, all_distinct, is_party}
use Rattle.mud_rules.specs.Journeys.{player_meant, least_refusal, members, meet}
use Rattle.mud_rules.specs.inner.Bars.{unfit}
use Rattle.mud_key.specs.Commas.{parts_of}
use Rattle.mud_rules.specs.declared.verdict.Journey.TheVariants.{Meet}
use Rattle.mud_rules.specs.Outcome.{of_kind, object_meant as meant}
use Rattle.mud_rules.specs.inner.Outcome.{IsJourney}
use Rattle.mud_rules.proofs.Least.{bool_cases}
use Rattle.mud_rules.proofs.Ordered.{meeting_is}

others : (p : ℕ) (ps : List ℕ) → not (list_any (λ q. nat_eq q p) ps) ≡ true → All (λ q. p ≢ q) ps
others p [] alone = All-nil (λ q. p ≢ q)
others p (q ∷ qs) alone =
    bool_cases (nat_eq q p)
    (λ same. let bad : false ≡ true = sym (ap (λ b. not (b || list_any (λ q. nat_eq q p) qs)) same) ∙ alone in
    absurd (let no : ⊥ = cc in no))
    (λ other.
    let rest : not (list_any (λ q. nat_eq q p) qs) ≡ true =
    sym (ap (λ b. not (b || list_any (λ q. nat_eq q p) qs)) other) ∙ alone in
    All-cons (λ q. p ≢ q) q qs
    (λ is. let same : nat_eq q p ≡ true = eq-eqb q p (sym is) in let bad : false ≡ true = sym other ∙ same in
    absurd (let no : ⊥ = cc in no))
    (others p qs rest))

distinct_of : (ps : List ℕ) → all_distinct ps ≡ true → AllPairs (λ p q. p ≢ q) ps
distinct_of [] apart = λ i j d before below. absurd (omega (arith, below))
distinct_of (p ∷ ps) apart =
    let parts = and_parts (not (list_any (λ q. nat_eq q p) ps)) (all_distinct ps) apart in
    AllPairs-cons (λ p q. p ≢ q) p ps (others p ps parts.0) (distinct_of ps parts.1)

-- a list that passes the test is a party
pub party_of : (ps : List ℕ) → is_party ps ≡ true → IsParty ps
party_of ps test =
    let few = and_parts (nat_le 2 (length ps)) (nat_le (length ps) 8 && all_distinct ps) test in
    let parts = and_parts (nat_le (length ps) 8) (all_distinct ps) few.1 in
    record {
      two = leb-true 2 (length ps) few.0;
      eight = leb-true (length ps) 8 parts.0;
      distinct = distinct_of ps parts.1;
    }

one_more : (w : State) (m : Result ℕ Refusal) (found : List (Result ℕ Refusal))
    → All (λ n. IsTrue (is_player w n)) (members found)
    → All (λ n. IsTrue (is_player w n)) (members (of_kind (is_player w) m ∷ found))
one_more w (Ok n) found all =
    let Q : Bool → Type 0 = λ b. All (λ n. IsTrue (is_player w n)) (members (cond b (Ok n) (Err WrongKind) ∷ found)) in
    bool_cases (is_player w n)
    (λ yes. subst Q (sym yes) (All-cons (λ n. IsTrue (is_player w n)) n (members found) yes all))
    (λ no. subst Q (sym no) all)
one_more w (Err f) found all = all

-- the members that texts mean are players
pub members_are_players : (w : State) (p : ℕ) (texts : List (List ℕ))
    → All (λ n. IsTrue (is_player w n)) (members (map (player_meant w p) texts))
members_are_players w p [] = All-nil (λ n. IsTrue (is_player w n))
members_are_players w p (text ∷ texts) =
    one_more w (meant NoSuch (match_among (is_player w) w p text)) (map (player_meant w p) texts)
    (members_are_players w p texts)

never_none : (f : Refusal) (other : Option Refusal) → lesser (Some f) other ≡ None → ⊥
never_none f None is = cc
never_none f (Some g) is =
    bool_cases (nat_lt (number g) (number f))
    (λ yes. let bad : Some g ≡ None = sym (ap (λ b. cond b (Some g) (Some f)) yes) ∙ is in cc)
    (λ no. let bad : Some f ≡ None = sym (ap (λ b. cond b (Some g) (Some f)) no) ∙ is in cc)

-- a list that is not refused is a party
pub fit : (ps : List ℕ) (other : Option Refusal) → lesser (unfit ps) other ≡ None → IsParty ps
fit ps other none =
    bool_cases (is_party ps)
    (λ yes. party_of ps yes)
    (λ no. absurd (never_none PartyBad other (sym (ap (λ b. lesser (refused_if (not b) PartyBad) other) no) ∙ none)))

met : (w : State) (found : List (Result ℕ Refusal)) (r : Option Refusal)
    → lesser (unfit (members found)) (least_refusal found) ≡ r
    → All (λ n. IsTrue (is_player w n)) (members found)
    → IfOk (option_map_or Err r (Ok (Meet (members found)))) (IsJourney w)
met w found None is all = (all, fit (members found) (least_refusal found) is)
met w found (Some f) is all = tt

-- the members of a meeting are a party of players
pub meet-lawful : (w : State) (p : ℕ) (text : List ℕ) → IfOk (meet w p text) (IsJourney w)
meet-lawful w p text =
    let found = map (player_meant w p) (parts_of text) in
    subst (λ r. IfOk r (IsJourney w)) (meeting_is found)
    (met w found (lesser (unfit (members found)) (least_refusal found)) refl (members_are_players w p (parts_of text)))
