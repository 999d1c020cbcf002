-- Players that words mean.
use Rattle.std.proofs.Common.{◌≡◌, ℕ, zero, suc, ◌<◌, ◌⊎◌, inl, inr, true, List, [], ◌∷◌, ◌++◌, length, get_or, map}
use Rattle.std.proofs.Common.{take, refl, sym, ◌∙◌, ap, subst, arith, ⊎_elim}
use Rattle.std.specs.Prelude.{Bool, ◌||◌, nat_eq, IsTrue, Any, Contains, Result, Ok, filter}
use Rattle.std.specs.List.{range_with_len, list_any}
use Rattle.std.proofs.lemmas.Bool.{true≢false, and_parts, or_cases, or_left, or_right, eqb-true, eq-eqb}
use Rattle.std.proofs.lemmas.List.Folds.{list_any-from_Any}
use Rattle.std.proofs.lemmas.Map.Views.{Contains-from_any}
use Rattle.mud_world.specs.Kinds.{is_player_kind}
use Rattle.mud_world.specs.State.{State, is_player}
use Rattle.mud_world.specs.Sound.{IsSound}
use Rattle.mud_rules.specs.declared.matching.Match.{Match}
use Rattle.mud_survey.specs.Answer.{MeansPlayer, IsParty}
use Rattle.mud_survey.specs.inner.Meant.{AreMeant, is_none_of, is_in}
use Rattle.mud_survey.proofs.Listing.{first-or, behind, in-front, lists-of}
use Rattle.mud_survey.proofs.Testing.{has-below, both-true}

one-player : (p q : ℕ) → ◌≡◌ {A = Result ℕ Match} (Ok p) (Ok q) → p ≡ q
one-player p q e = cc

-- one word more
pub meant-more : (w : State) (words : List (List ℕ)) (ps : List ℕ) (word : List ℕ) (p : ℕ) → AreMeant w words ps
    → MeansPlayer w word p → AreMeant w (words ++ word ∷ []) (ps ++ p ∷ [])
meant-more w [] [] word p are means = (means, tt)
meant-more w [] (q ∷ ps) word p are means = absurd are
meant-more w (v ∷ words) [] word p are means = absurd are
meant-more w (v ∷ words) (q ∷ ps) word p are means = (are.0, meant-more w words ps word p are.1 means)

-- a player is meant by one of the words
meant-any : (w : State) (words : List (List ℕ)) (ps : List ℕ) → AreMeant w words ps → (p : ℕ) → Contains ps p
    → Any (λ word. MeansPlayer w word p) words
meant-any w [] [] are p (k, less, is) = absurd (omega (arith, less))
meant-any w [] (q ∷ ps) are p c = absurd are
meant-any w (v ∷ words) [] are p c = absurd are
meant-any w (v ∷ words) (q ∷ ps) are p c =
    ⊎_elim (λ (here : q ≡ p). (0, v, omega arith, refl, subst (MeansPlayer w v) here are.0))
    (λ (later : Contains ps p).
    let rest = meant-any w words ps are.1 p later in
    (suc rest.0, rest.1, (let less = rest.2 in omega (arith, less)), rest.3, rest.4))
    (first-or q ps p c)

-- a word means one player
any-meant : (w : State) (words : List (List ℕ)) (ps : List ℕ) → AreMeant w words ps → (p : ℕ)
    → Any (λ word. MeansPlayer w word p) words → Contains ps p
any-meant w [] ps are p (k, v, less, is, means) = absurd (omega (arith, less))
any-meant w (v ∷ words) [] are p any = absurd are
any-meant w (v ∷ words) (q ∷ ps) are p (zero, u, less, is, means) =
    let same : q ≡ p =
    one-player q p (sym are.0.0 ∙ (subst (λ word. MeansPlayer w word p) (sym is) means).0) in
    subst (λ n. Contains (q ∷ ps) n) same (in-front q ps)
any-meant w (v ∷ words) (q ∷ ps) are p (suc k, u, less, is, means) =
    behind q ps p (any-meant w words ps are.1 p (k, u, omega (arith, less), is, means))

-- there are as many players as words
none-words : (w : State) (words : List (List ℕ)) (ps : List ℕ) → AreMeant w words ps → is_none_of ps ≡ true
    → words ≡ []
none-words w [] ps are none = refl
none-words w (v ∷ words) [] are none = absurd are
none-words w (v ∷ words) (q ∷ ps) are none = absurd (true≢false (sym none))

words-none : (w : State) (words : List (List ℕ)) (ps : List ℕ) → AreMeant w words ps → words ≡ []
    → is_none_of ps ≡ true
words-none w [] [] are none = refl
words-none w [] (q ∷ ps) are none = absurd are
words-none w (v ∷ words) ps are none = absurd (let bad : ◌≡◌ {A = List (List ℕ)} (v ∷ words) [] = none in cc)

-- the party of the words
pub party-is : (w : State) → IsSound w → (words : List (List ℕ)) (meant : List ℕ) → AreMeant w words meant
    → (found : List ℕ) → found ≡ filter (is_in w meant) (range_with_len 0 w.next) → IsParty w words found
party-is w sound words meant are found is =
    let lists = lists-of
    (λ p. IsTrue (is_player w p) × ((words ≡ []) ⊎ Any (λ word. MeansPlayer w word p) words)) (is_in w meant) w.next
    (λ p sure.
    let parts = and_parts (is_player w p) (is_none_of meant || list_any (nat_eq p) meant) sure in (
      parts.0,
      ⊎_elim (λ (none : is_none_of meant ≡ true). inl (none-words w words meant are none))
          (λ (some : list_any (nat_eq p) meant ≡ true).
          inr (meant-any w words meant are p (Contains-from_any {eq = nat_eq} (λ a b e. eqb-true a b e) p meant some)))
          (or_cases (is_none_of meant) (list_any (nat_eq p) meant) parts.1),
    ))
    (λ p so. (
      has-below w sound (λ r. is_player_kind r.kind) p so.0,
      both-true (is_player w p) (is_none_of meant || list_any (nat_eq p) meant) so.0
          (⊎_elim
          (λ (none : words ≡ []).
          or_left (is_none_of meant) (list_any (nat_eq p) meant) (words-none w words meant are none))
          (λ (some : Any (λ word. MeansPlayer w word p) words).
          let among = any-meant w words meant are p some in
          or_right (is_none_of meant) (list_any (nat_eq p) meant)
          (list_any-from_Any (nat_eq p) meant (among.0, p, among.1, among.2, eq-eqb p p refl)))
          so.1),
    ))
    found is in
    record { rising = lists.ordered; exact = lists.exact }
