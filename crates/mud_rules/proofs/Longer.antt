-- A text is a prefix of a name if it is the whole name, or a prefix of a longer one.
use Rattle.std.proofs.Common.{◌≡◌, ℕ, ◌<◌, ◌≤◌, Bool, true, false, cond, ◌||◌, List, [], ◌∷◌, Option, Some, None}
use Rattle.std.proofs.Common.{length, refl, sym, ◌∙◌, ap, arith, Result, Ok, Err}
use Rattle.std.specs.Prelude.{◌&&◌, nat_lt, filter}
use Rattle.std.specs.Option.{option_map_or}
use Rattle.std.specs.List.{list_any}
use Rattle.std.specs.Char.{to_ascii_lowercase}
use Rattle.std.specs.Str.{str_eq_ignore_ascii_case, str_to_ascii_lowercase}
use Rattle.std.proofs.lemmas.Bool.{ltb-true, ltb-false}
use Rattle.std.proofs.lemmas.List.{length-map, take_all}
use Rattle.std.proofs.lemmas.Slice.Eq.{bytes_eq-Decides}
use Rattle.mud_world.specs.State.{State, record_at}
use Rattle.mud_world.specs.declared.record.Record.{Record}
use Rattle.mud_rules.specs.declared.matching.Likeness.TheVariants.{Equal, Prefix}
use Rattle.mud_rules.specs.declared.matching.Match.{Match}
use Rattle.mud_rules.specs.declared.matching.Match.TheVariants.{NoSuch, Ambiguous}
use Rattle.mud_rules.specs.Matches.{is_like, sole, sole_like}
use Rattle.mud_rules.specs.inner.Matches.{is_named, fits, sole_fit}
use Rattle.mud_rules.proofs.Least.{bool_cases}

-- ---- one name

as_long : (text name : List ℕ) → str_eq_ignore_ascii_case text name ≡ true → length text ≡ length name
as_long text name same =
    sym (length-map text to_ascii_lowercase)
    ∙ ap length ((bytes_eq-Decides (str_to_ascii_lowercase text) (str_to_ascii_lowercase name)).0 same)
    ∙ length-map name to_ascii_lowercase

not_equal : (text name : List ℕ) → length text < length name → str_eq_ignore_ascii_case text name ≡ false
not_equal text name shorter =
    bool_cases (str_eq_ignore_ascii_case text name)
    (λ same. let long = as_long text name same in absurd (omega (arith, long, shorter)))
    (λ apart. apart)

or_none : (b : Bool) → b ≡ (b || false)
or_none true = refl
or_none false = refl

like_parts : (text name : List ℕ) → is_like Prefix text name ≡ (fits Equal text name || fits Prefix text name)
like_parts text name =
    let begins = is_like Prefix text name in
    let equal = str_eq_ignore_ascii_case text name in
    let is_longer = nat_lt (length text) (length name) in
    bool_cases is_longer
    (λ longer.
    sym (ap (λ b. b || (is_longer && begins)) (not_equal text name (ltb-true (length text) (length name) longer))
    ∙ ap (λ b. b && begins) longer))
    (λ no.
    let short : length name ≤ length text = ltb-false (length text) (length name) no in
    ap (str_eq_ignore_ascii_case text) (take_all (length text) name short) ∙ or_none equal
    ∙ ap (λ b. equal || (b && begins)) (sym no))

-- ---- the names of an object

swapped : (a b c d : Bool) → ((a || b) || (c || d)) ≡ ((a || c) || (b || d))
swapped true b c d = refl
swapped false true true d = refl
swapped false true false d = refl
swapped false false c d = refl

any_parts : (text : List ℕ) (names : List (List ℕ))
    → list_any (is_like Prefix text) names ≡ (list_any (fits Equal text) names || list_any (fits Prefix text) names)
any_parts text [] = refl
any_parts text (name ∷ names) =
    ap (λ b. b || list_any (is_like Prefix text) names) (like_parts text name)
    ∙ ap (λ b. (fits Equal text name || fits Prefix text name) || b) (any_parts text names)
    ∙ swapped (fits Equal text name) (fits Prefix text name) (list_any (fits Equal text) names)
    (list_any (fits Prefix text) names)

named_parts : (w : State) (text : List ℕ) (n : ℕ)
    → is_named (is_like Prefix text) w n ≡ (is_named (fits Equal text) w n || is_named (fits Prefix text) w n)
named_parts w text n = go (record_at w n)
  where
    go : (o : Option Record)
        → option_map_or (λ r. list_any (is_like Prefix text) r.names) o false
        ≡ (option_map_or (λ r. list_any (fits Equal text) r.names) o false
        || option_map_or (λ r. list_any (fits Prefix text) r.names) o false)
    go None = refl
    go (Some r) = any_parts text r.names

-- ---- candidates

sole_none : (ns : List ℕ) → sole ns ≡ Err NoSuch → ns ≡ []
sole_none [] none = refl
sole_none (n ∷ []) none = absurd (let bad : ◌≡◌ {A = Result ℕ Match} (Ok n) (Err NoSuch) = none in cc)
sole_none (n ∷ m ∷ ns) none = absurd (let bad : ◌≡◌ {A = Result ℕ Match} (Err Ambiguous) (Err NoSuch) = none in cc)

-- if no object satisfies the one, objects that satisfy one of the two satisfy the other
others : (p q e : ℕ → Bool) → ((n : ℕ) → p n ≡ (e n || q n)) → (ns : List ℕ) → filter e ns ≡ []
    → filter q ns ≡ filter p ns
others p q e same [] none = refl
others p q e same (n ∷ ns) none =
    bool_cases (e n)
    (λ yes.
    let bad : ◌≡◌ {A = List ℕ} (n ∷ filter e ns) [] =
    sym (ap (λ b. cond b (n ∷ filter e ns) (filter e ns)) yes) ∙ none in
    absurd (cc))
    (λ no.
    let rest : filter e ns ≡ [] = sym (ap (λ b. cond b (n ∷ filter e ns) (filter e ns)) no) ∙ none in
    let alike : p n ≡ q n = same n ∙ ap (λ b. b || q n) no in
    ap (λ b. cond b (n ∷ filter q ns) (filter q ns)) (sym alike)
    ∙ ap (λ ms. cond (p n) (n ∷ ms) ms) (others p q e same ns rest))

-- if no candidate has the text as a name, the candidates with a longer name that begins with it are all whose names
-- begin with it
pub longer_only : (w : State) (text : List ℕ) (candidates : List ℕ) → sole_fit Equal w text candidates ≡ Err NoSuch
    → sole_fit Prefix w text candidates ≡ sole_like Prefix w text candidates
longer_only w text candidates none =
    ap sole
    (others (is_named (is_like Prefix text) w) (is_named (fits Prefix text) w) (is_named (fits Equal text) w)
    (named_parts w text) candidates (sole_none (filter (is_named (fits Equal text) w) candidates) none))
