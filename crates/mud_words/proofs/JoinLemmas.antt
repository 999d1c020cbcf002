-- Words joined by spaces.
use Rattle.std.proofs.Common.{◌≡◌, ℕ, List, [], ◌∷◌, ◌++◌, map, take, drop, Option, Some, None, option_map, refl, sym}
use Rattle.std.proofs.Common.{ap, ◌∙◌, ◌<◌, ◌≤◌, length, get_or, take_all, arith}
use Rattle.std.specs.List.{join_by, flat_map}
use Rattle.std.proofs.lemmas.List.{append-nil, take-map, drop-map}
use Rattle.mud_words.specs.declared.codes.TheConstants.{SPACE}
use Rattle.mud_words.specs.declared.prepositions.Spot.{Spot}
use Rattle.mud_words.specs.Prepositions.{Found, preposition_of}
use Rattle.mud_words.specs.Parse.{round}
use Rattle.mud_words.specs.Words.{plain_words, without_front, without_back}
use Rattle.mud_words.specs.inner.Spots.{spot_of, split, join_words}
use Rattle.mud_words.proofs.ReadingLemmas.{without_front-words}

-- the library's definition agrees
pub joined_by : {X : Type 0} (f : X → List ℕ) (xs : List X) → join_by f (SPACE ∷ []) xs ≡ join_words (map f xs)
joined_by f [] = refl
joined_by f (x ∷ []) = append-nil (f x)
joined_by f (x ∷ y ∷ xs) = ap (λ (l : List ℕ). f x ++ (SPACE ∷ l)) (joined_by f (y ∷ xs))

-- the first word, and each later one with a space before it
pub joined_from : {X : Type 0} (f : X → List ℕ) (xs : List X) (x : X) (n : ℕ) (text : List ℕ) → 0 < length xs
    → x ≡ get_or xs 0 x → length (drop 1 xs) ≤ n → text ≡ f x ++ flat_map (λ y. SPACE ∷ f y) (take n (drop 1 xs))
    → text ≡ join_words (map f xs)
joined_from f [] x n text some first all is = absurd (omega arith)
joined_from f (y ∷ ys) x n text some first all is =
    is
    ∙ ap (λ (l : List ℕ). l ++ flat_map (λ y. SPACE ∷ f y) (take n ys)) (ap f first)
    ∙ ap (λ zs. f y ++ flat_map (λ y. SPACE ∷ f y) zs) (take_all n ys all)
    ∙ joined_by f (y ∷ ys)

round_is : {X : Type 0} (f : X → List ℕ) (verb rest direct indirect : List ℕ) (xs : List X) (spot : Spot)
    (o : Option Found) → Some spot ≡ option_map spot_of o → direct ≡ join_words (map f (take spot.start xs))
    → indirect ≡ join_words (map f (drop spot.end xs))
    → record { verb = verb; args = map f xs; direct = direct; prep = Some spot.prep; indirect = indirect; rest = rest }
    ≡ round verb (map f xs) rest o
round_is f verb rest direct indirect xs spot None is before behind = cc
round_is f verb rest direct indirect xs spot (Some g) is before behind =
    let same : spot ≡ spot_of g = cc in
    rw (before, behind, same, take-map, drop-map) refl

-- the objects before and after a preposition
pub split_is : {X : Type 0} (f : X → List ℕ) (verb rest direct indirect : List ℕ) (xs : List X) (spot : Spot)
    → Some spot ≡ option_map spot_of (preposition_of (map f xs)) → direct ≡ join_words (map f (take spot.start xs))
    → indirect ≡ join_words (map f (drop spot.end xs))
    → record { verb = verb; args = map f xs; direct = direct; prep = Some spot.prep; indirect = indirect; rest = rest }
    ≡ split verb (map f xs) rest
split_is f verb rest direct indirect xs spot is before behind =
    round_is f verb rest direct indirect xs spot _ is before behind

-- the parse of a verb and a text of spaces
pub nothing_after : (verb text text' : List ℕ) → text' ≡ without_front text → text' ≡ []
    → round verb [] [] None ≡ split verb (plain_words text) (without_back (without_front text))
unfolding preposition_of
nothing_after verb text text' is none =
    let words : plain_words text ≡ [] = sym (without_front-words text) ∙ ap plain_words (sym is ∙ none) in
    rw (words, sym is, none) refl

-- the parse of a verb and of the words after it
pub split_after : {X : Type 0} (f : X → List ℕ) (verb verb' : List ℕ) (none words : List X) (text text' rest : List ℕ)
    → verb' ≡ verb → none ≡ [] → map f words ≡ map f none ++ plain_words text' → text' ≡ without_front text
    → rest ≡ without_back text'
    → split verb' (map f words) rest ≡ split verb (plain_words text) (without_back (without_front text))
split_after {X = X} f verb verb' none words text text' rest lower new pushed front back =
    let same : map f words ≡ plain_words text =
    pushed ∙ ap (λ (xs : List X). map f xs ++ plain_words text') new ∙ ap plain_words front
    ∙ without_front-words text in
    rw (lower, same, back, front) refl
