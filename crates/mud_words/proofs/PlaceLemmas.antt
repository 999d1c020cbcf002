-- Places in a text that is words joined by one space.
use Rattle.std.proofs.Common.{◌≡◌, ℕ, ◌+◌, ◌-◌, ◌^◌, ◌<◌, ◌≤◌, min, List, [], ◌∷◌, ◌++◌, length, take, drop, map}
use Rattle.std.proofs.Common.{get_or, zero, suc, refl, sym, ap, subst, ◌∙◌, append_assoc, arith}
use Rattle.std.specs.Prelude.{sum_by}
use Rattle.std.specs.Str.{IsUtf8, IsCharBoundary}
use Rattle.std.proofs.lemmas.List.{append-nil, map-append, take-append-drop, length-append, length-map, length-take}
use Rattle.std.proofs.lemmas.List.{length-drop, take-append-le, take_at, drop_at, get_or_at, get_or_append_left}
use Rattle.std.proofs.lemmas.List.{append_cancel_right}
use Rattle.std.proofs.lemmas.List.Concat.{flat_map-append}
use Rattle.std.proofs.lemmas.List.Sums.{sum_by-cons, sum_by-take-le}
use Rattle.std.proofs.lemmas.Str.{IsCharBoundary-after_ascii}
use Rattle.mud_words.specs.declared.codes.TheConstants.{SPACE}
use Rattle.mud_words.specs.inner.Spots.{join_words}
use Rattle.mud_words.proofs.GapLemmas.{spaced}

-- the bytes of these words, and one more for each
abbrev size : {X : Type 0} (f : X → List ℕ) → List X → ℕ
size f xs = sum_by (λ x. length (f x) + 1) xs

spaced-length : {X : Type 0} (f : X → List ℕ) (xs : List X) → length (spaced (map f xs)) ≡ size f xs
spaced-length f [] = refl
spaced-length f (x ∷ xs) =
    omega (
      arith,
      spaced-length f xs,
      length-append (f x ++ SPACE ∷ []) (spaced (map f xs)),
      length-append (f x) (SPACE ∷ []),
      sum_by-cons (λ y. length (f y) + 1) x xs,
    )

spaced_join : (ws : List (List ℕ)) → 0 < length ws → spaced ws ≡ join_words ws ++ SPACE ∷ []
spaced_join [] some = absurd (omega arith)
spaced_join (w ∷ []) some = append-nil (w ++ SPACE ∷ [])
spaced_join (w ∷ v ∷ ws) some =
    append_assoc w (SPACE ∷ []) (spaced (v ∷ ws))
    ∙ ap (λ (l : List ℕ). w ++ SPACE ∷ l) (spaced_join (v ∷ ws) (omega arith))
    ∙ sym (append_assoc w (SPACE ∷ join_words (v ∷ ws)) (SPACE ∷ []))

parts : {X : Type 0} (f : X → List ℕ) (xs : List X) (k : ℕ)
    → spaced (map f xs) ≡ spaced (map f (take k xs)) ++ spaced (map f (drop k xs))
parts {X = X} f xs k =
    ap (λ (l : List X). spaced (map f l)) (sym (take-append-drop k xs))
    ∙ ap spaced (map-append f (take k xs) (drop k xs))
    ∙ flat_map-append (λ (w : List ℕ). w ++ SPACE ∷ []) (map f (take k xs)) (map f (drop k xs))

some_words : {X : Type 0} (f : X → List ℕ) (xs : List X) → 0 < length xs → 0 < length (map f xs)
some_words f xs some = omega (arith, length-map xs f)

-- the text and a space are all words, each with a space behind it
whole : {X : Type 0} (f : X → List ℕ) (xs : List X) (text : List ℕ) → 0 < length xs → text ≡ join_words (map f xs)
    → text ++ SPACE ∷ [] ≡ spaced (map f xs)
whole f xs text some is =
    ap (λ (t : List ℕ). t ++ SPACE ∷ []) is ∙ sym (spaced_join (map f xs) (some_words f xs some))

pub room_is : {X : Type 0} (f : X → List ℕ) (xs : List X) (text : List ℕ) (k room : ℕ) → 0 < length xs
    → text ≡ join_words (map f xs) → length text < 2 ^ 64 - 1 → room ≡ min (size f (take k xs)) (2 ^ 64 - 1)
    → room ≡ size f (take k xs)
room_is f xs text k room some is few room-is =
    omega (
      arith,
      sum_by-take-le (λ x. length (f x) + 1) xs k,
      spaced-length f xs,
      length-append text (SPACE ∷ []),
      ap length (whole f xs text some is),
    )

-- the words before a place end at the end of the text or before a space
pub record Ends (text before : List ℕ) (n : ℕ) : Type 0 where
  pub is : take n text ≡ before
  pub within : n ≤ length text
  pub space : n < length text → get_or text n 0 ≡ SPACE

ends : (text before behind : List ℕ) → text ++ SPACE ∷ [] ≡ (before ++ SPACE ∷ []) ++ behind
    → Ends text before (length before)
ends text before behind whole =
    let same : text ++ SPACE ∷ [] ≡ before ++ SPACE ∷ behind = whole ∙ append_assoc before (SPACE ∷ []) behind in
    let within : length before ≤ length text =
    omega (
      arith,
      ap length same,
      length-append text (SPACE ∷ []),
      length-append before (SPACE ∷ behind),
    ) in
    record {
      is =
          sym (take-append-le (length before) text (SPACE ∷ []) within)
          ∙ ap (take (length before)) same
          ∙ take_at before (SPACE ∷ behind) (length before) refl;
      within = within;
      space = λ lt.
          sym (get_or_append_left text (SPACE ∷ []) 0 (length before) lt)
          ∙ ap (λ (l : List ℕ). get_or l (length before) 0) same
          ∙ get_or_at before SPACE behind 0 (length before) refl;
    }

pub before_place : {X : Type 0} (f : X → List ℕ) (xs : List X) (text : List ℕ) (k room : ℕ) → 0 < k → k ≤ length xs
    → text ≡ join_words (map f xs) → room ≡ size f (take k xs) → Ends text (join_words (map f (take k xs))) (room - 1)
before_place f xs text k room some within is room-is =
    let before : List ℕ = join_words (map f (take k xs)) in
    let few : 0 < length (map f (take k xs)) = some_words f (take k xs) (omega (arith, length-take k xs)) in
    let joined : spaced (map f (take k xs)) ≡ before ++ SPACE ∷ [] = spaced_join (map f (take k xs)) few in
    let same : room - 1 ≡ length before =
    omega (arith, spaced-length f (take k xs), ap length joined, length-append before (SPACE ∷ [])) in
    rw same
    (ends text before (spaced (map f (drop k xs)))
    (whole f xs text (omega arith) is
    ∙ parts f xs k
    ∙ ap (λ (l : List ℕ). l ++ spaced (map f (drop k xs))) joined))

pub boundary_before : (text before : List ℕ) (n : ℕ) → Ends text before n → IsCharBoundary text n
boundary_before text before n e = (e.within, λ lt high. absurd (omega (arith, e.space lt)))

-- the words from a place on
pub after_place : {X : Type 0} (f : X → List ℕ) (xs : List X) (text : List ℕ) (k room : ℕ) → k < length xs
    → text ≡ join_words (map f xs) → room ≡ size f (take k xs)
    → (drop room text ≡ join_words (map f (drop k xs))) × (room ≤ length text)
after_place f xs text k room some is room-is =
    let before : List ℕ = spaced (map f (take k xs)) in
    let behind : List ℕ = join_words (map f (drop k xs)) in
    let few : 0 < length (map f (drop k xs)) = some_words f (drop k xs) (omega (arith, length-drop k xs)) in
    let same : text ≡ before ++ behind =
    append_cancel_right text (before ++ behind) (SPACE ∷ [])
    (whole f xs text (omega arith) is
    ∙ parts f xs k
    ∙ ap (λ (l : List ℕ). before ++ l) (spaced_join (map f (drop k xs)) few)
    ∙ sym (append_assoc before behind (SPACE ∷ []))) in
    let len : length before ≡ room = spaced-length f (take k xs) ∙ sym room-is in (
      ap (drop room) same ∙ drop_at before behind room len,
      omega (arith, ap length same, length-append before behind),
    )

pub boundary_after : {X : Type 0} (f : X → List ℕ) (xs : List X) (text : List ℕ) (k room : ℕ) → IsUtf8 text
    → k < length xs → text ≡ join_words (map f xs) → room ≡ size f (take k xs) → 0 < room → IsCharBoundary text room
boundary_after f xs text zero room utf8 some is room-is more = absurd (omega arith)
boundary_after f xs text (suc k) room utf8 some is room-is more =
    let e = before_place f xs text (suc k) room (omega arith) (omega arith) is room-is in
    let last : room ≤ length text = (after_place f xs text (suc k) room some is room-is).1 in
    let lt : room - 1 < length text = omega arith in
    let next : room - 1 + 1 ≡ room = omega arith in
    subst (IsCharBoundary text) next
    (IsCharBoundary-after_ascii text (room - 1) utf8 lt (omega (arith, e.space lt)))
