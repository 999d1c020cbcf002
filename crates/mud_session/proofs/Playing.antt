-- Successive turns.
use Rattle.std.proofs.Common.{◌≡◌, ℕ, Bool, true, false, List, [], ◌∷◌, ◌++◌, Option, Some, map, refl, sym, ap, subst}
use Rattle.std.proofs.Common.{◌∙◌, append_assoc}
use Rattle.std.specs.Prelude.{◌||◌}
use Rattle.std.specs.List.{flat_map}
use Rattle.std.proofs.lemmas.List.{map-append}
use Rattle.std.proofs.lemmas.Grind.{flat_map-append}
use Rattle.std.proofs.lemmas.Bool.{true≢false}
use Rattle.mud_nvt.specs.Units.{Given}
use Rattle.mud_hall.specs.Desk.{DeskState}
use Rattle.mud_session.specs.Session.{TakingIn, Turn, Plays, Play, is_last, is_over, unit_of, answer_to, wire_text}
use Rattle.mud_session.specs.Session.{text_of}

abbrev pub unit_in : Turn → Option Given
unit_in turn = unit_of turn.case

abbrev pub text_in : Turn → List ℕ
text_in turn = flat_map wire_text turn.notices ++ answer_to turn.case

both-false : (a b : Bool) → a || b ≡ false → (a ≡ false) × (b ≡ false)
both-false true b e = absurd (true≢false e)
both-false false b e = (refl, e)

pub Plays-append : (T : TakingIn) (n : ℕ) (a b c : DeskState) (xs ys : List Turn) → is_over xs ≡ false
    → Plays T n a xs b → Plays T n b ys c → Plays T n a (xs ++ ys) c
Plays-append T n a b c [] ys goes p q = subst (λ (d : DeskState). Plays T n d ys c) p q
Plays-append T n a b c (x ∷ xs) ys goes p q =
    let both = both-false (is_last x.case) (is_over xs) goes in
    (p.0, p.1, λ last. absurd (true≢false (sym last ∙ both.0)), Plays-append T n p.0 b c xs ys both.1 p.3 q)

pub is_over-append : (xs ys : List Turn) → is_over xs ≡ false → is_over (xs ++ ys) ≡ is_over ys
is_over-append [] ys goes = refl
is_over-append (x ∷ xs) ys goes =
    let both = both-false (is_last x.case) (is_over xs) goes in
    ap (λ b. b || is_over (xs ++ ys)) both.0 ∙ is_over-append xs ys both.1

pub over-by : (xs ys : List Turn) (ended : Bool) → is_over xs ≡ false → ended ≡ is_over ys → is_over (xs ++ ys) ≡ ended
over-by xs ys ended goes is = is_over-append xs ys goes ∙ sym is

pub text_of-append : (xs ys : List Turn) → text_of (xs ++ ys) ≡ text_of xs ++ text_of ys
text_of-append xs ys = flat_map-append text_in xs ys

-- a play of the same units
abbrev pub retold : {T : TakingIn} {n : ℕ} {a b : DeskState} {us vs : List Given} → vs ≡ us → Play T n a us b
    → Play T n a vs b
retold e p = record { turns = p.turns; left = p.left; units_are = ap (map Some) e ∙ p.units_are; plays = p.plays }

-- turns, followed by a play
pub joined-units : (xs ys : List Turn) (us vs left : List Given) → map Some us ≡ map unit_in xs
    → map Some vs ≡ map unit_in ys ++ map Some left
    → map Some (us ++ vs) ≡ map unit_in (xs ++ ys) ++ map Some left
joined-units xs ys us vs left p q =
    map-append Some us vs ∙ ap (λ l. l ++ map Some vs) p ∙ ap (λ l. map unit_in xs ++ l) q
    ∙ sym (append_assoc (map unit_in xs) (map unit_in ys) (map Some left))
    ∙ ap (λ l. l ++ map Some left) (sym (map-append unit_in xs ys))

abbrev pub joined : {T : TakingIn} {n : ℕ} {a b c : DeskState} {vs : List Given} (us : List Given) (xs : List Turn)
    → map Some us ≡ map unit_in xs → is_over xs ≡ false → Plays T n a xs b → Play T n b vs c → Play T n a (us ++ vs) c
joined {T = T} {n = n} {a = a} {b = b} {c = c} {vs = vs} us xs is goes plays p = record {
  turns = xs ++ p.turns;
  left = p.left;
  units_are = joined-units xs p.turns us vs p.left is p.units_are;
  plays = Plays-append T n a b c xs p.turns goes plays p.plays;
}
