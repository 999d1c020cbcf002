use Rattle.std.proofs.Common.{◌≡◌, ◌∙◌, ◌||◌, ◌+◌, ◌∷◌, [], List, String, Global, suc, drop, map, ap, sym, refl, arith}
use Rattle.std.proofs.Common.{drop-cons}
use Rattle.std.specs.Prelude.{string_bytes}
use Rattle.std.proofs.lemmas.List.{drop_all}
use Rattle.mud_world.specs.State.{is_taken}
use Rattle.mud_world.proofs.Holders.{taken-more, taken-none}
use Rattle.mud_world.proofs.world.World.is_taken.Goals.{After-is_held}
use Rattle.mud_world.proofs.world.World.is_taken.Goals as goal

-- one of the names is taken if this one is held, or one of the rest is taken
one_more : (c : After-is_held) → is_taken c.args.self.now c.args.number c.args.names.now
    ≡ (c.is_held.result || is_taken c.args.self.now c.args.number
    (map string_bytes (drop (c.loop-name.name-index + 1) c.list-name-items.result.now)))
one_more c =
    let w = c.args.self.now in
    let n = c.args.number in
    let items = c.list-name-items.result.now in
    let i = c.loop-name.name-index in
    let item = c.name-item.result in
    let rest = drop (i + 1) items in
    let up : suc i ≡ i + 1 = omega arith in
    let left : drop i items ≡ item ∷ rest = drop-cons items i item c.loop-name-test.true
    ∙ ap (λ v. v ∷ drop (suc i) items) (sym c.name-item.is) ∙ ap (λ m. item ∷ drop m items) up in
    c.loop-name.invariant
    ∙ ap (λ (l : List (String Global)). is_taken w n (map string_bytes l)) left
    ∙ taken-more w n (string_bytes item) (map string_bytes rest)
    ∙ ap (λ b. b || is_taken w n (map string_bytes rest))
    (ap (λ t. is_taken w n (t ∷ [])) (sym c.as_str.ensures.value) ∙ sym c.is_held.ensures)

pub returns-then-is_held : goal.returns-then-is_held
returns-then-is_held c =
    rw (one_more (goal.at.returns-then-is_held c).After-is_held, c.if-is_held.true) refl

pub loop-name-preserved : goal.loop-name-preserved
loop-name-preserved c =
    rw (one_more (goal.at.loop-name-preserved c).After-is_held, c.if-is_held.false) refl

pub returns : goal.returns
returns c =
    let w = c.args.self.now in
    let n = c.args.number in
    let items = c.list-name-items.result.now in
    sym
    (c.loop-name.invariant
    ∙ ap (λ (l : List (String Global)). is_taken w n (map string_bytes l))
    (drop_all c.loop-name.name-index items c.loop-name-test.false)
    ∙ taken-none w n)
