use Rattle.std.proofs.Common.{◌≡◌, ◌∙◌, ◌||◌, Bool, true, false, not, refl, sym, ap}
use Rattle.std.specs.List.{list_any}
use Rattle.mud_world.specs.inner.Maps.{lies_in, leaves, arrives}
use Rattle.mud_world.proofs.Needed.{by_list, needed}
use Rattle.mud_world.proofs.world.World.is_needed.Goals as goal
use Rattle.mud_world.proofs.world.World.is_needed.Goals.{Joined-not-is_empty, then-not-is_empty, else-not-is_empty}

either : (a b c : Bool) → (a || b) ≡ true → (a || (b || c)) ≡ true
either true b c is = refl
either false b c is = ap (λ (x : Bool). x || c) is

neither : (a b c : Bool) → (a || b) ≡ false → (a || (b || c)) ≡ c
neither true b c is = absurd (cc)
neither false b c is = ap (λ (x : Bool). x || c) is

-- something lies in it, or an exit leaves it
first_two : (c : Joined-not-is_empty) → c.if-not-is_empty.value
    ≡ (list_any (λ e. lies_in c.args.number e.1) c.args.self.now.objects
    || list_any (λ e. leaves c.args.number e.1) c.args.self.now.objects)
first_two c =
    let n = c.args.number in
    let w = c.args.self.now in
    let from : Bool = list_any (λ e. leaves n e.1) w.objects in
    let within = by_list (lies_in n) w c.contents.result.now c.is_empty.result c.is_empty.ensures c.contents.ensures in
    elim c.if-not-is_empty.branch [
      | then-not-is_empty v ↦ v.value-is ∙ ap not v.if-not-is_empty.true
          ∙ sym (ap (λ (b : Bool). b || from) (within ∙ ap not v.if-not-is_empty.true))
      | else-not-is_empty v ↦ v.value-is
          ∙ sym (by_list (leaves n) w v.leaving.result.now v.is_empty-else-not-is_empty.result
          v.is_empty-else-not-is_empty.ensures v.leaving.ensures)
          ∙ sym (ap (λ (b : Bool). b || from) (within ∙ ap not v.if-not-is_empty.false))
    ]

pub returns-then-not-is_empty-2 : goal.returns-then-not-is_empty-2
returns-then-not-is_empty-2 c =
    let n = c.args.number in
    let w = c.args.self.now in
    let is = c.if-not-is_empty-2.true in
    is
    ∙ sym (needed n w.objects
    ∙ either (list_any (λ e. lies_in n e.1) w.objects) (list_any (λ e. leaves n e.1) w.objects)
    (list_any (λ e. arrives n e.1) w.objects)
    (sym (first_two (goal.at.returns-then-not-is_empty-2 c).Joined-not-is_empty) ∙ is))

pub returns-else-not-is_empty-2 : goal.returns-else-not-is_empty-2
returns-else-not-is_empty-2 c =
    let n = c.args.number in
    let w = c.args.self.now in
    let empty = c.is_empty-else-not-is_empty-2 in
    sym (by_list (arrives n) w c.arriving.result.now empty.result empty.ensures c.arriving.ensures)
    ∙ sym (needed n w.objects
    ∙ neither (list_any (λ e. lies_in n e.1) w.objects) (list_any (λ e. leaves n e.1) w.objects)
    (list_any (λ e. arrives n e.1) w.objects)
    (sym (first_two (goal.at.returns-else-not-is_empty-2 c).Joined-not-is_empty) ∙ c.if-not-is_empty-2.false))
