use Rattle.std.proofs.Common.{◌≡◌, ℕ, ◌+◌, List, [], ◌∷◌, ◌++◌, map, length, get_or, sym, ◌∙◌, ap, arith}
use Rattle.std.specs.List.{range_with_len}
use Rattle.std.proofs.lemmas.List.{length-append}
use Rattle.std.proofs.lemmas.List.FromFn.{map-range_with_len_more, length-map-range_with_len}
use Rattle.mud_roads.specs.declared.label.Step.{Step}
use Rattle.mud_roads.specs.Passable.{roads_of}
use Rattle.mud_roads.proofs.Rows.{rows-more, fit-more}
use Rattle.mud_roads.proofs.Opened.{roads-all}
use Rattle.mud_roads.proofs.access.Access.roads.Goals as goal

pub loop-room-preserved : goal.loop-room-preserved
loop-room-preserved c =
    let before = c.loop-room.steps.items in
    let ends = c.loop-room.ends.items in
    let roads = roads_of c.args.world.now c.args.self.now.player in
    let row = roads c.loop-room.room in
    let steps : c.add_steps.new.steps.items ≡ before ++ row = c.in_ok-add_steps.ensures in
    let size = length-append before row in
    let grown : length c.add_steps.new.steps.items ≡ length (before ++ row) = ap length steps in
    let end : c.len.result ≡ 0 + length before + length row = omega (arith, c.len.ensures, grown, size) in
    let all : c.push.new.self.items ≡ ends ++ c.len.result ∷ [] = c.in_ok-push.ensures.items in
    record {
      fit = rw (all, steps) (fit-more 0 ends before row c.len.result c.loop-room.invariant.fit end);
      rows = rw (all, steps) (rows-more 0 ends before row c.len.result c.loop-room.invariant.fit end)
          ∙ ap (λ (rs : List (List Step)). rs ++ row ∷ []) c.loop-room.invariant.rows
          ∙ sym (map-range_with_len_more roads 0 c.loop-room.room c.loop-room.room (omega arith));
    }

pub returns-clause-count : goal.returns-clause-count
returns-clause-count c =
    let size : c.loop-room.room ≡ c.args.world.now.next =
    omega (arith, c.loop-room-test.false, c.loop-room.auto.room-end, c.next_number-count.ensures.next) in
    ap length (c.of.ensures ∙ c.loop-room.invariant.rows)
    ∙ length-map-range_with_len (roads_of c.args.world.now c.args.self.now.player) 0 c.loop-room.room
    ∙ size

pub returns-clause-roads : goal.returns-clause-roads
returns-clause-roads c = λ room.
    let roads = roads_of c.args.world.now c.args.self.now.player in
    let size : c.loop-room.room ≡ c.args.world.now.next =
    omega (arith, c.loop-room-test.false, c.loop-room.auto.room-end, c.next_number-count.ensures.next) in
    ap (λ (rs : List (List Step)). get_or rs room []) (c.of.ensures ∙ c.loop-room.invariant.rows)
    ∙ ap (λ (n : ℕ). get_or (map roads (range_with_len 0 n)) room []) size
    ∙ roads-all c.args.world.now c.next_number-count.ensures.sound c.args.self.now.player room
