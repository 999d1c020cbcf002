use Rattle.std.proofs.Common.{◌≡◌, ◌+◌, ◌-◌, ◌^◌, min, length, take}
use Rattle.std.specs.Prelude.{sum_by}
use Rattle.std.specs.Cow.{cow_str_bytes}
use Rattle.mud_words.proofs.split.room_for.Given as goal

-- the room for the words so far
abbrev pub invariant-loop-word : goal.invariant-loop-word
invariant-loop-word l =
    l.room ≡ min (sum_by (λ word. length (cow_str_bytes word) + 1) (take l.word-index l.words)) (2 ^ 64 - 1)
