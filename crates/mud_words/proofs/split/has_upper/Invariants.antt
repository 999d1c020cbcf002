use Rattle.std.proofs.Common.{◌≡◌, take}
use Rattle.std.specs.Str.{str_to_ascii_lowercase as lower}
use Rattle.mud_words.proofs.split.has_upper.Given as goal

-- the bytes so far equal their lower-case forms
abbrev pub invariant-loop-byte : goal.invariant-loop-byte
invariant-loop-byte l = lower (take l.byte-index l.text) ≡ take l.byte-index l.text
