use Rattle.std.proofs.Common.{◌≡◌, ◌∷◌, ◌++◌, take, string_bytes}
use Rattle.std.specs.Cow.{cow_str_bytes}
use Rattle.std.specs.List.{flat_map}
use Rattle.mud_words.proofs.split.joined_text.Given as goal

abbrev pub invariant-loop-word : goal.invariant-loop-word
invariant-loop-word l =
    string_bytes l.text
    ≡ string_bytes l.initial.text ++ flat_map (λ word. 32 ∷ cow_str_bytes word) (take l.word-index l.others)
