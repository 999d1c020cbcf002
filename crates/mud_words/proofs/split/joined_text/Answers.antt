use Rattle.std.proofs.Common.{◌≡◌, ℕ, List, ◌++◌, ap, ◌∙◌, string_bytes, arith}
use Rattle.std.specs.Cow.{cow_str_bytes}
use Rattle.std.proofs.lemmas.List.{take_rest}
use Rattle.mud_words.proofs.JoinLemmas.{joined_from}
use Rattle.mud_words.proofs.split.joined_text.Goals as goal

pub returns : goal.returns
returns c =
    let begun : string_bytes c.push_str.new.self ≡ cow_str_bytes c.first-item.result =
    c.in_ok-push_str.ensures.bytes ∙ ap (λ (t : List ℕ). t ++ c.deref.result.now) c.in_ok-text.ensures.bytes
    ∙ c.deref.ensures.value in
    joined_from cow_str_bytes c.args.words.now c.first-item.result c.loop-word.word-index _ (omega arith)
    c.first-item.is
    (rw (take_rest c.args.words.now 1) at c.loop-word-test.false)
    (rw (take_rest c.args.words.now 1, begun) at c.loop-word.invariant)
