use Rattle.std.proofs.Common.{◌≡◌, ◌<◌, ℕ, List, length, None, Some, sym, ap, subst, ◌∙◌, arith}
use Rattle.std.specs.List.{position_or_len, before_first, after_first}
use Rattle.std.specs.Str.{trim_start}
use Rattle.std.proofs.lemmas.Str.Pattern.{split_once_first}
use Rattle.mud_console.specs.Order.{is_blank}
use Rattle.mud_console.proofs.Parts.{none_before, none_after, some_after}
use Rattle.mud_console.proofs.order.parts.Goals as goal

pub returns-in-None-clause-word : goal.returns-in-None-clause-word
returns-in-None-clause-word c =
    let none : position_or_len is_blank c.trim-line.result.now ≡ length c.trim-line.result.now =
    split_once_first 32 c.trim-line.result.now None c.in-None.ensures.cases (omega arith) in
    sym (none_before _ none) ∙ ap (before_first is_blank) c.trim-line.ensures.trim

pub returns-in-None-clause-rest : goal.returns-in-None-clause-rest
returns-in-None-clause-rest c =
    let none : position_or_len is_blank c.trim-line.result.now ≡ length c.trim-line.result.now =
    split_once_first 32 c.trim-line.result.now None c.in-None.ensures.cases (omega arith) in
    none_after c.args.line.now
    (subst (λ (bs : List ℕ). position_or_len is_blank bs ≡ length bs) c.trim-line.ensures.trim none)

pub returns-in-Some-clause-rest : goal.returns-in-Some-clause-rest
returns-in-Some-clause-rest c =
    let same = c.trim-line.ensures.trim in
    let given = Some (c.in-Some.word, c.in-Some.rest) in
    let some = split_once_first 32 c.trim-line.result.now given c.in-Some.ensures.cases (omega arith) in
    c.trim_start.ensures.trim
    ∙ ap trim_start (some.2 ∙ ap (after_first is_blank) same)
    ∙ some_after c.args.line.now
    (subst (λ (bs : List ℕ). position_or_len is_blank bs < length bs) same some.0)
