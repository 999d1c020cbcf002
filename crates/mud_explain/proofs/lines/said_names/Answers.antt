use Rattle.std.proofs.Common.{◌≡◌, ◌++◌, codes, map, string_bytes, sym, ap, ◌∙◌}
use Rattle.std.specs.Option.{option_map_or}
use Rattle.std.proofs.lemmas.Result.{IfOk-weaker}
use Rattle.mud_key.specs.Finds.{names_in}
use Rattle.mud_explain.specs.Brackets.{bracket_all}
use Rattle.mud_explain.proofs.lines.said_names.Goals as goal

pub returns-in_ok-push_listed-in-Ok : goal.returns-in_ok-push_listed-in-Ok
returns-in_ok-push_listed-in-Ok c =
    let text : string_bytes c.push_listed.new.out ≡ string_bytes c.new-answer.result
    ++ bracket_all (map string_bytes c.list.result.now) = c.in_ok-push_listed-in-Ok.ensures in
    text ∙ ap (λ t. t ++ bracket_all (map string_bytes c.list.result.now)) c.new-answer.ensures.bytes
    ∙ ap bracket_all c.list.ensures.list
    ∙ sym (ap (λ o. option_map_or bracket_all o (codes "bad names")) c.in-Ok.ensures.finds)

pub returns-in-Err-BadName : goal.returns-in-Err-BadName
returns-in-Err-BadName c =
    let finds = rw c.in-Err-BadName.field-0-is at c.in-Err-BadName.ensures.finds in
    IfOk-weaker c.from_str.result (λ s. string_bytes s ≡ codes "bad names")
    (λ answer. string_bytes answer ≡ option_map_or bracket_all (names_in c.args.text.now) (codes "bad names"))
    (λ s text. text ∙ sym (ap (λ o. option_map_or bracket_all o (codes "bad names")) finds)) c.from_str.ensures.ok
