use Rattle.std.proofs.Common.{◌∷◌, [], ◌++◌, cond, map, ap, sym, ◌∙◌}
use Rattle.std.proofs.lemmas.List.{append-nil}
use Rattle.mud_survey.proofs.Trailing.{in-room}
use Rattle.mud_survey.proofs.trails.push_if_stranded.Goals as goal

pub returns-then-not-is_stranded : goal.returns-then-not-is_stranded
returns-then-not-is_stranded c =
    let old = c.args.stranded.now.items in
    sym (append-nil old)
    ∙ ap (λ b. old ++ map (in-room c.args.player) (cond b (c.args.room ∷ []) [])) c.if-not-is_stranded.ensures

pub returns : goal.returns
returns c =
    let old = c.args.stranded.now.items in
    c.in_ok-push.ensures.items
    ∙ ap (λ b. old ++ map (in-room c.args.player) (cond b (c.args.room ∷ []) [])) c.if-not-is_stranded.ensures
