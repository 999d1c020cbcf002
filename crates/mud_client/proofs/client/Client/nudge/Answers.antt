use Rattle.mud_client.specs.Steps.{output_of}
use Rattle.mud_client.proofs.Stepping.{look_stands, match_end}
use Rattle.mud_client.proofs.client.Client.nudge.Goals as goal

pub returns-in-Ok-clause-step : goal.returns-in-Ok-clause-step
returns-in-Ok-clause-step g c =
    match_end c.say.result.1.end (λ says. (c.in-Ok.client, c.in-Ok.ensures.ok, says)) (λ e is over. over)
    (λ undone. undone) c.say.ensures.says

pub returns-in-Ok-clause-stands : goal.returns-in-Ok-clause-stands
returns-in-Ok-clause-stands g c start came sent s =
    look_stands start came sent c.args.self c.say.result.0 (output_of c.say.result.1)
    (match_end c.say.result.1.end (λ says. (c.in-Ok.client, c.in-Ok.ensures.ok, says)) (λ e is over. over)
    (λ undone. undone) c.say.ensures.says) s
