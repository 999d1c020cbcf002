use Rattle.std.proofs.Common.{◌≡◌, ℕ, List, [], length, arith, sym, ap, ◌∙◌}
use Rattle.std.proofs.lemmas.Bool.Decides.{nat_tests}
use Rattle.std.proofs.lemmas.List.{nil_from_length}
use Rattle.mud_web.specs.Sending.{frames_of}
use Rattle.mud_web.proofs.Sending.{no_text}
use Rattle.mud_client.specs.Framed.{framed}
use Rattle.mud_client.proofs.framing.Framing.frame.Goals as goal

pub returns-in-Web-clause-text : goal.returns-in-Web-clause-text
returns-in-Web-clause-text c =
    let none : length c.take_out-text.result.items ≡ 0 = grind (arith, nat_tests) in
    nil_from_length c.take_out-text.result.items none ∙ no_text [] c.take_out-text.result.items none
    ∙ ap frames_of c.take_out-text.ensures.text
    ∙ sym (ap (λ f. framed f c.args.session.now.out) c.in-Web.is)
