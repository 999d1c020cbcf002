use Rattle.std.proofs.Common.{◌≡◌, ◌++◌, ◌∙◌, codes, Some, string_bytes}
use Rattle.std.specs.Fmt.{decimal}
use Rattle.std.proofs.lemmas.Result.{IfOk-weaker}
use Rattle.mud_server_end.specs.Server.{opening_lines}
use Rattle.mud_server_end.proofs.Written.{two_lines}
use Rattle.mud_server_end.proofs.writing.ports_lines.Goals as goal

pub returns-in-Some : goal.returns-in-Some
returns-in-Some c =
    let telnet = c.args.ports.telnet in
    let web = c.in-Some.web in
    rw c.in-Some.is
    (IfOk-weaker c.format-in-Some.result
    (λ s. string_bytes s
    ≡ codes "listening on " ++ (decimal telnet ++ (codes "\nweb on " ++ (decimal web ++ codes "\n"))))
    (λ s. string_bytes s ≡ opening_lines telnet (Some web)) (λ s text. text ∙ two_lines telnet web)
    c.format-in-Some.ensures.ok)
