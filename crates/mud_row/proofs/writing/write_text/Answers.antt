use Rattle.std.proofs.Common.{◌≡◌, length, arith, ◌∙◌}
use Rattle.std.specs.Prelude.{string_bytes}
use Rattle.std.proofs.lemmas.Str.{IsUtf8-string_bytes}
use Rattle.mud_row.proofs.Lines.{cut_back, cuts_there}
use Rattle.mud_row.proofs.writing.write_text.Goals as goal

pub truncate-requires : goal.truncate-requires
truncate-requires c = λ within.
    let at : c.len-len.result ≡ length (string_bytes c.args.out.now) = omega (arith, c.len-len.ensures) in
    let cut =
    cuts_there (string_bytes c.args.out.now) (string_bytes c.push_text.new.out) c.len-len.result
    (IsUtf8-string_bytes c.args.out.now) (IsUtf8-string_bytes c.push_text.new.out) c.in-Err.ensures.err at in
    (cut.0, λ some. cut.1)

pub returns-in-Err-clause-err : goal.returns-in-Err-clause-err
returns-in-Err-clause-err c =
    let at : c.len-len.result ≡ length (string_bytes c.args.out.now) = omega (arith, c.len-len.ensures) in
    c.truncate.ensures.bytes
    ∙ cut_back (string_bytes c.args.out.now) (string_bytes c.push_text.new.out) c.len-len.result c.in-Err.ensures.err at
