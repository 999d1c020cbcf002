use Rattle.std.proofs.Common.{ℕ, ap, sym, subst, ◌∙◌, ◌≤◌, ◌-◌, length, length-take, string_bytes, rules, arith}
use Rattle.std.proofs.lemmas.List.{take-take}
use Rattle.mud_nvt.specs.declared.TheConstants.{MOST}
use Rattle.mud_nvt.specs.Held.{Held}
use Rattle.mud_nvt.proofs.Runs.{is_typed, printable_utf8}
use Rattle.mud_nvt.proofs.Nvt.plain_front.Goals as goal

pub from_utf8_unchecked-requires : goal.from_utf8_unchecked-requires
from_utf8_unchecked-requires g c =
    let within : c.printable_len-len.result ≤ c.min.result =
    omega (arith, c.printable_len-len.ensures.within, length-take {A = ℕ}) in
    printable_utf8 _
    (rw (take-take c.printable_len-len.result c.min.result c.args.bytes.now within)
    at c.printable_len-len.ensures.printable)

pub returns : goal.returns
returns g c =
    let view = c.self.view_is in
    let short : length (string_bytes c.self.inside.line) ≤ MOST = search rules in
    let room : c.min.result ≤ MOST - length (string_bytes c.self.inside.line) = search rules in
    is_typed c.args.self.now c.args.bytes.now c.from_utf8_unchecked.result.now c.min.result c.printable_len-len.result
    (ap (λ (h : Held). h.place) (sym view) ∙ c.in-Between.is)
    (ap (λ (h : Held). h.too_long) (sym view) ∙ c.if-self.false)
    (subst (λ (h : Held). length h.text ≤ MOST) view short)
    (subst (λ (h : Held). c.min.result ≤ MOST - length h.text) view room)
    c.printable_len-len.ensures.within c.if-len-eq0.false c.printable_len-len.ensures.printable
    c.from_utf8_unchecked.ensures
