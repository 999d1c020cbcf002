use Rattle.std.proofs.Common.{◌∙◌, sym}
use Rattle.std.proofs.lemmas.Bool.Decides.{Decides-eqb}
use Rattle.std.proofs.lemmas.Slice.Eq.{slice_eq-Decides}
use Rattle.mud_web.proofs.Keys.{key_decides, other_padding}
use Rattle.mud_web.proofs.upgrade.is_key.Goals as goal

pub returns-then-eq : goal.returns-then-eq
returns-then-eq c =
    let same = (slice_eq-Decides Decides-eqb _ _ _ c.eq.ensures).0 c.if-eq.true in
    key_decides c.args.key.now c.split_at.result.0.now c.split_at.result.1.now c.are_symbols.result
    c.split_at.ensures.front c.split_at.ensures.back c.split_at.ensures.front_len (same ∙ c.as_slice.ensures)
    c.are_symbols.ensures

pub returns-else-eq : goal.returns-else-eq
returns-else-eq c = (
  λ h. absurd (cc (h, c.if-eq.false)),
  λ form. absurd (other_padding c.args.key.now c.split_at.result.1.now
      c.split_at.ensures.back
      (λ same. cc (
        (slice_eq-Decides Decides-eqb _ _ _ c.eq.ensures).1
            (same ∙ sym c.as_slice.ensures),
        c.if-eq.false,
      )) form),
)
