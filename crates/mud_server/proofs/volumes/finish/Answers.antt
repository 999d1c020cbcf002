use Rattle.std.proofs.Common.{◌≡◌, ℕ, List, ap, subst}
use Rattle.std.specs.Prelude.{take}
use Rattle.std.specs.Io.KnownBytes.{Appends}
use Rattle.mud_chron.specs.Entry.{Entry}
use Rattle.mud_chron.specs.declared.format.Format.TheVariants.{Two}
use Rattle.mud_chron.specs.Text.{history_text}
use Rattle.mud_server_end.proofs.Written.{any_err}
use Rattle.mud_server.proofs.Settled.{whole_part}
use Rattle.mud_server.proofs.volumes.finish.Goals as goal

pub returns-in_err-write_entries-clause-front : goal.returns-in_err-write_entries-clause-front
returns-in_err-write_entries-clause-front g c =
    let history : c.into_parts-history.result.0 ≡ c.args.ended.history = ap (λ r. r.0) c.into_parts-history.ensures in
    any_err c.from_residual.result
    (subst (λ (h : List Entry). (n : ℕ) × Appends c.args.out.now.holds c.write_entries.new.out.holds
    (take n (history_text Two h))) history c.in_err-write_entries.ensures.front)

pub returns-clause-front : goal.returns-clause-front
returns-clause-front g c =
    let history : c.into_parts-history.result.0 ≡ c.args.ended.history = ap (λ r. r.0) c.into_parts-history.ensures in
    subst (λ (h : List Entry). (n : ℕ) × Appends c.args.out.now.holds c.write_entries.new.out.holds
    (take n (history_text Two h))) history
    (whole_part c.into_parts-history.result.0 _ _ c.in_ok-write_entries.ensures.ok)

pub returns-then-is_well_ended-clause-ok : goal.returns-then-is_well_ended-clause-ok
returns-then-is_well_ended-clause-ok g c =
    let history : c.into_parts-history.result.0 ≡ c.args.ended.history = ap (λ r. r.0) c.into_parts-history.ensures in
    subst (λ (h : List Entry). Appends c.args.out.now.holds c.write_entries.new.out.holds (history_text Two h)) history
    c.in_ok-write_entries.ensures.ok
