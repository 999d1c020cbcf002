-- Bytes that can't be read as a journal, though they begin like one.
use Rattle.std.specs.Prelude.{List, ℕ, ◌++◌}
use mathlib.Core.List.{IsPrefix}
use Rattle.mud_chron.specs.declared.fault.ChronFault.{ChronFault}
use Rattle.mud_chron.specs.declared.format.Format.{Format}
use Rattle.mud_chron.specs.Text.{line_feed, head_line}
use Rattle.mud_chron.specs.Fronts.{HasFrontFault}

-- the bytes have a fault
pub record IsFaulty (bytes : List ℕ) : Type 0 where
  pub fault : ChronFault
  pub is : HasFrontFault bytes fault

-- the bytes begin with a first line, and have a fault
pub record IsBroken (bytes : List ℕ) : Type 0 where
  pub faulty : IsFaulty bytes
  pub format : Format
  pub head : IsPrefix (head_line format ++ line_feed) bytes
