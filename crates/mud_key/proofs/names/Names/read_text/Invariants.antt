-- The reader is in the state after the bytes read so far.
use Rattle.std.proofs.Common.{◌≡◌, Some, take}
use Rattle.mud_key.specs.inner.NameReader.{name_run, name_start, stand_of}
use Rattle.mud_key.proofs.names.Names.read_text.Given as goal

abbrev pub invariant-loop-byte : goal.invariant-loop-byte
invariant-loop-byte l = name_run (Some name_start) (take l.byte-index l.byte-items) ≡ Some (stand_of l.reader)
