-- The observable state of a reader and of a writer.
use Rattle.std.specs.Prelude.{ℕ, Bool, false, ◌==◌, ◌&&◌, nat_lt, List, length, Option}
use Rattle.std.specs.Prelude.{Result, Ok, Err}

-- a reader: the bytes it will still give, if they are known, the number of reads, whether the end was seen, and whether
-- the last read failed
pub record Reader : Type 0 where
  pub left : Option (List ℕ)
  pub reads : ℕ
  pub at_end : Bool
  pub has_failed : Bool

-- a writer: the bytes it holds, if they are known, and whether the last write failed
pub record Writer : Type 0 where
  pub holds : Option (List ℕ)
  pub has_failed : Bool

-- a reader before its first read, and a writer before its first write
abbrev pub new_reader : Option (List ℕ) → Reader
new_reader left = record { left = left; reads = 0; at_end = false; has_failed = false }

abbrev pub new_writer : Option (List ℕ) → Writer
new_writer holds = record { holds = holds; has_failed = false }

-- no byte was transferred, though the buffer was not empty
abbrev pub none_passed : {E : Type 0} → Result ℕ E → List ℕ → Bool
none_passed (Ok n) buffer = n == 0 && nat_lt 0 (length buffer)
none_passed (Err e) buffer = false
