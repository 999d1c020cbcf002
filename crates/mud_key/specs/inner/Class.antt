-- Byte classes of the readers of keys and names. Private clauses cite them, and the readers of Machine.antt and
-- NameReader.antt compute with them. `class_means` in proofs/Classes.antt ties them to the bytes that a name may
-- contain.
use Rattle.std.specs.Prelude.{ℕ, nat_le, nat_eq, ◌&&◌, if◌then◌else◌}
use Rattle.mud_key.specs.declared.class.Class.{Class}
use Rattle.mud_key.specs.declared.class.Class.TheVariants.{Space, Digit, Letter, Sharp, Bang, Question, Open, Close}
use Rattle.mud_key.specs.declared.class.Class.TheVariants.{Ampersand, Bar, Foreign}

-- the class of a byte
abbrev pub class_of : ℕ → Class
class_of b =
    if nat_eq b 32 then Space
    else if nat_eq b 33 then Bang
    else if nat_eq b 34 then Foreign
    else if nat_eq b 35 then Sharp
    else if nat_eq b 38 then Ampersand
    else if nat_eq b 40 then Open
    else if nat_eq b 41 then Close
    else if nat_eq b 44 then Foreign
    else if nat_eq b 63 then Question
    else if nat_eq b 92 then Foreign
    else if nat_eq b 124 then Bar
    else if nat_le 48 b && nat_le b 57 then Digit
    else if nat_le 32 b && nat_le b 126 then Letter
    else Foreign
