-- Lists of bytes without a blank.
use Rattle.std.proofs.Common.{◌≡◌, ℕ, ◌<◌, true, false, nat_lt, List, [], length, refl, arith}
use Rattle.std.specs.List.{position_or_len, before_first, after_first}
use Rattle.std.specs.Str.{trim, trim_start}
use Rattle.std.proofs.lemmas.Bool.Decides.{nat_tests}
use Rattle.std.proofs.lemmas.Grind.{common_steps}
use Rattle.mud_console.specs.Order.{is_blank, rest_of}

pub none_before : (bs : List ℕ) → position_or_len is_blank bs ≡ length bs → before_first is_blank bs ≡ bs
none_before bs none = grind (arith, common_steps, none)

pub none_after : (line : List ℕ) → position_or_len is_blank (trim line) ≡ length (trim line) → [] ≡ rest_of line
none_after line none =
    let test : nat_lt (position_or_len is_blank (trim line)) (length (trim line)) ≡ false =
    grind (arith, nat_tests, none) in
    rw test refl

pub some_after : (line : List ℕ) → position_or_len is_blank (trim line) < length (trim line)
    → trim_start (after_first is_blank (trim line)) ≡ rest_of line
some_after line some =
    let test : nat_lt (position_or_len is_blank (trim line)) (length (trim line)) ≡ true =
    grind (arith, nat_tests, some) in
    rw test refl
