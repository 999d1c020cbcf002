-- The first line of a request, byte by byte.
use Rattle.std.specs.Prelude.{ℕ, List, [], ◌∷◌, Bool, true, false, ◌==◌, ◌||◌, if◌then◌else◌}
use Rattle.std.specs.Char.{is_ascii_alphabetic, is_ascii_digit, is_ascii_graphic}
use Rattle.mud_web.specs.declared.first_line.Verdict.{Verdict}
use Rattle.mud_web.specs.declared.first_line.Place.{Place}
use Rattle.mud_web.specs.declared.first_line.Place.TheVariants.{Blank, Word, BehindWord, Target, BehindTarget}
use Rattle.mud_web.specs.declared.first_line.Place.TheVariants.{H, Ht, Htt, Http, Slash, Request, Other}
use Rattle.mud_web.specs.declared.first_line.TheConstants.{SPACE}

-- the bytes begin with a line end
abbrev pub begins_blank : List ℕ → Bool
begins_blank [] = false
begins_blank (b ∷ bs) = (b == 13) || (b == 10)

-- the position after a byte that is not a letter, while only line ends came before it
abbrev pub next_blank : ℕ → Place
next_blank b = if (b == 13) || (b == 10) then Blank else Other

-- the position after one more byte
abbrev pub next : Place → ℕ → Place
next Blank b = if is_ascii_alphabetic b then Word else next_blank b
next Word b = if is_ascii_alphabetic b then Word else if b == SPACE then BehindWord else Other
next BehindWord b = if is_ascii_graphic b then Target else Other
next Target b = if is_ascii_graphic b then Target else if b == SPACE then BehindTarget else Other
next BehindTarget b = if b == 72 then H else Other
next H b = if b == 84 then Ht else Other
next Ht b = if b == 84 then Htt else Other
next Htt b = if b == 80 then Http else Other
next Http b = if b == 47 then Slash else Other
next Slash b = if is_ascii_digit b then Request else Other
next Request b = Request
next Other b = Other

-- the form has been read up to its digit
abbrev pub is_request : Place → Bool
is_request Request = true
is_request _ = false

-- the verdict at a position
abbrev pub verdict_at : Place → Verdict
verdict_at Request = Verdict.Request
verdict_at Other = Verdict.NoRequest
verdict_at _ = Verdict.Undecided
