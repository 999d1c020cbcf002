-- Valid speeches.
use Rattle.std.specs.Prelude.{ℕ, ◌-◌, Bool, false, not, ◌&&◌, nat_eq, nat_lt, List, length, slice_get}
use Rattle.std.specs.List.{list_all}
use Rattle.std.specs.Option.{option_map_or}
use Rattle.mud_key.specs.declared.codes.TheConstants.{SPACE, TILDE}
use Rattle.mud_world.specs.declared.limits.TheConstants.{MOST_SPEECH}

-- there is no space at either end
abbrev pub is_trimmed : List ℕ → Bool
is_trimmed text =
    not (option_map_or (nat_eq SPACE) (slice_get text 0) false)
    && not (option_map_or (nat_eq SPACE) (slice_get text (length text - 1)) false)

-- 1 to 900 bytes from 32 to 126, without a space at either end
abbrev pub is_speech : List ℕ → Bool
is_speech text =
    not (nat_eq (length text) 0) && not (nat_lt MOST_SPEECH (length text))
    && list_all (λ b. not (nat_lt b SPACE) && not (nat_lt TILDE b)) text && is_trimmed text
