-- The fields of a head, found by name (RFC 9110, sections 5.3 and 5.6.1).
use Rattle.std.specs.Prelude.{◌==◌, ◌-◌, ℕ, Bool, List, [], ◌∷◌, length, take, drop, map, if◌then◌else◌}
use Rattle.std.specs.List.{flat_map, list_any, slice_split, prefix_len, suffix_len}
use Rattle.std.specs.Char.{is_ascii_whitespace}
use Rattle.websocket.specs.Headers.{Fields, comma, eq_ignore_case}

-- the values of all fields with this name, ignoring case
abbrev pub values : Fields → List ℕ → List (List ℕ)
values [] name = []
values (field ∷ fields) name =
    if eq_ignore_case field.0 name then field.1 ∷ values fields name else values fields name

-- a text without the white space at both ends; in a value that means spaces and tabs
abbrev pub trim : List ℕ → List ℕ
trim text =
    let rest = drop (prefix_len is_ascii_whitespace text) text in
    take (length rest - suffix_len is_ascii_whitespace rest) rest

-- the members of a list, which commas separate
abbrev pub members_of : List ℕ → List (List ℕ)
members_of value = map trim (slice_split (λ b. b == comma) value)

-- the list in all fields with this name has this member, ignoring case
abbrev pub has_member : Fields → (name wanted : List ℕ) → Bool
has_member fields name wanted =
    list_any (λ m. eq_ignore_case m wanted) (flat_map members_of (values fields name))
