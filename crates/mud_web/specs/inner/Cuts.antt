-- The places where a text is cut into messages.
use Rattle.std.specs.Prelude.{◌≡◌, ◌≢◌, ◌<◌, ◌≤◌, ◌-◌, ◌==◌, ℕ, zero, suc, List, [], ◌∷◌, length, take, drop}
use Rattle.std.specs.Prelude.{nat_le, if◌then◌else◌, slice_index}
use Rattle.mud_nvt.specs.declared.codes.TheConstants.{LF}
use Rattle.mud_web.specs.declared.messages.TheConstants.{MOST_SENT}

-- the number of bytes up to and including the last LF, given that number for the bytes after this one
abbrev pub end_before : ℕ → ℕ → ℕ
end_before b zero = if b == LF then 1 else 0
end_before b (suc n) = suc (suc n)

-- the number of bytes up to and including the last LF
abbrev pub last_end : List ℕ → ℕ
last_end [] = 0
last_end (b ∷ bs) = end_before b (last_end bs)

-- n is the number of bytes up to and including the last LF
pub record IsLastEnd (bs : List ℕ) (n : ℕ) : Type 0 where
  pub within : n ≤ length bs
  pub ends : 0 < n → slice_index bs (n - 1) ≡ LF
  pub none : (k : ℕ) → n ≤ k → k < length bs → slice_index bs k ≢ LF

-- that number, or the number of all bytes if there is no LF
abbrev pub end_or : ℕ → ℕ → ℕ
end_or zero all = all
end_or (suc n) all = suc n

-- the length of the first message of a text, for this greatest length
abbrev pub len_within : ℕ → List ℕ → ℕ
len_within most text = if nat_le (length text) most then length text else end_or (last_end (take most text)) most

-- the length of the first message of a text
unfoldable pub first_len : List ℕ → ℕ
first_len text = len_within MOST_SENT text

-- at most n messages of a text, in order
abbrev pub messages_within : ℕ → List ℕ → List (List ℕ)
messages_within zero text = []
messages_within (suc n) [] = []
messages_within (suc n) (b ∷ bs) =
    let len = first_len (b ∷ bs) in take len (b ∷ bs) ∷ messages_within n (drop len (b ∷ bs))
