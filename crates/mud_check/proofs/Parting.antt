-- The split of standard input, line by line.
use Rattle.std.proofs.Common.{◌≡◌, ℕ, ◌-◌, true, false, List, [], ◌∷◌, ◌++◌, length, take, All, refl, sym, ◌∙◌, ap}
use Rattle.std.proofs.Common.{arith, inl, inr, append_assoc}
use Rattle.std.proofs.Math.Seq.{take-append_seam}
use Rattle.std.proofs.lemmas.List.{append-nil, length-append}
use Rattle.std.proofs.lemmas.List.Elements.{All-push}
use Rattle.std.proofs.lemmas.Grind.{flat_map-append}
use Rattle.mud_key.specs.declared.codes.TheConstants.{LF}
use Rattle.mud_cert.specs.Text.{text_of}
use Rattle.mud_cert.specs.inner.Lines.{with_line_feed}
use Rattle.mud_key.specs.Lines.{HasNoLineFeed}
use Rattle.mud_check.specs.Input.{begins_end, IsInner, IsSplit}

-- the bytes are lines that begin otherwise, followed by this rest
pub record IsPassed (bytes rest : List ℕ) : Type 0 where
  pub front : List (List ℕ)
  pub inner : All IsInner front
  pub bytes_are : bytes ≡ text_of front ++ rest

-- the text of lines, and of one more
text_of-push : (front : List (List ℕ)) (line : List ℕ)
    → text_of (front ++ line ∷ []) ≡ text_of front ++ (line ++ LF ∷ [])
text_of-push front line =
    flat_map-append with_line_feed front (line ∷ []) ∙ ap (λ t. text_of front ++ t) (append-nil (line ++ LF ∷ []))

-- the bytes, split after a line
parted : (front line behind : List ℕ) → front ++ (line ++ LF ∷ behind) ≡ front ++ (line ++ LF ∷ []) ++ behind
parted front line behind =
    ap (λ t. front ++ t) (sym (append_assoc line (LF ∷ []) behind)) ∙ sym (append_assoc front (line ++ LF ∷ []) behind)

-- one more line is passed
pub one-passed : (bytes rest line behind : List ℕ) → IsPassed bytes rest → HasNoLineFeed line
    → rest ≡ line ++ LF ∷ behind → begins_end line ≡ false → IsPassed bytes behind
one-passed bytes rest line behind passed whole cut other = record {
  front = passed.front ++ line ∷ [];
  inner = All-push IsInner passed.front line passed.inner (record { whole = whole; other = other });
  bytes_are =
      passed.bytes_are ∙ ap (λ t. text_of passed.front ++ t) cut ∙ parted (text_of passed.front) line behind
      ∙ ap (λ t. t ++ behind) (sym (text_of-push passed.front line));
}

-- a prefix of a list, by the length of the rest
front-of : (front behind : List ℕ) → take (length (front ++ behind) - length behind) (front ++ behind) ≡ front
front-of front behind =
    let count : length (front ++ behind) - length behind ≡ length front = omega (arith, length-append front behind) in
    ap (λ n. take n (front ++ behind)) count ∙ take-append_seam front behind

-- the line is the last of the history
pub ends : (bytes rest line behind : List ℕ) → IsPassed bytes rest → HasNoLineFeed line → rest ≡ line ++ LF ∷ behind
    → begins_end line ≡ true
    → IsSplit bytes (take (length bytes - length behind) bytes) behind
ends bytes rest line behind passed whole cut last =
    let history : List ℕ = text_of passed.front ++ (line ++ LF ∷ []) in
    let parts : bytes ≡ history ++ behind =
    passed.bytes_are ∙ ap (λ t. text_of passed.front ++ t) cut ∙ parted (text_of passed.front) line behind in
    let front : take (length bytes - length behind) bytes ≡ history =
    ap (λ b. take (length b - length behind) b) parts ∙ front-of history behind in
    (passed.front, line, passed.inner, whole, parts ∙ ap (λ t. t ++ behind) (sym front), inl (last, front))

-- no more line is complete
pub ends-not : (bytes rest : List ℕ) → IsPassed bytes rest → HasNoLineFeed rest → IsSplit bytes bytes []
ends-not bytes rest passed unended =
    (passed.front, rest, passed.inner, unended, sym (append-nil bytes), inr (passed.bytes_are, refl))
