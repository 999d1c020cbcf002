-- A reader of an escaped text gets the original text.
use Rattle.std.proofs.Common.{◌≡◌, ℕ, false, List, [], ◌∷◌, ◌++◌, Some, refl, sym, ◌∙◌, ap, subst}
use Rattle.std.specs.Prelude.{nat_eq, ◌||◌, codes, if◌then◌else◌}
use Rattle.std.specs.Option.{option_and_then}
use Rattle.std.proofs.lemmas.Bool.{eqb-true}
use Rattle.mud_world.proofs.Records.{bool_cases}
use Rattle.mud_key.specs.declared.codes.TheConstants.{LF}
use Rattle.mud_chron.specs.declared.codes.TheConstants.{QUOTE}
use Rattle.mud_map.specs.declared.codes.TheConstants.{BACKSLASH, SMALL_N}
use Rattle.mud_map.specs.Quotes.{escaped_byte, escape, meaning, before, read_quoted}
use Rattle.mud_map.specs.Laws.{IsReadAsMeant}

-- a byte that is neither quote nor backslash is read as itself
plain : (b : ℕ) (bytes : List ℕ) → nat_eq b QUOTE ≡ false → nat_eq b BACKSLASH ≡ false → (c : ℕ) (rest : List ℕ)
    → bytes ≡ c ∷ rest → read_quoted (b ∷ bytes) ≡ before b (read_quoted bytes)
plain b bytes no_quote no_slash c rest is =
    ap (λ v. read_quoted (b ∷ v)) is
    ∙ ap (λ t. if t then Some ([], c ∷ rest) else
    if nat_eq b BACKSLASH then option_and_then (λ m. before m (read_quoted rest)) (meaning c) else
    before b (read_quoted (c ∷ rest))) no_quote
    ∙ ap (λ t. if t then option_and_then (λ m. before m (read_quoted rest)) (meaning c) else
    before b (read_quoted (c ∷ rest))) no_slash
    ∙ sym (ap (λ v. before b (read_quoted v)) is)

-- a byte that needs no backslash is written as itself
itself : (b : ℕ) → nat_eq b LF ≡ false → nat_eq b QUOTE ≡ false → nat_eq b BACKSLASH ≡ false → escaped_byte b ≡ b ∷ []
itself b no_feed no_quote no_slash =
    ap (λ t. if t then codes "\\n" else
    if nat_eq b QUOTE || nat_eq b BACKSLASH then BACKSLASH ∷ b ∷ [] else b ∷ []) no_feed
    ∙ ap (λ t. if t || nat_eq b BACKSLASH then BACKSLASH ∷ b ∷ [] else b ∷ []) no_quote
    ∙ ap (λ t. if t then BACKSLASH ∷ b ∷ [] else b ∷ []) no_slash

-- the escape of a byte is never empty
some_byte : (b : ℕ) → (c : ℕ) × ((more : List ℕ) × (escaped_byte b ≡ c ∷ more))
some_byte b =
    bool_cases (nat_eq b LF)
    (λ is. (
      BACKSLASH,
      (
        SMALL_N ∷ [],
        ap (λ t. if t then codes "\\n" else
            if nat_eq b QUOTE || nat_eq b BACKSLASH then BACKSLASH ∷ b ∷ [] else b ∷ []) is,
      ),
    ))
    (λ no_feed. bool_cases (nat_eq b QUOTE || nat_eq b BACKSLASH)
    (λ is. (
      BACKSLASH,
      (
        b ∷ [],
        ap (λ t. if t then codes "\\n" else
            if nat_eq b QUOTE || nat_eq b BACKSLASH then BACKSLASH ∷ b ∷ [] else b ∷ []) no_feed
            ∙ ap (λ t. if t then BACKSLASH ∷ b ∷ [] else b ∷ []) is,
      ),
    ))
    (λ is. (
      b,
      (
        [],
        ap (λ t. if t then codes "\\n" else
            if nat_eq b QUOTE || nat_eq b BACKSLASH then BACKSLASH ∷ b ∷ [] else b ∷ []) no_feed
            ∙ ap (λ t. if t then BACKSLASH ∷ b ∷ [] else b ∷ []) is,
      ),
    )))

-- an escaped text with the final quote is never empty
first : (text rest : List ℕ) → (c : ℕ) × ((more : List ℕ) × (escape text ++ QUOTE ∷ rest ≡ c ∷ more))
first [] rest = (QUOTE, (rest, refl))
first (b ∷ text) rest =
    let f = some_byte b in
    (f.0, ((f.1.0 ++ escape text) ++ QUOTE ∷ rest, ap (λ t. (t ++ escape text) ++ QUOTE ∷ rest) f.1.1))

pub read_as_meant : IsReadAsMeant
read_as_meant [] [] = refl
read_as_meant [] (c ∷ rest) = refl
read_as_meant (b ∷ text) rest =
    bool_cases (nat_eq b LF)
    (λ is. subst (λ v. read_quoted (escape (v ∷ text) ++ QUOTE ∷ rest) ≡ Some (v ∷ text, rest))
    (sym (eqb-true b LF is)) (ap (before LF) (read_as_meant text rest)))
    (λ no_feed. bool_cases (nat_eq b QUOTE)
    (λ is. subst (λ v. read_quoted (escape (v ∷ text) ++ QUOTE ∷ rest) ≡ Some (v ∷ text, rest))
    (sym (eqb-true b QUOTE is)) (ap (before QUOTE) (read_as_meant text rest)))
    (λ no_quote. bool_cases (nat_eq b BACKSLASH)
    (λ is. subst (λ v. read_quoted (escape (v ∷ text) ++ QUOTE ∷ rest) ≡ Some (v ∷ text, rest))
    (sym (eqb-true b BACKSLASH is)) (ap (before BACKSLASH) (read_as_meant text rest)))
    (λ no_slash.
    let f = first text rest in
    ap (λ t. read_quoted ((t ++ escape text) ++ QUOTE ∷ rest)) (itself b no_feed no_quote no_slash)
    ∙ plain b (escape text ++ QUOTE ∷ rest) no_quote no_slash f.0 f.1.0 f.1.1
    ∙ ap (before b) (read_as_meant text rest))))
