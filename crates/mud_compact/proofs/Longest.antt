-- The longest readable prefix of damaged bytes.
use Rattle.std.proofs.Common.{◌≡◌, ◌≢◌, ℕ, zero, suc, ◌+◌, ◌<◌, ◌≤◌, ◌⊎◌, inl, inr, List, [], ◌∷◌, ◌++◌}
use Rattle.std.proofs.Common.{length, take, drop, refl, sym, ◌∙◌, ap, arith, subst, append_assoc}
use Rattle.std.specs.List.{AllByRecursion}
use Rattle.std.proofs.lemmas.Bool.{cases_lt}
use Rattle.std.proofs.lemmas.List.{append-nil, length-append, take_all, take-append-le, take-append-drop}
use Rattle.std.proofs.lemmas.List.Elements.{recursion_from_All}
use mathlib.Core.List.{IsPrefix}
use Rattle.mud_key.specs.declared.codes.TheConstants.{LF}
use Rattle.mud_chron.specs.declared.format.Format.{Format}
use Rattle.mud_chron.specs.declared.format.Format.TheVariants.{One, Two}
use Rattle.mud_chron.specs.Entry.{Entry}
use Rattle.mud_chron.specs.Text.{line_feed, head_line, entry_line, entries_text, journal_text}
use Rattle.mud_chron.specs.Fronts.{EndsInHead, EndsInLine, Recovers}
use Rattle.mud_chron.proofs.Fronts as fronts
use Rattle.mud_compact.specs.Front.{BeginsWith, IsLongestFront}
use Rattle.mud_compact.specs.inner.Broken.{IsBroken, IsFaulty}

abbrev head_text : Format → List ℕ
head_text format = head_line format ++ line_feed

length_head : (format : Format) → length (head_text format) ≡ 14
length_head One = refl
length_head Two = refl

-- ---- texts

-- a text that ends with a line feed
record Ended (text : List ℕ) : Type 0 where
  front : List ℕ
  is : text ≡ front ++ LF ∷ []

ended : (front : List ℕ) (version : ℕ) (es : List Entry) → Ended ((front ++ line_feed) ++ entries_text version es)
ended front version [] = record { front = front; is = append-nil (front ++ line_feed) }
ended front version (e ∷ es) =
    let begun : List ℕ = front ++ line_feed in
    let line : List ℕ = entry_line version e in
    let rest : List ℕ = entries_text (version + 1) es in
    let more = ended (begun ++ line) (version + 1) es in
    record {
      front = more.front;
      is =
          sym (append_assoc begun (line ++ line_feed) rest)
          ∙ ap (λ t. t ++ rest) (sym (append_assoc begun line line_feed)) ∙ more.is;
    }

-- a prefix of a longer text begins with the text's first part
take_past : (h t : List ℕ) (n : ℕ) → length h ≤ n → (r : List ℕ) × (take n (h ++ t) ≡ h ++ r)
take_past [] t n few = (take n t, refl)
take_past (b ∷ h) t zero few = absurd (omega (arith, few))
take_past (b ∷ h) t (suc n) few =
    let more = take_past h t n (omega (arith, few)) in (more.0, ap (λ l. b ∷ l) more.1)

-- a line feed after the kept bytes belongs to the torn line
in_torn : (x rest kept torn : List ℕ) (n : ℕ) → AllByRecursion (λ b. b ≢ LF) torn
    → take n (x ++ LF ∷ rest) ≡ kept ++ torn → length kept ≤ length x → length x < n → ⊥
in_torn x rest kept torn zero plain is few less = absurd (omega (arith, less))
in_torn [] rest [] torn (suc n) plain is few less =
    (subst (AllByRecursion (λ b. b ≢ LF)) (sym is) plain).0 refl
in_torn (b ∷ x) rest [] torn (suc n) plain is few less =
    let all = subst (AllByRecursion (λ b. b ≢ LF)) (sym is) plain in
    in_torn x rest [] (take n (x ++ LF ∷ rest)) n all.1 refl (omega arith) (omega (arith, less))
in_torn [] rest (a ∷ kept) torn (suc n) plain is few less = absurd (omega (arith, few))
in_torn (b ∷ x) rest (a ∷ kept) torn (suc n) plain is few less =
    let tail : take n (x ++ LF ∷ rest) ≡ kept ++ torn = cc in
    in_torn x rest kept torn n plain tail (omega (arith, few)) (omega (arith, less))

-- a journal begins with its first line
begun : (format : Format) (entries : List Entry) (bytes rest : List ℕ) → bytes ≡ journal_text format entries ++ rest
    → head_text format ++ (entries_text 1 entries ++ rest) ≡ bytes
begun format entries bytes rest spelled =
    sym (append_assoc (head_text format) (entries_text 1 entries) rest) ∙ sym spelled

long : (format : Format) (entries : List Entry)
    → length (journal_text format entries) ≡ 14 + length (entries_text 1 entries)
long format entries =
    omega (arith, length_head format, length-append (head_text format) (entries_text 1 entries))

-- a prefix of the bytes is no longer than they are
pub front_within : (bytes : List ℕ) (entries : List Entry) (keep : ℕ) → BeginsWith bytes entries keep
    → keep ≤ length bytes
front_within bytes entries keep b =
    omega (
      arith,
      b.keep_is,
      ap length b.front.1,
      length-append (journal_text b.format entries) b.front.0,
    )

-- ---- no journal that begins the bytes is longer

-- in the first n bytes, no journal is longer than the one found there
no_longer : (bytes : List ℕ) (format : Format) (entries : List Entry) (keep n : ℕ)
    → Recovers (take n bytes) format entries keep
    → (others : List Entry) (k : ℕ) → BeginsWith bytes others k → k ≤ n → k ≤ keep
no_longer bytes format entries keep n r others k b fits = go r.ends (cases_lt keep k)
  where
    text : List ℕ
    text = journal_text b.format others

    rest : List ℕ
    rest = b.front.0

    end : Ended text
    end = ended (head_line b.format) 1 others

    more : List ℕ
    more = entries_text 1 others ++ rest

    headed : (s : List ℕ) × (take n (head_text b.format ++ more) ≡ head_text b.format ++ s)
    headed =
        take_past (head_text b.format) more n
        (omega (arith, fits, b.keep_is, long b.format others, length_head b.format))

    by_end : end.front ++ LF ∷ rest ≡ bytes
    by_end = sym (append_assoc end.front (LF ∷ []) rest) ∙ ap (λ t. t ++ rest) (sym end.is) ∙ b.front.1

    go : EndsInHead (take n bytes) format entries keep ⊎ EndsInLine (take n bytes) format entries keep
        → (keep < k) ⊎ (k ≤ keep) → k ≤ keep
    go e (inr few) = few
    go (inl (unended, begins, format_is, none, keep_is)) (inl less) =
        absurd (unended b.format headed.0
        (ap (take n) (sym (begun b.format others bytes rest (sym b.front.1))) ∙ headed.1))
    go (inr (torn, spelled, unended, keep_is)) (inl less) =
        let size : length text ≡ length end.front + 1 =
        omega (arith, ap length end.is, length-append end.front (LF ∷ [])) in
        absurd (in_torn end.front rest (journal_text format entries) torn n
        (recursion_from_All (λ c. c ≢ LF) torn unended) (ap (take n) by_end ∙ spelled)
        (omega (arith, keep_is, less, b.keep_is, size)) (omega (arith, fits, b.keep_is, size)))

-- no journal extends over bytes that can't be read
before_fault : (bytes : List ℕ) (n : ℕ) → IsFaulty (take n bytes) → (others : List Entry) (k : ℕ)
    → BeginsWith bytes others k → k < n
before_fault bytes n f others k b = go (cases_lt k n)
  where
    go : (k < n) ⊎ (n ≤ k) → k < n
    go (inl less) = less
    go (inr more) =
        absurd (fronts.faults_are_no_fronts (take n bytes) f.fault f.is b.format others n b.allowed
        (ap (take n) (sym b.front.1)
        ∙ take-append-le n (journal_text b.format others) b.front.0 (omega (arith, more, b.keep_is))))

-- ---- the result

begins_of : (bytes : List ℕ) (format : Format) (entries : List Entry) (keep n : ℕ)
    → Recovers (take n bytes) format entries keep → (keep ≡ 0 → ⊥) → BeginsWith bytes entries keep
begins_of bytes format entries keep n r some = go r.ends
  where
    go : EndsInHead (take n bytes) format entries keep ⊎ EndsInLine (take n bytes) format entries keep
        → BeginsWith bytes entries keep
    go (inl (unended, begins, format_is, none, keep_is)) = absurd (some keep_is)
    go (inr (torn, spelled, unended, keep_is)) = record {
      format = format;
      allowed = r.allowed;
      front = (
        torn ++ drop n bytes,
        sym (append_assoc (journal_text format entries) torn (drop n bytes))
            ∙ ap (λ t. t ++ drop n bytes) (sym spelled) ∙ take-append-drop n bytes,
      );
      keep_is = keep_is;
    }

-- bytes that are readable as a whole
pub whole_longest : (bytes : List ℕ) (format : Format) (entries : List Entry) (keep : ℕ)
    → Recovers bytes format entries keep → (keep ≡ 0 → ⊥) → IsLongestFront bytes entries keep
whole_longest bytes format entries keep r some =
    let r' =
    subst (λ b. Recovers b format entries keep) (sym (take_all (length bytes) bytes (omega arith))) r in
    record {
      begins = begins_of bytes format entries keep (length bytes) r' some;
      longest = λ others k b.
          no_longer bytes format entries keep (length bytes) r' others k b (front_within bytes others k b);
    }

-- ---- broken bytes

pub broken_some : (bytes : List ℕ) → IsBroken bytes → 0 < length bytes
broken_some bytes b =
    omega (arith, length_head b.format, ap length b.head.1, length-append (head_text b.format) b.head.0)

-- empty bytes have no entries
pub nothing_found : (bytes : List ℕ) (entries : List Entry) → entries ≡ [] → Recovers (take 0 bytes) Two entries 0
nothing_found bytes entries none =
    fronts.found_in_head (take 0 bytes) entries
    (λ format rest e. omega (arith, ap length e, length-append (head_text format) rest, length_head format))
    (Two, (head_text Two, refl)) none

pub whole_faulty : (bytes : List ℕ) → IsBroken bytes → IsFaulty (take (length bytes) bytes)
whole_faulty bytes b = subst IsFaulty (sym (take_all (length bytes) bytes (omega arith))) b.faulty

-- the prefix found before the byte from which the bytes can't be read
pub found_longest : (bytes : List ℕ) (format : Format) (entries : List Entry) (keep low high : ℕ) → IsBroken bytes
    → Recovers (take low bytes) format entries keep → IsFaulty (take high bytes) → high ≤ low + 1
    → IsLongestFront bytes entries keep
found_longest bytes format entries keep low high broken r f near = record {
  begins = begins_of bytes format entries keep low r some;
  longest = longest;
}
  where
    longest : (others : List Entry) (k : ℕ) → BeginsWith bytes others k → k ≤ keep
    longest others k b =
        no_longer bytes format entries keep low r others k b
        (omega (arith, near, before_fault bytes high f others k b))

    head : BeginsWith bytes [] (length (journal_text broken.format []))
    head = record {
      format = broken.format;
      allowed = record { each = tt; few = omega arith };
      front = (
        broken.head.0,
        ap (λ t. t ++ broken.head.0) (append-nil (head_text broken.format)) ∙ broken.head.1,
      );
      keep_is = refl;
    }

    some : keep ≡ 0 → ⊥
    some none = omega (arith, none, long broken.format [], longest [] (length (journal_text broken.format [])) head)
