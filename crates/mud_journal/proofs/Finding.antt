-- The journal found in bytes, and the rejected bytes.
use Rattle.std.proofs.Common.{◌≡◌, ◌≢◌, ◌⊎◌, inl, inr, ℕ, ◌+◌, ◌-◌, ◌<◌, ◌≤◌, Bool, true, false, List, [], ◌++◌}
use Rattle.std.proofs.Common.{length, take, drop, get_or, refl, sym, ◌∙◌, ap, arith, subst, append_assoc}
use Rattle.std.proofs.Common.{Option, Some, None}
use Rattle.std.specs.Prelude.{All, IfSome}
use Rattle.std.specs.Io.KnownBytes.{Consumes, Keeps}
use Rattle.std.proofs.lemmas.Bool.{true≢false}
use Rattle.std.proofs.Math.Seq.{take-append_seam}
use Rattle.std.proofs.lemmas.List.{append-nil, append_cancel_left, length-append, take_all, drop_all, length-take}
use Rattle.std.proofs.lemmas.List.{length-drop, get_or-take, get_or-drop}
use Rattle.std.proofs.lemmas.List.Elements.{All-nil, All-get_or, All-from_get_or}
use Rattle.mud_key.specs.declared.codes.TheConstants.{LF}
use Rattle.mud_key.specs.Lines.{HasNoLineFeed}
use Rattle.mud_chron.specs.declared.format.Format.{Format}
use Rattle.mud_chron.specs.declared.format.Format.TheVariants.{One, Two}
use Rattle.mud_chron.specs.Entry.{Entry}
use Rattle.mud_chron.specs.Text.{line_feed, head_line, entries_text, journal_text}
use Rattle.mud_chron.specs.History.{AreEntriesOf}
use Rattle.mud_chron.specs.Faults.{IsNoHistory}
use Rattle.mud_chron.specs.Fronts.{Recovers, EndsInHead, EndsInLine}
use Rattle.mud_chron.proofs.Zeros.{journal_has_no_zeros}
use Rattle.mud_journal.specs.declared.fault.OpenFault.{OpenFault}
use Rattle.mud_journal.specs.declared.fault.OpenFault.TheVariants as fault
use Rattle.mud_chron.specs.Zeros.{up_to_zero}
use Rattle.mud_journal.specs.Found.{IsBlank, HasJournal, Finds}
use Rattle.mud_journal.specs.OpenFaults.{IsRefusedIn, IsRefusedAs, IsUnfoundAs}
use Rattle.mud_chron.proofs.BeforeZero.{HasNoZero, begin, behind_text}

-- ---- the first line

abbrev pub head_text : Format → List ℕ
head_text format = head_line format ++ line_feed

none_of : (format : Format) → AreEntriesOf format []
none_of format = record { each = tt; few = omega arith }

head_has_no_zero : (format : Format) → HasNoZero (head_text format)
head_has_no_zero One = journal_has_no_zeros One [] (none_of One)
head_has_no_zero Two = journal_has_no_zeros Two [] (none_of Two)

-- bytes that begin with a first line do so before the first zero
pub no_history : (bytes : List ℕ) → IsNoHistory (up_to_zero bytes) → IsNoHistory bytes
no_history bytes none format rest is =
    none format (up_to_zero rest) (ap up_to_zero is ∙ behind_text (head_text format) rest (head_has_no_zero format))

front : (head rest : List ℕ) (n : ℕ) → n ≡ length head → take n (head ++ rest) ≡ head
front head rest n is = ap (λ k. take k (head ++ rest)) is ∙ take-append_seam head rest

head_front : (format : Format) (rest : List ℕ) → take 14 (head_text format ++ rest) ≡ head_text format
head_front One rest = front (head_text One) rest 14 refl
head_front Two rest = front (head_text Two) rest 14 refl

-- a first line has a line feed
ends_head : (format : Format) → HasNoLineFeed (head_text format) → ⊥
ends_head One none = All-get_or (λ b. b ≢ LF) (head_text One) 13 0 (omega arith) none refl
ends_head Two none = All-get_or (λ b. b ≢ LF) (head_text Two) 13 0 (omega arith) none refl

-- a file in which no journal was begun has no first line
pub blank_begins_nothing : (bytes : List ℕ) → IsBlank bytes → IsNoHistory bytes
blank_begins_nothing bytes blank format rest is =
    ends_head format (subst HasNoLineFeed (ap (take 14) is ∙ head_front format rest) blank.unended)

-- if as many bytes as a first line has are not a first line, the bytes that continue them do not begin with one
pub none_behind : (first rest : List ℕ) → length first ≡ 14 → IsNoHistory first → IsNoHistory (first ++ rest)
none_behind first rest long none format more is =
    none format [] (sym (front first rest 14 (sym long)) ∙ ap (take 14) is ∙ head_front format more
    ∙ sym (append-nil (head_text format)))

pub blank_front : (first rest : List ℕ) → length first ≡ 14 → IsBlank (first ++ rest) → IsBlank first
blank_front first rest long blank = record {
  unended = subst HasNoLineFeed (front first rest 14 (sym long) ∙ sym (take_all 14 first (omega (arith, long))))
      blank.unended;
  blank = subst (All (λ b. b ≡ 0)) (sym (drop_all 14 first (omega (arith, long)))) (All-nil (λ b. b ≡ 0));
}

-- ---- files in which no journal was begun

-- the byte at a place of a blank file
abbrev pub IsBlankAt : List ℕ → ℕ → Type 0
IsBlankAt bytes k = (k < 14 → get_or bytes k 0 ≢ LF) × (14 ≤ k → get_or bytes k 0 ≡ 0)

pub blank_from : (bytes : List ℕ) → ((k : ℕ) → k < length bytes → IsBlankAt bytes k) → IsBlank bytes
blank_from bytes each = record {
  unended = All-from_get_or (λ b. b ≢ LF) (take 14 bytes) 0 (λ k lt.
      let low : k < 14 = omega (arith, lt, length-take 14 bytes) in
      let within : k < length bytes = omega (arith, lt, length-take 14 bytes) in
      subst (λ b. b ≢ LF) (sym (get_or-take 14 bytes k 0 low)) ((each k within).0 low));
  blank = All-from_get_or (λ b. b ≡ 0) (drop 14 bytes) 0 (λ k lt.
      let within : 14 + k < length bytes = omega (arith, lt, length-drop 14 bytes) in
      get_or-drop 14 bytes k 0 ∙ (each (14 + k) within).1 (omega arith));
}

pub blank_at : (bytes : List ℕ) (k : ℕ) → k < length bytes → IsBlank bytes → IsBlankAt bytes k
blank_at bytes k lt blank = (before, after)
  where
    before : k < 14 → get_or bytes k 0 ≢ LF
    before low =
        subst (λ b. b ≢ LF) (get_or-take 14 bytes k 0 low)
        (All-get_or (λ b. b ≢ LF) (take 14 bytes) k 0 (omega (arith, lt, low, length-take 14 bytes)) blank.unended)

    after : 14 ≤ k → get_or bytes k 0 ≡ 0
    after high =
        let back : 14 + (k - 14) ≡ k = omega (arith, high) in
        ap (λ n. get_or bytes n 0) (sym back) ∙ sym (get_or-drop 14 bytes (k - 14) 0)
        ∙ All-get_or (λ b. b ≡ 0) (drop 14 bytes) (k - 14) 0 (omega (arith, lt, high, length-drop 14 bytes))
        blank.blank

-- ---- the journal

-- the kept prefix of bytes in which a journal was begun
pub record IsKept (bytes : List ℕ) (entries : List Entry) (keep : ℕ) : Type 0 where
  pub text : take keep bytes ≡ journal_text Two entries
  pub within : keep ≤ length bytes
  pub found : HasJournal bytes entries (length bytes - keep)

pub kept_of : (bytes : List ℕ) (entries : List Entry) (keep : ℕ) → Recovers (up_to_zero bytes) Two entries keep
    → keep ≢ 0 → IsKept bytes entries keep
kept_of bytes entries keep r some = go r.ends
  where
    text : List ℕ
    text = journal_text Two entries

    go : EndsInHead (up_to_zero bytes) Two entries keep ⊎ EndsInLine (up_to_zero bytes) Two entries keep
        → IsKept bytes entries keep
    go (inl (unended, begins, format_is, none, keep_is)) = absurd (some keep_is)
    go (inr (torn, spelled, unended, keep_is)) =
        let b = begin bytes in
        let all : bytes ≡ text ++ (torn ++ b.0) =
        sym b.1 ∙ ap (λ t. t ++ b.0) spelled ∙ append_assoc text torn b.0 in
        let same : up_to_zero (torn ++ b.0) ≡ torn =
        append_cancel_left text (up_to_zero (torn ++ b.0)) torn
        (sym (behind_text text (torn ++ b.0) (journal_has_no_zeros Two entries r.allowed)) ∙ sym (ap up_to_zero all)
        ∙ spelled) in
        let long : length bytes ≡ length text + length (torn ++ b.0) =
        ap length all ∙ length-append text (torn ++ b.0) in
        record {
          text = ap (take keep) all ∙ front text (torn ++ b.0) keep keep_is;
          within = omega (arith, long, keep_is);
          found = record {
            allowed = r.allowed;
            behind = torn ++ b.0;
            spelled = all;
            unended = subst HasNoLineFeed (sym same) unended;
            counted = omega (arith, long, keep_is);
          };
        }

-- the text of a journal is at least as long as a first line
pub unbegun : (bytes : List ℕ) (entries : List Entry) (keep : ℕ) → Recovers bytes Two entries keep → keep ≡ 0
    → IsNoHistory bytes
unbegun bytes entries keep r none = go r.ends
  where
    go : EndsInHead bytes Two entries keep ⊎ EndsInLine bytes Two entries keep → IsNoHistory bytes
    go (inl (unended, begins, format_is, empty, keep_is)) = unended
    go (inr (torn, spelled, unended, keep_is)) =
        absurd (omega (arith, none, keep_is, length-append (head_text Two) (entries_text 1 entries)))

-- ---- rejected bytes

-- the fault of the bytes before the first zero is that of all bytes, if a journal was begun in them
pub refused_as : (bytes : List ℕ) (fault : OpenFault) → (IsBlank bytes → ⊥) → IsRefusedIn (up_to_zero bytes) fault
    → IsRefusedAs bytes fault
refused_as bytes fault.NotHistory other none = (no_history bytes none, other)
refused_as bytes fault.OutOfMemory other h = h
refused_as bytes (fault.File why) other h = h
refused_as bytes fault.NotPlain other h = h
refused_as bytes fault.InUse other h = h
refused_as bytes fault.Whole other h = h
refused_as bytes fault.Old other h = h
refused_as bytes (fault.Line n) other h = h
refused_as bytes fault.TooLong other h = h

-- as many bytes as a first line has begin with none, as `starts_with` says
pub none_of_two : (bytes one two : List ℕ) (r q : Bool) → one ≡ head_text One → two ≡ head_text Two
    → ((rest : List ℕ) → bytes ≡ one ++ rest → r ≡ true) → ((rest : List ℕ) → bytes ≡ two ++ rest → q ≡ true)
    → r ≡ false → q ≡ false → IsNoHistory bytes
none_of_two bytes one two r q one_is two_is has_one has_two no_one no_two One rest is =
    true≢false (sym (has_one rest (is ∙ ap (λ t. t ++ rest) (sym one_is))) ∙ no_one)
none_of_two bytes one two r q one_is two_is has_one has_two no_one no_two Two rest is =
    true≢false (sym (has_two rest (is ∙ ap (λ t. t ++ rest) (sym two_is))) ∙ no_two)

-- a reader whose first bytes are foreign
pub foreign : (known left : Option (List ℕ)) (first : List ℕ) (count : ℕ) → length first ≡ 14 → count ≡ 14
    → IsNoHistory first → (IsBlank first → ⊥) → Consumes known left (take count first)
    → IfSome known (λ bytes. IsRefusedAs bytes fault.NotHistory)
foreign None left first count long all none other takes = tt
foreign (Some bytes) None first count long all none other takes = absurd takes
foreign (Some bytes) (Some rest) first count long all none other takes =
    let whole : take count first ≡ first = take_all count first (omega (arith, long, all)) in
    let is : bytes ≡ first ++ rest = takes ∙ ap (λ t. t ++ rest) whole in (
      subst IsNoHistory (sym is) (none_behind first rest long none),
      λ blank. other (blank_front first rest long (subst IsBlank is blank)),
    )

-- the first bytes of a reader, and the remaining ones
pub all_of : (known left : Option (List ℕ)) (first bytes : List ℕ) → Consumes known left first
    → IfSome left (λ rest. bytes ≡ first ++ rest) → IfSome known (λ all. bytes ≡ all)
all_of None left first bytes takes more = tt
all_of (Some all) None first bytes takes more = absurd takes
all_of (Some all) (Some rest) first bytes takes more = more ∙ sym takes

-- nothing was read
pub takes_none : (known left : Option (List ℕ)) (first : List ℕ) → Keeps known left → Consumes known left (take 0 first)
takes_none None left first kept = tt
takes_none (Some all) None first kept = absurd kept
takes_none (Some all) (Some rest) first kept = sym kept

-- the journal found in all bytes of a reader
pub found_in_all : (known : Option (List ℕ)) (bytes : List ℕ) (entries : List Entry) (torn : ℕ)
    → IfSome known (λ all. bytes ≡ all) → Finds bytes entries torn
    → IfSome known (λ all. Finds all entries torn)
found_in_all None bytes entries torn is found = tt
found_in_all (Some all) bytes entries torn is found = subst (λ b. Finds b entries torn) is found

pub refused_all : (known : Option (List ℕ)) (bytes : List ℕ) (fault : OpenFault)
    → IfSome known (λ all. bytes ≡ all) → IsRefusedAs bytes fault → IsUnfoundAs known fault
refused_all None bytes fault.OutOfMemory is h = tt
refused_all None bytes (fault.File why) is h = tt
refused_all None bytes fault.NotPlain is h = tt
refused_all None bytes fault.InUse is h = tt
refused_all None bytes fault.NotHistory is h = tt
refused_all None bytes fault.Whole is h = tt
refused_all None bytes fault.Old is h = tt
refused_all None bytes (fault.Line n) is h = tt
refused_all None bytes fault.TooLong is h = tt
refused_all (Some all) bytes fault.OutOfMemory is h = tt
refused_all (Some all) bytes (fault.File why) is h = tt
refused_all (Some all) bytes fault.NotPlain is h = absurd h
refused_all (Some all) bytes fault.InUse is h = absurd h
refused_all (Some all) bytes fault.NotHistory is h = subst (λ b. IsRefusedAs b fault.NotHistory) is h
refused_all (Some all) bytes fault.Whole is h = subst (λ b. IsRefusedAs b fault.Whole) is h
refused_all (Some all) bytes fault.Old is h = subst (λ b. IsRefusedAs b fault.Old) is h
refused_all (Some all) bytes (fault.Line n) is h = subst (λ b. IsRefusedAs b (fault.Line n)) is h
refused_all (Some all) bytes fault.TooLong is h = subst (λ b. IsRefusedAs b fault.TooLong) is h
