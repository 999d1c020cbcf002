-- The possible contents of a journal after a crash.
use Rattle.std.proofs.Common.{◌≡◌, ◌≢◌, ℕ, suc, ◌+◌, ◌≤◌, ◌<◌, ◌⊎◌, inl, inr, List, [], ◌∷◌, ◌++◌, length, take}
use Rattle.std.proofs.Common.{get_or}
use Rattle.std.proofs.Common.{refl, sym, ◌∙◌, ap, arith, subst, append_assoc}
use Rattle.std.specs.Prelude.{◌^◌, ◌%◌}
use Rattle.std.specs.Fmt.{decimal}
use Rattle.std.specs.List.{AllByRecursion}
use Rattle.std.proofs.lemmas.Fmt.{decimal_by_steps}
use Rattle.std.proofs.lemmas.List.{take-take, take_all, length-take, length-append, append-nil}
use Rattle.std.proofs.lemmas.List.Elements.{All-from_recursion}
use Rattle.std.proofs.lemmas.Bool.{cases_lt, cases_eq}
use mathlib.Core.List.{IsPrefix}
use Rattle.mud_key.specs.declared.codes.TheConstants.{LF}
use Rattle.mud_chron.specs.declared.fault.ChronFault.TheVariants as chron
use Rattle.mud_chron.specs.declared.format.Format.TheVariants.{One, Two}
use Rattle.mud_chron.specs.Entry.{Entry}
use Rattle.mud_chron.specs.Text.{line_feed, entries_text, end_line, journal_text}
use Rattle.mud_chron.specs.History.{IsEntryOf, AreEntriesOf, SpellsHistory}
use Rattle.mud_chron.specs.Faults.{HasOtherLine}
use Rattle.mud_chron.specs.Fronts.{Recovers, EndsInHead, EndsInLine}
use Rattle.mud_chron.proofs.Zeros.{journal_has_no_zeros}
use Rattle.mud_chron.proofs.Fronts as fronts
use Rattle.mud_journal.specs.declared.fault.OpenFault.{OpenFault}
use Rattle.mud_journal.specs.declared.fault.OpenFault.TheVariants as fault
use Rattle.mud_journal.specs.Crash.{AreThere, IsLeftOf}
use Rattle.mud_chron.specs.Zeros.{up_to_zero}
use Rattle.mud_journal.specs.Found.{HasJournal, Finds}
use Rattle.mud_journal.specs.Laws.{IsAlwaysRead, NothingIsLost, IsRefusedBehind, WhateverFollows, OnAnyDisk}
use Rattle.mud_journal.specs.OpenFaults.{IsRefusedAs}
use Rattle.mud_chron.proofs.BeforeZero.{to_zero, past, behind_text}
use Rattle.mud_journal.proofs.Finding.{head_text, blank_begins_nothing}

-- a prefix of the text, with at least this many bytes
record IsFront (bytes text : List ℕ) (least : ℕ) : Type 0 where
  n : ℕ
  long : least ≤ n
  cut : bytes ≡ take n text

-- a prefix of a prefix
front_of_front : (m n least : ℕ) (text : List ℕ) → least ≤ m → least ≤ n → IsFront (take m (take n text)) text least
front_of_front m n least text long longer = go (cases_lt m n)
  where
    go : (m < n) ⊎ (n ≤ m) → IsFront (take m (take n text)) text least
    go (inl less) = record { n = m; long = long; cut = take-take m n text (omega (arith, less)) }
    go (inr more) = record {
      n = n;
      long = longer;
      cut = take_all m (take n text) (omega (arith, more, length-take n text));
    }

-- ---- holes

-- bytes with holes, up to the first hole, are a prefix of the written text
up_to_hole : (written bytes : List ℕ) → AreThere written bytes → (n : ℕ) × (up_to_zero bytes ≡ take n written)
up_to_hole written [] there = (0, refl)
up_to_hole [] (b ∷ bytes) (hole, there) = (0, to_zero b bytes hole)
up_to_hole (a ∷ written) (b ∷ bytes) (is, there) = go (cases_eq b 0) is (up_to_hole written bytes there)
  where
    go : (b ≡ 0) ⊎ (b ≢ 0) → (b ≡ a) ⊎ (b ≡ 0) → ((n : ℕ) × (up_to_zero bytes ≡ take n written))
        → (n : ℕ) × (up_to_zero (b ∷ bytes) ≡ take n (a ∷ written))
    go (inl hole) is rest = (0, to_zero b bytes hole)
    go (inr some) (inr hole) rest = absurd (some hole)
    go (inr some) (inl same) (n, more) =
        (suc n, past b bytes some ∙ ap (λ t. b ∷ t) more ∙ ap (λ c. c ∷ take n written) same)

first_part : (synced added : List Entry) → AreEntriesOf Two (synced ++ added) → AreEntriesOf Two synced
first_part synced added are = record {
  each = each synced are.each;
  few = omega (arith, are.few, length-append synced added);
}
  where
    each : (es : List Entry) → AllByRecursion (IsEntryOf Two) (es ++ added) → AllByRecursion (IsEntryOf Two) es
    each [] all = tt
    each (e ∷ es) all = (all.0, each es all.1)

-- the contents after a crash begin with the synced text
text_front : (bytes : List ℕ) (synced added : List Entry) → IsLeftOf bytes synced added
    → (behind : List ℕ) × (bytes ≡ journal_text Two synced ++ behind)
text_front bytes synced added h =
    (h.left.0.0, sym h.left.0.1 ∙ ap (λ t. t ++ h.left.0.0) h.front.3)

-- and before the first zero with a first line
up_front : (bytes : List ℕ) (synced added : List Entry) → IsLeftOf bytes synced added
    → (behind : List ℕ) × (up_to_zero bytes ≡ head_text Two ++ behind)
up_front bytes synced added h =
    let text : List ℕ = journal_text Two synced in
    let b = text_front bytes synced added h in (
      entries_text 1 synced ++ up_to_zero b.0,
      ap up_to_zero b.1
          ∙ behind_text text b.0 (journal_has_no_zeros Two synced (first_part synced added h.allowed))
          ∙ append_assoc (head_text Two) (entries_text 1 synced) (up_to_zero b.0),
    )

-- the readable part is a prefix of the written text that contains the synced text
left_front : (bytes : List ℕ) (synced added : List Entry) → IsLeftOf bytes synced added
    → IsFront (up_to_zero bytes) (journal_text Two (synced ++ added)) (length (journal_text Two synced))
left_front bytes synced added h =
    let text : List ℕ = journal_text Two synced in
    let all : List ℕ = journal_text Two (synced ++ added) in
    let b = text_front bytes synced added h in
    let f = up_to_hole h.disk.appended bytes h.left.1 in
    let up : up_to_zero bytes ≡ text ++ up_to_zero b.0 =
    ap up_to_zero b.1 ∙ behind_text text b.0 (journal_has_no_zeros Two synced (first_part synced added h.allowed)) in
    let far : length text ≤ f.0 =
    omega (
      arith,
      ap length up,
      length-append text (up_to_zero b.0),
      ap length f.1,
      length-take f.0 h.disk.appended,
    ) in
    let g = front_of_front f.0 h.front.0 (length text) all far h.front.1 in
    record { n = g.n; long = g.long; cut = f.1 ∙ ap (take f.0) h.front.2 ∙ g.cut }

-- ---- rejected bytes

abbrev IsPlain : List ℕ → Type 0
IsPlain text = AllByRecursion (λ b. b ≢ LF) text

plain_digits : (ds : List ℕ) (d : ℕ) → IsPlain ds → d ≢ LF → IsPlain (ds ++ d ∷ [])
plain_digits [] d plain is = (is, tt)
plain_digits (b ∷ ds) d plain is = (plain.0, plain_digits ds d plain.1 is)

plain_decimal : (n : ℕ) → n < 2 ^ 64 → IsPlain (decimal n)
plain_decimal n fits = decimal_by_steps (λ n ds. IsPlain ds) (λ n small. (λ is. absurd (omega (arith, is)), tt))
    (λ n ds big plain. plain_digits ds (48 + n % 10) plain (λ is. absurd (omega (arith, is)))) n fits

plain_end : (count : ℕ) → count < 2 ^ 64 → IsPlain (end_line count)
unfolding end_line
plain_end count fits =
    let far : (b : ℕ) → LF < b → b ≢ LF = λ b more is. absurd (omega (arith, more, is)) in (
      far 101 (omega arith),
      (
        far 110 (omega arith),
        (
          far 100 (omega arith),
          (
            far 32 (omega arith),
            plain_decimal count fits,
          ),
        ),
      ),
    )

-- the last line of a history is a line that is not the next entry's
whole_is_other : (bytes : List ℕ) (entries : List Entry) → SpellsHistory bytes entries
    → HasOtherLine bytes (length entries + 2)
whole_is_other bytes entries (format, allowed, is) = record {
  format = format;
  entries = entries;
  line = end_line (length entries);
  rest = [];
  begins = record {
    allowed = allowed;
    spelled = is
        ∙ ap (λ t. journal_text format entries ++ t) (sym (append-nil (end_line (length entries) ++ line_feed)));
  };
  whole = All-from_recursion (λ b. b ≢ LF) (end_line (length entries))
      (plain_end (length entries) (omega (arith, allowed.few)));
  other = fronts.end_is_other format (length entries) (end_line (length entries)) allowed.few refl;
  number = refl;
}

-- the two first lines differ
no_two_heads : (rest more : List ℕ) → head_text One ++ rest ≡ head_text Two ++ more → ⊥
no_two_heads rest more is =
    let digit : 49 ≡ 50 = ap (λ (t : List ℕ). get_or t 12 0) is in
    absurd (omega (arith, digit))

old_is_none : (behind : List ℕ) (entries : List Entry) (keep : ℕ)
    → Recovers (head_text Two ++ behind) One entries keep → ⊥
old_is_none behind entries keep r = go r.ends
  where
    go : EndsInHead (head_text Two ++ behind) One entries keep ⊎ EndsInLine (head_text Two ++ behind) One entries keep
        → ⊥
    go (inl (unended, begins, format_is, none, keep_is)) = unended Two behind refl
    go (inr (torn, spelled, unended, keep_is)) =
        no_two_heads (entries_text 1 entries ++ torn) behind
        (sym (append_assoc (head_text One) (entries_text 1 entries) torn) ∙ sym spelled)

-- ---- the laws

pub always_read : IsAlwaysRead
always_read bytes synced added fault.OutOfMemory h refused = refl
always_read bytes synced added fault.NotHistory h refused =
    let b = text_front bytes synced added h in
    absurd (refused.0 Two (entries_text 1 synced ++ b.0)
    (b.1 ∙ append_assoc (head_text Two) (entries_text 1 synced) b.0))
always_read bytes synced added fault.Whole h (entries, spells) =
    let f = left_front bytes synced added h in
    absurd (fronts.faults_are_no_fronts (up_to_zero bytes) (chron.BadLine (length entries + 2))
    (whole_is_other (up_to_zero bytes) entries spells) Two (synced ++ added) f.n h.allowed f.cut)
always_read bytes synced added fault.Old h (entries, keep, r) =
    let b = up_front bytes synced added h in
    absurd (old_is_none b.0 entries keep (subst (λ t. Recovers t One entries keep) b.1 r))
always_read bytes synced added (fault.Line n) h refused =
    let f = left_front bytes synced added h in
    absurd (fronts.faults_are_no_fronts (up_to_zero bytes) (chron.BadLine n) refused Two (synced ++ added) f.n
    h.allowed f.cut)
always_read bytes synced added fault.TooLong h refused =
    let f = left_front bytes synced added h in
    absurd (fronts.faults_are_no_fronts (up_to_zero bytes) chron.TooLong refused Two (synced ++ added) f.n
    h.allowed f.cut)
always_read bytes synced added (fault.File why) h refused = absurd refused
always_read bytes synced added fault.NotPlain h refused = absurd refused
always_read bytes synced added fault.InUse h refused = absurd refused

-- a journal that was found, as it is read
read_as : (bytes : List ℕ) (entries : List Entry) (torn : ℕ) → HasJournal bytes entries torn
    → Recovers (up_to_zero bytes) Two entries (length (journal_text Two entries))
read_as bytes entries torn j =
    let text : List ℕ = journal_text Two entries in
    let up : up_to_zero bytes ≡ text ++ up_to_zero j.behind =
    ap up_to_zero j.spelled ∙ behind_text text j.behind (journal_has_no_zeros Two entries j.allowed) in
    record {
      allowed = j.allowed;
      within = omega (arith, ap length up, length-append text (up_to_zero j.behind));
      ends = inr (up_to_zero j.behind, up, j.unended, refl);
    }

pub nothing_is_lost : NothingIsLost
nothing_is_lost bytes synced added got torn h (inl (blank, none, count)) =
    let b = text_front bytes synced added h in
    absurd (blank_begins_nothing bytes blank Two (entries_text 1 synced ++ b.0)
    (b.1 ∙ append_assoc (head_text Two) (entries_text 1 synced) b.0))
nothing_is_lost bytes synced added got torn h (inr j) =
    let f = left_front bytes synced added h in
    let keep : ℕ = length (journal_text Two got) in
    fronts.nothing_is_lost Two Two synced added got f.n keep h.allowed f.long
    (subst (λ b. Recovers b Two got keep) f.cut (read_as bytes got torn j))

pub whatever_follows : WhateverFollows
whatever_follows synced bytes allowed (behind, is) = (found, refused)
  where
    text : List ℕ
    text = journal_text Two synced

    up : up_to_zero bytes ≡ text ++ up_to_zero behind
    up = ap up_to_zero (sym is) ∙ behind_text text behind (journal_has_no_zeros Two synced allowed)

    found : (got : List Entry) (torn : ℕ) → Finds bytes got torn → IsPrefix synced got
    found got torn (inl (blank, none, count)) =
        absurd (blank_begins_nothing bytes blank Two (entries_text 1 synced ++ behind)
        (sym is ∙ append_assoc (head_text Two) (entries_text 1 synced) behind))
    found got torn (inr j) =
        fronts.found_whatever_follows Two Two synced (up_to_zero behind) got (length (journal_text Two got)) allowed
        (subst (λ b. Recovers b Two got (length (journal_text Two got))) up (read_as bytes got torn j))

    refused : (why : OpenFault) → IsRefusedAs bytes why → IsRefusedBehind (length synced) why
    refused fault.OutOfMemory h = tt
    refused fault.Whole h = tt
    refused fault.TooLong h = tt
    refused (fault.Line n) h =
        fronts.bad_line_behind Two synced (up_to_zero behind) n allowed (subst (λ b. HasOtherLine b n) up h)
    refused fault.NotHistory h =
        absurd (h.0 Two (entries_text 1 synced ++ behind)
        (sym is ∙ append_assoc (head_text Two) (entries_text 1 synced) behind))
    refused fault.Old (entries, keep, r) =
        absurd (old_is_none (entries_text 1 synced ++ up_to_zero behind) entries keep
        (subst (λ t. Recovers t One entries keep)
        (up ∙ append_assoc (head_text Two) (entries_text 1 synced) (up_to_zero behind)) r))
    refused (fault.File why) h = absurd h
    refused fault.NotPlain h = absurd h
    refused fault.InUse h = absurd h

pub on_any_disk : OnAnyDisk
on_any_disk bytes synced added h =
    whatever_follows synced bytes (first_part synced added h.allowed)
    (h.left.0.0, ap (λ t. t ++ h.left.0.0) (sym h.front.3) ∙ h.left.0.1)
