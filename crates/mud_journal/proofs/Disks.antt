-- The effect of a disk's calls on a journal.
use Rattle.std.proofs.Common.{◌≡◌, ℕ, ◌+◌, List, ◌++◌, length, take}
use Rattle.std.proofs.Common.{Option, Some, None, refl, sym, ◌∙◌, ap, arith, ◌⊎◌, inl, inr, subst}
use Rattle.std.proofs.Math.Seq.{take-append-add, take-length, take-append_seam}
use Rattle.std.proofs.lemmas.List.{length-append}
use Rattle.mud_chron.specs.declared.format.Format.TheVariants.{Two}
use Rattle.mud_chron.specs.Entry.{Entry}
use Rattle.mud_chron.specs.Text.{entries_text, journal_text}
use Rattle.mud_journal.specs.Disk.{Kept, made, Grows, Syncs, Stays, IsMade, Holds, Adds, AddsInPart}
use Rattle.mud_journal.specs.Crash.{IsLeft, Elapses, LeavesAll, LeavesOldOrNew}
use Rattle.mud_journal.proofs.Grown.{journal_text-append}

-- ---- more entries

-- the text of more entries continues the text of the first ones
counted : (es news : List Entry) (count : ℕ) → length es ≡ count
    → journal_text Two (es ++ news) ≡ journal_text Two es ++ entries_text (count + 1) news
counted es news count is =
    let v : 1 + length es ≡ count + 1 = omega arith in
    journal_text-append Two es news ∙ ap (λ w. journal_text Two es ++ entries_text w news) v

-- the contents once the lines of more entries are appended
grown : (k m : Kept) (es news : List Entry) (count : ℕ) (text : List ℕ) → text ≡ entries_text (count + 1) news
    → length es ≡ count → Grows (Some k) (Some m) text → Holds (Some k) es
    → m.appended ≡ journal_text Two (es ++ news)
grown k m es news count text is n g h =
    g.0 ∙ ap (λ t. t ++ text) h.0 ∙ ap (λ t. journal_text Two es ++ t) is ∙ sym (counted es news count n)

-- a new file with the text that was found and more lines
pub begun : (k : Option Kept) (had more : List Entry) (count : ℕ) (text bytes : List ℕ) → length had ≡ count
    → text ≡ journal_text Two had → bytes ≡ text ++ entries_text (count + 1) more → IsMade k bytes
    → Holds k (had ++ more)
begun None had more count text bytes n is all m = tt
begun (Some k) had more count text bytes n is all m =
    let whole : bytes ≡ journal_text Two (had ++ more) =
    all ∙ ap (λ t. t ++ entries_text (count + 1) more) is ∙ sym (counted had more count n) in
    (m.0 ∙ whole, m.1 ∙ whole)

-- an append and a sync
pub added : (a b c : Option Kept) (count : ℕ) (news : List Entry) (text : List ℕ)
    → text ≡ entries_text (count + 1) news → Grows a b text → Syncs b c → Adds a c count news
added None None None count news text is g s = λ es n h. tt
added None None (Some m) count news text is g s = absurd s
added None (Some m) c count news text is g s = absurd g
added (Some k) None c count news text is g s = absurd g
added (Some k) (Some m) None count news text is g s = absurd s
added (Some k) (Some m) (Some l) count news text is g s = λ es n h.
    let whole : m.appended ≡ journal_text Two (es ++ news) = grown k m es news count text is n g h in
    (s.0 ∙ whole, s.1 ∙ whole)

-- a call that does nothing
stays : (a : Option Kept) → Stays a a
stays None = tt
stays (Some k) = (refl, refl)

-- no call
pub unchanged : (a : Option Kept) (count : ℕ) (news : List Entry) → AddsInPart a a count news
unchanged None count news = λ es n h. tt
unchanged (Some k) count news = λ es n h.
    let long : ℕ = length (journal_text Two es) in (
      long,
      omega arith,
      h.0 ∙ sym (take-append_seam (journal_text Two es) (entries_text (count + 1) news))
          ∙ ap (take long) (sym (counted es news count n)),
      h.1,
    )

-- a failed append
pub appended : (a b : Option Kept) (count n : ℕ) (news : List Entry) (text : List ℕ)
    → text ≡ entries_text (count + 1) news → Grows a b (take n text) → AddsInPart a b count news
appended None None count n news text is g = λ es m h. tt
appended None (Some m) count n news text is g = absurd g
appended (Some k) None count n news text is g = absurd g
appended (Some k) (Some m) count n news text is g = λ es c h.
    let long : ℕ = length (journal_text Two es) in (
      long + n,
      omega arith,
      g.0 ∙ ap (λ t. t ++ take n text) h.0 ∙ sym (take-append-add (journal_text Two es) text n)
          ∙ ap (λ t. take (long + n) (journal_text Two es ++ t)) is
          ∙ ap (take (long + n)) (sym (counted es news count c)),
      g.1 ∙ h.1,
    )

-- an append, and a failed sync
pub unsynced : (a b c : Option Kept) (count : ℕ) (news : List Entry) (text : List ℕ)
    → text ≡ entries_text (count + 1) news → Grows a b text → Stays b c → AddsInPart a c count news
unsynced None None None count news text is g s = λ es n h. tt
unsynced None None (Some m) count news text is g s = absurd s
unsynced None (Some m) c count news text is g s = absurd g
unsynced (Some k) None c count news text is g s = absurd g
unsynced (Some k) (Some m) None count news text is g s = absurd s
unsynced (Some k) (Some m) (Some l) count news text is g s = λ es n h.
    let all : ℕ = length (journal_text Two (es ++ news)) in (
      all,
      omega (
        arith,
        ap length (counted es news count n),
        length-append (journal_text Two es) (entries_text (count + 1) news),
      ),
      s.0 ∙ grown k m es news count text is n g h ∙ sym (take-length (journal_text Two (es ++ news))),
      s.1 ∙ g.1 ∙ h.1,
    )

-- ---- crashes

-- before any call
pub untouched : (T : List ℕ → List ℕ → Type 0) (a : Option Kept) (count : ℕ) (news : List Entry) (bytes : List ℕ)
    → IsLeft T a bytes → LeavesAll T a count news bytes
untouched T None count news bytes left = tt
untouched T (Some k) count news bytes left = λ es n h allowed. record {
  disk = k;
  allowed = allowed;
  front = unchanged (Some k) count news es n h;
  left = left;
}

-- after an append
in_part : (T : List ℕ → List ℕ → Type 0) (a b : Option Kept) (count : ℕ) (news : List Entry) (text bytes : List ℕ)
    → Grows a b text → AddsInPart a b count news → IsLeft T b bytes → LeavesAll T a count news bytes
in_part T None b count news text bytes g part left = tt
in_part T (Some k) None count news text bytes g part left = absurd g
in_part T (Some k) (Some m) count news text bytes g part left = λ es n h allowed. record {
  disk = m;
  allowed = allowed;
  front = part es n h;
  left = left;
}

-- an append of the whole text
pub whole : (a b : Option Kept) (count : ℕ) (news : List Entry) (text : List ℕ) → text ≡ entries_text (count + 1) news
    → Grows a b text → AddsInPart a b count news
whole a b count news text is g = unsynced a b b count news text is g (stays b)

-- in an append, or since
pub in_append : (T : List ℕ → List ℕ → Type 0) (a b : Option Kept) (count : ℕ) (news : List Entry) (text : List ℕ)
    (before after : ℕ) (past since : ℕ → List ℕ → Type 0) → Elapses before after past since (IsLeft T b)
    → ((bytes : List ℕ) → past before bytes → IsLeft T a bytes) → Grows a b text → AddsInPart a b count news
    → (bytes : List ℕ) → since before bytes → LeavesAll T a count news bytes
in_append T a b count news text before after past since lasts left g part bytes was =
    go (lasts.only before bytes (omega arith) was)
  where
    go : past before bytes ⊎ IsLeft T b bytes → LeavesAll T a count news bytes
    go (inl earlier) = untouched T a count news bytes (left bytes earlier)
    go (inr here) = in_part T a b count news text bytes g part here

-- in an append and a sync, or since
pub in_sync : (T : List ℕ → List ℕ → Type 0) (a b : Option Kept) (count : ℕ) (news : List Entry) (text : List ℕ)
    (before between after : ℕ) (past mid since : ℕ → List ℕ → Type 0) → Elapses before between past mid (IsLeft T b)
    → Elapses between after mid since (IsLeft T b) → ((bytes : List ℕ) → past before bytes → IsLeft T a bytes)
    → Grows a b text → AddsInPart a b count news → (bytes : List ℕ) → since before bytes
    → LeavesAll T a count news bytes
in_sync T a b count news text before between after past mid since first second left g part bytes was =
    go (second.only before bytes first.later was)
  where
    go : mid before bytes ⊎ IsLeft T b bytes → LeavesAll T a count news bytes
    go (inl earlier) =
        in_append T a b count news text before between past mid first left g part bytes earlier
    go (inr here) = in_part T a b count news text bytes g part here

-- in the replacement of a file by the text that was found and more lines, or since
pub in_replace : (T : List ℕ → List ℕ → Type 0) (had more : List Entry) (count : ℕ) (text all : List ℕ)
    (before after : ℕ) (past since : ℕ → List ℕ → Type 0)
    → Elapses before after past since (IsLeft T (Some (made all))) → length had ≡ count → text ≡ journal_text Two had
    → all ≡ text ++ entries_text (count + 1) more → (bytes : List ℕ) → since before bytes
    → LeavesOldOrNew T (past before) (had ++ more) bytes
in_replace T had more count text all before after past since lasts n is whole bytes was =
    let same : all ≡ journal_text Two (had ++ more) =
    whole ∙ ap (λ t. t ++ entries_text (count + 1) more) is ∙ sym (counted had more count n) in
    subst (λ t. past before bytes ⊎ IsLeft T (Some (made t)) bytes) same
    (lasts.only before bytes (omega arith) was)
