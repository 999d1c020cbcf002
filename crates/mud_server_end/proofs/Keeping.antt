-- The contents of a server's journal.
use Rattle.std.proofs.Common.{◌≡◌, ℕ, ◌+◌, Bool, true, false, List, [], ◌∷◌, ◌++◌, length, Option, Some, None}
use Rattle.std.proofs.Common.{Result, Ok, Err, OnOk, OnErr, IfOk, append_assoc}
use Rattle.std.proofs.Common.{refl, sym, ◌∙◌, ap, take, drop, arith, subst, inl, inr, ◌⊎◌}
use Rattle.std.specs.Prelude.{Any}
use Rattle.std.proofs.Math.Seq.{take-length}
use Rattle.std.proofs.lemmas.List.{append-nil, length-append, take-append-drop}
use mathlib.Core.List.{IsPrefix}
use Rattle.mud_chron.specs.Entry.{Entry}
use Rattle.mud_chron.specs.declared.format.Format.TheVariants.{Two}
use Rattle.mud_chron.specs.Text.{journal_text}
use Rattle.mud_hall.specs.Desk.{View}
use Rattle.mud_hall.specs.Settlement.{IsGathered}
use Rattle.mud_journal.specs.Disk.{Kept, Holds, HoldsFront, Adds, AddsInPart}
use Rattle.mud_journal.proofs.Disks.{unchanged}
use Rattle.mud_server_end.specs.JournalText.{IsWritten}

-- all entries are synced
front_of_all : (kept : Option Kept) (es : List Entry) → Holds kept es → HoldsFront kept es es
front_of_all None es h = tt
front_of_all (Some k) es h =
    (length (journal_text Two es), omega arith, h.0 ∙ sym (take-length (journal_text Two es)), h.1)

pub all_written : (kept : Option Kept) (es : List Entry) (has_failed : Bool) (count : ℕ) → Holds kept es
    → count ≡ length es → IsWritten es kept has_failed count
all_written kept es has_failed count h n = record {
  synced = es;
  rest = [];
  front = sym (append-nil es);
  holds = front_of_all kept es h;
  whole = λ e. h;
  counted = λ e. n;
}

pub part_written : (old new : Option Kept) (es all added : List Entry) (count now : ℕ) (failed : Bool)
    → Holds old es → count ≡ length es → AddsInPart old new count added → all ≡ es ++ added → failed ≡ true
    → IsWritten all new failed now
part_written old new es all added count now failed h n part is fault = record {
  synced = es;
  rest = added;
  front = is;
  holds = subst (HoldsFront new es) (sym is) (part es (sym n) h);
  whole = λ e. absurd (cc);
  counted = λ e. absurd (cc);
}

-- the contents after a commit, whether or not it succeeded
pub committed : {R F : Type 0} (U : R → Type 0) (r : Result R F) (old new : Option Kept) (es all added : List Entry)
    (count now : ℕ) (failed : Bool) → Holds old es → count ≡ length es → all ≡ es ++ added
    → OnOk r (Adds old new count added) → IfOk r (λ x. (now ≡ count + length added) × U x) → OnOk r (failed ≡ false)
    → OnErr r (AddsInPart old new count added) → OnErr r (failed ≡ true) → IsWritten all new failed now
committed U (Ok x) old new es all added count now failed h n is adds more going part fault =
    let whole : Holds new all = subst (Holds new) (sym is) (adds es (sym n) h) in
    all_written new all failed now whole (omega (arith, n, more.0, ap length is, length-append es added))
committed U (Err x) old new es all added count now failed h n is adds more going part fault =
    part_written old new es all added count now failed h n part is fault

-- the claim of a receipt about the entries written
pub receipted : {R F : Type 0} (up_to : R → ℕ) (r : Result R F) (kept : Option Kept) (es : List Entry)
    (count before : ℕ) (failed : Bool) → IsWritten es kept failed count → OnOk r (failed ≡ false)
    → IfOk r (λ x. (count ≡ before) × (up_to x ≡ count)) → IfOk r (λ x. (up_to x ≡ length es) × Holds kept es)
receipted up_to (Ok x) kept es count before failed w going more = (more.1 ∙ w.counted going, w.whole going)
receipted up_to (Err e) kept es count before failed w going more = tt

-- entries that were read and not written
pub unwritten : (kept : Option Kept) (es all : List Entry) (now : ℕ) (failed : Bool) → Holds kept es
    → IsPrefix es all → failed ≡ true → IsWritten all kept failed now
unwritten kept es all now failed h (more, is) fault =
    part_written kept kept es all more (length es) now failed h refl (unchanged kept (length es) more) (sym is) fault

pub prefix_trans : {A : Type 0} (xs ys zs : List A) → IsPrefix xs ys → IsPrefix ys zs → IsPrefix xs zs
prefix_trans xs ys zs (a, is) (b, same) = (a ++ b, sym (append_assoc xs a b) ∙ ap (λ l. l ++ b) is ∙ same)

-- a prefix of equal length
pub same_length : {A : Type 0} (xs ys : List A) → IsPrefix xs ys → length xs ≡ length ys → xs ≡ ys
same_length {A = A} xs ys (zs, is) long = go zs is
  where
    go : (zs : List A) → xs ++ zs ≡ ys → xs ≡ ys
    go [] is = sym (append-nil xs) ∙ is
    go (z ∷ zs) is = absurd (omega (arith, long, ap length is, length-append xs (z ∷ zs)))

-- the history of the desks is a prefix of the longest one that they know
gathered_in : (loaded list history : List Entry) (desks : List View) → IsPrefix loaded list
    → IsGathered list desks list → IsGathered loaded desks history → IsPrefix history list
gathered_in loaded list history desks begun whole made = go made.some
  where
    go : (history ≡ loaded) ⊎ Any (λ d. history ≡ d.state.seen) desks → IsPrefix history list
    go (inl same) = subst (λ (h : List Entry). IsPrefix h list) (sym same) begun
    go (inr (k, d, lt, at, same)) =
        subst (λ (h : List Entry). IsPrefix h list) (sym same)
        (subst (λ (x : View). IsPrefix x.state.seen list) at (whole.known k d lt))

pub all_there : (loaded list history : List Entry) (desks : List View) (kept : Option Kept) → IsPrefix loaded list
    → IsGathered list desks list → IsGathered loaded desks history → length history ≡ length list → Holds kept list
    → Holds kept history
all_there loaded list history desks kept begun whole made long h =
    subst (Holds kept) (sym (same_length history list (gathered_in loaded list history desks begun whole made) long)) h

-- the entries that were found, and copies of the others, are all loaded entries
pub all_loaded : (kept : Option Kept) (n : ℕ) (loaded added begun : List Entry)
    → Holds kept (take n loaded ++ added) → added ≡ drop n loaded → begun ≡ loaded → Holds kept begun
all_loaded kept n loaded added begun h rest is =
    subst (Holds kept) (ap (λ l. take n loaded ++ l) rest ∙ take-append-drop n loaded ∙ sym is) h
