-- The journal under the lock.
use Rattle.std.proofs.Common.{◌≡◌, ◌≤◌, ℕ, zero, suc, ◌+◌, Bool, true, List, [], ◌∷◌, ◌++◌, length, take}
use Rattle.std.proofs.Common.{Option, Some, None, append_assoc, refl, sym, ◌∙◌, ap, arith, subst, inl, inr, ◌⊎◌}
use Rattle.std.specs.Prelude.{Any, IfSome, All}
use Rattle.std.specs.List.{AllByRecursion}
use Rattle.std.proofs.Math.Seq.{take-length}
use Rattle.std.proofs.lemmas.List.{append-nil, length-append}
use Rattle.std.proofs.Math.Logic.{∥∥₁_map}
use mathlib.Core.List.{IsPrefix}
use Rattle.mud_world.specs.declared.limits.TheConstants.{MOST_ENTRIES}
use Rattle.mud_chron.specs.declared.format.Format.TheVariants.{Two}
use Rattle.mud_chron.specs.Entry.{Entry, IsEntry}
use Rattle.mud_chron.specs.Text.{entries_text, journal_text}
use Rattle.mud_chron.specs.History.{IsEntryOf, AreEntriesOf}
use Rattle.mud_hall.specs.Desk.{View}
use Rattle.mud_hall.specs.Settlement.{IsGathered}
use Rattle.mud_hall.specs.Steps.{AreLoadable}
use Rattle.mud_journal.specs.Disk.{Kept, made, Holds, HoldsFront, Adds, AddsInPart}
use Rattle.mud_journal.specs.Crash.{IsLeft}
use Rattle.mud_journal.proofs.Disks.{unchanged, begun}
use Rattle.mud_theorems.specs.Peers.{Traffic}
use Rattle.mud_theorems.specs.Serving.{TellsUpTo, IsLeftWithTold}
use Rattle.mud_theorems.specs.inner.Kept.{IsKeeping}

-- ---- after a call

front_of_all : (kept : Option Kept) (es : List Entry) → Holds kept es → HoldsFront kept es es
front_of_all None es h = tt
front_of_all (Some k) es h =
    (length (journal_text Two es), omega arith, h.0 ∙ sym (take-length (journal_text Two es)), h.1)

-- all entries are synced
pub all_kept : (kept : Option Kept) (es : List Entry) (count : ℕ) (failed : Bool) → Holds kept es → count ≡ length es
    → IsKeeping es kept count failed
all_kept kept es count failed h n = record {
  synced = es;
  rest = [];
  front = sym (append-nil es);
  holds = front_of_all kept es h;
  counted = n;
  whole = λ going. (h, n);
}

-- a commit
pub committed : (old new : Option Kept) (es all added : List Entry) (count now : ℕ) (failed : Bool) → Holds old es
    → count ≡ length es → all ≡ es ++ added → Adds old new count added → now ≡ count + length added
    → IsKeeping all new now failed
committed old new es all added count now failed h n is adds more =
    let whole : Holds new all = subst (Holds new) (sym is) (adds es (sym n) h) in
    all_kept new all now failed whole (omega (arith, n, more, ap length is, length-append es added))

-- a part of the entries is on the disk, and the journal has failed
pub part_kept : (old new : Option Kept) (es all added : List Entry) (count now : ℕ) (failed : Bool) → Holds old es
    → count ≡ length es → all ≡ es ++ added → AddsInPart old new count added → now ≡ count → failed ≡ true
    → IsKeeping all new now failed
part_kept old new es all added count now failed h n is part same fault = record {
  synced = es;
  rest = added;
  front = is;
  holds = subst (HoldsFront new es) (sym is) (part es (sym n) h);
  counted = same ∙ n;
  whole = λ going. absurd (cc);
}

-- entries were read and not written, and the journal has failed
pub unwritten : (kept : Option Kept) (es all : List Entry) (count : ℕ) (failed : Bool) → Holds kept es
    → count ≡ length es → IsPrefix es all → failed ≡ true → IsKeeping all kept count failed
unwritten kept es all count failed h n (more, is) fault =
    part_kept kept kept es all more count count failed h n (sym is) (unchanged kept count more) refl fault

-- a journal that has failed
pub failed_kept : (old new : Option Kept) (es : List Entry) (count now : ℕ) (before failed : Bool) → new ≡ old
    → now ≡ count → failed ≡ true → IsKeeping es old count before → IsKeeping es new now failed
failed_kept old new es count now before failed same still fault k = record {
  synced = k.synced;
  rest = k.rest;
  front = k.front;
  holds = subst (λ (o : Option Kept). HoldsFront o k.synced es) (sym same) k.holds;
  counted = still ∙ k.counted;
  whole = λ going. absurd (cc);
}

-- ---- more entries than were written

-- a prefix of a list, as one of a longer list
abbrev Cut : ℕ → List ℕ → List ℕ → Type 0
Cut n xs ys = (m : ℕ) × (take n xs ≡ take m (xs ++ ys)) × ((k : ℕ) → k ≤ n → k ≤ length xs → k ≤ m)

cut_more : (n x : ℕ) (xs ys : List ℕ) → Cut n xs ys → Cut (suc n) (x ∷ xs) ys
cut_more n x xs ys r = (suc r.0, ap (λ (l : List ℕ). x ∷ l) r.1, far)
  where
    far : (k : ℕ) → k ≤ suc n → k ≤ length (x ∷ xs) → k ≤ suc r.0
    far zero a b = omega arith
    far (suc k) a b =
        let q : k ≤ r.0 = r.2 k (omega (arith, a)) (omega (arith, b)) in
        omega (arith, q)

cut : (n : ℕ) (xs ys : List ℕ) → Cut n xs ys
cut zero xs ys = (0, refl, λ k a b. a)
cut (suc n) [] ys = (0, refl, λ k a b. b)
cut (suc n) (x ∷ xs) ys = cut_more n x xs ys (cut n xs ys)

-- the text of more entries goes on
longer : (es more : List Entry)
    → journal_text Two (es ++ more) ≡ journal_text Two es ++ entries_text (length es + 1) more
longer es more =
    let whole : List ℕ = journal_text Two es ++ entries_text (length es + 1) more in
    sym (begun (Some (made whole)) es more (length es) (journal_text Two es) whole refl refl refl (refl, refl)).0

front_longer : (kept : Option Kept) (synced rest more : List Entry) → HoldsFront kept synced (synced ++ rest)
    → HoldsFront kept synced ((synced ++ rest) ++ more)
front_longer None synced rest more h = tt
front_longer (Some k) synced rest more (n, far, is, whole) =
    let short : List ℕ = journal_text Two (synced ++ rest) in
    let tail : List ℕ = entries_text (length (synced ++ rest) + 1) more in
    let long : length short ≡ length (journal_text Two synced) + length (entries_text (length synced + 1) rest) =
    ap length (longer synced rest)
    ∙ length-append (journal_text Two synced) (entries_text (length synced + 1) rest) in
    let c = cut n short tail in (
      c.0,
      c.2 (length (journal_text Two synced)) far (omega (arith, long)),
      is ∙ c.1 ∙ ap (take c.0) (sym (longer (synced ++ rest) more)),
      whole,
    )

pub gathered_kept : (kept : Option Kept) (es all : List Entry) (count : ℕ) (before failed : Bool)
    → IsKeeping es kept count before → IsPrefix es all → failed ≡ true → IsKeeping all kept count failed
gathered_kept kept es all count before failed k (more, is) fault = record {
  synced = k.synced;
  rest = k.rest ++ more;
  front = sym is ∙ ap (λ (l : List Entry). l ++ more) k.front ∙ append_assoc k.synced k.rest more;
  holds = subst (HoldsFront kept k.synced) (ap (λ (l : List Entry). l ++ more) (sym k.front) ∙ is)
      (front_longer kept k.synced k.rest more (subst (HoldsFront kept k.synced) k.front k.holds));
  counted = k.counted;
  whole = λ going. absurd (cc);
}

-- ---- the end

pub prefix_trans : {A : Type 0} (xs ys zs : List A) → IsPrefix xs ys → IsPrefix ys zs → IsPrefix xs zs
prefix_trans xs ys zs (a, is) (b, same) = (a ++ b, sym (append_assoc xs a b) ∙ ap (λ l. l ++ b) is ∙ same)

same_length : {A : Type 0} (xs ys : List A) → IsPrefix xs ys → length xs ≡ length ys → xs ≡ ys
same_length {A = A} xs ys (zs, is) long = go zs is
  where
    go : (zs : List A) → xs ++ zs ≡ ys → xs ≡ ys
    go [] is = sym (append-nil xs) ∙ is
    go (z ∷ zs) is = absurd (omega (arith, long, ap length is, length-append xs (z ∷ zs)))

-- the history of the desks is what was read, if it is as long
pub gathered_is : (loaded list history : List Entry) (desks : List View) → IsPrefix loaded list
    → IsGathered list desks list → IsGathered loaded desks history → length history ≡ length list → list ≡ history
gathered_is loaded list history desks begun whole made long =
    sym (same_length history list (go made.some) long)
  where
    go : (history ≡ loaded) ⊎ Any (λ d. history ≡ d.state.seen) desks → IsPrefix history list
    go (inl same) = subst (λ (h : List Entry). IsPrefix h list) (sym same) begun
    go (inr (k, d, lt, at, same)) =
        subst (λ (h : List Entry). IsPrefix h list) (sym same)
        (subst (λ (x : View). IsPrefix x.state.seen list) at (whole.known k d lt))

-- what was gathered, with what was read before
pub gathered_all : (read list : List Entry) (desks : List View) → IsGathered read desks list
    → IsGathered list desks list
gathered_all read list desks g = record { begun = ([], append-nil list); known = g.known; some = inl refl }

-- ---- a crash

each_of : (es : List Entry) → AllByRecursion IsEntry es → AllByRecursion (IsEntryOf Two) es
each_of [] all = tt
each_of (e ∷ es) (one, more) = ((one, tt), each_of es more)

pub entries_of : (capacity : ℕ) (history : List Entry) → AreLoadable capacity history → length history ≤ MOST_ENTRIES
    → AreEntriesOf Two history
entries_of capacity history loadable few = record { each = each_of history loadable.each; few = few }

pub left_with_told : (Tears : List ℕ → List ℕ → Type 0) (kept : Option Kept) (history : List Entry) (count : ℕ)
    (failed : Bool) (traffics : List (Option Traffic)) (bytes : List ℕ) → IsKeeping history kept count failed
    → IsLeft Tears kept bytes
    → ∥ AreEntriesOf Two history × All (λ traffic. IfSome traffic (λ t. TellsUpTo count t.sent)) traffics ∥₁
    → IfSome kept (λ disk. ∥ IsLeftWithTold Tears history traffics bytes ∥₁)
left_with_told Tears None history count failed traffics bytes k left both = tt
left_with_told Tears (Some disk) history count failed traffics bytes k left both =
    ∥∥₁_map both (λ b. record {
      synced = k.synced;
      added = k.rest;
      whole = sym k.front;
      left = record {
        disk = disk;
        allowed = subst (AreEntriesOf Two) k.front b.0;
        front = subst (HoldsFront (Some disk) k.synced) k.front k.holds;
        left = left;
      };
      told = subst (λ (n : ℕ). All (λ traffic. IfSome traffic (λ t. TellsUpTo n t.sent)) traffics) k.counted b.1;
    })
