-- The next volume as a disk.
use Rattle.std.proofs.Common.{◌≡◌, ◌⊎◌, inl, inr, ℕ, true, false, List, [], ◌∷◌, ◌++◌, length, Option, Some, None}
use Rattle.std.proofs.Common.{refl, sym, ◌∙◌, ap, subst, arith}
use Rattle.std.proofs.lemmas.List.{length-append}
use Rattle.std.specs.Prelude.{option_map, if◌then◌else◌}
use Rattle.std.proofs.lemmas.Bool.{true≢false}
use Rattle.mud_chron.specs.declared.format.Format.TheVariants.{Two}
use Rattle.mud_chron.specs.Entry.{Entry}
use Rattle.mud_chron.specs.Text.{line_feed, head_line, entries_text, journal_text}
use Rattle.mud_journal.specs.Disk.{Kept, made, IsMade, Holds}
use Rattle.mud_journal.specs.Found.{Finds}
use Rattle.mud_journal.specs.Crash.{IsLeft, LeavesOldOrNew}
use Rattle.mud_shelf.specs.Draft.{Stage, Removed, Temporary, Renamed, Published, MayLeaveNow, IsPublished, IsNoneOrAll}
use Rattle.mud_shelf.specs.Draft.{IsFresh, IsCalledOff, HasNoVolume}
use Rattle.mud_shelf.specs.declared.standing.Standing.{Standing}
use Rattle.mud_shelf.specs.declared.standing.Standing.TheVariants.{Fresh, CalledOff}
use Rattle.mud_shelf.specs.Volume.{durable, is_empty, is_blank, is_at}
use Rattle.mud_shelf.specs.Lefts.{not_none}
use Rattle.mud_shelf.proofs.Moments.{Tearing}

-- a volume that has a text is published
is_published : (s : Option Stage) (text : List ℕ) → (text ≡ [] → ⊥) → IsMade (option_map durable s) text
    → IsPublished s text
is_published None text some is = tt
is_published (Some Removed) text some is = absurd (some (sym is.0))
is_published (Some (Temporary file)) text some is = absurd (some (sym is.1))
is_published (Some (Renamed file)) text some is = absurd (some (sym is.1))
is_published (Some (Published file)) text some is = ap Published (same_file is.0 is.1)
  where
    same_file : file.appended ≡ text → file.synced ≡ text → file ≡ made text
    same_file a s = λ i. record { appended = a i; synced = s i }

-- a crash in a turn
pub in_turn : (T : Tearing) (begun : List Entry) (stage : Option Stage) (Past Since' : Option (List ℕ) → Type 0)
    → stage ≡ Some (Temporary (made [])) → ((left : Option (List ℕ)) → Past left → MayLeaveNow T stage left)
    → ((bytes : List ℕ) → Since' (Some bytes) → LeavesOldOrNew T (λ b. Past (Some b)) begun bytes)
    → (left : Option (List ℕ)) → Since' left → IsNoneOrAll T (journal_text Two begun) left
in_turn T begun stage Past Since' fresh at_first then_ None was = tt
in_turn T begun stage Past Since' fresh at_first then_ (Some bytes) was = go (then_ bytes was)
  where
    go : Past (Some bytes) ⊎ IsLeft T (Some (made (journal_text Two begun))) bytes
        → IsLeft T (Some (made (journal_text Two begun))) bytes
    go (inl old) =
        absurd (not_none bytes (subst (λ s. MayLeaveNow T s (Some bytes)) fresh (at_first (Some bytes) old)))
    go (inr new) = new

-- nothing is found in no bytes
none_found : (bytes : List ℕ) (entries : List Entry) (torn : ℕ) → bytes ≡ [] → Finds bytes entries torn → entries ≡ []
none_found bytes entries torn is (inl blank) = blank.1
none_found bytes entries torn is (inr journal) =
    absurd (omega (
      arith,
      ap length (sym is ∙ journal.spelled),
      length-append (journal_text Two entries) journal.behind,
      length-append (head_line Two ++ line_feed) (entries_text 1 entries),
    ))

pub blank_text : (bytes text : List ℕ) (entries : List Entry) (torn : ℕ) → bytes ≡ [] → Finds bytes entries torn
    → text ≡ journal_text Two entries → text ≡ journal_text Two []
blank_text bytes text entries torn is finds text_is =
    text_is ∙ ap (journal_text Two) (none_found bytes entries torn is finds)

pub blank_count : (bytes : List ℕ) (count : ℕ) (entries : List Entry) (torn : ℕ) → bytes ≡ [] → Finds bytes entries torn
    → count ≡ length entries → count ≡ 0
blank_count bytes count entries torn is finds count_is =
    count_is ∙ ap length (none_found bytes entries torn is finds)

-- the text of a journal has a first line
some_text : (entries : List Entry) → journal_text Two entries ≡ [] → ⊥
some_text entries none =
    absurd (omega (arith, ap length none, length-append (head_line Two ++ line_feed) (entries_text 1 entries)))

-- a volume that holds a journal is published
pub holds_published : (s : Option Stage) (begun : List Entry) → Holds (option_map durable s) begun
    → IsPublished s (journal_text Two begun)
holds_published s begun holds = is_published s (journal_text Two begun) (some_text begun) holds

-- ---- standings

empty_is : (bytes : List ℕ) → is_empty bytes ≡ true → bytes ≡ []
empty_is [] is = refl
empty_is (b ∷ bytes) is = absurd (true≢false (sym is))

blank_is : (file : Kept) → is_blank file ≡ true → file ≡ made []
blank_is file is = go file.appended file.synced is
  where
    go : (appended synced : List ℕ) → (if is_empty appended then is_empty synced else false) ≡ true
        → ◌≡◌ {A = Kept} (record { appended = appended; synced = synced }) (made [])
    go [] synced is = ap (λ bytes. record { appended = []; synced = bytes }) (empty_is synced is)
    go (b ∷ bytes) synced is = absurd (true≢false (sym is))

-- nothing was written to a fresh volume
pub fresh_of : (s : Option Stage) → is_at s Fresh ≡ true → IsFresh s
fresh_of None is = tt
fresh_of (Some Removed) is = absurd (true≢false (sym is))
fresh_of (Some (Temporary file)) is = ap Temporary (blank_is file is)
fresh_of (Some (Renamed file)) is = absurd (true≢false (sym is))
fresh_of (Some (Published file)) is = absurd (true≢false (sym is))

off_of : (s : Option Stage) → is_at s CalledOff ≡ true → IsCalledOff s
off_of None is = tt
off_of (Some Removed) is = tt
off_of (Some (Temporary file)) is = tt
off_of (Some (Renamed file)) is = absurd (true≢false (sym is))
off_of (Some (Published file)) is = absurd (true≢false (sym is))

pub off_at : (s : Option Stage) → IsCalledOff s → is_at s CalledOff ≡ true
off_at None is = refl
off_at (Some Removed) is = refl
off_at (Some (Temporary file)) is = refl
off_at (Some (Renamed file)) is = absurd is
off_at (Some (Published file)) is = absurd is

-- a turn is called off only if no crash leaves the volume
pub off : (s : Option Stage) (standing : Standing) → is_at s standing ≡ true
    → (standing ≡ Fresh) ⊎ (standing ≡ CalledOff) → IsCalledOff s
off s standing stands (inl is) = fresh_off s (fresh_of s (subst (λ x. is_at s x ≡ true) is stands))
  where
    fresh_off : (s : Option Stage) → IsFresh s → IsCalledOff s
    fresh_off None is = tt
    fresh_off (Some s) is = subst HasNoVolume (sym is) tt
off s standing stands (inr is) = off_of s (subst (λ x. is_at s x ≡ true) is stands)
