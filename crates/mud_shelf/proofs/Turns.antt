-- The entries that a start finds after a crash in a turn.
use Rattle.std.proofs.Common.{◌≡◌, ◌<◌, ◌≤◌, ◌+◌, ◌⊎◌, inl, inr, ⊎_elim, ℕ, List, [], ◌∷◌, ◌++◌, length, take}
use Rattle.std.proofs.Common.{Option, Some, None, refl, sym, ◌∙◌, ap, subst, arith, append_assoc}
use Rattle.std.specs.Prelude.{unwrap_or}
use Rattle.std.proofs.lemmas.Bool.{cases_order}
use Rattle.std.proofs.lemmas.List.{append-nil, append_cancel_left, take_all}
use mathlib.Core.List.{IsPrefix}
use Rattle.mud_world.specs.History.{world_of}
use Rattle.mud_chron.specs.declared.format.Format.TheVariants.{Two}
use Rattle.mud_chron.specs.Entry.{Entry}
use Rattle.mud_chron.specs.Text.{journal_text}
use Rattle.mud_chron.specs.History.{AreEntriesOf}
use Rattle.mud_chron.specs.Replay.{changes_of}
use Rattle.mud_journal.specs.Disk.{made}
use Rattle.mud_journal.specs.Crash.{AreThere, AreAny, IsLeft, IsLeftBy}
use Rattle.mud_journal.specs.Laws.{NothingIsLost, IsAlwaysRead, OnAnyDisk}
use Rattle.mud_shelf.specs.Names.{volume_name}
use Rattle.mud_shelf.specs.Draft.{IsNoneOrAll}
use Rattle.mud_shelf.specs.Turn.{Folder, volume_bytes, IsLeftByTurn, IsCurrent, IsFound, IsOfSystem}
use Rattle.mud_shelf.specs.Laws.{TurnLosesNothing, OnAnyFolder}

-- a crash leaves these bytes of a journal that holds a whole history
left_of : (T : List ℕ → List ℕ → Type 0) (history : List Entry) (bytes : List ℕ) → AreEntriesOf Two history
    → IsLeft T (Some (made (journal_text Two history))) bytes → IsLeftBy T bytes history []
left_of T history bytes allowed left = record {
  disk = made (journal_text Two history);
  allowed = subst (AreEntriesOf Two) (sym (append-nil history)) allowed;
  front = (
    length (journal_text Two history),
    omega arith,
    sym (take_all (length (journal_text Two history)) (journal_text Two history) (omega arith))
        ∙ ap (λ h. take (length (journal_text Two history)) (journal_text Two h)) (sym (append-nil history)),
    refl,
  );
  left = left;
}

none_left : {A : Type 0} (xs ys : List A) → xs ++ ys ≡ [] → xs ≡ []
none_left [] ys is = refl
none_left (x ∷ xs) ys is = absurd (cc)

-- lists that are prefixes of each other
same_fronts : {A : Type 0} (xs ys : List A) → IsPrefix xs ys → IsPrefix ys (xs ++ []) → ys ≡ xs
same_fronts xs ys front back =
    let nothing : front.0 ≡ [] =
    none_left front.0 back.0
    (append_cancel_left xs (front.0 ++ back.0) []
    (sym (append_assoc xs front.0 back.0) ∙ ap (λ l. l ++ back.0) front.1 ∙ back.1)) in
    sym front.1 ∙ ap (λ l. xs ++ l) nothing ∙ append-nil xs

not_some : (a : List ℕ) (o : Option (List ℕ)) → o ≡ None → o ≡ Some a → ⊥
not_some a o none some = absurd (cc)

-- the volume of a number is there, unless it is the first
there_or_first : (bytes : Option (List ℕ)) (m n : ℕ) → 1 ≤ n → m ≡ n + 1 → (bytes ≡ None → m ≡ 1)
    → (b : List ℕ) × (bytes ≡ Some b)
there_or_first None m n from next first = absurd (let one = first refl in omega (arith, one, next, from))
there_or_first (Some b) m n from next first = (b, refl)

-- the volume that a start continues, with the entries that were synced in it
record IsWhole (T : List ℕ → List ℕ → Type 0) (n : ℕ) (history begun : List Entry) (m : ℕ) (bytes : List ℕ)
    : Type 0 where
  entries : List Entry
  allowed : AreEntriesOf Two entries
  left : IsLeft T (Some (made (journal_text Two entries))) bytes
  which : (m ≡ n) × (entries ≡ history) ⊎ (m ≡ n + 1) × (entries ≡ begun)

whole : (T : List ℕ → List ℕ → Type 0) (journal : List ℕ) (n : ℕ) (history begun : List Entry) (left : Folder) (m : ℕ)
    → IsLeftByTurn T journal n history begun left → IsCurrent journal left m
    → IsWhole T n history begun m (volume_bytes journal left m)
whole T journal n history begun left m l c =
    ⊎_elim
    (λ (here : m ≡ n). old here)
    (λ other. ⊎_elim
    (λ (less : m < n). absurd (not_some l.bytes (left (volume_name journal n)) (c.highest n less l.volume) l.there))
    (λ (more : n < m). ⊎_elim
    (λ (next : m ≡ n + 1). new next)
    (λ past. ⊎_elim
    (λ (before : m < n + 1). absurd (omega (arith, before, more)))
    (λ (later : n + 1 < m). absurd (too_late later))
    past)
    (cases_order m (n + 1)))
    other)
    (cases_order m n)
  where
    old : m ≡ n → IsWhole T n history begun m (volume_bytes journal left m)
    old here = record {
      entries = history;
      allowed = l.old_allowed;
      left = subst (IsLeft T (Some (made (journal_text Two history))))
          (sym (ap (volume_bytes journal left) here ∙ ap (λ o. unwrap_or o []) l.there)) l.old;
      which = inl (here, refl);
    }

    new : m ≡ n + 1 → IsWhole T n history begun m (volume_bytes journal left m)
    new next =
        let from : 1 ≤ n = l.volume.0 in
        let t = there_or_first (left (volume_name journal m)) m n from next c.there in
        let there : left (volume_name journal (n + 1)) ≡ Some t.0 =
        ap (λ k. left (volume_name journal k)) (sym next) ∙ t.1 in
        let all : IsLeft T (Some (made (journal_text Two begun))) t.0 =
        subst (IsNoneOrAll T (journal_text Two begun)) there l.new in
        record {
          entries = begun;
          allowed = l.new_allowed;
          left = subst (IsLeft T (Some (made (journal_text Two begun)))) (sym (ap (λ o. unwrap_or o []) t.1)) all;
          which = inr (next, refl);
        }

    too_late : n + 1 < m → ⊥
    too_late later =
        let one : m ≡ 1 = c.there (l.no_later m later c.volume) in
        omega (arith, one, later)

-- likewise, of the entries that are found
of_found : (P : List Entry → Type 0) (n : ℕ) (history begun entries : List Entry) (m : ℕ) → P entries
    → (m ≡ n) × (entries ≡ history) ⊎ (m ≡ n + 1) × (entries ≡ begun)
    → (m ≡ n) × P history ⊎ (m ≡ n + 1) × P begun
of_found P n history begun entries m is (inl old) = inl (old.0, subst P old.1 is)
of_found P n history begun entries m is (inr new) = inr (new.0, subst P new.1 is)

pub turn_loses_nothing : NothingIsLost → IsAlwaysRead → TurnLosesNothing
turn_loses_nothing lost always = record {
  found = found;
  world = λ journal n history begun left m got l f same. ⊎_elim
      (λ old. ap (λ h. world_of (changes_of h)) old.1)
      (λ new. ap (λ h. world_of (changes_of h)) new.1 ∙ same)
      (found journal n history begun left m got l f);
  read = λ journal n history begun left fault l why. ⊎_elim
      (λ of_system. of_system)
      (λ refused. let w = whole AreThere journal n history begun left refused.0 l refused.1 in
      let memory = always (volume_bytes journal left refused.0) w.entries [] fault
      (left_of AreThere w.entries (volume_bytes journal left refused.0) w.allowed w.left) refused.2 in
      subst IsOfSystem (sym memory) tt)
      why;
}
  where
    found : (journal : List ℕ) (n : ℕ) (history begun : List Entry) (left : Folder) (m : ℕ) (got : List Entry)
        → IsLeftByTurn AreThere journal n history begun left → IsFound journal left m got
        → (m ≡ n) × (got ≡ history) ⊎ (m ≡ n + 1) × (got ≡ begun)
    found journal n history begun left m got l f =
        let w = whole AreThere journal n history begun left m l f.current in
        let fronts = lost (volume_bytes journal left m) w.entries [] got f.torn
        (left_of AreThere w.entries (volume_bytes journal left m) w.allowed w.left) f.found in
        of_found (λ h. got ≡ h) n history begun w.entries m (same_fronts w.entries got fronts.0 fronts.1) w.which

pub on_any_folder : OnAnyDisk → OnAnyFolder
on_any_folder any journal n history begun left m got l f =
    let w = whole AreAny journal n history begun left m l f.current in
    let finds = any (volume_bytes journal left m) w.entries []
    (left_of AreAny w.entries (volume_bytes journal left m) w.allowed w.left) in
    of_found (λ h. IsPrefix h got) n history begun w.entries m (finds.0 got f.torn f.found) w.which
