-- The maps after each kind of edit: the lists are those of the new world, and the world is sound.
use Rattle.std.proofs.Common.{◌≡◌, ℕ, ◌+◌, Bool, false, cond, not, ◌&&◌, List, [], ◌∷◌, ◌++◌, Option, Some, None, refl}
use Rattle.std.proofs.Common.{sym, ◌∙◌, ap, subst}
use Rattle.std.specs.Prelude.{nat_eq}
use Rattle.std.specs.Option.{option_map, option_map_or, option_and_then}
use Rattle.std.specs.Map.{lookup, set_value, remove_entry}
use Rattle.mud_index.specs.Rising.{insert, put, without}
use Rattle.mud_index.specs.Lists.{list_at, AreChanged, AreSame}
use Rattle.mud_index.specs.Owners.{AreOwnersPassed}
use Rattle.mud_index.specs.inner.Views.{HaveSameOwners}
use Rattle.mud_world.specs.declared.record.Record.{Record}
use Rattle.mud_world.specs.declared.links.Links.{Links}
use Rattle.mud_world.specs.declared.world.World.TheInside.{Inside}
use Rattle.mud_world.specs.Kinds.{kind_place, is_player_kind}
use Rattle.mud_world.specs.State.{State, record_at, is_number}
use Rattle.mud_world.specs.Sound.{IsRising, IsSound}
use Rattle.mud_world.specs.Legal.{with_record_changed, with_new}
use Rattle.mud_world.specs.inner.Fields.{with_record, without_object, with_place}
use Rattle.mud_world.specs.inner.CanGo.{CanGo, CanAdd, CanName}
use Rattle.mud_world.specs.inner.Edits.{edit, placed_at, with_key, with_names, asked_by, names_to_find, called_by}
use Rattle.mud_world.specs.inner.Edits.{AreLinked, AreMoved, AreRekeyed, AreSameLinks, IsInNone}
use Rattle.mud_world.specs.Memory.{IsKept}
use Rattle.mud_world.specs.inner.Maps.{state_of, lies_in, leaves, arrives, asks_it, is_called, AreOf, AreNames}
use Rattle.mud_world.proofs.Records.{bool_cases, record_cases}
use Rattle.mud_world.proofs.Numbering.{passing, passing-keep, passing-gain, passing-lose}
use Rattle.mud_world.proofs.Carrying.{listed}
use Rattle.mud_world.proofs.Asking.{put-there, put-new}
use Rattle.mud_key.specs.Tree.{Tree}
use Rattle.std.specs.List.{list_any}
use Rattle.mud_world.proofs.Linking.{grown}
use Rattle.mud_world.proofs.Forgetting.{shrunk}
use Rattle.mud_world.proofs.Relocating.{new_contents, still}
use Rattle.mud_world.proofs.Editing.{SameLinks, changed_by}
use Rattle.mud_world.proofs.Going.{moved_by}
use Rattle.mud_world.proofs.Moving.{sound-moved}
use Rattle.mud_world.proofs.Grown.{sound-grown, next_missing}
use Rattle.mud_world.proofs.Owned.{names-same, names-grown, names-removed, names-edited, names-renamed, kind-placed}

-- ---- one map of lists, for any test

-- the lists of a world are those of an equal world
pub of-same : (test : ℕ → Record → Bool) (w w' : State) (l l' : List (ℕ × List ℕ)) → w' ≡ w → AreOf test l w
    → AreSame l l' → AreOf test l' w'
of-same test w w' l l' is of same = λ n. same n ∙ of n ∙ ap (λ v. passing (test n) v.objects) (sym is)

-- an object was added
pub of-grown : (test : ℕ → Record → Bool) (w : State) → IsSound w → (r : Record) (l l' : List (ℕ × List ℕ))
    → AreOf test l w → AreChanged (λ n. test n r) (insert w.next) l l' → AreOf test l' (with_new w (r ∷ []))
of-grown test w sound r l l' of is = λ n. is n ∙ ap (λ v. cond (test n r) (insert w.next v) v) (of n)
    ∙ grown w sound r (test n)

-- an object was removed
pub of-removed : (test : ℕ → Record → Bool) (w : State) → IsRising 0 w.objects w.next → (o : ℕ) (r : Record)
    → record_at w o ≡ Some r → (l l' : List (ℕ × List ℕ)) → AreOf test l w
    → AreChanged (λ n. test n r) (without o) l l' → AreOf test l' (without_object w o)
of-removed test w rising o r at l l' of is = λ n. is n ∙ ap (λ v. cond (test n r) (without o v) v) (of n)
    ∙ shrunk w rising o r at (test n)

-- a record changed, and the test's result for it did not
pub of-edited : (test : ℕ → Record → Bool) (w : State) (o : ℕ) (r r' : Record) → record_at w o ≡ Some r
    → ((n : ℕ) → test n r' ≡ test n r) → (l : List (ℕ × List ℕ)) → AreOf test l w
    → AreOf test l (with_record w o r')
of-edited test w o r r' at same l of = λ n. of n ∙ sym (passing-keep (test n) o r' r w.objects at (same n))

-- an object got another key
pub asker-known : (w : State) → IsRising 0 w.objects w.next → (o : ℕ) (r : Record) → record_at w o ≡ Some r
    → (l : List (ℕ × List ℕ)) → AreOf asks_it l w → (n : ℕ) → list_any (nat_eq o) (list_at l n) ≡ asked_by n r.key
asker-known w rising o r at l of n =
    ap (list_any (nat_eq o)) (of n) ∙ listed (asks_it n) o 0 w.next w.objects rising
    ∙ ap (λ v. option_map_or (asks_it n) v false) at

pub of-rekeyed : (w : State) → IsRising 0 w.objects w.next → (o : ℕ) (r : Record) → record_at w o ≡ Some r
    → (key : Option (Tree ℕ)) (l l' : List (ℕ × List ℕ)) → AreOf asks_it l w
    → AreRekeyed o r.key key l l' → AreOf asks_it l' (with_record w o (with_key key r))
of-rekeyed w rising o r at key l l' of is = λ n.
    let here = passing (asks_it n) w.objects in
    let known : list_any (nat_eq o) here ≡ asked_by n r.key = listed (asks_it n) o 0 w.next w.objects rising
    ∙ ap (λ v. option_map_or (asks_it n) v false) at in
    is n
    ∙ ap (λ v. cond (not (asked_by n key) && asked_by n r.key) (without o (cond (asked_by n key) (put o v) v))
    (cond (asked_by n key) (put o v) v)) (of n)
    ∙ bool_cases (asked_by n key)
    (λ new.
    ap (λ b. cond (not b && asked_by n r.key) (without o (cond b (put o here) here)) (cond b (put o here) here)) new
    ∙ bool_cases (asked_by n r.key)
    (λ old. put-there o here (known ∙ old)
    ∙ sym (passing-keep (asks_it n) o (with_key key r) r w.objects at (new ∙ sym old)))
    (λ old. put-new o here (known ∙ old)
    ∙ sym (passing-gain (asks_it n) o 0 w.next (with_key key r) r w.objects rising at old new)))
    (λ new.
    ap (λ b. cond (not b && asked_by n r.key) (without o (cond b (put o here) here)) (cond b (put o here) here)) new
    ∙ bool_cases (asked_by n r.key)
    (λ old. ap (λ b. cond b (without o here) here) old
    ∙ sym (passing-lose (asks_it n) o 0 w.next (with_key key r) r w.objects rising at old new))
    (λ old. ap (λ b. cond b (without o here) here) old
    ∙ sym (passing-keep (asks_it n) o (with_key key r) r w.objects at (new ∙ sym old))))

-- ---- the world as the model of the maps
pub edited_by : (n : ℕ) (f : Record → Record) (es : List (ℕ × Record)) (r : Record) → lookup (nat_eq n) es ≡ Some r
    → edit n f es ≡ set_value (nat_eq n) es (f r)
edited_by n f es r at = ap (λ v. option_map_or (λ r. set_value (nat_eq n) es (f r)) v es) at

-- unchanged lists are equal
pub links-stay : (l : Links) → AreSameLinks l l
links-stay l = record { contents = λ n. refl; leaving = λ n. refl; arriving = λ n. refl }

-- ---- objects that do not exist yet
pub new-in_none : (a : Inside) → IsKept a → IsInNone a.next a.links
new-in_none a kept =
    record {
      contents = in_none lies_in a.links.contents kept.contents;
      leaving = in_none leaves a.links.leaving kept.leaving;
      arriving = in_none arrives a.links.arriving kept.arriving;
    }
  where
    in_none : (test : ℕ → Record → Bool) (l : List (ℕ × List ℕ)) → AreOf test l (state_of a) → (m : ℕ)
        → list_any (nat_eq a.next) (list_at l m) ≡ false
    in_none test l of m =
        ap (list_any (nat_eq a.next)) (of m)
        ∙ listed (test m) a.next 0 a.next a.records kept.sound.rising
        ∙ ap (λ v. option_map_or (test m) v false) (next_missing (state_of a) kept.sound)

module _ (a a' : Inside) (kept : IsKept a) where
  abbrev w : State
  w = state_of a

  -- nothing changed
  pub state-same : a'.next ≡ a.next → a'.records ≡ a.records → state_of a' ≡ w
  state-same next same = λ i. record { objects = same i; next = next i }

  pub kept-same : a'.next ≡ a.next → a'.records ≡ a.records → AreSameLinks a.links a'.links
      → AreSame a.askers a'.askers → HaveSameOwners a.owners a'.owners → IsKept a'
  kept-same next same links askers owners =
      let is = state-same next same in
      record {
        sound = subst IsSound (sym is) kept.sound;
        contents = of-same lies_in w (state_of a') a.links.contents a'.links.contents is kept.contents links.contents;
        leaving = of-same leaves w (state_of a') a.links.leaving a'.links.leaving is kept.leaving links.leaving;
        arriving = of-same arrives w (state_of a') a.links.arriving a'.links.arriving is kept.arriving links.arriving;
        askers = of-same asks_it w (state_of a') a.askers a'.askers is kept.askers askers;
        names = names-same w (state_of a') a.owners a'.owners kept.names (λ n t. ap (λ v. is_called v n t) is) owners;
      }

  -- an object was added
  module _ (r : Record) (can : CanAdd w r) (next : a'.next ≡ a.next + 1)
      (records : a'.records ≡ a.records ++ (a.next, r) ∷ []) where
    pub state-grown : state_of a' ≡ with_new w (r ∷ [])
    state-grown = λ i. record { objects = records i; next = next i }

    pub kept-grown : AreLinked r.kind (insert a.next) a.links a'.links → AreSame a.askers a'.askers
        → AreOwnersPassed [] (names_to_find r) a.next a.owners a'.owners → IsKept a'
    kept-grown linked askers passed =
        let of = λ (test : ℕ → Record → Bool) (l : List (ℕ × List ℕ)) (is : AreOf test l (with_new w (r ∷ []))). subst
        (λ (v : State). AreOf test l v) (sym state-grown) is in
        record {
          sound = subst IsSound (sym state-grown) (sound-grown w kept.sound r can);
          contents =
              of lies_in a'.links.contents
              (of-grown lies_in w kept.sound r a.links.contents a'.links.contents kept.contents linked.contents);
          leaving =
              of leaves a'.links.leaving
              (of-grown leaves w kept.sound r a.links.leaving a'.links.leaving kept.leaving linked.leaving);
          arriving =
              of arrives a'.links.arriving
              (of-grown arrives w kept.sound r a.links.arriving a'.links.arriving kept.arriving linked.arriving);
          askers = of asks_it a'.askers
              (of-grown asks_it w kept.sound r a.askers a'.askers kept.askers
              (λ m. askers m
              ∙ sym (ap
              (λ k. cond (asked_by m k) (insert a.next (list_at a.askers m)) (list_at a.askers m))
              can.new.keyless)));
          names = subst (λ (v : State). AreNames a'.owners v) (sym state-grown)
              (names-grown w kept.sound r can a.owners a'.owners kept.names passed);
        }

  -- an object that no name finds was removed; the next number may differ
  module _ (n : ℕ) (r : Record) (at : record_at w n ≡ Some r)
      (records : a'.records ≡ remove_entry (nat_eq n) a.records) where
    state-removed : state_of a' ≡ record (without_object w n) { next = a'.next }
    state-removed = λ i. record { objects = records i; next = a'.next }

    pub kept-removed : AreLinked r.kind (without n) a.links a'.links
        → AreChanged (λ m. asked_by m r.key) (without n) a.askers a'.askers → names_to_find r ≡ []
        → HaveSameOwners a.owners a'.owners
        → IsSound (record (without_object w n) { next = a'.next }) → IsKept a'
    kept-removed unlinked unasked nameless owners sound =
        let of = λ (test : ℕ → Record → Bool) (l : List (ℕ × List ℕ)) (is : AreOf test l (without_object w n)). subst
        (λ (v : State). AreOf test l v) (sym state-removed) is in
        record {
          sound = subst IsSound (sym state-removed) sound;
          contents =
              of lies_in a'.links.contents
              (of-removed lies_in w kept.sound.rising n r at a.links.contents a'.links.contents kept.contents
              unlinked.contents);
          leaving =
              of leaves a'.links.leaving
              (of-removed leaves w kept.sound.rising n r at a.links.leaving a'.links.leaving kept.leaving
              unlinked.leaving);
          arriving =
              of arrives a'.links.arriving
              (of-removed arrives w kept.sound.rising n r at a.links.arriving a'.links.arriving kept.arriving
              unlinked.arriving);
          askers = of asks_it a'.askers
              (of-removed asks_it w kept.sound.rising n r at a.askers a'.askers kept.askers unasked);
          names = subst (λ (v : State). AreNames a'.owners v) (sym state-removed)
              (names-removed w kept.sound.rising n r at nameless a.owners a'.owners kept.names owners);
        }

  -- a record changed, but not its place, its ends and its names
  module _ (n : ℕ) (f : Record → Record) (r : Record) (at : record_at w n ≡ Some r) (next : a'.next ≡ a.next)
      (records : a'.records ≡ edit n f a.records) where
    pub state-edited : state_of a' ≡ with_record_changed w n f
    state-edited =
        (λ i. record { objects = (records ∙ edited_by n f a.records r at) i; next = next i })
        ∙ sym (changed_by w n f r at)

    -- the lists of a test that gives the same result for both records
    edited_of : (test : ℕ → Record → Bool) → ((m : ℕ) → test m (f r) ≡ test m r) → (l l' : List (ℕ × List ℕ))
        → AreOf test l w → AreSame l l' → AreOf test l' (state_of a')
    edited_of test same l l' of is =
        subst (λ (v : State). AreOf test l' v) (sym (state-edited ∙ changed_by w n f r at))
        (λ m. is m ∙ of-edited test w n r (f r) at same l of m)

    edited_names : names_to_find (f r) ≡ names_to_find r → HaveSameOwners a.owners a'.owners
        → AreNames a'.owners (state_of a')
    edited_names same owners =
        subst (λ (v : State). AreNames a'.owners v) (sym (state-edited ∙ changed_by w n f r at))
        (names-edited w n r (f r) at same a.owners a'.owners kept.names owners)

    pub kept-edited : SameLinks (f r).kind r.kind → AreSameLinks a.links a'.links → (f r).key ≡ r.key
        → AreSame a.askers a'.askers → names_to_find (f r) ≡ names_to_find r → HaveSameOwners a.owners a'.owners
        → IsSound (with_record_changed w n f) → IsKept a'
    kept-edited kind links key askers names owners sound = record {
      sound = subst IsSound (sym state-edited) sound;
      contents =
          edited_of lies_in
          (λ m. ap (is_number m) kind.place) a.links.contents a'.links.contents kept.contents links.contents;
      leaving =
          edited_of leaves
          (λ m. ap (is_number m) kind.source) a.links.leaving a'.links.leaving kept.leaving links.leaving;
      arriving =
          edited_of arrives
          (λ m. ap (is_number m) kind.destination) a.links.arriving a'.links.arriving kept.arriving links.arriving;
      askers = edited_of asks_it (λ m. ap (asked_by m) key) a.askers a'.askers kept.askers askers;
      names = edited_names names owners;
    }

  -- an object got another key, or none
  module _ (n : ℕ) (key : Option (Tree ℕ)) (r : Record) (at : record_at w n ≡ Some r) (next : a'.next ≡ a.next)
      (records : a'.records ≡ edit n (with_key key) a.records) where
    pub kept-keyed : AreSameLinks a.links a'.links → AreRekeyed n r.key key a.askers a'.askers
        → HaveSameOwners a.owners a'.owners → IsSound (with_record_changed w n (with_key key)) → IsKept a'
    kept-keyed links askers owners sound =
        let is = state-edited n (with_key key) r at next records in
        let by = changed_by w n (with_key key) r at in
        record {
          sound = subst IsSound (sym is) sound;
          contents =
              edited_of n (with_key key) r at next records lies_in
              (λ m. refl) a.links.contents a'.links.contents kept.contents links.contents;
          leaving =
              edited_of n (with_key key) r at next records leaves
              (λ m. refl) a.links.leaving a'.links.leaving kept.leaving links.leaving;
          arriving =
              edited_of n (with_key key) r at next records arrives
              (λ m. refl) a.links.arriving a'.links.arriving kept.arriving links.arriving;
          askers = subst (λ (v : State). AreOf asks_it a'.askers v) (sym (is ∙ by))
              (of-rekeyed w kept.sound.rising n r at key a.askers a'.askers kept.askers askers);
          names = edited_names n (with_key key) r at next records refl owners;
        }

  -- an object got other names
  module _ (n : ℕ) (names : List (List ℕ)) (r : Record) (at : record_at w n ≡ Some r) (next : a'.next ≡ a.next)
      (records : a'.records ≡ edit n (with_names names) a.records) where
    pub kept-renamed : CanName w n names → AreSameLinks a.links a'.links → AreSame a.askers a'.askers
        → AreOwnersPassed (names_to_find r) (called_by r.kind names) n a.owners a'.owners
        → IsSound (with_record_changed w n (with_names names)) → IsKept a'
    kept-renamed can links askers passed sound =
        let is = state-edited n (with_names names) r at next records in
        let by = changed_by w n (with_names names) r at in
        record {
          sound = subst IsSound (sym is) sound;
          contents =
              edited_of n (with_names names) r at next records lies_in
              (λ m. refl) a.links.contents a'.links.contents kept.contents links.contents;
          leaving =
              edited_of n (with_names names) r at next records leaves
              (λ m. refl) a.links.leaving a'.links.leaving kept.leaving links.leaving;
          arriving =
              edited_of n (with_names names) r at next records arrives
              (λ m. refl) a.links.arriving a'.links.arriving kept.arriving links.arriving;
          askers = edited_of n (with_names names) r at next records asks_it
              (λ m. refl) a.askers a'.askers kept.askers askers;
          names = subst (λ (v : State). AreNames a'.owners v) (sym (is ∙ by))
              (names-renamed w n r at names
              (λ player. can.free (ap (λ v. option_map_or (λ r. is_player_kind r.kind) v false) at ∙ player))
              a.owners a'.owners kept.names passed);
        }

  -- an object got another place
  module _ (t q y : ℕ) (can : CanGo w t q y) (next : a'.next ≡ a.next)
      (records : a'.records ≡ edit t (placed_at y) a.records) where
    with_its_record : {P : Type 0} → ((r : Record) → record_at w t ≡ Some r → kind_place r.kind ≡ Some q → P) → P
    with_its_record f =
        record_cases (record_at w t)
        (λ e. let bad : None ≡ Some q = sym (ap (option_and_then (λ r. kind_place r.kind)) e) ∙ can.from in absurd (cc))
        (λ r e. f r e (sym (ap (option_and_then (λ r. kind_place r.kind)) e) ∙ can.from))

    pub state-moved : state_of a' ≡ with_place w t y
    state-moved = with_its_record (λ r at from. state-edited t (placed_at y) r at next records)

    pub kept-moved : AreMoved t q y a.links.contents a'.links.contents → AreSame a.links.leaving a'.links.leaving
        → AreSame a.links.arriving a'.links.arriving → AreSame a.askers a'.askers → HaveSameOwners a.owners a'.owners
        → IsKept a'
    kept-moved contents leaving arriving askers owners =
        with_its_record (λ r at from. record {
          sound = subst IsSound (sym (state-moved ∙ moved_by w t y r at))
              (sound-moved w kept.sound t y r at q from (can.fit r at) can.off);
          contents = subst (λ (v : State). AreOf lies_in a'.links.contents v) (sym (state-moved ∙ moved_by w t y r at))
              (λ n.
              contents n
              ∙ ap (λ v. cond (nat_eq n q) (without t (cond (nat_eq n y) (insert t v) v))
              (cond (nat_eq n y) (insert t v) v)) (kept.contents n)
              ∙ sym (new_contents w t q y r kept.sound.rising at from can.apart n));
          leaving =
              edited_of t (placed_at y) r at next records leaves
              (λ m. ap (λ v. is_number m (option_map (λ p. p.source) v)) (still y r.kind)) a.links.leaving
              a'.links.leaving kept.leaving leaving;
          arriving =
              edited_of t (placed_at y) r at next records arrives
              (λ m. ap (λ v. is_number m (option_map (λ p. p.destination) v)) (still y r.kind)) a.links.arriving
              a'.links.arriving kept.arriving arriving;
          askers = edited_of t (placed_at y) r at next records asks_it
              (λ m. refl) a.askers a'.askers kept.askers askers;
          names = edited_names t (placed_at y) r at next records
              (ap (λ b. cond b r.names []) (kind-placed y r.kind)) owners;
        })
