-- The readers find what the relations define.
use Rattle.std.proofs.Common.{◌≡◌, ℕ, Bool, true, false, List, [], ◌∷◌, Option, Some, None, Ok, Err, Result, refl, sym}
use Rattle.std.proofs.Common.{◌∙◌, ap, subst, arith, append-nil}
use Rattle.std.specs.Prelude.{nat_le, if◌then◌else◌, ◌↔◌}
use Rattle.std.specs.Option.{option_and_then}
use Rattle.std.proofs.lemmas.List.Elements.{All-head}
use Rattle.std.proofs.lemmas.Slice.Eq.{bytes_eq-Decides}
use Rattle.std.proofs.lemmas.Bool.{leb-true, le-leb, and_parts, and_from, true≢false}
use Rattle.mud_key.specs.declared.limits.TheConstants.{MOST_OBJECTS, MOST_NOTS}
use Rattle.mud_key.specs.declared.names.NamesFault.{NamesFault}
use Rattle.mud_key.specs.declared.names.NamesFault.TheVariants.{OutOfMemory as NoMemory, BadName}
use Rattle.mud_key.specs.declared.key_fault.KeyFault.{KeyFault}
use Rattle.mud_key.specs.declared.key_fault.KeyFault.TheVariants.{OutOfMemory, BadKey, TooManyAtoms, NoSuch, Ambiguous}
use Rattle.mud_key.specs.Tree.{Tree, objects_of, nots_of, IsWithinLimits}
use Rattle.mud_key.specs.Name.{IsName}
use Rattle.mud_key.specs.inner.NamesTexts.{IsNamesText, NamesReadAs, NameReadsAs, is_only, one}
use Rattle.mud_key.specs.inner.NameReader.{Stand, name_run, name_start, names_at_end}
use Rattle.mud_key.specs.KeyText.{SpellsKey, ReadsAs}
use Rattle.mud_key.specs.inner.Machine.{run, start, MachineState, Mode, chain_at_end}
use Rattle.mud_key.specs.inner.Builder.{outer_settled}
use Rattle.mud_key.specs.Finds.{names_in, name_in, key_in, Finds, FindsKey}
use Rattle.mud_key.specs.inner.Limits.{is_within_limits}
use Rattle.mud_key.specs.Laws.{IsTheName, IsTheKey}
use Rattle.mud_key.proofs.NamesSound.{names_sound}
use Rattle.mud_key.proofs.NamesTaken.{names_taken, each_name, one_list}
use Rattle.mud_key.proofs.Sound.{sound}
use Rattle.mud_key.proofs.Complete.{taken, one_key, Reaches}

-- ---- names

found_names : (text : List ℕ) (names : List (List ℕ)) (s : Option Stand) → name_run (Some name_start) text ≡ s
    → option_and_then names_at_end s ≡ Some names → IsNamesText text names
found_names text names None e h = absurd (let bad : ◌≡◌ {A = Option (List (List ℕ))} None (Some names) = h in cc)
found_names text names (Some s) e h = names_sound text s names e h

pub names_law : (text : List ℕ) (names : List (List ℕ)) → (names_in text ≡ Some names) ↔ IsNamesText text names
unfolding names_in
names_law = λ text names. (
  (λ h. found_names text names (name_run (Some name_start) text) refl h),
  (λ spells. let t = names_taken text names spells in ap (option_and_then names_at_end) t.1 ∙ t.2),
)

pub names_found : (text : List ℕ) (result : Result (List (List ℕ)) NamesFault) → NamesReadAs text result
    → Finds (names_in text) result
names_found text (Ok names) h = (names_law text names).1 h
names_found text (Err NoMemory) h = tt
names_found text (Err BadName) h = none (names_in text) refl
  where
    none : (o : Option (List (List ℕ))) → names_in text ≡ o → names_in text ≡ None
    none None e = e
    none (Some names) e = absurd (h names ((names_law text names).0 e))

pub names_read : (text : List ℕ) (result : Result (List (List ℕ)) NamesFault) → Finds (names_in text) result
    → NamesReadAs text result
names_read text (Ok names) found = (names_law text names).0 found
names_read text (Err NoMemory) found = tt
names_read text (Err BadName) found = λ names spelled.
    let both : ◌≡◌ {A = Option (List (List ℕ))} None (Some names) = sym found ∙ (names_law text names).1 spelled in
    cc

-- ---- one name

-- a text that is a name is the names text of this name
pub name_alone : (text : List ℕ) → IsName text → IsNamesText text (text ∷ [])
name_alone text name =
    record {
      spells =
          one (record { before = 0; behind = 0; spaces = sym (append-nil text); is_name = name });
      few = omega arith;
    }

-- a text that is the names text of itself is a name
pub alone_name : (text : List ℕ) (names : List (List ℕ)) → IsNamesText text names → is_only text names ≡ true
    → IsName text
alone_name text [] h e = absurd (cc)
alone_name text (name ∷ []) h e =
    subst IsName ((bytes_eq-Decides name text).0 e) (All-head IsName name [] (each_name h.spells))
alone_name text (name ∷ next ∷ names) h e = absurd (cc)

same_text : (text : List ℕ) → is_only text (text ∷ []) ≡ true
same_text text = (bytes_eq-Decides text text).1 refl

abbrev one_of : List ℕ → List (List ℕ) → Option (List ℕ)
one_of text names = if is_only text names then Some text else None

one_of_is : (text name : List ℕ) (names : List (List ℕ)) (b : Bool) → is_only text names ≡ b
    → (if b then Some text else None) ≡ Some name → (name ≡ text) × (is_only text names ≡ true)
one_of_is text name names true e h =
    (sym (let same : ◌≡◌ {A = Option (List ℕ)} (Some text) (Some name) = h in let it : text ≡ name = cc in it), e)
one_of_is text name names false e h = absurd (let bad : ◌≡◌ {A = Option (List ℕ)} None (Some name) = h in cc)

is_name_found : (text name : List ℕ) (o : Option (List (List ℕ))) → names_in text ≡ o
    → option_and_then (one_of text) o ≡ Some name → (name ≡ text) × IsName text
is_name_found text name None e h = absurd (let bad : ◌≡◌ {A = Option (List ℕ)} None (Some name) = h in cc)
is_name_found text name (Some names) e h =
    let parts = one_of_is text name names (is_only text names) refl h in
    (parts.0, alone_name text names ((names_law text names).0 e) parts.1)

pub name_law : IsTheName
unfolding name_in
name_law = λ text name. (
  (λ h. is_name_found text name (names_in text) refl h),
  (λ is.
      ap (option_and_then (one_of text)) ((names_law text (text ∷ [])).1 (name_alone text is.1))
      ∙ ap (λ b. if b then Some text else None) (same_text text)
      ∙ ap Some (sym is.0)),
)

pub name_found : (text : List ℕ) (result : Result (List ℕ) NamesFault) → NameReadsAs text result
    → Finds (name_in text) result
name_found text (Ok name) h = (name_law text name).1 h
name_found text (Err NoMemory) h = tt
name_found text (Err BadName) h = none (name_in text) refl
  where
    none : (o : Option (List ℕ)) → name_in text ≡ o → name_in text ≡ None
    none None e = e
    none (Some name) e = absurd (h ((name_law text name).0 e).1)

pub not_read : (text : List ℕ) (fault : NamesFault) → NamesReadAs text (Err fault) → NameReadsAs text (Err fault)
not_read text NoMemory h = tt
not_read text BadName h = λ is. h (text ∷ []) (name_alone text is)

pub not_alone : (text : List ℕ) (names : List (List ℕ)) → IsNamesText text names → is_only text names ≡ false
    → IsName text → ⊥
not_alone text names h e is =
    true≢false (sym (same_text text) ∙ ap (is_only text) (one_list text (text ∷ []) names (name_alone text is) h) ∙ e)

-- ---- keys

within : (k : Tree (List ℕ)) → IsWithinLimits k → is_within_limits k ≡ true
within k h = and_from _ _ (le-leb (objects_of k) MOST_OBJECTS h.objects) (le-leb (nots_of k) MOST_NOTS h.nots)

is_within : (k : Tree (List ℕ)) → is_within_limits k ≡ true → IsWithinLimits k
is_within k e = let parts = and_parts (nat_le (objects_of k) MOST_OBJECTS) (nat_le (nots_of k) MOST_NOTS) e in
    record { objects = leb-true (objects_of k) MOST_OBJECTS parts.0; nots = leb-true (nots_of k) MOST_NOTS parts.1 }

abbrev limited : Tree (List ℕ) → Option (Tree (List ℕ))
limited key = if is_within_limits key then Some key else None

abbrev whole_of : MachineState → Option (Tree (List ℕ))
whole_of s = outer_settled s.0 s.1

limited_is : (k key : Tree (List ℕ)) (b : Bool) → is_within_limits k ≡ b → (if b then Some k else None) ≡ Some key
    → (k ≡ key) × (is_within_limits k ≡ true)
limited_is k key true e h =
    ((let same : ◌≡◌ {A = Option (Tree (List ℕ))} (Some k) (Some key) = h in let it : k ≡ key = cc in it), e)
limited_is k key false e h = absurd (let bad : ◌≡◌ {A = Option (Tree (List ℕ))} None (Some key) = h in cc)

settled_key : (text : List ℕ) (key : Tree (List ℕ)) (m : Mode) (o : Option (Tree (List ℕ)))
    → run start text ≡ Some ([], m) → chain_at_end m ≡ o → option_and_then limited o ≡ Some key
    → SpellsKey text key × IsWithinLimits key
settled_key text key m None at e h = absurd (let bad : ◌≡◌ {A = Option (Tree (List ℕ))} None (Some key) = h in cc)
settled_key text key m (Some k) at e h =
    let parts = limited_is k key (is_within_limits k) refl h in
    subst (λ k. SpellsKey text k × IsWithinLimits k) parts.0 (sound text m k at e, is_within k parts.1)

found_key : (text : List ℕ) (key : Tree (List ℕ)) (s : Option MachineState) → run start text ≡ s
    → option_and_then limited (option_and_then whole_of s) ≡ Some key → SpellsKey text key × IsWithinLimits key
found_key text key None at h = absurd (let bad : ◌≡◌ {A = Option (Tree (List ℕ))} None (Some key) = h in cc)
found_key text key (Some ([], m)) at h = settled_key text key m (chain_at_end m) at refl h
found_key text key (Some (f ∷ outer, m)) at h =
    absurd (let bad : ◌≡◌ {A = Option (Tree (List ℕ))} None (Some key) = h in cc)

key_reached : (text : List ℕ) (key : Tree (List ℕ)) → Reaches (run start text) [] key
    → option_and_then whole_of (run start text) ≡ Some key
key_reached text key r = ap (option_and_then whole_of) r.there ∙ r.whole

pub key_law : IsTheKey
unfolding key_in
key_law = λ text key. (
  (λ h. found_key text key (run start text) refl h),
  (λ is.
      ap (option_and_then limited) (key_reached text key (taken is.0 []))
      ∙ ap (λ b. if b then Some key else None) (within key is.1)),
)

no_key : (text : List ℕ) → ((key : Tree (List ℕ)) → SpellsKey text key → IsWithinLimits key → ⊥)
    → (o : Option (Tree (List ℕ))) → key_in text ≡ o → key_in text ≡ None
no_key text none None e = e
no_key text none (Some key) e = let is = (key_law text key).0 e in absurd (none key is.0 is.1)

pub key_found : (text : List ℕ) (result : Result (Tree (List ℕ)) KeyFault) → ReadsAs text result → FindsKey text result
key_found text (Ok key) h = (key_law text key).1 h
key_found text (Err OutOfMemory) h = tt
key_found text (Err (BadKey at)) h = no_key text (λ key spells within. h.0 key spells) (key_in text) refl
key_found text (Err TooManyAtoms) h =
    no_key text (λ key spells within. h.2 (subst IsWithinLimits (one_key text key h.0 spells h.1) within))
    (key_in text) refl
key_found text (Err NoSuch) h = h
key_found text (Err Ambiguous) h = h
