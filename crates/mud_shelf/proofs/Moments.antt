-- The stages of a file that is made the next volume, and what a crash leaves of it.
use Rattle.std.proofs.Common.{◌≡◌, ◌≤◌, ◌⊎◌, inl, inr, ℕ, List, Option, Some, None}
use Rattle.std.proofs.Common.{refl, sym, ◌∙◌, ap, subst, arith}
use Rattle.std.specs.Prelude.{option_map}
use Rattle.mud_journal.specs.Disk.{made}
use Rattle.mud_shelf.specs.Draft.{Stage, Temporary, Renamed, Becomes, MayLeave, MayLeaveNow}
use Rattle.mud_shelf.specs.Draft.{after_rename, Elapses, IsNoneOrAll}
use Rattle.mud_shelf.specs.inner.Publishing.{HasText, IsEither}

-- what a crash might have left since a moment
abbrev pub Since : Type 1
Since = ℕ → Option (List ℕ) → Type 0

-- bytes that a crash tears
abbrev pub Tearing : Type 1
Tearing = List ℕ → List ℕ → Type 0

-- after a rename the file has either name
pub renamed : (s0 s1 : Option Stage) (text : List ℕ) → HasText s0 text
    → (s1 ≡ s0) ⊎ Becomes after_rename s0 s1 → IsEither s1 text
renamed s0 s1 text is (inl same) = subst (λ s. IsEither s text) (sym same) (go s0 is)
  where
    go : (s : Option Stage) → HasText s text → IsEither s text
    go None is = tt
    go (Some s) is = inl is
renamed s0 s1 text is (inr moved) = subst (λ s. IsEither s text) (sym moved) (go s0 is)
  where
    go : (s : Option Stage) → HasText s text → IsEither (option_map after_rename s) text
    go None is = tt
    go (Some s) is = inr (ap after_rename is)

-- a file with either name leaves none of the volume or all of it
leaves : (T : Tearing) (text : List ℕ) (s : Stage) (left : Option (List ℕ))
    → (s ≡ Temporary (made text)) ⊎ (s ≡ Renamed (made text)) → MayLeave T s left → IsNoneOrAll T text left
leaves T text s left (inl is) may =
    subst (IsNoneOrAll T text) (sym (subst (λ x. MayLeave T x left) is may)) tt
leaves T text s left (inr is) may = subst (λ x. MayLeave T x left) is may

-- a stage that is unknown after a rename was unknown before it
unknown_before : (s0 s1 : Option Stage) → (s1 ≡ s0) ⊎ Becomes after_rename s0 s1 → s1 ≡ None → s0 ≡ None
unknown_before s0 s1 (inl same) none = sym same ∙ none
unknown_before None s1 (inr moved) none = refl
unknown_before (Some s) s1 (inr moved) none = absurd (cc)

-- a rename, if it leaves either name
rename : (T : Tearing) (text : List ℕ) (s0 s1 : Option Stage) (before now : ℕ) (past since : Since)
    → (s1 ≡ s0) ⊎ Becomes after_rename s0 s1 → IsEither s1 text
    → (s0 ≡ None → (moment : ℕ) (left : Option (List ℕ)) → past moment left)
    → Elapses before now past since (MayLeaveNow T s1) → Elapses before now past since (IsNoneOrAll T text)
rename T text s0 None before now past since moved either unknown e = record {
  later = e.later;
  only = λ moment left le was. inl (unknown (unknown_before s0 None moved refl) moment left);
}
rename T text s0 (Some s) before now past since moved either unknown e = record {
  later = e.later;
  only = λ moment left le was. go left (e.only moment left le was);
}
  where
    go : {P : Type 0} (left : Option (List ℕ)) → P ⊎ MayLeave T s left → P ⊎ IsNoneOrAll T text left
    go left (inl old) = inl old
    go left (inr new) = inr (leaves T text s left either new)

-- one call after others
goes_on : (before mid now : ℕ) (past between since : Since) (P : Option (List ℕ) → Type 0)
    → Elapses before mid past between P → Elapses mid now between since P → Elapses before now past since P
goes_on before mid now past between since P first second = record {
  later = omega (arith, first.later, second.later);
  only = λ moment left le was. go moment left le
      (second.only moment left (let further = first.later in omega (arith, le, further)) was);
}
  where
    go : (moment : ℕ) (left : Option (List ℕ)) → moment ≤ before → between moment left ⊎ P left
        → past moment left ⊎ P left
    go moment left le (inl old) = first.only moment left le old
    go moment left le (inr new) = inr new

-- a rename that failed, between the calls before and those after it
pub failed : (T : Tearing) (text : List ℕ) (s1 s2 : Option Stage) (m0 m1 m2 m3 : ℕ) (l0 l1 l2 l3 : Since)
    → HasText s1 text → (s2 ≡ s1) ⊎ Becomes after_rename s1 s2
    → (s1 ≡ None → (moment : ℕ) (left : Option (List ℕ)) → l1 moment left)
    → Elapses m0 m1 l0 l1 (IsNoneOrAll T text) → Elapses m1 m2 l1 l2 (MayLeaveNow T s2)
    → Elapses m2 m3 l2 l3 (IsNoneOrAll T text) → Elapses m0 m3 l0 l3 (IsNoneOrAll T text)
failed T text s1 s2 m0 m1 m2 m3 l0 l1 l2 l3 is moved unknown filled call looked =
    goes_on m0 m2 m3 l0 l2 l3 (IsNoneOrAll T text)
    (goes_on m0 m1 m2 l0 l1 l2 (IsNoneOrAll T text) filled
    (rename T text s1 s2 m1 m2 l1 l2 moved (renamed s1 s2 text is moved) unknown call))
    looked
