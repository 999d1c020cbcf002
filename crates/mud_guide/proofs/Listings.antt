-- The listings of two parts make up that of the whole.
use Rattle.std.proofs.Common.{◌≡◌, ℕ, ◌+◌, ◌-◌, ◌<◌, inl, inr, List, ◌++◌, length, get_or, Option}
use Rattle.std.proofs.Common.{◌∙◌, ap, sym, subst, arith}
use Rattle.std.proofs.lemmas.Bool.{cases_order}
use Rattle.std.proofs.lemmas.List.{get_or_append_left, get_or-append-add, length-append}
use Rattle.std.proofs.lemmas.List.Elements.{All-append}
use Rattle.std.specs.Prelude.{All}
use Rattle.std.specs.List.{AllZip}
use Rattle.mud_world.specs.State.{State}
use Rattle.mud_roads.specs.declared.label.Label.{Label}
use Rattle.mud_roads.specs.Passable.{Knowledge}
use Rattle.mud_cert.specs.Certificate.{Account, IsAccount}
use Rattle.mud_guide.specs.declared.lister.Listing.{Listing}
use Rattle.mud_guide.specs.Legs.{Leg, IsLeg}
use Rattle.mud_guide.specs.inner.Listings.{IsListed, AreListed, IsListing}
use Rattle.mud_guide.proofs.Parts.{allzip-beside}
use Rattle.mud_guide.proofs.Party.{allzip-length}

-- the members from the first on are all members
pub listed-first : (labels : ℕ → ℕ → Option Label) (next : ℕ) (js : List Leg) (es : List Account)
    → AreListed (λ m. labels (0 + m)) next js es → AreListed labels next js es
listed-first labels next js es are = record {
  long = are.long;
  each = λ m j a h.
      let P : ℕ → Type 0 = λ k. IsListed (labels k) next (get_or js m j) (get_or es m a) in
      let same : 0 + m ≡ m = omega arith in
      subst P same (are.each m j a h);
}

-- the claims of two parts
listed-beside : (labels : ℕ → ℕ → Option Label) (next first behind : ℕ) (us xs : List Leg) (vs ys : List Account)
    → behind ≡ first + length us → AreListed (λ m. labels (first + m)) next us vs
    → AreListed (λ m. labels (behind + m)) next xs ys → AreListed (λ m. labels (first + m)) next (us ++ xs) (vs ++ ys)
listed-beside labels next first behind us xs vs ys at one other = record {
  long = omega (arith, one.long, other.long, length-append us xs, length-append vs ys);
  each = each;
}
  where
    behind-all : (k m : ℕ) (j : Leg) (a : Account) → m ≡ length vs + k → k < length ys
        → IsListed (labels (first + m)) next (get_or (us ++ xs) m j) (get_or (vs ++ ys) m a)
    behind-all k m j a is inside =
        let P : ℕ → Type 0 = λ n. IsListed (labels n) next (get_or (us ++ xs) m j) (get_or (vs ++ ys) m a) in
        let J : Leg → Type 0 = λ x. IsListed (labels (behind + k)) next x (get_or (vs ++ ys) m a) in
        let A : Account → Type 0 = λ x. IsListed (labels (behind + k)) next (get_or xs k j) x in
        let there : m ≡ length us + k = omega (arith, is, one.long) in
        let same : behind + k ≡ first + m = omega (arith, at, there) in
        let leg : get_or (us ++ xs) m j ≡ get_or xs k j =
        ap (λ (n : ℕ). get_or (us ++ xs) n j) there ∙ get_or-append-add us xs k j in
        let account : get_or (vs ++ ys) m a ≡ get_or ys k a =
        ap (λ (n : ℕ). get_or (vs ++ ys) n a) is ∙ get_or-append-add vs ys k a in
        subst P same (subst J (sym leg) (subst A (sym account) (other.each k j a inside)))

    among : (m : ℕ) (j : Leg) (a : Account) → m < length vs
        → IsListed (labels (first + m)) next (get_or (us ++ xs) m j) (get_or (vs ++ ys) m a)
    among m j a less =
        let J : Leg → Type 0 = λ x. IsListed (labels (first + m)) next x (get_or (vs ++ ys) m a) in
        let A : Account → Type 0 = λ x. IsListed (labels (first + m)) next (get_or us m j) x in
        let inside : m < length us = omega (arith, less, one.long) in
        subst J (sym (get_or_append_left us xs j m inside))
        (subst A (sym (get_or_append_left vs ys a m less)) (one.each m j a less))

    each : (m : ℕ) (j : Leg) (a : Account) → m < length (vs ++ ys)
        → IsListed (labels (first + m)) next (get_or (us ++ xs) m j) (get_or (vs ++ ys) m a)
    each m j a h = elim (cases_order m (length vs)) [
      | inl same ↦ behind-all 0 m j a (omega (arith, same)) (omega (arith, same, h, length-append vs ys))
      | inr apart ↦ elim apart [
        | inl less ↦ among m j a less
        | inr more ↦ behind-all (m - length vs) m j a (omega (arith, more))
            (omega (arith, more, h, length-append vs ys))
      ]
    ]

-- the listings of two parts of a party
pub listing-beside : (w : State) (labels : ℕ → ℕ → Option Label) (first behind : ℕ) (to : Option ℕ)
    (ts xs ys : List Knowledge) (l m both : Listing) → ts ≡ xs ++ ys → behind ≡ first + length xs
    → IsListing w labels first to xs l → IsListing w labels behind to ys m
    → both.legs.items ≡ l.legs.items ++ m.legs.items
    → both.accounts.items ≡ l.accounts.items ++ m.accounts.items
    → IsListing w labels first to ts both
listing-beside w labels first behind to ts xs ys l m both parted at one other legs accounts =
    let R : Knowledge → Leg → Type 0 = λ t j. IsLeg w to t.player j in
    let us = l.legs.items in
    let vs = m.legs.items in
    let ds = l.accounts.items in
    let es = m.accounts.items in
    let T : List Knowledge → Type 0 = λ ks. AllZip R ks both.legs.items in
    let J : List Leg → Type 0 = λ js. AreListed (λ m. labels (first + m)) w.next js both.accounts.items in
    let A : List Account → Type 0 = λ ns. AreListed (λ m. labels (first + m)) w.next (us ++ vs) ns in
    let long : behind ≡ first + length us = omega (arith, at, allzip-length R xs us one.legs) in
    record {
      legs = subst T (sym parted) (subst (AllZip R (xs ++ ys)) (sym legs)
          (allzip-beside R xs ys us vs one.legs other.legs));
      accounts = subst J (sym legs) (subst A (sym accounts)
          (listed-beside labels w.next first behind us vs ds es long one.accounts other.accounts));
      limits = subst (All IsAccount) (sym accounts) (All-append IsAccount ds es one.limits other.limits);
    }
