-- The tests of a certificate return the first doubt that holds, and none if none holds.
use Rattle.std.proofs.Common.{◌≡◌, ℕ, zero, suc, take, drop, ◌<◌, ◌≤◌, ◌⊎◌, inl, inr, List, [], ◌∷◌, ◌++◌, length}
use Rattle.std.proofs.Common.{Option, None, Some, false, refl, sym, ◌∙◌, ap, subst, arith, append_assoc, append-nil}
use Rattle.std.proofs.Common.{length-append}
use Rattle.std.specs.Prelude.{slice_get}
use Rattle.std.proofs.Math.Seq.{take-append_seam}
use Rattle.mud_world.specs.State.{State}
use Rattle.mud_world.specs.Sound.{IsSound}
use Rattle.mud_cert.specs.declared.cert.Form.{Form}
use Rattle.mud_cert.specs.declared.doubt.Doubt.{Doubt}
use Rattle.mud_cert.specs.declared.doubt.Doubt.TheVariants as doubts
use Rattle.mud_cert.specs.Certificate.{Account, Certificate, IsCertificate}
use Rattle.mud_cert.specs.inner.Tests.{◌or◌, unless, concludes, member_doubt, members_doubt, first_doubt}
use Rattle.mud_cert.specs.Doubts.{Holds, HoldsAt, IsFirstDoubt}
use Rattle.mud_cert.specs.Valid.{IsValid}
use Rattle.mud_cert.specs.Laws.{NoDoubtIsValid, ValidOrDoubted, OneFirstDoubt}
use Rattle.mud_cert.proofs.Conclusions.{concludes-to}
use Rattle.mud_cert.proofs.Doubtless.{or-none}
use Rattle.mud_cert.proofs.Doubting.{or-some, unless-some, fails, rank, Raises, ranked, raised, member-holds, one-of}
use Rattle.mud_cert.proofs.Doubting.{top, reached}
use Rattle.mud_cert.proofs.Members.{members-from}
use Rattle.mud_cert.proofs.Valid.{peopled, passed-is-valid}

-- ---- places in a list

-- a list split in two ways at a member
data Parts (front other : List Account) (m n : Account) : Type 0 where
  Earlier : length front < length other → (more : List Account) → other ≡ front ++ m ∷ more → Parts front other m n
  Same : front ≡ other → m ≡ n → Parts front other m n
  Later : length other < length front → Parts front other m n

parts : (front : List Account) (m : Account) (behind other : List Account) (n : Account) (rest : List Account)
    → front ++ m ∷ behind ≡ other ++ n ∷ rest → Parts front other m n
parts [] m behind [] n rest e = Same refl (cc)
parts [] m behind (o ∷ other) n rest e = let head : m ≡ o =
    cc in Earlier (omega arith) other (ap (λ x. x ∷ other) (sym head))
parts (f ∷ front) m behind [] n rest e = Later (omega arith)
parts (f ∷ front) m behind (o ∷ other) n rest e =
    let head : f ≡ o = cc in
    let tail : front ++ m ∷ behind ≡ other ++ n ∷ rest = cc in
    go head (parts front m behind other n rest tail)
  where
    go : f ≡ o → Parts front other m n → Parts (f ∷ front) (o ∷ other) m n
    go head (Earlier lt more is) =
        Earlier (omega (arith, lt)) more (ap (λ x. x ∷ other) (sym head) ∙ ap (λ (xs : List Account). f ∷ xs) is)
    go head (Same is one) = Same (ap (λ x. x ∷ front) head ∙ ap (λ (xs : List Account). o ∷ xs) is) one
    go head (Later lt) = Later (omega (arith, lt))

-- ---- the members' tests

-- the member whose doubt is returned, and the members before it, which have none
record Found (w : State) (form : Form) (earlier ms : List Account) (d : Doubt) : Type 0 where
  front : List Account
  member : Account
  behind : List Account
  parts_are : ms ≡ front ++ member ∷ behind
  quiet : members_doubt w form earlier front ≡ None
  doubt : member_doubt w form (earlier ++ front) member ≡ Some d

found : (w : State) (form : Form) (earlier ms : List Account) (d : Doubt)
    → members_doubt w form earlier ms ≡ Some d → Found w form earlier ms d
found w form earlier [] d e = absurd (cc)
found w form earlier (m ∷ ms) d e = go
    (or-some (member_doubt w form earlier m) (members_doubt w form (earlier ++ m ∷ []) ms) d e)
    (found w form (earlier ++ m ∷ []) ms d)
  where
    go : (member_doubt w form earlier m ≡ Some d)
        ⊎ ((member_doubt w form earlier m ≡ None) × (members_doubt w form (earlier ++ m ∷ []) ms ≡ Some d))
        → (members_doubt w form (earlier ++ m ∷ []) ms ≡ Some d → Found w form (earlier ++ m ∷ []) ms d)
        → Found w form earlier (m ∷ ms) d
    go (inl h) more = record {
      front = [];
      member = m;
      behind = ms;
      parts_are = refl;
      quiet = refl;
      doubt = subst (λ (xs : List Account). member_doubt w form xs m ≡ Some d) (sym (append-nil earlier)) h;
    }
    go (inr (none, h)) more =
        let r = more h in
        record {
          front = m ∷ r.front;
          member = r.member;
          behind = r.behind;
          parts_are = ap (λ (xs : List Account). m ∷ xs) r.parts_are;
          quiet = ap (λ o. o or members_doubt w form (earlier ++ m ∷ []) r.front) none ∙ r.quiet;
          doubt = subst (λ (xs : List Account). member_doubt w form xs r.member ≡ Some d)
              (append_assoc earlier (m ∷ []) r.front) r.doubt;
        }

-- if the members have no doubt, each has none
quiet-at : (w : State) (form : Form) (earlier front : List Account) (m : Account) (behind : List Account)
    → members_doubt w form earlier (front ++ m ∷ behind) ≡ None → member_doubt w form (earlier ++ front) m ≡ None
quiet-at w form earlier [] m behind e =
    let two = or-none (member_doubt w form earlier m) (members_doubt w form (earlier ++ m ∷ []) behind) e in
    subst (λ (xs : List Account). member_doubt w form xs m ≡ None) (sym (append-nil earlier)) two.0
quiet-at w form earlier (f ∷ front) m behind e =
    let two = or-none (member_doubt w form earlier f)
    (members_doubt w form (earlier ++ f ∷ []) (front ++ m ∷ behind)) e in
    subst (λ (xs : List Account). member_doubt w form xs m ≡ None) (append_assoc earlier (f ∷ []) front)
    (quiet-at w form (earlier ++ f ∷ []) front m behind two.1)

rank-low : (w : State) (form : Form) (earlier : List Account) (m : Account) (d : Doubt)
    → Raises w form earlier m d → rank d ≤ 7
rank-low w form earlier m (doubts.NoSuchPlayer p) h = omega arith
rank-low w form earlier m (doubts.WrongStart p) h = omega arith
rank-low w form earlier m (doubts.StartLabel p) h = omega arith
rank-low w form earlier m (doubts.Arc p x) h = omega arith
rank-low w form earlier m (doubts.WalkBroken p at) h = omega arith
rank-low w form earlier m (doubts.WalkLocked p at) h = omega arith
rank-low w form earlier m (doubts.WalkCost p) h = omega arith
rank-low w form earlier m doubts.Conclusion h = absurd h
rank-low w form earlier m doubts.OutOfMemory h = absurd h

-- if the tests of a member return no doubt, none holds for it
not-held : (w : State) → IsSound w → (form : Form) (earlier : List Account) (m : Account) (d : Doubt)
    → member_doubt w form earlier m ≡ None → Raises w form earlier m d → ⊥
not-held w sound form earlier m d none h =
    let high : 9 ≤ rank d = subst (λ (o : Option Doubt). top o ≤ rank d) none (reached w sound form earlier m d h) in
    let low : rank d ≤ 7 = rank-low w form earlier m d h in
    omega (arith, high, low)

-- the doubt holds for the member at this place
record HoldsOf (w : State) (c : Certificate) (at : ℕ) (d : Doubt) : Type 0 where
  earlier : List Account
  member : Account
  later : List Account
  parts : c.members ≡ earlier ++ member ∷ later
  place : at ≡ length earlier
  holds : Raises w c.form earlier member d

parted : (ms : List Account) (at : ℕ) (m : Account) → slice_get ms at ≡ Some m
    → (ms ≡ take at ms ++ m ∷ drop (suc at) ms) × (at ≡ length (take at ms))
parted [] at m e = absurd (cc)
parted (x ∷ ms) zero m e = let same : x ≡ m = cc in (ap (λ (y : Account). y ∷ ms) same, refl)
parted (x ∷ ms) (suc at) m e = let rest = parted ms at m e in (ap (λ (ys : List Account). x ∷ ys) rest.0, ap suc rest.1)

-- likewise, as it is stated
member-of : (w : State) (c : Certificate) (at n : ℕ) (d : Doubt) (m : Account) → slice_get c.members at ≡ Some m
    → Holds w c.form (take at c.members) m n d → HoldsOf w c at d
member-of w c at n d m e h =
    let p = parted c.members at m e in
    record {
      earlier = take at c.members;
      member = m;
      later = drop (suc at) c.members;
      parts = p.0;
      place = p.1;
      holds =
          raised w c.form (take at c.members) m n d h;
    }

at-front : (front : List Account) (m : Account) (behind : List Account)
    → slice_get (front ++ m ∷ behind) (length front) ≡ Some m
at-front [] m behind = refl
at-front (x ∷ front) m behind = at-front front m behind

of-member : (w : State) (c : Certificate) (at : ℕ) (d : Doubt) → HoldsOf w c at d → HoldsAt w c at (rank d) d
of-member w c at d h =
    let front : take (length h.earlier) c.members ≡ h.earlier =
    ap (take (length h.earlier)) h.parts ∙ take-append_seam h.earlier (h.member ∷ h.later) in
    let place : slice_get c.members (length h.earlier) ≡ Some h.member =
    ap (λ (ms : List Account). slice_get ms (length h.earlier)) h.parts ∙ at-front h.earlier h.member h.later in
    let held : Raises w c.form (take (length h.earlier) c.members) h.member d =
    subst (λ (ms : List Account). Raises w c.form ms h.member d) (sym front) h.holds in
    subst (λ k. HoldsAt w c k (rank d) d) (sym h.place) (inl (h.member, place, held))

-- the place of a member comes before that of the conclusion
place-low : (w : State) (c : Certificate) (at : ℕ) (d : Doubt) → HoldsOf w c at d → at < length c.members
place-low w c at d h =
    let count : length c.members ≡ length (h.earlier ++ h.member ∷ h.later) = ap length h.parts in
    omega (arith, count, length-append h.earlier (h.member ∷ h.later), h.place)

-- ---- the first doubt

members-quiet : (w : State) → IsSound w → (c : Certificate) (k : ℕ) (e : Doubt)
    → members_doubt w c.form [] c.members ≡ None → HoldsOf w c k e → ⊥
members-quiet w sound c k e none h =
    let whole : members_doubt w c.form [] (h.earlier ++ h.member ∷ h.later) ≡ None =
    subst (λ (ms : List Account). members_doubt w c.form [] ms ≡ None) h.parts none in
    not-held w sound c.form h.earlier h.member e (quiet-at w c.form [] h.earlier h.member h.later whole) h.holds

-- a doubt of a member does not come before the returned one
members-first : (w : State) → IsSound w → (c : Certificate) (d : Doubt) (f : Found w c.form [] c.members d) (k : ℕ)
    (e : Doubt) → HoldsOf w c k e
    → (length f.front < k) ⊎ ((length f.front ≡ k) × (rank d ≤ rank e))
members-first w sound c d f k e h =
    go (parts h.earlier h.member h.later f.front f.member f.behind (sym h.parts ∙ f.parts_are))
  where
    go : Parts h.earlier f.front h.member f.member → (length f.front < k) ⊎ ((length f.front ≡ k) × (rank d ≤ rank e))
    go (Earlier lt more is) =
        let whole : members_doubt w c.form [] (h.earlier ++ h.member ∷ more) ≡ None =
        subst (λ (ms : List Account). members_doubt w c.form [] ms ≡ None) is f.quiet in
        absurd (not-held w sound c.form h.earlier h.member e
        (quiet-at w c.form [] h.earlier h.member more whole) h.holds)
    go (Same is one) =
        let at : length f.front ≡ k = ap length (sym is) ∙ sym h.place in
        let answer : member_doubt w c.form h.earlier h.member ≡ Some d =
        ap (λ (xs : List Account). member_doubt w c.form xs h.member) is
        ∙ ap (member_doubt w c.form f.front) one ∙ f.doubt in
        inr (
          at,
          subst (λ (o : Option Doubt). top o ≤ rank e) answer
              (reached w sound c.form h.earlier h.member e h.holds),
        )
    go (Later lt) = inl (omega (arith, lt, h.place))

pub answered-first : (w : State) → IsSound w → (c : Certificate) → IsCertificate c → (d : Doubt)
    → first_doubt w c ≡ Some d → IsFirstDoubt w c d
answered-first w sound c is d e = go
    (or-some (members_doubt w c.form [] c.members) (unless (concludes w c.members c.conclusion) doubts.Conclusion) d e)
  where
    members : Found w c.form [] c.members d → IsFirstDoubt w c d
    members f =
        let mine : HoldsOf w c (length f.front) d = record {
          earlier = f.front;
          member = f.member;
          later = f.behind;
          parts = f.parts_are;
          place = refl;
          holds = member-holds w sound c.form f.front f.member d f.doubt;
        } in
        record {
          at = length f.front;
          test = rank d;
          holds = of-member w c (length f.front) d mine;
          first = λ k n e h. elim h [
            | inl (m, got, held) ↦
                let low = members-first w sound c d f k e (member-of w c k n e m got held) in
                let test : n ≡ rank e = ranked w c.form (take k c.members) m n e held in
                subst (λ j. (length f.front < k) ⊎ ((length f.front ≡ k) × (rank d ≤ j))) (sym test) low
            | inr other ↦ inl (omega (arith, place-low w c (length f.front) d mine, other.0))
          ];
        }

    conclusion : members_doubt w c.form [] c.members ≡ None → concludes w c.members c.conclusion ≡ false
        → doubts.Conclusion ≡ d → IsFirstDoubt w c d
    conclusion quiet f same = record {
      at = length c.members;
      test = 8;
      holds = inr (
        refl,
        refl,
        sym same,
        λ k. fails (concludes w c.members c.conclusion) f
            (concludes-to w sound c.form c.members c.conclusion (peopled c.conclusion (length c.members) is.conclusion)
            (members-from w sound c.form [] c.members (λ i j d lt within. absurd (omega arith)) quiet).1 k),
      );
      first = λ k n e h. elim h [
        | inl (m, got, held) ↦ absurd (members-quiet w sound c k e quiet (member-of w c k n e m got held))
        | inr other ↦ inr (sym other.0, omega (arith, other.1))
      ];
    }

    go : (members_doubt w c.form [] c.members ≡ Some d)
        ⊎ ((members_doubt w c.form [] c.members ≡ None)
        × (unless (concludes w c.members c.conclusion) doubts.Conclusion ≡ Some d)) → IsFirstDoubt w c d
    go (inl h) = members (found w c.form [] c.members d h)
    go (inr (quiet, h)) = let r =
        unless-some (concludes w c.members c.conclusion) doubts.Conclusion d h in conclusion quiet r.0 r.1

-- if no doubt is returned, none holds
none-held : (w : State) → IsSound w → (c : Certificate) → IsCertificate c → first_doubt w c ≡ None
    → (at n : ℕ) (d : Doubt) → HoldsAt w c at n d → ⊥
none-held w sound c is none at n d h =
    let two = or-none (members_doubt w c.form [] c.members)
    (unless (concludes w c.members c.conclusion) doubts.Conclusion) none in
    elim h as (λ x. ⊥) [
      | inl (m, got, held) ↦ members-quiet w sound c at d two.0 (member-of w c at n d m got held)
      | inr other ↦ other.3 ((passed-is-valid w sound c is).0 none).conclusion
    ]

-- at each place, at most one doubt of each test holds
one-at : (w : State) → IsSound w → (c : Certificate) (k j n : ℕ) (d e : Doubt) → HoldsAt w c k n d
    → HoldsAt w c j n e → k ≡ j → d ≡ e
one-at w sound c k j n d e (inr h) (inr i) at = h.2 ∙ sym i.2
one-at w sound c k j n d e (inl (m, got, held)) (inr i) at =
    absurd (omega (arith, place-low w c k d (member-of w c k n d m got held), i.0, at))
one-at w sound c k j n d e (inr h) (inl (m, got, held)) at =
    absurd (omega (arith, place-low w c j e (member-of w c j n e m got held), h.0, at))
one-at w sound c k j n d e (inl (m, got, held)) (inl (o, found, kept)) at =
    let same : Some m ≡ Some o = sym got ∙ ap (slice_get c.members) at ∙ found in
    let one : m ≡ o = cc in
    let mine : Holds w c.form (take k c.members) m n e =
    subst (λ (x : Account). Holds w c.form (take k c.members) x n e) (sym one)
    (subst (λ i. Holds w c.form (take i c.members) o n e) (sym at) kept) in
    let ranks : rank d ≡ rank e =
    sym (ranked w c.form (take k c.members) m n d held) ∙ ranked w c.form (take k c.members) m n e mine in
    one-of w sound c.form (take k c.members) m d e (raised w c.form (take k c.members) m n d held)
    (raised w c.form (take k c.members) m n e mine) ranks

pub one-first : OneFirstDoubt
one-first w sound c is d e f g = go (f.first g.at g.test e g.holds) (g.first f.at f.test d f.holds)
  where
    go : (f.at < g.at) ⊎ ((f.at ≡ g.at) × (f.test ≤ g.test))
        → (g.at < f.at) ⊎ ((g.at ≡ f.at) × (g.test ≤ f.test)) → d ≡ e
    go (inl a) (inl b) = absurd (omega (arith, a, b))
    go (inl a) (inr b) = absurd (omega (arith, a, b.0))
    go (inr a) (inl b) = absurd (omega (arith, a.0, b))
    go (inr a) (inr b) =
        let test : g.test ≡ f.test = omega (arith, a.1, b.1) in
        one-at w sound c f.at g.at f.test d e f.holds (subst (λ n. HoldsAt w c g.at n e) test g.holds) a.0

pub no_doubt_is_valid : NoDoubtIsValid
no_doubt_is_valid w sound c is = (
  λ none. go none (first_doubt w c) refl,
  λ v at n d h. none-held w sound c is ((passed-is-valid w sound c is).1 v) at n d h,
)
  where
    go : ((at n : ℕ) (d : Doubt) → HoldsAt w c at n d → ⊥) → (o : Option Doubt) → first_doubt w c ≡ o → IsValid w c
    go none None e = (passed-is-valid w sound c is).0 e
    go none (Some d) e = let f = answered-first w sound c is d e in absurd (none f.at f.test d f.holds)

pub valid_or_doubted : ValidOrDoubted
valid_or_doubted w sound c is = go (first_doubt w c) refl
  where
    go : (o : Option Doubt) → first_doubt w c ≡ o → IsValid w c ⊎ ((d : Doubt) × IsFirstDoubt w c d)
    go None e = inl ((passed-is-valid w sound c is).0 e)
    go (Some d) e = inr (d, answered-first w sound c is d e)

-- a certificate with a doubt is not valid
pub doubted-invalid : (w : State) → IsSound w → (c : Certificate) → IsCertificate c → (d : Doubt)
    → IsFirstDoubt w c d → IsValid w c → ⊥
doubted-invalid w sound c is d f v = none-held w sound c is ((passed-is-valid w sound c is).1 v) f.at f.test d f.holds
