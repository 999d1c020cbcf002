-- Reading and writing of the first lines, of a member's first line, and of conclusions.
use Rattle.std.proofs.Common.{◌≡◌, ℕ, true, false, List, ◌++◌, Option, None, Some, refl, sym, ap, subst, ◌∙◌}
use Rattle.std.proofs.Common.{append_assoc, inl, inr, ◌⊎◌}
use Rattle.std.specs.Prelude.{codes, IfSome}
use Rattle.std.specs.Fmt.{decimal}
use Rattle.std.specs.Str.{bytes_eq}
use Rattle.std.proofs.lemmas.Bool.{cases_Bool, cond-true, cond-false}
use Rattle.mud_cert.specs.declared.cert.Form.{Form}
use Rattle.mud_cert.specs.declared.cert.Form.TheVariants.{One, Two}
use Rattle.mud_cert.specs.declared.cert.Conclusion.{Conclusion}
use Rattle.mud_cert.specs.declared.cert.Conclusion.TheVariants.{Route, Meet}
use Rattle.mud_cert.specs.Certificate.{IsNumber, IsAmount}
use Rattle.mud_cert.specs.Text.{head_line, conclusion_line}
use Rattle.mud_cert.specs.inner.Lines.{version_line, member_line}
use Rattle.mud_cert.specs.inner.Reader.{◌>>=◌, after, number_at, object_at, whole, head_at, version_at, member_at}
use Rattle.mud_cert.specs.inner.Reader.{cost_at}
use Rattle.mud_cert.specs.inner.Reader.{way_at, route_at, meeting_at, conclusion_at, either}
use Rattle.mud_cert.proofs.Digits.{number-takes}
use Rattle.mud_cert.proofs.Pieces.{bind_some, whole_some, joins, ends, says-true, after-front, after-takes}
use Rattle.mud_cert.proofs.Pieces.{number-alone, object-takes, object-read, object-alone}

-- ---- the first two lines

pub head-takes : (line : List ℕ) (form : Form) → head_at line ≡ Some form → line ≡ head_line form
unfolding head_at
head-takes line form e =
    go (cases_Bool (bytes_eq line (codes "mud proof 1"))) (cases_Bool (bytes_eq line (codes "mud proof 2")))
  where
    go : (bytes_eq line (codes "mud proof 1") ≡ true) ⊎ (bytes_eq line (codes "mud proof 1") ≡ false)
        → (bytes_eq line (codes "mud proof 2") ≡ true)
        ⊎ (bytes_eq line (codes "mud proof 2") ≡ false) → line ≡ head_line form
    go (inl t) other =
        let at : Some One ≡ Some form = sym (cond-true (bytes_eq line (codes "mud proof 1")) (Some One) _ t) ∙ e in
        let is : One ≡ form = cc (at) in
        subst (λ (f : Form). line ≡ head_line f) is (says-true line (codes "mud proof 1") t)
    go (inr f) (inl t) =
        let at : Some Two ≡ Some form = sym
        (cond-false (bytes_eq line (codes "mud proof 1")) (Some One) _ f
        ∙ cond-true (bytes_eq line (codes "mud proof 2")) (Some Two) None t) ∙ e in
        let is : Two ≡ form = cc (at) in
        subst (λ (f : Form). line ≡ head_line f) is (says-true line (codes "mud proof 2") t)
    go (inr f) (inr g) =
        let at : None ≡ Some form = sym
        (cond-false (bytes_eq line (codes "mud proof 1")) (Some One) _ f
        ∙ cond-false (bytes_eq line (codes "mud proof 2")) (Some Two) None g) ∙ e in
        absurd (cc)

pub head-again : (form : Form) → head_at (head_line form) ≡ Some form
unfolding head_at
head-again One = refl
head-again Two = refl

pub version-takes : (line : List ℕ) (v : ℕ) → version_at line ≡ Some v → (line ≡ version_line v) × IsAmount v
unfolding version_at
version-takes line v e =
    let a = bind_some (after (codes "version ") line) (λ rest. number_at rest >>= λ n. whole n) v e in
    let b = bind_some (number_at a.0) (λ n. whole n) v a.2 in
    let t = number-takes a.0 b.0 b.1 in
    let w = whole_some b.0.0 b.0.1 v b.2 in
    let all = ends line (codes "version " ++ decimal b.0.0) b.0.1
    (joins line (codes "version ") a.0 (decimal b.0.0) b.0.1 (after-takes (codes "version ") line a.0 a.1) t.0)
    w.1 in
    subst (λ (n : ℕ). (line ≡ version_line n) × IsAmount n) w.0 (all, t.1)

pub version-again : (v : ℕ) → IsAmount v → version_at (version_line v) ≡ Some v
unfolding version_at whole
version-again v few = rw (after-front (codes "version ") (decimal v), number-alone v few) refl

-- ---- a member's first line

pub member-takes : (line : List ℕ) (m : ℕ × ℕ) → member_at line ≡ Some m → (line ≡ member_line m.0 m.1)
    × IsNumber m.0 × IsNumber m.1
unfolding member_at
member-takes line m e =
    let a = bind_some (after (codes "member #") line)
    (λ rest. object_at rest >>= λ player. after (codes " from #") player.1 >>= λ behind. object_at behind >>=
    λ from. whole ((player.0, from.0), from.1)) m e in
    let b = bind_some (object_at a.0)
    (λ player. after (codes " from #") player.1 >>= λ behind. object_at behind >>= λ from. whole
    ((player.0, from.0), from.1)) m a.2 in
    let c = bind_some (after (codes " from #") b.0.1)
    (λ behind. object_at behind >>= λ from. whole ((b.0.0, from.0), from.1)) m b.2 in
    let d = bind_some (object_at c.0) (λ from. whole ((b.0.0, from.0), from.1)) m c.2 in
    let w = whole_some (b.0.0, d.0.0) d.0.1 m d.2 in
    let player = object-takes a.0 b.0 b.1 in
    let from = object-takes c.0 d.0 d.1 in
    let j1 = joins line (codes "member #") a.0 (decimal b.0.0) b.0.1
    (after-takes (codes "member #") line a.0 a.1) player.0 in
    let j2 = joins line (codes "member #" ++ decimal b.0.0) b.0.1 (codes " from #") c.0 j1
    (after-takes (codes " from #") b.0.1 c.0 c.1) in
    let j3 = joins line (codes "member #" ++ decimal b.0.0 ++ codes " from #") c.0 (decimal d.0.0) d.0.1 j2 from.0 in
    subst (λ (x : ℕ × ℕ). (line ≡ member_line x.0 x.1) × IsNumber x.0 × IsNumber x.1) w.0
    (ends line (codes "member #" ++ decimal b.0.0 ++ codes " from #" ++ decimal d.0.0) d.0.1 j3 w.1, player.1, from.1)

four : (a b c d : List ℕ) → a ++ b ++ c ++ d ≡ a ++ (b ++ (c ++ d))
four a b c d = simp append_assoc

three : (a b c : List ℕ) → a ++ b ++ c ≡ a ++ (b ++ c)
three a b c = append_assoc a b c

pub member-again : (player from : ℕ) → IsNumber player → IsNumber from
    → member_at (member_line player from) ≡ Some (player, from)
unfolding member_at whole
member-again player from p f =
    ap member_at (four (codes "member #") (decimal player) (codes " from #") (decimal from))
    ∙ rw (
      after-front (codes "member #") (decimal player ++ (codes " from #" ++ decimal from)),
      object-read player
          (codes " from #" ++ decimal from) p refl,
      after-front (codes " from #") (decimal from),
      object-alone from f,
    )
    refl

-- a conclusion is not a member's first line
pub member-not : (c : Conclusion) → member_at (conclusion_line c) ≡ None
unfolding member_at after
member-not (Route to (Some cost)) = refl
member-not (Route to None) = refl
member-not (Meet (Some m)) = refl
member-not (Meet None) = refl

-- ---- conclusions

-- the numbers of a conclusion are within the limits
abbrev pub IsWithin : Conclusion → Type 0
IsWithin (Route to cost) = IsNumber to × IfSome cost IsAmount
IsWithin (Meet meeting) = IfSome meeting (λ m. IsNumber m.room × IsAmount m.cost)

cost-takes : (bytes : List ℕ) (n : ℕ) → cost_at bytes ≡ Some n → (bytes ≡ codes " cost " ++ decimal n) × IsAmount n
unfolding cost_at
cost-takes bytes n e =
    let a = bind_some (after (codes " cost ") bytes) (λ rest. number_at rest >>= λ cost. whole cost) n e in
    let b = bind_some (number_at a.0) (λ cost. whole cost) n a.2 in
    let t = number-takes a.0 b.0 b.1 in
    let w = whole_some b.0.0 b.0.1 n b.2 in
    let all = ends bytes (codes " cost " ++ decimal b.0.0) b.0.1
    (joins bytes (codes " cost ") a.0 (decimal b.0.0) b.0.1 (after-takes (codes " cost ") bytes a.0 a.1) t.0) w.1 in
    subst (λ (k : ℕ). (bytes ≡ codes " cost " ++ decimal k) × IsAmount k) w.0 (all, t.1)

cost-again : (n : ℕ) → IsAmount n → cost_at (codes " cost " ++ decimal n) ≡ Some n
unfolding cost_at whole
cost-again n few = rw (after-front (codes " cost ") (decimal n), number-alone n few) refl

abbrev Says : List ℕ → Conclusion → Type 0
Says line c = (line ≡ conclusion_line c) × IsWithin c

abbrev way_text : Option ℕ → List ℕ
way_text None = codes " no way"
way_text (Some cost) = codes " cost " ++ decimal cost

way-line : (to : ℕ) (cost : Option ℕ) → codes "route #" ++ decimal to ++ way_text cost ≡ conclusion_line (Route to cost)
way-line to None = refl
way-line to (Some cost) = sym (append_assoc (codes "route #" ++ decimal to) (codes " cost ") (decimal cost))

way-takes : (to : ℕ) (bytes : List ℕ) (c : Conclusion) → way_at to bytes ≡ Some c → (cost : Option ℕ)
    × (c ≡ Route to cost) × (bytes ≡ way_text cost) × IfSome cost IsAmount
unfolding way_at
way-takes to bytes c e = go (cases_Bool (bytes_eq bytes (codes " no way")))
  where
    go : (bytes_eq bytes (codes " no way") ≡ true) ⊎ (bytes_eq bytes (codes " no way") ≡ false) → (cost : Option ℕ)
        × (c ≡ Route to cost) × (bytes ≡ way_text cost) × IfSome cost IsAmount
    go (inl t) =
        let at : Some (Route to None) ≡ Some c =
        sym (cond-true (bytes_eq bytes (codes " no way")) (Some (Route to None)) _ t) ∙ e in
        let is : c ≡ Route to None = cc (at) in
        (None, is, says-true bytes (codes " no way") t, tt)
    go (inr f) =
        let at : (cost_at bytes >>= λ cost. Some (Route to (Some cost))) ≡ Some c =
        sym (cond-false (bytes_eq bytes (codes " no way")) (Some (Route to None)) _ f) ∙ e in
        let a = bind_some (cost_at bytes) (λ cost. Some (Route to (Some cost))) c at in
        let t = cost-takes bytes a.0 a.1 in
        let is : c ≡ Route to (Some a.0) = cc (a.2) in
        (Some a.0, is, t.0, t.1)

way-again : (to : ℕ) (cost : Option ℕ) → IfSome cost IsAmount → way_at to (way_text cost) ≡ Some (Route to cost)
unfolding way_at
way-again to None fits = refl
way-again to (Some cost) fits = rw (cost-again cost fits) refl

route-takes : (line : List ℕ) (c : Conclusion) → route_at line ≡ Some c → Says line c
unfolding route_at
route-takes line c e =
    let a = bind_some (after (codes "route #") line) (λ rest. object_at rest >>= λ to. way_at to.0 to.1) c e in
    let b = bind_some (object_at a.0) (λ to. way_at to.0 to.1) c a.2 in
    let t = object-takes a.0 b.0 b.1 in
    let w = way-takes b.0.0 b.0.1 c b.2 in
    let j1 = joins line (codes "route #") a.0 (decimal b.0.0) b.0.1 (after-takes (codes "route #") line a.0 a.1) t.0 in
    let all = j1 ∙ ap (λ (x : List ℕ). codes "route #" ++ decimal b.0.0 ++ x) w.2 ∙ way-line b.0.0 w.0 in
    subst (Says line) (sym w.1) (all, (t.1, w.3))

no-digit : (cost : Option ℕ) (to : ℕ) → IsNumber to → object_at (decimal to ++ way_text cost) ≡ Some (to, way_text cost)
no-digit None to low = object-read to (codes " no way") low refl
no-digit (Some cost) to low = object-read to (codes " cost " ++ decimal cost) low refl

route-again : (to : ℕ) (cost : Option ℕ) → IsNumber to → IfSome cost IsAmount
    → route_at (conclusion_line (Route to cost)) ≡ Some (Route to cost)
unfolding route_at
route-again to cost low fits =
    ap route_at (sym (way-line to cost) ∙ three (codes "route #") (decimal to) (way_text cost))
    ∙ rw (after-front (codes "route #") (decimal to ++ way_text cost), no-digit cost to low) (way-again to cost fits)

meeting-takes : (line : List ℕ) (c : Conclusion) → meeting_at line ≡ Some c → Says line c
unfolding meeting_at
meeting-takes line c e =
    let a = bind_some (after (codes "meet #") line)
    (λ rest. object_at rest >>= λ room. cost_at room.1 >>= λ cost. Some
    (Meet (Some (record { room = room.0; cost = cost })))) c e in
    let b = bind_some (object_at a.0)
    (λ room. cost_at room.1 >>= λ cost. Some (Meet (Some (record { room = room.0; cost = cost })))) c a.2 in
    let d = bind_some (cost_at b.0.1) (λ cost. Some (Meet (Some (record { room = b.0.0; cost = cost })))) c b.2 in
    let t = object-takes a.0 b.0 b.1 in
    let w = cost-takes b.0.1 d.0 d.1 in
    let j1 = joins line (codes "meet #") a.0 (decimal b.0.0) b.0.1 (after-takes (codes "meet #") line a.0 a.1) t.0 in
    let all = joins line (codes "meet #" ++ decimal b.0.0) b.0.1 (codes " cost ") (decimal d.0) j1 w.0 in
    let is : Meet (Some (record { room = b.0.0; cost = d.0 })) ≡ c = cc (d.2) in
    subst (Says line) is (all, (t.1, w.1))

meeting-again : (room cost : ℕ) → IsNumber room → IsAmount cost
    → meeting_at (conclusion_line (Meet (Some (record { room = room; cost = cost })))) ≡ Some
    (Meet (Some (record { room = room; cost = cost })))
unfolding meeting_at
meeting-again room cost low few =
    ap meeting_at (four (codes "meet #") (decimal room) (codes " cost ") (decimal cost))
    ∙ rw (
      after-front (codes "meet #") (decimal room ++ (codes " cost " ++ decimal cost)),
      object-read room (codes " cost " ++ decimal cost) low refl,
      cost-again cost few,
    ) refl

-- a meeting's line is not a route's
route-not : (rest : List ℕ) → route_at (codes "meet #" ++ rest) ≡ None
unfolding route_at after
route-not rest = refl

pub conclusion-takes : (line : List ℕ) (c : Conclusion) → conclusion_at line ≡ Some c
    → (line ≡ conclusion_line c) × IsWithin c
unfolding conclusion_at
conclusion-takes line c e = go (cases_Bool (bytes_eq line (codes "meet none")))
  where
    from : (r m : Option Conclusion) → route_at line ≡ r → meeting_at line ≡ m → either r m ≡ Some c → Says line c
    from (Some x) m r-is m-is f = route-takes line c (r-is ∙ f)
    from None m r-is m-is f = meeting-takes line c (m-is ∙ f)

    go : (bytes_eq line (codes "meet none") ≡ true) ⊎ (bytes_eq line (codes "meet none") ≡ false) → Says line c
    go (inl t) =
        let at : Some (Meet None) ≡ Some c =
        sym (cond-true (bytes_eq line (codes "meet none")) (Some (Meet None)) _ t) ∙ e in
        let is : Meet None ≡ c = cc (at) in
        subst (Says line) is (says-true line (codes "meet none") t, tt)
    go (inr f) =
        from (route_at line) (meeting_at line) refl refl
        (sym (cond-false (bytes_eq line (codes "meet none")) (Some (Meet None)) _ f) ∙ e)

pub conclusion-again : (c : Conclusion) → IsWithin c → conclusion_at (conclusion_line c) ≡ Some c
unfolding conclusion_at
conclusion-again (Route to (Some cost)) fits =
    ap (λ (o : Option Conclusion). either o (meeting_at (conclusion_line (Route to (Some cost)))))
    (route-again to (Some cost) fits.0 fits.1)
conclusion-again (Route to None) fits =
    ap (λ (o : Option Conclusion). either o (meeting_at (conclusion_line (Route to None))))
    (route-again to None fits.0 fits.1)
conclusion-again (Meet (Some m)) fits =
    let line : List ℕ = conclusion_line (Meet (Some m)) in
    let not : route_at line ≡ None = ap route_at
    (four (codes "meet #") (decimal m.room) (codes " cost ") (decimal m.cost))
    ∙ route-not (decimal m.room ++ (codes " cost " ++ decimal m.cost)) in
    ap (λ (o : Option Conclusion). either o (meeting_at line)) not ∙ meeting-again m.room m.cost fits.0 fits.1
conclusion-again (Meet None) fits = refl
