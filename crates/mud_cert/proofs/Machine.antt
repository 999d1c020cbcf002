-- Each accepted line continues the text, each text is read to its end, and each stage begins a text.
use Rattle.std.proofs.Common.{◌≡◌, ℕ, ◌<◌, ◌≤◌, true, leb, ltb, List, [], ◌∷◌, ◌++◌, length, get_or, Option, None, Some}
use Rattle.std.proofs.Common.{refl, sym, ap, subst, ◌∙◌, append_assoc, length-append, arith, inl, inr, ◌⊎◌, All}
use Rattle.std.specs.Prelude.{codes}
use Rattle.std.specs.List.{flat_map}
use Rattle.std.specs.Str.{bytes_eq}
use Rattle.std.proofs.lemmas.Bool.{cases_eq, cases_lt, cond-true, and_parts, and_from, eqb-true, eq-eqb, leb-true}
use Rattle.std.proofs.lemmas.Bool.{le-leb, ltb-true, lt-ltb}
use Rattle.std.proofs.lemmas.Option.{cond_some}
use Rattle.std.proofs.lemmas.List.{append-nil}
use Rattle.std.proofs.lemmas.List.Concat.{flat_map-append}
use Rattle.std.proofs.lemmas.List.Elements.{All-nil, All-head, All-tail, All-push}
use Rattle.mud_roads.specs.declared.label.Label.{Label}
use Rattle.mud_cert.specs.declared.cert.Form.{Form}
use Rattle.mud_cert.specs.declared.cert.Form.TheVariants.{One, Two}
use Rattle.mud_cert.specs.declared.cert.Conclusion.{Conclusion}
use Rattle.mud_cert.specs.declared.cert.Conclusion.TheVariants.{Route, Meet}
use Rattle.mud_cert.specs.declared.stage.Stage.{Stage}
use Rattle.mud_cert.specs.declared.stage.Stage.TheVariants.{Nothing, Headed, Open, Placed, Labelled, Concluded, Whole}
use Rattle.mud_cert.specs.Certificate.{Account, Certificate, IsNumber, IsAccount, CountsBy, IsConclusion, IsCertificate}
use Rattle.mud_cert.specs.inner.Opening.{Opening, IsOpening}
use Rattle.mud_cert.specs.Text.{head_line, walk_line, member_lines, conclusion_line, cert_lines}
use Rattle.mud_cert.specs.inner.Lines.{version_line, member_line, labels_line, opening_lines, IsEntry}
use Rattle.mud_cert.specs.inner.Reader.{◌>>=◌, head_at, version_at, member_at, labels_at, walk_at, conclusion_at}
use Rattle.mud_cert.specs.inner.Stages.{certificate_with, lines_of, IsStage, suits, conclude, join, next, run}
use Rattle.mud_cert.proofs.Pieces.{bind_some, says-true}
use Rattle.mud_cert.proofs.Entries.{IsRead, labels-take, labels-again, walk-takes, walk-again}
use Rattle.mud_cert.proofs.Heads.{head-takes, head-again, version-takes, version-again, member-takes, member-again}
use Rattle.mud_cert.proofs.Heads.{member-not, IsWithin, conclusion-takes, conclusion-again}
use Rattle.mud_world.specs.declared.limits.TheConstants.{MOST_PARTY}

-- ---- limits

entry-from : (form : Form) (e : ℕ × Label) → IsRead form e → IsEntry e
entry-from One e r = let zeroed : e.1.exits ≡ 0 = r.2 in (r.0, r.1, omega arith)
entry-from Two e r = (r.0, r.1, r.2)

counts-from : (form : Form) (a : Account) → All (IsRead form) a.labels → CountsBy form a
counts-from One a reads = λ k d lt. (reads k d lt).2
counts-from Two a reads = tt

reads-from : (form : Form) (a : Account) → All IsEntry a.labels → CountsBy form a → All (IsRead form) a.labels
reads-from One a entries counts = λ k d lt. let e = entries k d lt in (e.0, e.1, counts k d lt)
reads-from Two a entries counts = λ k d lt. let e = entries k d lt in (e.0, e.1, e.2)

-- the account of a member whose labels are read
pub account-read : (form : Form) (player from : ℕ) (line : List ℕ) (labels : List (ℕ × Label)) → IsNumber player
    → IsNumber from → labels_at form line ≡ Some labels
    → IsAccount (record { player = player; from = from; labels = labels; walk = None })
account-read form player from line labels p f e =
    let t = labels-take form line labels e in
    record {
      player = p;
      from = f;
      entries =
          λ k d lt. entry-from form (get_or labels k d) (t.1 k d lt);
      rising = t.2;
      exits = tt;
    }

-- and of one whose walk is read
pub account-walks : (m : Account) (line : List ℕ) (walk : Option (List ℕ)) → IsAccount m → walk_at line ≡ Some walk
    → IsAccount (record m { walk = walk })
account-walks m line walk is e = record {
  player = is.player;
  from = is.from;
  entries = is.entries;
  rising =
      is.rising;
  exits = (walk-takes line walk e).1;
}

conclusion-from : (count : ℕ) (c : Conclusion) → IsWithin c → suits count c ≡ true → IsConclusion count c
conclusion-from count (Route to cost) w s = (eqb-true count 1 s, w.0, w.1)
conclusion-from count (Meet meeting) w s = let p = and_parts (leb 2 count) (leb count MOST_PARTY) s in
    (leb-true 2 count p.0, leb-true count MOST_PARTY p.1, w)

conclusion-to : (count : ℕ) (c : Conclusion) → IsConclusion count c → IsWithin c × (suits count c ≡ true)
conclusion-to count (Route to cost) i = ((i.1, i.2), eq-eqb count 1 i.0)
conclusion-to count (Meet meeting) i =
    (i.2, and_from (leb 2 count) (leb count MOST_PARTY) (le-leb 2 count i.0) (le-leb count MOST_PARTY i.1))

at-most-8 : (count : ℕ) (c : Conclusion) → IsConclusion count c → count ≤ MOST_PARTY
at-most-8 count (Route to cost) i = omega (arith, i.0)
at-most-8 count (Meet meeting) i = i.1

-- a conclusion that is possible for the members completes a certificate
pub closes : (p : Opening) (c : Conclusion) → IsOpening p → IsWithin c → suits (length p.members) c ≡ true
    → IsCertificate (certificate_with p c)
closes p c o w s = record {
  version = o.version;
  members = o.members;
  counts = o.counts;
  conclusion =
      conclusion-from (length p.members) c w s;
}

-- one more member
pub joins-party : (p : Opening) (m : Account) → IsOpening p → length p.members < MOST_PARTY → IsAccount m
    → CountsBy p.form m → IsOpening (record p { members = p.members ++ m ∷ [] })
joins-party p m o few is counts = record {
  version = o.version;
  members = All-push IsAccount p.members m o.members is;
  counts = All-push (CountsBy p.form) p.members m o.counts counts;
  few = omega (arith, length-append p.members (m ∷ []));
}

-- ---- lines

abbrev party-lines : Opening → List (List ℕ)
party-lines p = opening_lines p.form p.version p.members

labelled-lines : (p : Opening) (m : Account) → lines_of (Labelled p m) ≡ lines_of (Placed p m.player m.from)
    ++ labels_line p.form m.labels ∷ []
unfolding lines_of
labelled-lines p m =
    sym (append_assoc (party-lines p) (member_line m.player m.from ∷ []) (labels_line p.form m.labels ∷ []))

joined-lines : (p : Opening) (m : Account) → lines_of (Open (record p { members = p.members ++ m ∷ [] })) ≡ lines_of
    (Labelled p m) ++ walk_line m.walk ∷ []
unfolding lines_of
joined-lines p m =
    ap (λ (x : List (List ℕ)). head_line p.form ∷ version_line p.version ∷ x)
    (flat_map-append (member_lines p.form) p.members (m ∷ []))
    ∙ sym (append_assoc (party-lines p)
    (member_line m.player m.from ∷ labels_line p.form m.labels ∷ []) (walk_line m.walk ∷ []))

whole-lines : (c : Certificate) → lines_of (Whole c) ≡ lines_of (Concluded c) ++ codes "end" ∷ []
unfolding lines_of cert_lines
whole-lines c = sym
    (append_assoc (opening_lines c.form c.version c.members) (conclusion_line c.conclusion ∷ []) (codes "end" ∷ []))

-- ---- one more line

-- the stage after one more line
abbrev pub GoesOn : Stage → List ℕ → Stage → Type 0
GoesOn s line t = IsStage t × (lines_of t ≡ lines_of s ++ line ∷ [])

conclude-keeps : (p : Opening) (line : List ℕ) (t : Stage) → IsOpening p
    → conclude p (conclusion_at line) ≡ Some t → GoesOn (Open p) line t
unfolding conclude lines_of IsStage
conclude-keeps p line t o e = go (conclusion_at line) refl e
  where
    go : (found : Option Conclusion) → conclusion_at line ≡ found → conclude p found ≡ Some t
        → IsStage t × (lines_of t ≡ party-lines p ++ line ∷ [])
    go None is f = absurd cc
    go (Some c) is f =
        let g = cond_some (suits (length p.members) c) (Concluded (certificate_with p c)) t f in
        let k = conclusion-takes line c is in
        subst (λ (u : Stage). IsStage u × (lines_of u ≡ party-lines p ++ line ∷ [])) g.1
        (closes p c o k.1 g.0, ap (λ (l : List ℕ). party-lines p ++ l ∷ []) (sym k.0))

join-keeps : (p : Opening) (line : List ℕ) (t : Stage) → IsOpening p
    → join p (member_at line) line ≡ Some t → GoesOn (Open p) line t
unfolding join lines_of IsStage
join-keeps p line t o e = go (member_at line) refl e
  where
    go : (found : Option (ℕ × ℕ)) → member_at line ≡ found → join p found line ≡ Some t
        → IsStage t × (lines_of t ≡ party-lines p ++ line ∷ [])
    go None is f = conclude-keeps p line t o f
    go (Some m) is f =
        let g = cond_some (ltb (length p.members) MOST_PARTY) (Placed p m.0 m.1) t f in
        let k = member-takes line m is in
        subst (λ (u : Stage). IsStage u × (lines_of u ≡ party-lines p ++ line ∷ [])) g.1 (
          (o, ltb-true (length p.members) MOST_PARTY g.0, k.1, k.2),
          ap (λ (l : List ℕ). party-lines p ++ l ∷ []) (sym k.0),
        )

pub next-keeps : (s : Stage) (line : List ℕ) (t : Stage) → IsStage s → next s line ≡ Some t
    → IsStage t × (lines_of t ≡ lines_of s ++ line ∷ [])
unfolding next lines_of IsStage
next-keeps Nothing line t is e =
    let a = bind_some (head_at line) (λ form. Some (Headed form)) t e in
    let made : Headed a.0 ≡ t = cc (a.2) in
    subst (GoesOn Nothing line) made (tt, ap (λ (l : List ℕ). l ∷ []) (sym (head-takes line a.0 a.1)))
next-keeps (Headed form) line t is e =
    let a = bind_some (version_at line)
    (λ version. Some (Open (record { form = form; version = version; members = [] }))) t e in
    let made : Open (record { form = form; version = a.0; members = [] }) ≡ t = cc (a.2) in
    let k = version-takes line a.0 a.1 in
    subst (GoesOn (Headed form) line) made (
      record { version = k.1; members = All-nil IsAccount; counts = All-nil (CountsBy form); few = omega arith },
      ap (λ (l : List ℕ). head_line form ∷ l ∷ []) (sym k.0),
    )
next-keeps (Open p) line t is e = join-keeps p line t is e
next-keeps (Placed p player from) line t is e =
    let a = bind_some (labels_at p.form line)
    (λ labels. Some (Labelled p (record { player = player; from = from; labels = labels; walk = None }))) t e in
    let m : Account = record { player = player; from = from; labels = a.0; walk = None } in
    let made : Labelled p m ≡ t = cc (a.2) in
    let k = labels-take p.form line a.0 a.1 in
    subst (GoesOn (Placed p player from) line) made (
      (is.0, is.1, account-read p.form player from line a.0 is.2 is.3 a.1, counts-from p.form m k.1),
      labelled-lines p m ∙ ap (λ (l : List ℕ). lines_of (Placed p player from) ++ l ∷ []) (sym k.0),
    )
next-keeps (Labelled p m) line t is e =
    let a = bind_some (walk_at line)
    (λ walk. Some (Open (record p { members = p.members ++ record m { walk = walk } ∷ [] }))) t e in
    let n : Account = record m { walk = a.0 } in
    let made : Open (record p { members = p.members ++ n ∷ [] }) ≡ t = cc (a.2) in
    let k = walk-takes line a.0 a.1 in
    subst (GoesOn (Labelled p m) line) made (
      joins-party p n is.0 is.1 (account-walks m line a.0 is.2 a.1) (same-counts p.form m a.0 is.3),
      joined-lines p n ∙ ap (λ (l : List ℕ). lines_of (Labelled p m) ++ l ∷ []) (sym k.0),
    )
  where
    same-counts : (form : Form) (m : Account) (walk : Option (List ℕ)) → CountsBy form m
        → CountsBy form (record m { walk = walk })
    same-counts One m walk h = h
    same-counts Two m walk h = h
next-keeps (Concluded c) line t is e =
    let g = cond_some (bytes_eq line (codes "end")) (Whole c) t e in
    subst (GoesOn (Concluded c) line) g.1 (
      is,
      whole-lines c ∙ ap (λ (l : List ℕ). lines_of (Concluded c) ++ l ∷ [])
          (sym (says-true line (codes "end") g.0)),
    )
next-keeps (Whole c) line t is e = absurd cc

-- ---- many lines

pub run-then : (s : Stage) (line : List ℕ) (lines : List (List ℕ)) (t : Stage) → next s line ≡ Some t
    → run s (line ∷ lines) ≡ run t lines
unfolding run
run-then s line lines t e = ap (λ (o : Option Stage). o >>= λ u. run u lines) e

pub run-append : (s : Stage) (front more : List (List ℕ)) (t : Stage) → run s front ≡ Some t
    → run s (front ++ more) ≡ run t more
unfolding run
run-append s [] more t e = let same : s ≡ t = cc in ap (λ (u : Stage). run u more) same
run-append s (line ∷ front) more t e =
    let a = bind_some (next s line) (λ u. run u front) t e in
    ap (λ (o : Option Stage). o >>= λ u. run u (front ++ more)) a.1 ∙ run-append a.0 front more t a.2

pub run-fails : (s : Stage) (line : List ℕ) (lines : List (List ℕ)) → next s line ≡ None → run s (line ∷ lines) ≡ None
unfolding run
run-fails s line lines e = ap (λ (o : Option Stage). o >>= λ u. run u lines) e

pub run-none : (s : Stage) → run s [] ≡ Some s
unfolding run
run-none s = refl

run-member : (p : Opening) (a : Account) (lines : List (List ℕ)) → length p.members < MOST_PARTY
    → IsAccount a → CountsBy p.form a
    → run (Open p) (member_lines p.form a ++ lines) ≡ run (Open (record p { members = p.members ++ a ∷ [] })) lines
unfolding next join
run-member p a lines few is counts =
    let bare : Account = record { player = a.player; from = a.from; labels = a.labels; walk = None } in
    let one : next (Open p) (member_line a.player a.from) ≡ Some (Placed p a.player a.from) =
    ap (λ (o : Option (ℕ × ℕ)). join p o (member_line a.player a.from)) (member-again a.player a.from is.player is.from)
    ∙ cond-true (ltb (length p.members) MOST_PARTY) (Some (Placed p a.player a.from)) None
    (lt-ltb (length p.members) MOST_PARTY few) in
    let two : next (Placed p a.player a.from) (labels_line p.form a.labels) ≡ Some (Labelled p bare) =
    ap (λ (o : Option (List (ℕ × Label))). o >>= λ labels. Some
    (Labelled p (record { player = a.player; from = a.from; labels = labels; walk = None })))
    (labels-again p.form a.labels (reads-from p.form a is.entries counts) is.rising) in
    let three : next (Labelled p bare) (walk_line a.walk) ≡ Some (Open (record p { members = p.members ++ a ∷ [] })) =
    ap (λ (o : Option (Option (List ℕ))). o >>= λ walk. Some
    (Open (record p { members = p.members ++ record bare { walk = walk } ∷ [] }))) (walk-again a.walk is.exits) in
    run-then (Open p) (member_line a.player a.from) (labels_line p.form a.labels ∷ walk_line a.walk ∷ lines)
    (Placed p a.player a.from) one
    ∙ run-then (Placed p a.player a.from) (labels_line p.form a.labels) (walk_line a.walk ∷ lines) (Labelled p bare) two
    ∙ run-then (Labelled p bare) (walk_line a.walk) lines (Open (record p { members = p.members ++ a ∷ [] })) three

run-end : (p : Opening) (c : Conclusion) → IsWithin c → suits (length p.members) c ≡ true
    → run (Open p) (conclusion_line c ∷ codes "end" ∷ []) ≡ Some (Whole (certificate_with p c))
unfolding next join conclude
run-end p c w s =
    let one : next (Open p) (conclusion_line c) ≡ Some (Concluded (certificate_with p c)) =
    ap (λ (o : Option (ℕ × ℕ)). join p o (conclusion_line c)) (member-not c) ∙ ap (conclude p) (conclusion-again c w)
    ∙ cond-true (suits (length p.members) c) (Some (Concluded (certificate_with p c))) None s in
    let two : next (Concluded (certificate_with p c)) (codes "end") ≡ Some (Whole (certificate_with p c)) = refl in
    run-then (Open p) (conclusion_line c) (codes "end" ∷ []) (Concluded (certificate_with p c)) one
    ∙ run-then (Concluded (certificate_with p c)) (codes "end") [] (Whole (certificate_with p c)) two
    ∙ run-none (Whole (certificate_with p c))

run-members : (p : Opening) (team : List Account) (c : Conclusion) → All IsAccount team → All (CountsBy p.form) team
    → length (p.members ++ team) ≤ MOST_PARTY → IsWithin c → suits (length (p.members ++ team)) c ≡ true
    → run (Open p) (flat_map (member_lines p.form) team ++ conclusion_line c ∷ codes "end" ∷ []) ≡ Some
    (Whole (certificate_with (record p { members = p.members ++ team }) c))
run-members p [] c are counts few w s =
    let none : p.members ++ [] ≡ p.members = append-nil p.members in
    run-end p c w (subst (λ (ms : List Account). suits (length ms) c ≡ true) none s)
    ∙ ap (λ (ms : List Account). Some (Whole (certificate_with (record p { members = ms }) c))) (sym none)
run-members p (a ∷ team) c are counts few w s =
    let regrouped : (p.members ++ a ∷ []) ++ team ≡ p.members ++ a ∷ team = append_assoc p.members (a ∷ []) team in
    let room : length p.members < MOST_PARTY = omega (arith, length-append p.members (a ∷ team)) in
    let more : List (List ℕ) = flat_map (member_lines p.form) team ++ conclusion_line c ∷ codes "end" ∷ [] in
    run-member p a more room (All-head IsAccount a team are) (All-head (CountsBy p.form) a team counts)
    ∙ run-members (record p { members = p.members ++ a ∷ [] }) team c (All-tail IsAccount a team are)
    (All-tail (CountsBy p.form) a team counts)
    (subst (λ (ms : List Account). length ms ≤ MOST_PARTY) (sym regrouped) few) w
    (subst (λ (ms : List Account). suits (length ms) c ≡ true) (sym regrouped) s)
    ∙ ap (λ (ms : List Account). Some (Whole (certificate_with (record p { members = ms }) c))) regrouped

-- the lines of a certificate lead to it
pub cert-runs : (c : Certificate) → IsCertificate c → run Nothing (cert_lines c) ≡ Some (Whole c)
unfolding cert_lines next
cert-runs c is =
    let k = conclusion-to (length c.members) c.conclusion is.conclusion in
    let more : List (List ℕ) =
    flat_map (member_lines c.form) c.members ++ conclusion_line c.conclusion ∷ codes "end" ∷ [] in
    let one : next Nothing (head_line c.form) ≡ Some (Headed c.form) =
    ap (λ (o : Option Form). o >>= λ form. Some (Headed form)) (head-again c.form) in
    let two : next (Headed c.form) (version_line c.version) ≡ Some
    (Open (record { form = c.form; version = c.version; members = [] })) =
    ap (λ (o : Option ℕ). o >>= λ version. Some (Open (record { form = c.form; version = version; members = [] })))
    (version-again c.version is.version) in
    run-then Nothing (head_line c.form) (version_line c.version ∷ more) (Headed c.form) one
    ∙ run-then (Headed c.form) (version_line c.version) more
    (Open (record { form = c.form; version = c.version; members = [] })) two
    ∙ run-members (record { form = c.form; version = c.version; members = [] }) c.members c.conclusion is.members
    is.counts (at-most-8 (length c.members) c.conclusion is.conclusion) k.0 k.1

-- ---- each stage begins a text

-- the text of some certificate begins with these lines
pub record Starts (lines : List (List ℕ)) : Type 0 where
  pub cert : Certificate
  pub more : List (List ℕ)
  pub is_one : IsCertificate cert
  pub lines_are : cert_lines cert ≡ lines ++ more

shorter : (s t : Stage) (line : List ℕ) → lines_of t ≡ lines_of s ++ line ∷ []
    → Starts (lines_of t) → Starts (lines_of s)
shorter s t line e b = record {
  cert = b.cert;
  more = line ∷ b.more;
  is_one = b.is_one;
  lines_are = b.lines_are ∙ ap (λ (x : List (List ℕ)). x ++ b.more) e ∙ append_assoc (lines_of s) (line ∷ []) b.more;
}

begins-whole : (c : Certificate) → IsCertificate c → Starts (lines_of (Whole c))
unfolding lines_of
begins-whole c is = record { cert = c; more = []; is_one = is; lines_are = sym (append-nil (cert_lines c)) }

begins-concluded : (c : Certificate) → IsCertificate c → Starts (lines_of (Concluded c))
begins-concluded c is = shorter (Concluded c) (Whole c) (codes "end") (whole-lines c) (begins-whole c is)

begins-with : (p : Opening) (c : Conclusion) → IsOpening p → IsWithin c
    → suits (length p.members) c ≡ true → Starts (lines_of (Open p))
unfolding lines_of
begins-with p c o w s = shorter (Open p) (Concluded (certificate_with p c)) (conclusion_line c) refl
    (begins-concluded (certificate_with p c) (closes p c o w s))

-- some members, with a conclusion that there is no way or no room
begins-some : (p : Opening) → IsOpening p → 0 < length p.members → Starts (lines_of (Open p))
begins-some p o some = go (cases_eq (length p.members) 1)
  where
    go : (length p.members ≡ 1) ⊎ (length p.members ≡ 1 → ⊥) → Starts (lines_of (Open p))
    go (inl one) = begins-with p (Route 0 None) o (omega arith, tt) (eq-eqb (length p.members) 1 one)
    go (inr more) = begins-with p (Meet None) o tt
        (and_from (leb 2 (length p.members)) (leb (length p.members) MOST_PARTY)
        (le-leb 2 (length p.members) (omega arith)) (le-leb (length p.members) MOST_PARTY o.few))

begins-labelled : (p : Opening) (m : Account) → IsOpening p → length p.members < MOST_PARTY → IsAccount m
    → CountsBy p.form m → Starts (lines_of (Labelled p m))
begins-labelled p m o few is counts =
    shorter (Labelled p m) (Open (record p { members = p.members ++ m ∷ [] })) (walk_line m.walk) (joined-lines p m)
    (begins-some (record p { members = p.members ++ m ∷ [] }) (joins-party p m o few is counts)
    (omega (arith, length-append p.members (m ∷ []))))

no-counts : (form : Form) (player from : ℕ)
    → CountsBy form (record { player = player; from = from; labels = []; walk = None })
no-counts One player from = All-nil (λ e. e.1.exits ≡ 0)
no-counts Two player from = tt

begins-placed : (p : Opening) (player from : ℕ) → IsOpening p → length p.members < MOST_PARTY → IsNumber player
    → IsNumber from → Starts (lines_of (Placed p player from))
begins-placed p player from o few n f =
    let m : Account = record { player = player; from = from; labels = []; walk = None } in
    let is : IsAccount m = record {
      player = n;
      from = f;
      entries = All-nil IsEntry;
      rising =
          λ i j d lt in'. absurd (omega arith);
      exits = tt;
    } in
    shorter (Placed p player from) (Labelled p m) (labels_line p.form []) (labelled-lines p m)
    (begins-labelled p m o few is (no-counts p.form player from))

begins-open : (p : Opening) → IsOpening p → Starts (lines_of (Open p))
unfolding lines_of
begins-open p o = go (cases_lt 0 (length p.members))
  where
    go : (0 < length p.members) ⊎ (length p.members ≤ 0) → Starts (lines_of (Open p))
    go (inl some) = begins-some p o some
    go (inr none) = shorter (Open p) (Placed p 0 0) (member_line 0 0) refl
        (begins-placed p 0 0 o (omega arith) (omega arith) (omega arith))

begins-headed : (form : Form) → Starts (lines_of (Headed form))
unfolding lines_of
begins-headed form =
    let p : Opening = record { form = form; version = 0; members = [] } in
    shorter (Headed form) (Open p) (version_line 0) refl
    (begins-open p
    (record {
      version = omega arith;
      members = All-nil IsAccount;
      counts =
          All-nil (CountsBy form);
      few = omega arith;
    }))

pub stage-begins : (s : Stage) → IsStage s → Starts (lines_of s)
unfolding lines_of IsStage
stage-begins Nothing is = shorter Nothing (Headed One) (head_line One) refl (begins-headed One)
stage-begins (Headed form) is = begins-headed form
stage-begins (Open p) is = begins-open p is
stage-begins (Placed p player from) is = begins-placed p player from is.0 is.1 is.2 is.3
stage-begins (Labelled p m) is = begins-labelled p m is.0 is.1 is.2 is.3
stage-begins (Concluded c) is = begins-concluded c is
stage-begins (Whole c) is = begins-whole c is
