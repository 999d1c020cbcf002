-- The progress of reading a text: the lines before the rest, and their meaning.
use Rattle.std.proofs.Common.{◌≡◌, ◌≢◌, ℕ, zero, suc, ◌+◌, ◌<◌, ◌≤◌, List, [], ◌∷◌, ◌++◌, length, take, drop}
use Rattle.std.proofs.Common.{None, Some, refl, sym, ap, subst, ◌∙◌, append_assoc, length-append, arith, inl, inr, ◌⊎◌}
use Rattle.std.proofs.Common.{All}
use Rattle.std.specs.Prelude.{codes}
use Rattle.std.proofs.lemmas.Bool.{cases_order}
use Rattle.std.proofs.lemmas.List.{append-nil}
use Rattle.std.proofs.lemmas.List.Concat.{flat_map-append}
use Rattle.std.proofs.lemmas.List.Elements.{All-nil, All-head, All-tail, All-push, All-take}
use Rattle.std.proofs.Math.Seq.{take-append_seam}
use Rattle.std.proofs.lemmas.List.{take-append-drop, length-take-le}
use Rattle.mud_key.specs.declared.codes.TheConstants.{LF}
use Rattle.mud_cert.specs.declared.fault.CertFault.TheVariants.{BadLine}
use Rattle.mud_cert.specs.declared.stage.Stage.{Stage}
use Rattle.mud_cert.specs.declared.stage.Stage.TheVariants.{Nothing, Headed, Open, Placed, Labelled, Concluded, Whole}
use Rattle.mud_cert.specs.Certificate.{Certificate, IsCertificate}
use Rattle.mud_cert.specs.Text.{text_of, conclusion_line, cert_lines, cert_text}
use Rattle.mud_cert.specs.inner.Lines.{opening_lines, with_line_feed}
use Rattle.mud_cert.specs.Faults.{Begins, IsBadLine}
use Rattle.mud_key.specs.Lines.{HasNoLineFeed}
use Rattle.mud_cert.specs.TextLaws.{OneCertificate, OneBadLine, EndsWithLf}
use Rattle.mud_cert.specs.inner.Reader.{after, head_at, version_at, member_at, labels_at, walk_at, route_at}
use Rattle.mud_cert.specs.inner.Reader.{meeting_at}
use Rattle.mud_cert.specs.inner.Reader.{conclusion_at}
use Rattle.mud_cert.specs.inner.Stages.{lines_of, IsStage, conclude, join, next, run}
use Rattle.mud_cert.proofs.Splitting.{cut, uncut, text-then, no-lines, split-longer, split-whole, cert-lines}
use Rattle.mud_cert.proofs.Machine.{next-keeps, run-then, run-append, run-fails, run-none, cert-runs, Starts}
use Rattle.mud_cert.proofs.Machine.{stage-begins}

-- ---- reading further

pub record Reads (bytes rest : List ℕ) (n : ℕ) (s : Stage) : Type 0 where
  pub front : List (List ℕ)
  pub parts : bytes ≡ text_of front ++ rest
  pub lines : All HasNoLineFeed front
  pub place : n ≡ length front + 1
  pub runs : run Nothing front ≡ Some s
  pub same : lines_of s ≡ front
  pub keeps : IsStage s

pub reads-start : (bytes : List ℕ) → Reads bytes bytes 1 Nothing
unfolding lines_of IsStage
reads-start bytes = record {
  front = [];
  parts = refl;
  lines = All-nil HasNoLineFeed;
  place = refl;
  runs =
      run-none Nothing;
  same = refl;
  keeps = tt;
}

pub reads-more : (bytes rest : List ℕ) (n : ℕ) (s t : Stage) (line behind : List ℕ) → Reads bytes rest n s
    → HasNoLineFeed line → rest ≡ line ++ LF ∷ behind → next s line ≡ Some t → Reads bytes behind (n + 1) t
reads-more bytes rest n s t line behind r is e f =
    let k = next-keeps s line t r.keeps f in
    record {
      front = r.front ++ line ∷ [];
      parts = r.parts
          ∙ ap (λ (x : List ℕ). text_of r.front ++ x)
          (e ∙ sym (append_assoc line (LF ∷ []) behind) ∙ ap (λ (x : List ℕ). x ++ behind)
          (sym (append-nil (with_line_feed line))))
          ∙ sym (append_assoc (text_of r.front) (text_of (line ∷ [])) behind)
          ∙ ap (λ (x : List ℕ). x ++ behind) (sym (flat_map-append with_line_feed r.front (line ∷ [])));
      lines = All-push HasNoLineFeed r.front line r.lines is;
      place = omega (arith, length-append r.front (line ∷ []), r.place);
      runs = run-append Nothing r.front (line ∷ []) s r.runs ∙ run-then s line [] t f ∙ run-none t;
      same = k.1 ∙ ap (λ (x : List (List ℕ)). x ++ line ∷ []) r.same;
      keeps = k.0;
    }

-- there are at most as many lines as bytes
short : (lines : List (List ℕ)) → length lines ≤ length (text_of lines)
short [] = omega arith
short (l ∷ ls) = omega (arith, short ls, length-append (with_line_feed l) (text_of ls), length-append l (LF ∷ []))

pub reads-few : (bytes rest : List ℕ) (n : ℕ) (s : Stage) → Reads bytes rest n s → n + length rest ≤ length bytes + 1
reads-few bytes rest n s r =
    omega (arith, r.place, short r.front, ap length r.parts, length-append (text_of r.front) rest)

-- no certificate has an empty line
empty-refused : (s : Stage) → next s [] ≡ None
unfolding next join conclude head_at version_at member_at conclusion_at route_at meeting_at labels_at walk_at after
empty-refused Nothing = refl
empty-refused (Headed form) = refl
empty-refused (Open p) = refl
empty-refused (Placed p player from) = refl
empty-refused (Labelled p m) = refl
empty-refused (Concluded c) = refl
empty-refused (Whole c) = refl

pub line-some : (s t : Stage) (line : List ℕ) → next s line ≡ Some t → 0 < length line
line-some s t [] e =
    let none : next s [] ≡ None = empty-refused s in
    absurd (cc)
line-some s t (b ∷ bs) e = omega arith

middle : (xs : List (List ℕ)) (y : List ℕ) (ys : List (List ℕ)) → All HasNoLineFeed (xs ++ y ∷ ys) → HasNoLineFeed y
middle [] y ys h = All-head HasNoLineFeed y ys h
middle (x ∷ xs) y ys h = middle xs y ys (All-tail HasNoLineFeed x (xs ++ y ∷ ys) h)

text-is : (c : Certificate) → cert_text c ≡ text_of (cert_lines c)
unfolding cert_text
text-is c = refl

-- no certificate continues with a rejected line
bad-ends : (front : List (List ℕ)) (s : Stage) (line : List ℕ) → run Nothing front ≡ Some s → next s line ≡ None
    → Starts (front ++ line ∷ []) → ⊥
bad-ends front s line runs none b =
    let regrouped : cert_lines b.cert ≡ front ++ line ∷ b.more = b.lines_are ∙ append_assoc front (line ∷ []) b.more in
    let stops : run Nothing (cert_lines b.cert) ≡ None =
    ap (run Nothing) regrouped ∙ run-append Nothing front (line ∷ b.more) s runs ∙ run-fails s line b.more none in
    let bad : None ≡ Some (Whole b.cert) = sym stops ∙ cert-runs b.cert b.is_one in
    absurd (cc)

bad-fails : (front : List (List ℕ)) (rest : List ℕ) (s : Stage) (c : Certificate)
    → IsCertificate c → run Nothing front ≡ Some s
    → ((line behind : List ℕ) → HasNoLineFeed line → rest ≡ line ++ LF ∷ behind → next s line ≡ None)
    → ((d : Certificate) → s ≡ Whole d → rest ≡ [] → ⊥)
    → (more : List (List ℕ)) → cert_lines c ≡ front ++ more → rest ≡ text_of more ++ [] → ⊥
bad-fails front rest s c is runs none some [] e f =
    let all : cert_lines c ≡ front = e ∙ append-nil front in
    let at : Some (Whole c) ≡ Some s = sym (cert-runs c is) ∙ ap (run Nothing) all ∙ runs in
    let whole : s ≡ Whole c = cc (at) in
    some c whole f
bad-fails front rest s c is runs none some (l ∷ more) e f =
    let parts : rest ≡ l ++ LF ∷ text_of more =
    f ∙ append-nil (text_of (l ∷ more)) ∙ append_assoc l (LF ∷ []) (text_of more) in
    let regrouped : cert_lines c ≡ (front ++ l ∷ []) ++ more = e ∙ sym (append_assoc front (l ∷ []) more) in
    let line : HasNoLineFeed l = middle front l more (subst (All HasNoLineFeed) e (cert-lines c is)) in
    bad-ends front s l runs (none l (text_of more) line parts)
    (record { cert = c; more = more; is_one = is; lines_are = regrouped })

-- leading lines with which a certificate starts
begins : (front : List (List ℕ)) (rest : List ℕ) → Starts front → Begins (text_of front ++ rest) (length front)
begins front rest b =
    let at : take (length front) (cert_lines b.cert) ≡ front =
    ap (take (length front)) b.lines_are ∙ take-append_seam front b.more in
    let few : length front ≤ length (cert_lines b.cert) =
    omega (arith, ap length b.lines_are, length-append front b.more) in
    (b.cert, b.is_one, few, (rest, ap (λ (ls : List (List ℕ)). text_of ls ++ rest) (sym at)))

-- a stage that no line continues, before the end, is at a bad line
pub reads-bad : (bytes rest : List ℕ) (n : ℕ) (s : Stage) → Reads bytes rest n s
    → ((line behind : List ℕ) → HasNoLineFeed line → rest ≡ line ++ LF ∷ behind → next s line ≡ None)
    → ((c : Certificate) → s ≡ Whole c → rest ≡ [] → ⊥)
    → IsBadLine bytes n
reads-bad bytes rest n s r none some = (
  (
    length r.front,
    r.place,
    subst (λ (bs : List ℕ). Begins bs (length r.front)) (sym r.parts)
        (begins r.front rest (subst Starts r.same (stage-begins s r.keeps))),
    λ (c, is, few, (behind, parts)).
        let lines : All HasNoLineFeed (take n (cert_lines c)) =
        All-take HasNoLineFeed n (cert_lines c) (cert-lines c is) in
        let long : length (take n (cert_lines c)) ≡ n = length-take-le n (cert_lines c) few in
        let g = split-longer r.front (take n (cert_lines c)) rest behind r.lines lines (sym r.parts ∙ parts)
        (omega (arith, long, r.place)) in
        onward c is behind g.more g.lines_are g.rest_is long,
  ),
  λ c is e.
      let g = split-whole r.front (cert_lines c) rest r.lines (cert-lines c is) (sym r.parts ∙ e ∙ text-is c) in
      bad-fails r.front rest s c is r.runs none some g.more g.lines_are g.rest_is,
)
  where
    onward : (c : Certificate) → IsCertificate c → (behind : List ℕ) (more : List (List ℕ))
        → take n (cert_lines c) ≡ r.front ++ more → rest ≡ text_of more ++ behind
        → length (take n (cert_lines c)) ≡ n → ⊥
    onward c is behind [] e f long = omega (arith, long, r.place, ap length (e ∙ append-nil r.front))
    onward c is behind (l ∷ more) e f long =
        let all : cert_lines c ≡ r.front ++ l ∷ (more ++ drop n (cert_lines c)) =
        sym (take-append-drop n (cert_lines c)) ∙ ap (λ (ls : List (List ℕ)). ls ++ drop n (cert_lines c)) e
        ∙ append_assoc r.front (l ∷ more) (drop n (cert_lines c)) in
        let regrouped : cert_lines c ≡ (r.front ++ l ∷ []) ++ (more ++ drop n (cert_lines c)) =
        all ∙ sym (append_assoc r.front (l ∷ []) (more ++ drop n (cert_lines c))) in
        let line : HasNoLineFeed l =
        middle r.front l (more ++ drop n (cert_lines c)) (subst (All HasNoLineFeed) all (cert-lines c is)) in
        bad-ends r.front s l r.runs (none l (text_of more ++ behind) line (f ∙ text-then l more behind))
        (record { cert = c; more = more ++ drop n (cert_lines c); is_one = is; lines_are = regrouped })

-- a rejected line is bad
pub reads-refused : (bytes rest : List ℕ) (n : ℕ) (s : Stage) (line behind : List ℕ) → Reads bytes rest n s
    → HasNoLineFeed line → rest ≡ line ++ LF ∷ behind → next s line ≡ None → IsBadLine bytes n
reads-refused bytes rest n s line behind r is e f =
    reads-bad bytes rest n s r
    (λ l b i g. let same = cut line l behind b is i (sym e ∙ g) in subst (λ (x : List ℕ). next s x ≡ None) same.0 f)
    (λ c w h. uncut [] line behind (All-nil (λ x. x ≢ LF)) (sym h ∙ e))

-- a line without an end is bad if it is not empty or more lines are expected
pub reads-unended : (bytes rest : List ℕ) (n : ℕ) (s : Stage) → Reads bytes rest n s → HasNoLineFeed rest
    → ((c : Certificate) → s ≡ Whole c → rest ≡ [] → ⊥) → IsBadLine bytes n
reads-unended bytes rest n s r is some = reads-bad bytes rest n s r (λ l b i g. absurd (uncut rest l b is g)) some

-- all lines are read
pub reads-whole : (bytes rest : List ℕ) (n : ℕ) (c : Certificate) → Reads bytes rest n (Whole c) → rest ≡ []
    → IsCertificate c × (bytes ≡ cert_text c)
unfolding lines_of IsStage
reads-whole bytes rest n c r none = (
  r.keeps,
  r.parts ∙ ap (λ (x : List ℕ). text_of r.front ++ x) none ∙ append-nil (text_of r.front)
      ∙ ap text_of (sym r.same) ∙ sym (text-is c),
)

-- the line that a fault names is bad
pub told : (bytes : List ℕ) (k n : ℕ) → IsBadLine bytes k → BadLine k ≡ BadLine n → IsBadLine bytes n
told bytes k n bad e = let same : k ≡ n = cc in subst (IsBadLine bytes) same bad

-- ---- laws

pub one-certificate : OneCertificate
one-certificate c d ic id e =
    let texts : text_of (cert_lines c) ++ [] ≡ text_of (cert_lines d) =
    append-nil (text_of (cert_lines c)) ∙ sym (text-is c) ∙ e ∙ text-is d in
    let g = split-whole (cert_lines c) (cert_lines d) [] (cert-lines c ic) (cert-lines d id) texts in
    let none : g.more ≡ [] = no-lines g.more [] g.rest_is in
    let lines : cert_lines d ≡ cert_lines c = g.lines_are ∙ ap (λ (x : List (List ℕ)). cert_lines c ++ x) none
    ∙ append-nil (cert_lines c) in
    let both : Some (Whole c) ≡ Some (Whole d) = sym (cert-runs c ic) ∙ ap (run Nothing) (sym lines) ∙ cert-runs d id in
    cc (both)

-- bytes that begin with some lines begin with fewer
fewer : (lines : List (List ℕ)) (m j : ℕ) (rest : List ℕ) → m ≤ j → (more : List ℕ)
    × (text_of (take j lines) ++ rest ≡ text_of (take m lines) ++ more)
fewer lines zero j rest le = (text_of (take j lines) ++ rest, refl)
fewer lines (suc m) zero rest le = absurd (omega (arith, le))
fewer [] (suc m) (suc j) rest le = (rest, refl)
fewer (l ∷ lines) (suc m) (suc j) rest le =
    let r = fewer lines m j rest (omega (arith, le)) in (
      r.0,
      append_assoc (with_line_feed l) (text_of (take j lines)) rest ∙ ap (λ (t : List ℕ). with_line_feed l ++ t) r.1
          ∙ sym (append_assoc (with_line_feed l) (text_of (take m lines)) r.0),
    )

later : (bytes : List ℕ) (m n : ℕ) → IsBadLine bytes m → IsBadLine bytes n → m < n → ⊥
later bytes m n ((k, number, so, fails), _) ((j, place, (c, is, few, (rest, parts)), _), _) lt =
    let r = fewer (cert_lines c) m j rest (omega (arith, place, lt)) in
    fails (c, is, omega (arith, few, place, lt), (r.0, parts ∙ r.1))

pub one-bad-line : OneBadLine
one-bad-line bytes m n p q = go (cases_order m n)
  where
    go : (m ≡ n) ⊎ ((m < n) ⊎ (n < m)) → m ≡ n
    go (inl same) = same
    go (inr (inl lt)) = absurd (later bytes m n p q lt)
    go (inr (inr gt)) = absurd (later bytes n m q p gt)

pub ends-with-lf : EndsWithLf
unfolding cert_text cert_lines
ends-with-lf c =
    let front : List (List ℕ) = opening_lines c.form c.version c.members ++ conclusion_line c.conclusion ∷ [] in
    let lines : opening_lines c.form c.version c.members ++ conclusion_line c.conclusion ∷ codes "end" ∷ [] ≡ front
    ++ codes "end" ∷ [] = sym
    (append_assoc (opening_lines c.form c.version c.members)
    (conclusion_line c.conclusion ∷ []) (codes "end" ∷ [])) in (
      text_of front ++ codes "end",
      ap text_of lines ∙ flat_map-append with_line_feed front (codes "end" ∷ [])
          ∙ ap (λ (x : List ℕ). text_of front ++ x) (append-nil (with_line_feed (codes "end")))
          ∙ sym (append_assoc (text_of front) (codes "end") (LF ∷ [])),
    )
