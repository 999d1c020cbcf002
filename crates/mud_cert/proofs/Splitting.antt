-- A text has one split into lines, and the lines of a certificate contain no LF.
use Rattle.std.proofs.Common.{◌≡◌, ◌≢◌, ℕ, ◌+◌, ◌%◌, ◌^◌, ◌<◌, ◌≤◌, true, leb, List, [], ◌∷◌, ◌++◌, length, get_or}
use Rattle.std.proofs.Common.{Option, None, Some, refl, sym, ap, ◌∙◌, append_assoc, arith, inl, inr, ◌⊎◌, All}
use Rattle.std.specs.Prelude.{codes, IfSome}
use Rattle.std.specs.Fmt.{decimal}
use Rattle.std.specs.List.{flat_map, list_all}
use Rattle.std.proofs.lemmas.Bool.{cases_lt, and_parts, leb-true}
use Rattle.std.proofs.lemmas.Fmt.{decimal_by_steps}
use Rattle.std.proofs.lemmas.List.{append-nil}
use Rattle.std.proofs.lemmas.List.Elements.{All-nil, All-cons, All-head, All-tail, All-append}
use Rattle.mud_key.specs.declared.codes.TheConstants.{LF, CR}
use Rattle.mud_roads.specs.declared.label.Label.{Label}
use Rattle.mud_cert.specs.declared.cert.Form.{Form}
use Rattle.mud_cert.specs.declared.cert.Form.TheVariants.{One, Two}
use Rattle.mud_cert.specs.declared.cert.Conclusion.{Conclusion}
use Rattle.mud_cert.specs.declared.cert.Conclusion.TheVariants.{Route, Meet}
use Rattle.mud_cert.specs.Certificate.{Account, Certificate, IsNumber, IsAmount, IsAccount, IsConclusion, IsCertificate}
use Rattle.mud_cert.specs.Text.{text_of, head_line, entry_text, walk_line, member_lines, conclusion_line, cert_lines}
use Rattle.mud_cert.specs.Text.{cert_text}
use Rattle.mud_cert.specs.inner.Lines.{version_line, member_line, labels_line, IsEntry, with_line_feed, exit_text}
use Rattle.mud_key.specs.Lines.{HasNoLineFeed}
use Rattle.mud_cert.specs.TextLaws.{HasNoReturn}

abbrev Apart : ℕ → Type 0
Apart b = b ≢ LF

-- ---- one split

-- the bytes before the first LF, and those after it
pub cut : (a b x y : List ℕ) → HasNoLineFeed a → HasNoLineFeed b → a ++ LF ∷ x ≡ b ++ LF ∷ y → (a ≡ b) × (x ≡ y)
cut [] [] x y la lb e = (refl, cc)
cut [] (c ∷ b) x y la lb e =
    let at : c ≡ LF = cc in
    absurd (All-head Apart c b lb at)
cut (c ∷ a) [] x y la lb e =
    let at : c ≡ LF = cc in
    absurd (All-head Apart c a la at)
cut (c ∷ a) (d ∷ b) x y la lb e =
    let heads : c ≡ d = cc in
    let tails : a ++ LF ∷ x ≡ b ++ LF ∷ y = cc in
    let more = cut a b x y (All-tail Apart c a la) (All-tail Apart d b lb) tails in
    (cc (more.0), more.1)

-- a line contains no LF
pub uncut : (rest a x : List ℕ) → HasNoLineFeed rest → rest ≡ a ++ LF ∷ x → ⊥
uncut [] [] x l e = absurd cc
uncut [] (c ∷ a) x l e = absurd cc
uncut (b ∷ bs) [] x l e = let at : b ≡ LF = cc in All-head Apart b bs l at
uncut (b ∷ bs) (c ∷ a) x l e = let tails : bs ≡ a ++ LF ∷ x = cc in uncut bs a x (All-tail Apart b bs l) tails

line-then : (l : List ℕ) (r : List ℕ) → with_line_feed l ++ r ≡ l ++ LF ∷ r
line-then l r = append_assoc l (LF ∷ []) r

pub text-then : (l : List ℕ) (ls : List (List ℕ)) (r : List ℕ) → text_of (l ∷ ls) ++ r ≡ l ++ LF ∷ (text_of ls ++ r)
text-then l ls r = append_assoc (with_line_feed l) (text_of ls) r ∙ line-then l (text_of ls ++ r)

-- the longer of two splits continues the shorter one
pub record GoesOn (front other : List (List ℕ)) (rest behind : List ℕ) : Type 0 where
  pub more : List (List ℕ)
  pub lines_are : other ≡ front ++ more
  pub rest_is : rest ≡ text_of more ++ behind

pub split-longer : (front other : List (List ℕ)) (rest behind : List ℕ) → All HasNoLineFeed front
    → All HasNoLineFeed other → text_of front ++ rest ≡ text_of other ++ behind → length front ≤ length other
    → GoesOn front other rest behind
split-longer [] other rest behind lf lo e le = record { more = other; lines_are = refl; rest_is = e }
split-longer (l ∷ front) [] rest behind lf lo e le = absurd (omega arith)
split-longer (l ∷ front) (m ∷ other) rest behind lf lo e le =
    let both : l ++ LF ∷ (text_of front ++ rest) ≡ m ++ LF ∷ (text_of other ++ behind) =
    sym (text-then l front rest) ∙ e ∙ text-then m other behind in
    let c = cut l m (text_of front ++ rest) (text_of other ++ behind) (All-head HasNoLineFeed l front lf)
    (All-head HasNoLineFeed m other lo) both in
    let r = split-longer front other rest behind (All-tail HasNoLineFeed l front lf)
    (All-tail HasNoLineFeed m other lo) c.1 (omega arith) in
    record { more = r.more; lines_are = cc (c.0, r.lines_are); rest_is = r.rest_is }

-- no bytes have no lines
pub no-lines : (ls : List (List ℕ)) (r : List ℕ) → [] ≡ text_of ls ++ r → ls ≡ []
no-lines [] r e = refl
no-lines (l ∷ ls) r e =
    let both : [] ≡ l ++ LF ∷ (text_of ls ++ r) = e ∙ text-then l ls r in
    absurd (uncut [] l (text_of ls ++ r) (All-nil Apart) both)

-- a whole text continues each of its prefixes
pub split-whole : (front lines : List (List ℕ)) (rest : List ℕ) → All HasNoLineFeed front → All HasNoLineFeed lines
    → text_of front ++ rest ≡ text_of lines → GoesOn front lines rest []
split-whole front lines rest lf ll e = go (cases_lt (length lines) (length front))
  where
    go : (length lines < length front) ⊎ (length front ≤ length lines) → GoesOn front lines rest []
    go (inr le) = split-longer front lines rest [] lf ll (e ∙ sym (append-nil (text_of lines))) le
    go (inl lt) =
        let back = split-longer lines front [] rest ll lf (append-nil (text_of lines) ∙ sym e) (omega arith) in
        let none : back.more ≡ [] = no-lines back.more rest back.rest_is in
        let same : length front ≡ length lines = ap length back.lines_are
        ∙ ap (λ (x : List (List ℕ)). length (lines ++ x)) none ∙ ap length (append-nil lines) in
        absurd (omega arith)

-- ---- the lines of a certificate

abbrev Plain : ℕ → Type 0
Plain b = 32 ≤ b

-- it contains no control byte
abbrev pub ArePlain : List ℕ → Type 0
ArePlain bytes = All Plain bytes

plain-from : (bytes : List ℕ) → list_all (leb 32) bytes ≡ true → ArePlain bytes
plain-from [] e = All-nil Plain
plain-from (b ∷ bs) e =
    let p = and_parts (leb 32 b) (list_all (leb 32) bs) e in
    All-cons Plain b bs (leb-true 32 b p.0) (plain-from bs p.1)

then : (a b : List ℕ) → ArePlain a → ArePlain b → ArePlain (a ++ b)
then a b la lb = All-append Plain a b la lb

digit-plain : (b : ℕ) → 48 ≤ b → ArePlain (b ∷ [])
digit-plain b low = All-cons Plain b [] (omega arith) (All-nil Plain)

decimal-plain : (n : ℕ) → n < 2 ^ 64 → ArePlain (decimal n)
decimal-plain n fits = decimal_by_steps (λ m ds. ArePlain ds)
    (λ m small. digit-plain (48 + m) (omega arith))
    (λ m ds big is. then ds ((48 + m % 10) ∷ []) is (digit-plain (48 + m % 10) (omega arith)))
    n fits

number-plain : (n : ℕ) → IsNumber n → ArePlain (decimal n)
number-plain n low = decimal-plain n (omega arith)

amount-plain : (n : ℕ) → IsAmount n → ArePlain (decimal n)
amount-plain n few = decimal-plain n (omega arith)

-- pieces, concatenated
pieces-plain : {A : Type 0} (text : A → List ℕ) (Fits : A → Type 0) (is : (x : A) → Fits x → ArePlain (text x))
    (xs : List A) → All Fits xs → ArePlain (flat_map text xs)
pieces-plain text Fits is [] fits = All-nil Plain
pieces-plain text Fits is (x ∷ xs) fits = then (text x) (flat_map text xs) (is x (All-head Fits x xs fits))
    (pieces-plain text Fits is xs (All-tail Fits x xs fits))

head-is : (form : Form) → ArePlain (head_line form)
head-is One = plain-from (codes "mud proof 1") refl
head-is Two = plain-from (codes "mud proof 2") refl

entry-is : (form : Form) (e : ℕ × Label) → IsEntry e → ArePlain (entry_text form e)
entry-is One e is =
    then (codes " #" ++ decimal e.0 ++ codes ":") (decimal e.1.cost)
    (then (codes " #" ++ decimal e.0) (codes ":")
    (then (codes " #") (decimal e.0) (plain-from (codes " #") refl) (number-plain e.0 is.0))
    (plain-from (codes ":") refl))
    (amount-plain e.1.cost is.1)
entry-is Two e is =
    then (codes " #" ++ decimal e.0 ++ codes ":" ++ decimal e.1.cost ++ codes "/") (decimal e.1.exits)
    (then (codes " #" ++ decimal e.0 ++ codes ":" ++ decimal e.1.cost) (codes "/")
    (then (codes " #" ++ decimal e.0 ++ codes ":") (decimal e.1.cost)
    (then (codes " #" ++ decimal e.0) (codes ":")
    (then (codes " #") (decimal e.0) (plain-from (codes " #") refl) (number-plain e.0 is.0))
    (plain-from (codes ":") refl))
    (amount-plain e.1.cost is.1))
    (plain-from (codes "/") refl))
    (amount-plain e.1.exits is.2)

exit-is : (x : ℕ) → IsNumber x → ArePlain (exit_text x)
exit-is x low = then (codes " #") (decimal x) (plain-from (codes " #") refl) (number-plain x low)

walk-is : (w : Option (List ℕ)) → IfSome w (All IsNumber) → ArePlain (walk_line w)
walk-is None fits = plain-from (codes "walk none") refl
walk-is (Some []) fits = plain-from (codes "walk nothing") refl
walk-is (Some (x ∷ xs)) fits = then (codes "walk") (flat_map exit_text (x ∷ xs)) (plain-from (codes "walk") refl)
    (pieces-plain exit_text IsNumber exit-is (x ∷ xs) fits)

member-is : (player from : ℕ) → IsNumber player → IsNumber from → ArePlain (member_line player from)
member-is player from p f =
    then (codes "member #" ++ decimal player ++ codes " from #") (decimal from)
    (then (codes "member #" ++ decimal player) (codes " from #")
    (then (codes "member #") (decimal player) (plain-from (codes "member #") refl) (number-plain player p))
    (plain-from (codes " from #") refl))
    (number-plain from f)

members-are : (form : Form) (ms : List Account) → All IsAccount ms → All ArePlain (flat_map (member_lines form) ms)
members-are form [] is = All-nil ArePlain
members-are form (a ∷ ms) is =
    let i = All-head IsAccount a ms is in
    let more : List (List ℕ) = flat_map (member_lines form) ms in
    All-cons ArePlain (member_line a.player a.from) (labels_line form a.labels ∷ walk_line a.walk ∷ more)
    (member-is a.player a.from i.player i.from)
    (All-cons ArePlain (labels_line form a.labels) (walk_line a.walk ∷ more)
    (then (codes "labels") (flat_map (entry_text form) a.labels) (plain-from (codes "labels") refl)
    (pieces-plain (entry_text form) IsEntry (entry-is form) a.labels i.entries))
    (All-cons ArePlain (walk_line a.walk) more (walk-is a.walk i.exits)
    (members-are form ms (All-tail IsAccount a ms is))))

conclusion-is : (count : ℕ) (c : Conclusion) → IsConclusion count c → ArePlain (conclusion_line c)
conclusion-is count (Route to None) i = then (codes "route #" ++ decimal to) (codes " no way")
    (then (codes "route #") (decimal to) (plain-from (codes "route #") refl) (number-plain to i.1))
    (plain-from (codes " no way") refl)
conclusion-is count (Route to (Some cost)) i =
    then (codes "route #" ++ decimal to ++ codes " cost ") (decimal cost)
    (then (codes "route #" ++ decimal to) (codes " cost ")
    (then (codes "route #") (decimal to) (plain-from (codes "route #") refl) (number-plain to i.1))
    (plain-from (codes " cost ") refl))
    (amount-plain cost i.2)
conclusion-is count (Meet None) i = plain-from (codes "meet none") refl
conclusion-is count (Meet (Some m)) i =
    then (codes "meet #" ++ decimal m.room ++ codes " cost ") (decimal m.cost)
    (then (codes "meet #" ++ decimal m.room) (codes " cost ")
    (then (codes "meet #") (decimal m.room) (plain-from (codes "meet #") refl) (number-plain m.room i.2.0))
    (plain-from (codes " cost ") refl))
    (amount-plain m.cost i.2.1)

pub plain-lines : (c : Certificate) → IsCertificate c → All ArePlain (cert_lines c)
unfolding cert_lines
plain-lines c is =
    let last : List (List ℕ) = conclusion_line c.conclusion ∷ codes "end" ∷ [] in
    let members : List (List ℕ) = flat_map (member_lines c.form) c.members in
    All-cons ArePlain (head_line c.form) (version_line c.version ∷ (members ++ last)) (head-is c.form)
    (All-cons ArePlain (version_line c.version) (members ++ last)
    (then (codes "version ") (decimal c.version) (plain-from (codes "version ") refl)
    (amount-plain c.version is.version))
    (All-append ArePlain members last (members-are c.form c.members is.members)
    (All-cons ArePlain (conclusion_line c.conclusion) (codes "end" ∷ [])
    (conclusion-is (length c.members) c.conclusion is.conclusion)
    (All-cons ArePlain (codes "end") [] (plain-from (codes "end") refl) (All-nil ArePlain)))))

-- a text without control bytes contains no LF
line-of : (line : List ℕ) → ArePlain line → HasNoLineFeed line
line-of line plain = λ i d lt. λ (same : get_or line i d ≡ LF). omega (arith, plain i d lt, same)

pub cert-lines : (c : Certificate) → IsCertificate c → All HasNoLineFeed (cert_lines c)
cert-lines c is = λ i d lt. line-of (get_or (cert_lines c) i d) (plain-lines c is i d lt)

-- lines without control bytes contain no CR
no-returns : (lines : List (List ℕ)) → All ArePlain lines → All (λ b. b ≢ CR) (text_of lines)
no-returns [] plain = All-nil (λ b. b ≢ CR)
no-returns (l ∷ ls) plain =
    let P : ℕ → Type 0 = λ b. b ≢ CR in
    let one : ArePlain l = All-head ArePlain l ls plain in
    All-append P (with_line_feed l) (text_of ls)
    (All-append P l (LF ∷ []) (λ i d lt. λ (same : get_or l i d ≡ CR). omega (arith, one i d lt, same))
    (All-cons P LF [] (λ (same : LF ≡ CR). omega (arith, same)) (All-nil P)))
    (no-returns ls (All-tail ArePlain l ls plain))

pub has-no-return : HasNoReturn
unfolding cert_text
has-no-return c is = no-returns (cert_lines c) (plain-lines c is)
