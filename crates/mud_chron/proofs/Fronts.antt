-- A journal cut at any byte.
use Rattle.std.proofs.Common.{◌≡◌, ◌≢◌, ℕ, zero, suc, ◌+◌, ◌-◌, ◌<◌, ◌≤◌, ◌⊎◌, inl, inr, Bool, true, false}
use Rattle.std.proofs.Common.{List, [], ◌∷◌, ◌++◌, length, take, drop, get_or, Option, Some}
use Rattle.std.proofs.Common.{refl, sym, ◌∙◌, ap, arith, subst, append_assoc}
use Rattle.std.specs.Prelude.{◌^◌, MatchBool}
use Rattle.std.proofs.lemmas.Bool.{true≢false}
use Rattle.std.specs.List.{AllByRecursion}
use Rattle.std.proofs.lemmas.List.{append-nil, length-append, length-take}
use Rattle.std.proofs.lemmas.List.Elements.{recursion_from_All}
use mathlib.Core.List.{IsPrefix}
use Rattle.mud_key.specs.declared.codes.TheConstants.{LF}
use Rattle.mud_chron.specs.declared.fault.ChronFault.TheVariants as fault
use Rattle.mud_chron.specs.declared.format.Format.{Format}
use Rattle.mud_chron.specs.declared.format.Format.TheVariants.{One, Two}
use Rattle.mud_world.specs.declared.limits.TheConstants.{MOST_ENTRIES}
use Rattle.mud_chron.specs.Entry.{Entry, IsEntry}
use Rattle.mud_chron.specs.Text.{line_feed, head_line, entry_line, entries_text, end_line, journal_text}
use Rattle.mud_chron.specs.inner.Texts.{IsBad, entry_text}
use Rattle.mud_chron.specs.History.{IsEntryOf, AreEntriesOf}
use Rattle.mud_chron.specs.Faults.{IsNoHistory, Begins, IsNoEntryLine, HasOtherLine, HasBadLine}
use Rattle.mud_key.specs.Lines.{HasNoLineFeed}
use Rattle.mud_chron.specs.Fronts.{BeginsHead, EndsInHead, EndsInLine, Recovers}
use Rattle.mud_chron.specs.Laws.{AreWhole, FaultsAreNoFronts, NothingIsLost}
use Rattle.mud_chron.specs.inner.Reader.{entry_in}
use Rattle.mud_chron.proofs.Cutting.{lacks_all}
use Rattle.mud_chron.proofs.Again.{entry_again}
use Rattle.mud_chron.proofs.Telling.{entry_lacks, end_apart}

-- ---- one line

abbrev IsPlain : List ℕ → Type 0
IsPlain text = AllByRecursion (λ b. b ≢ LF) text

plain_of : (text : List ℕ) → HasNoLineFeed text → IsPlain text
plain_of text h = recursion_from_All (λ b. b ≢ LF) text h

plain_entry : (version : ℕ) (e : Entry) → version < 2 ^ 64 → IsEntry e → IsPlain (entry_line version e)
plain_entry version e fits is = lacks_all LF (entry_line version e) (entry_lacks version e fits is)

-- two lines with line ends; the second may be cut
record SameLine (x y r s : List ℕ) (n : ℕ) : Type 0 where
  same : x ≡ y
  fits : length y < n
  behind : r ≡ take (n - suc (length y)) s

same_line : (x y r s : List ℕ) (n : ℕ) → IsPlain x → IsPlain y → x ++ LF ∷ r ≡ take n (y ++ LF ∷ s) → SameLine x y r s n
same_line [] y r s zero hx hy e = absurd (cc)
same_line (a ∷ x) y r s zero hx hy e = absurd (cc)
same_line [] [] r s (suc n) hx hy e =
    let t : r ≡ take n s = cc in
    let k : n ≡ suc n - suc 0 = omega arith in
    record { same = refl; fits = omega arith; behind = t ∙ ap (λ m. take m s) k }
same_line [] (b ∷ y) r s (suc n) hx hy e = let t : b ≡ LF = cc in absurd (hy.0 t)
same_line (a ∷ x) [] r s (suc n) hx hy e = let t : a ≡ LF = cc in absurd (hx.0 t)
same_line (a ∷ x) (b ∷ y) r s (suc n) hx hy e =
    let head : a ≡ b = cc in
    let tail : x ++ LF ∷ r ≡ take n (y ++ LF ∷ s) = cc in
    let more = same_line x y r s n hx.1 hy.1 tail in
    let k : n - suc (length y) ≡ suc n - suc (length (b ∷ y)) = omega arith in
    record {
      same = ap (λ c. c ∷ x) head ∙ ap (λ t. b ∷ t) more.same;
      fits = omega (arith, more.fits);
      behind = more.behind ∙ ap (λ m. take m s) k;
    }

-- a line without its end is cut before its end
torn_line : (t y s : List ℕ) (n : ℕ) → IsPlain t → t ≡ take n (y ++ LF ∷ s) → n ≤ length y
torn_line t y s zero h e = omega arith
torn_line t [] s (suc n) h e = absurd ((subst IsPlain e h).0 refl)
torn_line t (b ∷ y) s (suc n) h e =
    let k = subst IsPlain e h in
    let more = torn_line (take n (y ++ LF ∷ s)) y s n k.1 refl in
    omega (arith, more)

-- ---- the lines of entries

-- a text that begins with an entry's line
entry_front : (version : ℕ) (e : Entry) (text : List ℕ)
    → entry_text version e ++ text ≡ entry_line version e ++ LF ∷ text
entry_front version e text = append_assoc (entry_line version e) line_feed text

line_front : (version : ℕ) (e : Entry) (text rest : List ℕ)
    → (entry_text version e ++ text) ++ rest ≡ entry_line version e ++ LF ∷ (text ++ rest)
line_front version e text rest = append_assoc (entry_text version e) text rest ∙ entry_front version e (text ++ rest)

length_entry : (version : ℕ) (e : Entry) (text : List ℕ)
    → length (entry_text version e ++ text) ≡ suc (length (entry_line version e)) + length text
length_entry version e text =
    omega (arith, ap length (entry_front version e text), length-append (entry_line version e) (LF ∷ text))

-- the lines of the entries found, followed by this rest, are a prefix of the lines of these entries
record Cuts (version : ℕ) (entries got : List Entry) (n : ℕ) (rest : List ℕ) : Type 0 where
  more : List Entry
  front : entries ≡ got ++ more
  fits : length (entries_text version got) ≤ n
  behind : rest ≡ take (n - length (entries_text version got)) (entries_text (version + length got) more)

nothing_taken : (n : ℕ) (line rest : List ℕ) → line ++ LF ∷ rest ≡ take n [] → ⊥
nothing_taken zero [] rest e = cc
nothing_taken zero (a ∷ line) rest e = cc
nothing_taken (suc n) [] rest e = cc
nothing_taken (suc n) (a ∷ line) rest e = cc

one_entry : (version : ℕ) (e f : Entry) → version < 2 ^ 64 → IsEntry e → IsEntry f
    → entry_line version e ≡ entry_line version f → e ≡ f
one_entry version e f fits is is' same =
    let found : ◌≡◌ {A = Option Entry} (Some e) (Some f) =
    sym (entry_again version e fits is) ∙ ap entry_in same ∙ entry_again version f fits is' in
    cc

cuts : (format : Format) (version : ℕ) (entries got : List Entry) (n : ℕ) (rest : List ℕ)
    → version + length entries < 2 ^ 64 → version + length got < 2 ^ 64
    → AllByRecursion (IsEntryOf format) entries → AllByRecursion (IsEntryOf format) got
    → entries_text version got ++ rest ≡ take n (entries_text version entries) → Cuts version entries got n rest
cuts format version entries [] n rest few fits all these e =
    let k : n ≡ n - 0 = omega arith in
    let v : version ≡ version + 0 = omega arith in
    record {
      more = entries;
      front = refl;
      fits = omega arith;
      behind =
          e ∙ ap (λ m. take m (entries_text version entries)) k ∙ ap (λ w. take (n - 0) (entries_text w entries)) v;
    }
cuts format version [] (g ∷ got) n rest few fits all these e =
    absurd (nothing_taken n (entry_line version g) (entries_text (version + 1) got ++ rest)
    (sym (line_front version g (entries_text (version + 1) got) rest) ∙ e))
cuts format version (f ∷ entries) (g ∷ got) n rest few fits all these e =
    let lf : ℕ = length (entry_line version f) in
    let one =
    same_line (entry_line version g) (entry_line version f) (entries_text (version + 1) got ++ rest)
    (entries_text (version + 1) entries) n
    (plain_entry version g (omega arith) these.0.0) (plain_entry version f (omega arith) all.0.0)
    (sym (line_front version g (entries_text (version + 1) got) rest) ∙ e
    ∙ ap (take n) (entry_front version f (entries_text (version + 1) entries))) in
    let same : g ≡ f = one_entry version g f (omega arith) these.0.0 all.0.0 one.same in
    let next =
    cuts format (version + 1) entries got (n - suc lf) rest (omega arith) (omega arith) all.1 these.1 one.behind in
    let long : length (entries_text version (g ∷ got)) ≡ suc lf + length (entries_text (version + 1) got) =
    omega (arith, length_entry version g (entries_text (version + 1) got), ap length one.same) in
    let cut : n - suc lf - length (entries_text (version + 1) got) ≡ n - length (entries_text version (g ∷ got)) =
    omega arith in
    let at : version + 1 + length got ≡ version + length (g ∷ got) = omega arith in
    record {
      more = next.more;
      front = ap (λ es. f ∷ es) next.front ∙ ap (λ h. h ∷ (got ++ next.more)) (sym same);
      fits = omega (arith, next.fits, one.fits);
      behind =
          next.behind
          ∙ ap (λ m. take m (entries_text (version + 1 + length got) next.more)) cut
          ∙ ap (λ w. take (n - length (entries_text version (g ∷ got))) (entries_text w next.more)) at;
    }

-- ---- the first line

abbrev head_text : Format → List ℕ
head_text format = head_line format ++ line_feed

length_head : (format : Format) → length (head_text format) ≡ 14
length_head One = refl
length_head Two = refl

-- two first lines of equal length are equal
same_front : (h k x t : List ℕ) (n : ℕ) → length h ≡ length k → h ++ x ≡ take n (k ++ t) → h ≡ k
same_front [] [] x t n l e = refl
same_front [] (b ∷ k) x t n l e = absurd (omega arith)
same_front (a ∷ h) [] x t n l e = absurd (omega arith)
same_front (a ∷ h) (b ∷ k) x t zero l e = absurd (cc)
same_front (a ∷ h) (b ∷ k) x t (suc n) l e =
    let head : a ≡ b = cc in
    let tail : h ++ x ≡ take n (k ++ t) = cc in
    ap (λ c. c ∷ h) head ∙ ap (λ l. b ∷ l) (same_front h k x t n (omega arith) tail)

one_format : (f g : Format) → head_text f ≡ head_text g → f ≡ g
one_format One One same = refl
one_format Two Two same = refl
one_format One Two same =
    let byte : ◌≡◌ {A = ℕ} 49 50 = ap (λ (l : List ℕ). get_or l 12 0) same in absurd (omega (arith, byte))
one_format Two One same =
    let byte : ◌≡◌ {A = ℕ} 50 49 = ap (λ (l : List ℕ). get_or l 12 0) same in absurd (omega (arith, byte))

record Behind (h x t : List ℕ) (n : ℕ) : Type 0 where
  fits : length h ≤ n
  behind : x ≡ take (n - length h) t

behind_front : (h x t : List ℕ) (n : ℕ) → h ++ x ≡ take n (h ++ t) → Behind h x t n
behind_front [] x t n e =
    let k : n ≡ n - 0 = omega arith in record { fits = omega arith; behind = e ∙ ap (λ m. take m t) k }
behind_front (b ∷ h) x t zero e = absurd (cc)
behind_front (b ∷ h) x t (suc n) e =
    let tail : h ++ x ≡ take n (h ++ t) = cc in
    let more = behind_front h x t n tail in
    let k : n - length h ≡ suc n - length (b ∷ h) = omega arith in
    record { fits = omega (arith, more.fits); behind = more.behind ∙ ap (λ m. take m t) k }

-- a prefix ends in the first line, or after it
front_cases : (h t : List ℕ) (n : ℕ)
    → ((more : List ℕ) × (h ≡ take n (h ++ t) ++ more)) ⊎ ((rest : List ℕ) × (take n (h ++ t) ≡ h ++ rest))
front_cases [] t n = inr (take n t, refl)
front_cases (b ∷ h) t zero = inl (b ∷ h, refl)
front_cases (b ∷ h) t (suc n) = go (front_cases h t n)
  where
    go : ((more : List ℕ) × (h ≡ take n (h ++ t) ++ more)) ⊎ ((rest : List ℕ) × (take n (h ++ t) ≡ h ++ rest))
        → ((more : List ℕ) × (b ∷ h ≡ (b ∷ take n (h ++ t)) ++ more))
        ⊎ ((rest : List ℕ) × (b ∷ take n (h ++ t) ≡ (b ∷ h) ++ rest))
    go (inl p) = inl (p.0, ap (λ l. b ∷ l) p.1)
    go (inr p) = inr (p.0, ap (λ l. b ∷ l) p.1)

some_there : (xs : List ℕ) → xs ≢ [] → 0 < length xs
some_there [] h = absurd (h refl)
some_there (x ∷ xs) h = omega arith

-- a prefix shorter than a first line; both first lines have equal length
short_front : (h k t bytes more : List ℕ) (n : ℕ) → length h ≡ length k → more ≢ [] → bytes ++ more ≡ h
    → bytes ≡ take n (k ++ t) → n < length k
short_front h k t bytes more n same some whole e =
    omega (
      arith,
      same,
      some_there more some,
      ap length whole,
      length-append bytes more,
      ap length e,
      length-take n (k ++ t),
      length-append k t,
    )

length_journal : (format : Format) (es : List Entry)
    → length (journal_text format es) ≡ length (head_text format) + length (entries_text 1 es)
length_journal format es = length-append (head_text format) (entries_text 1 es)

-- the bytes are a prefix of a journal of some entries, and begin with the text of these
record BegunFront (f g : Format) (entries got : List Entry) (n : ℕ) (rest : List ℕ) : Type 0 where
  same : f ≡ g
  head : length (head_text f) ≤ n
  cut : Cuts 1 entries got (n - length (head_text f)) rest

begun_front : (f g : Format) (entries got : List Entry) (bytes rest : List ℕ) (n : ℕ) → AreEntriesOf f entries
    → Begins g got bytes rest → bytes ≡ take n (journal_text f entries) → BegunFront f g entries got n rest
begun_front f g entries got bytes rest n allowed begins e = go (one_format g f heads)
  where
    whole : head_text g ++ (entries_text 1 got ++ rest) ≡ take n (head_text f ++ entries_text 1 entries)
    whole = sym (append_assoc (head_text g) (entries_text 1 got) rest) ∙ sym begins.spelled ∙ e

    heads : head_text g ≡ head_text f
    heads =
        same_front (head_text g) (head_text f) (entries_text 1 got ++ rest) (entries_text 1 entries) n
        (length_head g ∙ sym (length_head f)) whole

    go : g ≡ f → BegunFront f g entries got n rest
    go is =
        let few : length entries ≤ MOST_ENTRIES = allowed.few in
        let some : length got ≤ MOST_ENTRIES = begins.allowed.few in
        let these : AllByRecursion (IsEntryOf f) got =
        subst (λ x. AllByRecursion (IsEntryOf x) got) is begins.allowed.each in
        let b =
        behind_front (head_text f) (entries_text 1 got ++ rest) (entries_text 1 entries) n
        (ap (λ h. h ++ (entries_text 1 got ++ rest)) (sym heads) ∙ whole) in
        record {
          same = sym is;
          head = b.fits;
          cut =
              cuts f 1 entries got (n - length (head_text f)) rest (omega arith) (omega arith) allowed.each these
              b.behind;
        }

one_more : (format : Format) (got : List Entry) (e : Entry)
    → length (journal_text format (got ++ e ∷ []))
    ≡ length (journal_text format got) + suc (length (entry_line (1 + length got) e))
one_more format got e = omega (arith, grown got 1, length_journal format got, length_journal format (got ++ e ∷ []))
  where
    grown : (es : List Entry) (version : ℕ)
        → length (entries_text version (es ++ e ∷ []))
        ≡ length (entries_text version es) + suc (length (entry_line (version + length es) e))
    grown [] version =
        let now : version ≡ version + 0 = omega arith in
        omega (arith, length_entry version e [], ap (λ v. length (entry_line v e)) now)
    grown (f ∷ es) version =
        let now : version + 1 + length es ≡ version + length (f ∷ es) = omega arith in
        omega (
          arith,
          grown es (version + 1),
          ap (λ v. length (entry_line v e)) now,
          length_entry version f (entries_text (version + 1) (es ++ e ∷ [])),
          length_entry version f (entries_text (version + 1) es),
        )

-- ---- the recovered entries

-- bytes that begin no first line can't be continued to one
more_to_come : (head : Format) (bytes more : List ℕ) → IsNoHistory bytes → bytes ++ more ≡ head_text head → more ≢ []
more_to_come head bytes more unended whole none =
    unended head []
    (sym (append-nil bytes) ∙ ap (λ m. bytes ++ m) (sym none) ∙ whole ∙ sym (append-nil (head_text head)))

whole_head : (format found : Format) (entries got : List Entry) (n keep : ℕ) (bytes : List ℕ)
    → bytes ≡ take n (journal_text format entries) → EndsInHead bytes found got keep
    → AreWhole format entries n found got keep
whole_head format found entries got n keep bytes cut (unended, (head, (more, whole)), format_is, none, keep_is) =
    let few : n < length (head_text format) =
    short_front (head_text head) (head_text format) (entries_text 1 entries) bytes more n
    (length_head head ∙ sym (length_head format)) (more_to_come head bytes more unended whole) whole cut in
    record {
      left_out = entries;
      front = ap (λ g. g ++ entries) (sym none);
      next = λ f rest is. omega (arith, few, one_more format got f, length_journal format got);
      fits = omega (arith, keep_is);
      kept = inl (few, none, keep_is);
    }

whole_line : (format found : Format) (entries got : List Entry) (n keep : ℕ) (bytes : List ℕ)
    → AreEntriesOf format entries → AreEntriesOf found got → bytes ≡ take n (journal_text format entries)
    → EndsInLine bytes found got keep → AreWhole format entries n found got keep
whole_line format found entries got n keep bytes allowed these cut (torn, spelled, unended, keep_is) =
    let p =
    begun_front format found entries got bytes torn n allowed (record { allowed = these; spelled = spelled }) cut in
    let c = p.cut in
    let head : length (head_text format) ≤ n = p.head in
    let fits : length (entries_text 1 got) ≤ n - length (head_text format) = c.fits in
    let long : keep ≡ length (journal_text format got) =
    keep_is ∙ ap (λ x. length (journal_text x got)) (sym p.same) in
    let at : ℕ = n - length (head_text format) - length (entries_text 1 got) in
    record {
      left_out = c.more;
      front = c.front;
      next = λ f rest is.
          let is_torn : torn ≡ take at (entry_line (1 + length got) f ++ LF ∷ entries_text (1 + length got + 1) rest) =
          c.behind ∙ ap (λ m. take at (entries_text (1 + length got) m)) is
          ∙ ap (take at) (entry_front (1 + length got) f (entries_text (1 + length got + 1) rest)) in
          omega (
            arith,
            torn_line torn (entry_line (1 + length got) f) (entries_text (1 + length got + 1) rest) at
                (plain_of torn unended) is_torn,
            one_more format got f,
            length_journal format got,
          );
      fits = omega (arith, long, length_journal format got);
      kept = inr (sym p.same, long);
    }

pub recovers_whole : (format found : Format) (entries got : List Entry) (n keep : ℕ) → AreEntriesOf format entries
    → Recovers (take n (journal_text format entries)) found got keep → AreWhole format entries n found got keep
recovers_whole format found entries got n keep allowed r = go r.ends
  where
    bytes : List ℕ
    bytes = take n (journal_text format entries)

    go : EndsInHead bytes found got keep ⊎ EndsInLine bytes found got keep → AreWhole format entries n found got keep
    go (inl new) = whole_head format found entries got n keep bytes refl new
    go (inr s) = whole_line format found entries got n keep bytes allowed r.allowed refl s

-- ---- bytes with a fault

-- the bytes are not a prefix of any journal
abbrev IsNoFront : List ℕ → Type 0
IsNoFront bytes =
    (format : Format) (entries : List Entry) (n : ℕ) → AreEntriesOf format entries
    → bytes ≢ take n (journal_text format entries)

not_history : (bytes : List ℕ) → IsNoHistory bytes → (BeginsHead bytes → ⊥) → IsNoFront bytes
not_history bytes other none = λ format entries n allowed e.
    go format (front_cases (head_text format) (entries_text 1 entries) n) e
  where
    go : (format : Format) {T : List ℕ}
        → ((more : List ℕ) × (head_text format ≡ T ++ more)) ⊎ ((rest : List ℕ) × (T ≡ head_text format ++ rest))
        → bytes ≡ T → ⊥
    go format (inl p) e = none (format, (p.0, ap (λ l. l ++ p.0) e ∙ sym p.1))
    go format (inr p) e = other format p.0 (e ∙ p.1)

last_one : (format : Format) (got more : List Entry) (f : Entry)
    → AllByRecursion (IsEntryOf format) (got ++ f ∷ more) → IsEntryOf format f
last_one format [] more f h = h.0
last_one format (g ∷ got) more f h = last_one format got more f h.1

-- the rest by its first line
cut_begins : (g : Format) (got : List Entry) (bytes line more : List ℕ)
    → Begins g got bytes (line ++ line_feed ++ more) → Begins g got bytes (line ++ LF ∷ more)
cut_begins g got bytes line more = subst (Begins g got bytes) (append_assoc line line_feed more)

-- a line that is not the next entry's
no_line : (bytes : List ℕ) (n : ℕ) → HasOtherLine bytes n → IsNoFront bytes
no_line bytes n h = λ format entries n allowed e.
    let p =
    begun_front format h.format entries h.entries bytes (h.line ++ LF ∷ h.rest) n allowed
    (cut_begins h.format h.entries bytes h.line h.rest h.begins) e in
    go format p.same entries (n - length (head_text format) - length (entries_text 1 h.entries)) allowed p.cut.more
    p.cut.front p.cut.behind
  where
    go : (format : Format) → format ≡ h.format → (entries : List Entry) (at : ℕ) → AreEntriesOf format entries
        → (es : List Entry) → entries ≡ h.entries ++ es
        → h.line ++ LF ∷ h.rest ≡ take at (entries_text (1 + length h.entries) es) → ⊥
    go format same entries at allowed [] front e = nothing_taken at h.line h.rest e
    go format same entries at allowed (f ∷ es) front e =
        let is : IsEntryOf format f =
        last_one format h.entries es f (subst (AllByRecursion (IsEntryOf format)) front allowed.each) in
        let some : length h.entries ≤ MOST_ENTRIES = h.begins.allowed.few in
        let one =
        same_line h.line (entry_line (1 + length h.entries) f) h.rest (entries_text (1 + length h.entries + 1) es) at
        (plain_of h.line h.whole) (plain_entry (1 + length h.entries) f (omega arith) is.0)
        (e ∙ ap (take at) (entry_front (1 + length h.entries) f (entries_text (1 + length h.entries + 1) es))) in
        let v : 1 + length h.entries ≡ length h.entries + 1 = omega arith in
        h.other f (subst (λ x. IsEntryOf x f) same is) (one.same ∙ ap (λ w. entry_line w f) v)

-- one more entry follows the last one that a text may have
past_end : (g : Format) (got : List Entry) (bytes line more : List ℕ)
    → Begins g got bytes (line ++ line_feed ++ more) → length got ≡ MOST_ENTRIES → IsNoFront bytes
past_end g got bytes line more begins full = λ format entries n allowed e.
    let p =
    begun_front format g entries got bytes (line ++ LF ∷ more) n allowed (cut_begins g got bytes line more begins) e in
    go entries (n - length (head_text format) - length (entries_text 1 got)) allowed.few p.cut.more p.cut.front
    p.cut.behind
  where
    go : (entries : List Entry) (at : ℕ) → length entries ≤ MOST_ENTRIES → (es : List Entry) → entries ≡ got ++ es
        → line ++ LF ∷ more ≡ take at (entries_text (1 + length got) es) → ⊥
    go entries at few [] front e = nothing_taken at line more e
    go entries at few (f ∷ es) front e = absurd (omega (arith, full, ap length front, length-append got (f ∷ es)))

pub faults_are_no_fronts : FaultsAreNoFronts
faults_are_no_fronts bytes fault.NotHistory h = not_history bytes h.0 h.1
faults_are_no_fronts bytes (fault.BadLine n) h = no_line bytes n h
faults_are_no_fronts bytes fault.TooLong h =
    past_end h.format h.entries bytes (entry_line (MOST_ENTRIES + 1) h.next) h.rest h.begins h.full
faults_are_no_fronts bytes fault.OutOfMemory h = absurd h
faults_are_no_fronts bytes (fault.BadChange n) h = absurd h
faults_are_no_fronts bytes fault.NoEnd h = absurd h

-- ---- nothing is lost

-- of two prefixes of one list, the first is a prefix of the second, or continues it
record GoesOn (synced got more : List Entry) : Type 0 where
  e : Entry
  rest : List Entry
  x : List Entry
  more_is : more ≡ e ∷ rest
  synced_is : synced ≡ (got ++ e ∷ []) ++ x

compare : (synced after got more : List Entry) → got ++ more ≡ synced ++ after
    → IsPrefix synced got ⊎ GoesOn synced got more
compare [] after got more e = inl (got, refl)
compare (s ∷ synced) after [] more e =
    inr (record { e = s; rest = synced ++ after; x = synced; more_is = e; synced_is = refl })
compare (s ∷ synced) after (g ∷ got) more e = go (compare synced after got more (cc))
  where
    head : s ≡ g
    head = cc

    go : IsPrefix synced got ⊎ GoesOn synced got more
        → IsPrefix (s ∷ synced) (g ∷ got) ⊎ GoesOn (s ∷ synced) (g ∷ got) more
    go (inl p) = inl (p.0, ap (λ l. s ∷ l) p.1 ∙ ap (λ h. h ∷ got) head)
    go (inr p) = inr (record {
      e = p.e;
      rest = p.rest;
      x = p.x;
      more_is = p.more_is;
      synced_is = ap (λ l. s ∷ l) p.synced_is ∙ ap (λ h. h ∷ ((got ++ p.e ∷ []) ++ p.x)) head;
    })

longer : (xs ys : List Entry) (version : ℕ)
    → length (entries_text version xs) ≤ length (entries_text version (xs ++ ys))
longer [] ys version = omega arith
longer (x ∷ xs) ys version =
    omega (
      arith,
      longer xs ys (version + 1),
      length_entry version x (entries_text (version + 1) xs),
      length_entry version x (entries_text (version + 1) (xs ++ ys)),
    )

pub nothing_is_lost : NothingIsLost
nothing_is_lost format found synced after got n keep allowed long recovered =
    let w = recovers_whole format found (synced ++ after) got n keep allowed recovered in
    go w (compare synced after got w.left_out (sym w.front))
  where
    go : (w : AreWhole format (synced ++ after) n found got keep)
        → IsPrefix synced got ⊎ GoesOn synced got w.left_out
        → IsPrefix synced got × IsPrefix got (synced ++ after)
    go w (inl p) = (p, (w.left_out, sym w.front))
    go w (inr p) =
        let few = w.next p.e p.rest p.more_is in
        absurd (omega (
          arith,
          few,
          long,
          length_journal format synced,
          length_journal format (got ++ p.e ∷ []),
          longer (got ++ p.e ∷ []) p.x 1,
          ap (λ es. length (entries_text 1 es)) p.synced_is,
        ))

-- ---- the answers of the reader

pub found_in_head : (bytes : List ℕ) (got : List Entry) → IsNoHistory bytes → BeginsHead bytes → got ≡ []
    → Recovers bytes Two got 0
found_in_head bytes got unended begins none = record {
  allowed = subst (AreEntriesOf Two) (sym none) (record { each = tt; few = omega arith });
  within = omega arith;
  ends = inl (unended, begins, refl, none, refl);
}

pub found_in_line : (found : Format) (bytes torn : List ℕ) (got : List Entry) (keep : ℕ)
    → Begins found got bytes torn → HasNoLineFeed torn → keep ≡ length bytes - length torn
    → Recovers bytes found got keep
found_in_line found bytes torn got keep b unended is = record {
  allowed = b.allowed;
  within = omega (arith, is);
  ends = inr (
    torn,
    b.spelled,
    unended,
    omega (arith, is, ap length b.spelled, length-append (journal_text found got) torn),
  );
}

abbrev pub other_line : (g : Format) (got : List Entry) (bytes rest line more : List ℕ) (count n : ℕ)
    → Begins g got bytes rest → rest ≡ line ++ line_feed ++ more → HasNoLineFeed line → count ≡ length got
    → IsNoEntryLine g (count + 1) line → n ≡ count + 2 → HasOtherLine bytes n
other_line g got bytes rest line more count n begins cut plain counted other number = record {
  format = g;
  entries = got;
  line = line;
  rest = more;
  begins = subst (Begins g got bytes) cut begins;
  whole = plain;
  other = subst (λ c. IsNoEntryLine g (c + 1) line) counted other;
  number = number ∙ ap (λ c. c + 2) counted;
}

-- a line that is neither the next entry's nor the last one
pub bad_line : (g : Format) (got : List Entry) (bytes rest line more : List ℕ) (count n : ℕ)
    → Begins g got bytes rest → rest ≡ line ++ line_feed ++ more → HasNoLineFeed line → count ≡ length got
    → IsBad g count line → n ≡ count + 2 → HasBadLine bytes n
bad_line g got bytes rest line more count n begins cut plain counted is number = record {
  stands = other_line g got bytes rest line more count n begins cut plain counted is.0 number;
  no_end = subst (λ c. line ≢ end_line c) counted is.1;
}

-- the last line of a history is not an entry's line
pub end_is_other : (g : Format) (count : ℕ) (line : List ℕ) → count ≤ MOST_ENTRIES → line ≡ end_line count
    → IsNoEntryLine g (count + 1) line
end_is_other g count line few is = λ e entry same. end_apart count (count + 1) e (omega arith) (sym is ∙ same)

-- the two results of `starts_with` for a text and its possible prefix
pub prefix_cases : (r : Bool) (bytes head : List ℕ)
    → (r ≡ true → head ≡ bytes ++ drop (length bytes) head) × ((rest : List ℕ) → head ≡ bytes ++ rest → r ≡ true)
    → MatchBool r (IsPrefix bytes head) (IsPrefix bytes head → ⊥)
prefix_cases true bytes head h = (drop (length bytes) head, sym (h.0 refl))
prefix_cases false bytes head h = λ p. true≢false (sym (h.1 p.0 (sym p.1)))

-- bytes that do not begin the first line of format 1: whether they begin that of format 2
pub head_cases : (r : Bool) (bytes one two : List ℕ) → one ≡ head_text One → two ≡ head_text Two
    → (IsPrefix bytes one → ⊥) → MatchBool r (IsPrefix bytes two) (IsPrefix bytes two → ⊥)
    → MatchBool r (BeginsHead bytes) (BeginsHead bytes → ⊥)
head_cases true bytes one two is_one is_two other begins = (Two, subst (IsPrefix bytes) is_two begins)
head_cases false bytes one two is_one is_two other none = λ h. go h.0 h.1
  where
    go : (format : Format) → IsPrefix bytes (head_text format) → ⊥
    go One p = other (subst (IsPrefix bytes) (sym is_one) p)
    go Two p = none (subst (IsPrefix bytes) (sym is_two) p)

-- ---- any bytes after the journal

-- two lines with line ends
two_lines : (x y r s : List ℕ) → IsPlain x → IsPlain y → x ++ LF ∷ r ≡ y ++ LF ∷ s → (x ≡ y) × (r ≡ s)
two_lines [] [] r s hx hy e = (refl, cc)
two_lines [] (b ∷ y) r s hx hy e = let t : b ≡ LF = cc in absurd (hy.0 t)
two_lines (a ∷ x) [] r s hx hy e = let t : a ≡ LF = cc in absurd (hx.0 t)
two_lines (a ∷ x) (b ∷ y) r s hx hy e =
    let head : a ≡ b = cc in
    let tail : x ++ LF ∷ r ≡ y ++ LF ∷ s = cc in
    let more = two_lines x y r s hx.1 hy.1 tail in
    (ap (λ c. c ∷ x) head ∙ ap (λ t. b ∷ t) more.0, more.1)

-- a line without an end does not contain one
no_end_in : (x y : List ℕ) → IsPlain (x ++ LF ∷ y) → ⊥
no_end_in [] y h = h.0 refl
no_end_in (a ∷ x) y h = no_end_in x y h.1

-- two first lines of equal length
two_heads : (h k x y : List ℕ) → length h ≡ length k → h ++ x ≡ k ++ y → (h ≡ k) × (x ≡ y)
two_heads [] [] x y l e = (refl, e)
two_heads [] (b ∷ k) x y l e = absurd (omega (arith, l))
two_heads (a ∷ h) [] x y l e = absurd (omega (arith, l))
two_heads (a ∷ h) (b ∷ k) x y l e =
    let head : a ≡ b = cc in
    let tail : h ++ x ≡ k ++ y = cc in
    let more = two_heads h k x y (omega (arith, l)) tail in
    (ap (λ c. c ∷ h) head ∙ ap (λ t. b ∷ t) more.0, more.1)

-- lines followed by any bytes are the lines of these entries and an incomplete line
lines_begin : (format : Format) (version : ℕ) (es got : List Entry) (behind torn : List ℕ)
    → version + length es < 2 ^ 64 → version + length got < 2 ^ 64
    → AllByRecursion (IsEntryOf format) es → AllByRecursion (IsEntryOf format) got → IsPlain torn
    → entries_text version es ++ behind ≡ entries_text version got ++ torn → IsPrefix es got
lines_begin format version [] got behind torn few fits all these plain e = (got, refl)
lines_begin format version (f ∷ es) [] behind torn few fits all these plain e =
    absurd (no_end_in (entry_line version f) (entries_text (version + 1) es ++ behind)
    (subst IsPlain (sym e ∙ line_front version f (entries_text (version + 1) es) behind) plain))
lines_begin format version (f ∷ es) (g ∷ got) behind torn few fits all these plain e =
    let two =
    two_lines (entry_line version f) (entry_line version g) (entries_text (version + 1) es ++ behind)
    (entries_text (version + 1) got ++ torn)
    (plain_entry version f (omega (arith, few)) all.0.0) (plain_entry version g (omega (arith, fits)) these.0.0)
    (sym (line_front version f (entries_text (version + 1) es) behind) ∙ e
    ∙ line_front version g (entries_text (version + 1) got) torn) in
    let same : f ≡ g = one_entry version f g (omega (arith, few)) all.0.0 these.0.0 two.0 in
    let rest = lines_begin format (version + 1) es got behind torn (omega (arith, few)) (omega (arith, fits)) all.1
    these.1 plain two.1 in
    (rest.0, ap (λ (x : Entry). x ∷ (es ++ rest.0)) same ∙ ap (λ (xs : List Entry). g ∷ xs) rest.1)

-- if any bytes follow the text of a journal, its entries are found
pub found_whatever_follows : (format found : Format) (synced : List Entry) (behind : List ℕ) (got : List Entry)
    (keep : ℕ) → AreEntriesOf format synced → Recovers (journal_text format synced ++ behind) found got keep
    → IsPrefix synced got
found_whatever_follows format found synced behind got keep allowed r = go r.ends
  where
    bytes : List ℕ
    bytes = journal_text format synced ++ behind

    begins : bytes ≡ head_text format ++ (entries_text 1 synced ++ behind)
    begins = append_assoc (head_text format) (entries_text 1 synced) behind

    lines : (g : Format) → g ≡ found → (torn : List ℕ) → IsPlain torn
        → (head_text format ≡ head_text g) × (entries_text 1 synced ++ behind ≡ entries_text 1 got ++ torn)
        → IsPrefix synced got
    lines g is torn plain two =
        let same : format ≡ g = one_format format g two.0 in
        let these : AllByRecursion (IsEntryOf format) got =
        subst (λ x. AllByRecursion (IsEntryOf x) got) (sym (same ∙ is)) r.allowed.each in
        lines_begin format 1 synced got behind torn (omega (arith, allowed.few)) (omega (arith, r.allowed.few))
        allowed.each these plain two.1

    go : EndsInHead bytes found got keep ⊎ EndsInLine bytes found got keep → IsPrefix synced got
    go (inl (unended, head, format_is, none, keep_is)) =
        absurd (unended format (entries_text 1 synced ++ behind) begins)
    go (inr (torn, spelled, unended, keep_is)) =
        lines found refl torn (plain_of torn unended)
        (two_heads (head_text format) (head_text found) (entries_text 1 synced ++ behind) (entries_text 1 got ++ torn)
        (length_head format ∙ sym (length_head found))
        (sym begins ∙ spelled ∙ append_assoc (head_text found) (entries_text 1 got) torn))

-- lines followed by any bytes are the lines of these entries and a line that is not the next entry's
other_behind : (format : Format) (version : ℕ) (es got : List Entry) (behind line rest : List ℕ)
    → version + length es < 2 ^ 64 → version + length got < 2 ^ 64
    → AllByRecursion (IsEntryOf format) es → AllByRecursion (IsEntryOf format) got → IsPlain line
    → IsNoEntryLine format (version + length got) line
    → entries_text version es ++ behind ≡ entries_text version got ++ (line ++ LF ∷ rest) → IsPrefix es got
other_behind format version [] got behind line rest few fits all these plain other e = (got, refl)
other_behind format version (f ∷ es) [] behind line rest few fits all these plain other e =
    let two =
    two_lines (entry_line version f) line (entries_text (version + 1) es ++ behind) rest
    (plain_entry version f (omega (arith, few)) all.0.0) plain
    (sym (line_front version f (entries_text (version + 1) es) behind) ∙ e) in
    let now : version ≡ version + 0 = omega arith in
    absurd (other f all.0 (sym two.0 ∙ ap (λ v. entry_line v f) now))
other_behind format version (f ∷ es) (g ∷ got) behind line rest few fits all these plain other e =
    let two =
    two_lines (entry_line version f) (entry_line version g) (entries_text (version + 1) es ++ behind)
    (entries_text (version + 1) got ++ (line ++ LF ∷ rest))
    (plain_entry version f (omega (arith, few)) all.0.0) (plain_entry version g (omega (arith, fits)) these.0.0)
    (sym (line_front version f (entries_text (version + 1) es) behind) ∙ e
    ∙ line_front version g (entries_text (version + 1) got) (line ++ LF ∷ rest)) in
    let same : f ≡ g = one_entry version f g (omega (arith, few)) all.0.0 these.0.0 two.0 in
    let at : version + length (g ∷ got) ≡ version + 1 + length got = omega arith in
    let more =
    other_behind format (version + 1) es got behind line rest (omega (arith, few)) (omega (arith, fits)) all.1 these.1
    plain (subst (λ v. IsNoEntryLine format v line) at other) two.1 in
    (more.0, ap (λ (x : Entry). x ∷ (es ++ more.0)) same ∙ ap (λ (xs : List Entry). g ∷ xs) more.1)

-- if any bytes follow the text of a journal, a bad line comes after all its lines
pub bad_line_behind : (format : Format) (synced : List Entry) (behind : List ℕ) (n : ℕ) → AreEntriesOf format synced
    → HasOtherLine (journal_text format synced ++ behind) n → length synced + 2 ≤ n
bad_line_behind format synced behind n allowed h =
    let bytes : List ℕ = journal_text format synced ++ behind in
    let b : Begins h.format h.entries bytes (h.line ++ LF ∷ h.rest) =
    cut_begins h.format h.entries bytes h.line h.rest h.begins in
    let two =
    two_heads (head_text format) (head_text h.format) (entries_text 1 synced ++ behind)
    (entries_text 1 h.entries ++ (h.line ++ LF ∷ h.rest)) (length_head format ∙ sym (length_head h.format))
    (sym (append_assoc (head_text format) (entries_text 1 synced) behind) ∙ b.spelled
    ∙ append_assoc (head_text h.format) (entries_text 1 h.entries) (h.line ++ LF ∷ h.rest)) in
    let same : h.format ≡ format = sym (one_format format h.format two.0) in
    let these : AllByRecursion (IsEntryOf format) h.entries =
    subst (λ x. AllByRecursion (IsEntryOf x) h.entries) same b.allowed.each in
    let at : length h.entries + 1 ≡ 1 + length h.entries = omega arith in
    let other : IsNoEntryLine format (1 + length h.entries) h.line =
    subst (λ v. IsNoEntryLine format v h.line) at
    (subst (λ x. IsNoEntryLine x (length h.entries + 1) h.line) same h.other) in
    let on : IsPrefix synced h.entries =
    other_behind format 1 synced h.entries behind h.line h.rest (omega (arith, allowed.few))
    (omega (arith, b.allowed.few)) allowed.each these (plain_of h.line h.whole) other two.1 in
    omega (arith, h.number, ap length on.1, length-append synced on.0)
