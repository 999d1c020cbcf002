-- Bytes have one meaning: the entries of a text, or one fault.
use Rattle.std.proofs.Common.{◌≡◌, ◌≢◌, ℕ, ◌+◌, ◌<◌, ◌≤◌, ◌⊎◌, inl, inr, Bool, true, List, [], ◌∷◌, ◌++◌, length, drop}
use Rattle.std.proofs.Common.{get_or, Option, Some, None, Result, Ok, Err, refl, sym, ◌∙◌, ap, subst, arith, eqb, ltb}
use Rattle.std.proofs.Common.{append_assoc, codes}
use Rattle.std.specs.Prelude.{not, ◌^◌, ◌&&◌}
use Rattle.std.specs.List.{AllByRecursion, list_all}
use Rattle.std.specs.Fmt.{decimal}
use Rattle.std.proofs.lemmas.Bool.{true≢false}
use Rattle.std.proofs.lemmas.List.Elements.{recursion_from_All}
use Rattle.mud_key.specs.declared.codes.TheConstants.{SPACE, TILDE}
use Rattle.mud_world.specs.declared.change.Deed.{Deed}
use Rattle.mud_world.specs.declared.change.Deed.TheVariants.{Dig, Make, Lock, Unlock, Move, Walk, Cost, Player, Rename}
use Rattle.mud_world.specs.declared.change.Deed.TheVariants.{Recycle, Say, Emote}
use Rattle.mud_key.specs.declared.codes.TheConstants.{LF}
use Rattle.mud_chron.specs.declared.fault.ChronFault.{ChronFault}
use Rattle.mud_chron.specs.declared.fault.ChronFault.TheVariants.{OutOfMemory, NotHistory, BadLine, BadChange, TooLong}
use Rattle.mud_chron.specs.declared.fault.ChronFault.TheVariants.{NoEnd}
use Rattle.mud_chron.specs.declared.format.Format.{Format}
use Rattle.mud_chron.specs.declared.format.Format.TheVariants.{One, Two}
use Rattle.mud_world.specs.declared.limits.TheConstants.{MOST_ENTRIES}
use Rattle.mud_chron.specs.Entry.{Entry, IsEntry}
use Rattle.mud_chron.specs.Text.{line_feed, head_line, entry_line, entries_text, end_line}
use Rattle.mud_chron.specs.Text.{history_text}
use Rattle.mud_chron.specs.inner.Texts.{change_text, entry_text, begun_text, IsBad}
use Rattle.mud_chron.specs.History.{HasLine, IsEntryOf, AreEntriesOf, SpellsHistory}
use Rattle.mud_chron.specs.Faults.{IsNoHistory, Begins, HasOtherLine, HasFault}
use Rattle.mud_chron.specs.Laws.{SpellsOne, HasOneFault, FaultsAreNoTexts, IsWrittenAgain}
use Rattle.mud_chron.specs.inner.Fields.{is_digit}
use Rattle.mud_chron.specs.inner.Reader.{cut, entry_in}
use Rattle.mud_chron.proofs.Cutting.{lacks, cut_again, cut_lacks, lacks_from, implied}
use Rattle.mud_chron.proofs.Digits.{digits, decimal_lacks}
use Rattle.mud_chron.proofs.Spelled.{plain}
use Rattle.mud_chron.proofs.Again.{entry_again, line_shape, plain_line}

-- ---- lines

-- a text is split in at most one way
pub fronts : (cut_of : Option (List ℕ × List ℕ)) (a b x y : List ℕ) → cut_of ≡ Some (a, x) → cut_of ≡ Some (b, y)
    → (a ≡ b) × (x ≡ y)
fronts cut_of a b x y h k =
    let both : ◌≡◌ {A = Option (List ℕ × List ℕ)} (Some (a, x)) (Some (b, y)) = sym h ∙ k in
    let pair : ◌≡◌ {A = List ℕ × List ℕ} (a, x) (b, y) = cc in
    (ap (λ (p : List ℕ × List ℕ). p.0) pair, ap (λ (p : List ℕ × List ℕ). p.1) pair)

pub line_cut : (line rest : List ℕ) → lacks LF line ≡ true → cut LF (line ++ line_feed ++ rest) ≡ Some (line, rest)
line_cut line rest h = ap (cut LF) (append_assoc line line_feed rest) ∙ cut_again LF line rest h

plain_lacks : (b : ℕ) → plain b ≡ true → not (eqb b LF) ≡ true
plain_lacks b h = go (ltb b SPACE) (ltb TILDE b) (eqb b LF) refl refl refl h
  where
    go : (x y z : Bool) → ltb b SPACE ≡ x → ltb TILDE b ≡ y → eqb b LF ≡ z → (not x && not y) ≡ true → not z ≡ true
    go x y z e f g p = grind arith

pub entry_lacks : (version : ℕ) (e : Entry) → version < 2 ^ 64 → IsEntry e → lacks LF (entry_line version e) ≡ true
entry_lacks version e fits is =
    implied plain (λ b. not (eqb b LF)) plain_lacks (entry_line version e) (plain_line version e fits is)

end_lacks : (count : ℕ) → count < 2 ^ 64 → lacks LF (end_line count) ≡ true
unfolding end_line
end_lacks count fits = decimal_lacks LF count (omega arith) fits

-- the last line is not an entry's line
pub end_apart : (count version : ℕ) (e : Entry) → version < 2 ^ 64 → end_line count ≡ entry_line version e → ⊥
unfolding end_line
end_apart count version e fits same =
    let one : cut SPACE (end_line count) ≡ Some (codes "end", decimal count) = refl in
    let text : List ℕ = decimal e.desk ++ SPACE ∷ change_text e.change in
    let two : cut SPACE (entry_line version e) ≡ Some (decimal version, text) =
    ap (cut SPACE) (line_shape version e)
    ∙ cut_again SPACE (decimal version) text (decimal_lacks SPACE version (omega arith) fits) in
    let words : codes "end" ≡ decimal version =
    (fronts (cut SPACE (end_line count)) (codes "end") (decimal version) (decimal count) text one
    (ap (cut SPACE) same ∙ two)).0 in
    true≢false (sym (digits version fits) ∙ ap (list_all is_digit) (sym words))

-- ---- the bytes after the entries

data View (format : Format) (entries : List Entry) (rest : List ℕ) : Result (List Entry) ChronFault → Type 0 where
  unended : cut LF rest ≡ None → View format entries rest (Err NoEnd)
  whole : (line : List ℕ) → cut LF rest ≡ Some (line, []) → line ≡ end_line (length entries)
      → View format entries rest (Ok entries)
  more : (line behind : List ℕ) (n : ℕ) → cut LF rest ≡ Some (line, behind) → line ≡ end_line (length entries)
      → behind ≢ [] → n ≡ length entries + 3 → View format entries rest (Err (BadLine n))
  long : (line behind : List ℕ) (e : Entry) → cut LF rest ≡ Some (line, behind) → IsEntryOf format e
      → length entries ≡ MOST_ENTRIES → line ≡ entry_line (length entries + 1) e
      → View format entries rest (Err TooLong)
  bad : (line behind : List ℕ) (n : ℕ) → cut LF rest ≡ Some (line, behind) → IsBad format (length entries) line
      → n ≡ length entries + 2 → View format entries rest (Err (BadLine n))

-- the line of one more entry follows only after 65,536 entries
abbrev Stops : Format → ℕ → List ℕ → Type 0
Stops format version rest =
    (e : Entry) (more : List ℕ) → IsEntryOf format e → rest ≡ entry_line version e ++ line_feed ++ more
    → version ≡ MOST_ENTRIES + 1

uncut : (cut_of : Option (List ℕ × List ℕ)) (p : List ℕ × List ℕ) → cut_of ≡ None → cut_of ≡ Some p → ⊥
uncut cut_of p h k = let both : ◌≡◌ {A = Option (List ℕ × List ℕ)} None (Some p) = sym h ∙ k in absurd (cc)

stops : (format : Format) (entries : List Entry) (rest : List ℕ) (a : Result (List Entry) ChronFault)
    → length entries ≤ MOST_ENTRIES → View format entries rest a → Stops format (length entries + 1) rest
stops format entries rest a few view e behind is same = go view
  where
    there : cut LF rest ≡ Some (entry_line (length entries + 1) e, behind)
    there = ap (cut LF) same
        ∙ line_cut (entry_line (length entries + 1) e) behind (entry_lacks (length entries + 1) e (omega arith) is.0)

    go : {a : Result (List Entry) ChronFault} → View format entries rest a → length entries + 1 ≡ MOST_ENTRIES + 1
    go (unended h) = absurd (uncut (cut LF rest) (entry_line (length entries + 1) e, behind) h there)
    go (whole line h end) =
        absurd (end_apart (length entries) (length entries + 1) e (omega arith)
        (sym end ∙ (fronts (cut LF rest) line (entry_line (length entries + 1) e) [] behind h there).0))
    go (more line rest' n h end some is') =
        absurd (end_apart (length entries) (length entries + 1) e (omega arith)
        (sym end ∙ (fronts (cut LF rest) line (entry_line (length entries + 1) e) rest' behind h there).0))
    go (long line rest' f h is' full l) = omega arith
    go (bad line rest' n h b is') =
        absurd (b.0 e is (fronts (cut LF rest) line (entry_line (length entries + 1) e) rest' behind h there).0)

one_view : (format : Format) (entries : List Entry) (rest : List ℕ) (a b : Result (List Entry) ChronFault)
    → length entries ≤ MOST_ENTRIES → View format entries rest a → View format entries rest b → a ≡ b
one_view format entries rest a b few v w = go v w
  where
    apart : (l m x y : List ℕ) (e : Entry) → cut LF rest ≡ Some (l, x) → cut LF rest ≡ Some (m, y)
        → l ≡ end_line (length entries) → m ≡ entry_line (length entries + 1) e → ⊥
    apart l m x y e h k end is =
        end_apart (length entries) (length entries + 1) e (omega arith)
        (sym end ∙ (fronts (cut LF rest) l m x y h k).0 ∙ is)

    ended : (l m x y : List ℕ) → cut LF rest ≡ Some (l, x) → cut LF rest ≡ Some (m, y) → l ≡ end_line (length entries)
        → IsBad format (length entries) m → ⊥
    ended l m x y h k end b = b.1 ((fronts (cut LF rest) m l y x k h).0 ∙ end)

    extra : (l m y : List ℕ) → cut LF rest ≡ Some (l, []) → cut LF rest ≡ Some (m, y) → y ≢ [] → ⊥
    extra l m y h k some = some ((fronts (cut LF rest) m l y [] k h).1)

    entered : (l m x y : List ℕ) (e : Entry) → cut LF rest ≡ Some (l, x) → cut LF rest ≡ Some (m, y)
        → IsEntryOf format e → l ≡ entry_line (length entries + 1) e → IsBad format (length entries) m → ⊥
    entered l m x y e h k is same b = b.0 e is ((fronts (cut LF rest) m l y x k h).0 ∙ same)

    numbers : (n m : ℕ) → n ≡ m → ◌≡◌ {A = Result (List Entry) ChronFault} (Err (BadLine n)) (Err (BadLine m))
    numbers n m same = ap (λ k. Err (BadLine k)) same

    go : {a b : Result (List Entry) ChronFault} → View format entries rest a → View format entries rest b → a ≡ b
    go (unended h) (unended k) = refl
    go (unended h) (whole m k end) = absurd (uncut (cut LF rest) (m, []) h k)
    go (unended h) (more m y n k end some is) = absurd (uncut (cut LF rest) (m, y) h k)
    go (unended h) (long m y e k is full l) = absurd (uncut (cut LF rest) (m, y) h k)
    go (unended h) (bad m y n k b is) = absurd (uncut (cut LF rest) (m, y) h k)
    go (whole l h end) (unended k) = absurd (uncut (cut LF rest) (l, []) k h)
    go (whole l h end) (whole m k end') = refl
    go (whole l h end) (more m y n k end' some is) = absurd (extra l m y h k some)
    go (whole l h end) (long m y e k is full same) = absurd (apart l m [] y e h k end same)
    go (whole l h end) (bad m y n k b is) = absurd (ended l m [] y h k end b)
    go (more l x n h end some is) (unended k) = absurd (uncut (cut LF rest) (l, x) k h)
    go (more l x n h end some is) (whole m k end') = absurd (extra m l x k h some)
    go (more l x n h end some is) (more m y n' k end' some' is') = numbers n n' (is ∙ sym is')
    go (more l x n h end some is) (long m y e k is' full same) = absurd (apart l m x y e h k end same)
    go (more l x n h end some is) (bad m y n' k b is') = absurd (ended l m x y h k end b)
    go (long l x e h is full same) (unended k) = absurd (uncut (cut LF rest) (l, x) k h)
    go (long l x e h is full same) (whole m k end) = absurd (apart m l [] x e k h end same)
    go (long l x e h is full same) (more m y n k end some is') = absurd (apart m l y x e k h end same)
    go (long l x e h is full same) (long m y e' k is' full' same') = refl
    go (long l x e h is full same) (bad m y n k b is') = absurd (entered l m x y e h k is same b)
    go (bad l x n h b is) (unended k) = absurd (uncut (cut LF rest) (l, x) k h)
    go (bad l x n h b is) (whole m k end) = absurd (ended m l [] x k h end b)
    go (bad l x n h b is) (more m y n' k end some is') = absurd (ended m l y x k h end b)
    go (bad l x n h b is) (long m y e k is' full same) = absurd (entered m l y x e k h is' same b)
    go (bad l x n h b is) (bad m y n' k b' is') = numbers n n' (is ∙ sym is')

-- ---- the entries at the beginning

-- two lists of entries that begin one text, with nothing more after them, are equal
same_entries : (format : Format) (version u w : ℕ) (es fs : List Entry) (r s : List ℕ)
    → AllByRecursion (IsEntryOf format) es → AllByRecursion (IsEntryOf format) fs
    → version + length es ≡ u → version + length fs ≡ w → u ≤ MOST_ENTRIES + 1 → w ≤ MOST_ENTRIES + 1
    → Stops format u r → Stops format w s
    → entries_text version es ++ r ≡ entries_text version fs ++ s → (es ≡ fs) × (r ≡ s)
same_entries format version u w [] [] r s h k ue we ul wl p q same = (refl, same)
same_entries format version u w [] (f ∷ fs) r s h k ue we ul wl p q same =
    let now : u ≡ version = omega arith in
    let there : r ≡ entry_line u f ++ line_feed ++ (entries_text (version + 1) fs ++ s) =
    same ∙ append_assoc (entry_text version f) (entries_text (version + 1) fs) s
    ∙ ap (λ v. entry_line v f ++ line_feed ++ (entries_text (version + 1) fs ++ s)) (sym now) in
    let full : u ≡ MOST_ENTRIES + 1 = p f (entries_text (version + 1) fs ++ s) k.0 there in
    absurd (omega arith)
same_entries format version u w (e ∷ es) [] r s h k ue we ul wl p q same =
    let now : w ≡ version = omega arith in
    let there : s ≡ entry_line w e ++ line_feed ++ (entries_text (version + 1) es ++ r) =
    sym same ∙ append_assoc (entry_text version e) (entries_text (version + 1) es) r
    ∙ ap (λ v. entry_line v e ++ line_feed ++ (entries_text (version + 1) es ++ r)) (sym now) in
    let full : w ≡ MOST_ENTRIES + 1 = q e (entries_text (version + 1) es ++ r) h.0 there in
    absurd (omega arith)
same_entries format version u w (e ∷ es) (f ∷ fs) r s h k ue we ul wl p q same =
    let fits : version < 2 ^ 64 = omega arith in
    let x : List ℕ = entries_text (version + 1) es ++ r in
    let y : List ℕ = entries_text (version + 1) fs ++ s in
    let lines : entry_line version e ++ line_feed ++ x ≡ entry_line version f ++ line_feed ++ y =
    sym (append_assoc (entry_text version e) (entries_text (version + 1) es) r) ∙ same
    ∙ append_assoc (entry_text version f) (entries_text (version + 1) fs) s in
    let parts =
    fronts (cut LF (entry_line version e ++ line_feed ++ x)) (entry_line version e) (entry_line version f) x y
    (line_cut (entry_line version e) x (entry_lacks version e fits h.0.0))
    (ap (cut LF) lines ∙ line_cut (entry_line version f) y (entry_lacks version f fits k.0.0)) in
    let found : ◌≡◌ {A = Option Entry} (Some e) (Some f) =
    sym (entry_again version e fits h.0.0) ∙ ap entry_in parts.0 ∙ entry_again version f fits k.0.0 in
    let first : e ≡ f = cc in
    let others =
    same_entries format (version + 1) u w es fs r s h.1 k.1 (omega arith) (omega arith) ul wl p q parts.1 in
    (ap (λ z. z ∷ es) first ∙ ap (λ zs. f ∷ zs) others.0, others.1)

-- ---- the meaning of the bytes

record Told (bytes : List ℕ) (a : Result (List Entry) ChronFault) : Type 0 where
  format : Format
  entries : List Entry
  rest : List ℕ
  begins : Begins format entries bytes rest
  view : View format entries rest a

told_text : (bytes : List ℕ) (entries : List Entry) → SpellsHistory bytes entries → Told bytes (Ok entries)
told_text bytes entries (format, are, spelled) =
    let few : length entries ≤ MOST_ENTRIES = are.few in
    record {
      format = format;
      entries = entries;
      rest = end_line (length entries) ++ line_feed;
      begins = record { allowed = are; spelled = spelled };
      view = whole (end_line (length entries))
          (cut_again LF (end_line (length entries)) [] (end_lacks (length entries) (omega arith))) refl;
    }

told_fault : (bytes : List ℕ) (fault : ChronFault) → HasFault bytes fault → IsNoHistory bytes ⊎ Told bytes (Err fault)
told_fault bytes OutOfMemory h = absurd h
told_fault bytes (BadChange n) h = absurd h
told_fault bytes NotHistory h = inl h
told_fault bytes (BadLine n) (inl h) = let s : HasOtherLine bytes n = h.stands in inr (record {
  format = s.format;
  entries = s.entries;
  rest = s.line ++ line_feed ++ s.rest;
  begins = s.begins;
  view = bad s.line s.rest n
      (line_cut s.line s.rest (lacks_from LF s.line (recursion_from_All (λ b. b ≢ LF) s.line s.whole)))
      (s.other, h.no_end) s.number;
})
told_fault bytes (BadLine n) (inr h) =
    let few : length h.entries ≤ MOST_ENTRIES = h.begins.allowed.few in
    inr (record {
      format = h.format;
      entries = h.entries;
      rest = end_line (length h.entries) ++ line_feed ++ h.rest;
      begins = h.begins;
      view = more (end_line (length h.entries)) h.rest n
          (line_cut (end_line (length h.entries)) h.rest
          (end_lacks (length h.entries) (omega arith))) refl h.more h.number;
    })
told_fault bytes TooLong h =
    let next : MOST_ENTRIES + 1 ≡ length h.entries + 1 = omega (arith, h.full) in
    inr (record {
      format = h.format;
      entries = h.entries;
      rest = entry_line (MOST_ENTRIES + 1) h.next ++ line_feed ++ h.rest;
      begins = h.begins;
      view = long (entry_line (MOST_ENTRIES + 1) h.next) h.rest h.next
          (line_cut (entry_line (MOST_ENTRIES + 1) h.next) h.rest
          (entry_lacks (MOST_ENTRIES + 1) h.next (omega arith) h.has_line.0)) h.has_line h.full
          (ap (λ v. entry_line v h.next) next);
    })
told_fault bytes NoEnd h = inr (record {
  format = h.format;
  entries = h.entries;
  rest = h.rest;
  begins = h.begins;
  view = unended (cut_lacks LF h.rest (lacks_from LF h.rest (recursion_from_All (λ b. b ≢ LF) h.rest h.unended)));
})

formats_apart : (es fs : List Entry) (r s : List ℕ) → begun_text One es r ≡ begun_text Two fs s → ⊥
formats_apart es fs r s same = let byte : ◌≡◌ {A = ℕ} 49 50 = ap (λ (l : List ℕ). get_or l 12 0) same in
    absurd (omega (arith, byte))

behind_head : (format : Format) (es fs : List Entry) (r s : List ℕ) → begun_text format es r ≡ begun_text format fs s
    → entries_text 1 es ++ r ≡ entries_text 1 fs ++ s
behind_head One es fs r s same = ap (drop 14) same
behind_head Two es fs r s same = ap (drop 14) same

one_format : (format : Format) (es fs : List Entry) (r s : List ℕ) (a b : Result (List Entry) ChronFault)
    → AreEntriesOf format es → AreEntriesOf format fs
    → View format es r a → View format fs s b → begun_text format es r ≡ begun_text format fs s → a ≡ b
one_format format es fs r s a b h k v w same =
    let few : length es ≤ MOST_ENTRIES = h.few in
    let few' : length fs ≤ MOST_ENTRIES = k.few in
    let one =
    same_entries format 1 (length es + 1) (length fs + 1) es fs r s h.each k.each (omega arith) (omega arith)
    (omega arith) (omega arith) (stops format es r a few v) (stops format fs s b few' w)
    (behind_head format es fs r s same) in
    let moved : View format es r b =
    subst (λ z. View format es z b) (sym one.1) (subst (λ zs. View format zs s b) (sym one.0) w) in
    one_view format es r a b few v moved

one_told : (bytes : List ℕ) (a b : Result (List Entry) ChronFault) → Told bytes a → Told bytes b → a ≡ b
one_told bytes a b t u = go t.format u.format t.begins u.begins t.view u.view
  where
    go : (f g : Format) → Begins f t.entries bytes t.rest → Begins g u.entries bytes u.rest → View f t.entries t.rest a
        → View g u.entries u.rest b → a ≡ b
    go One One h k v w =
        one_format One t.entries u.entries t.rest u.rest a b h.allowed k.allowed v w (sym h.spelled ∙ k.spelled)
    go Two Two h k v w =
        one_format Two t.entries u.entries t.rest u.rest a b h.allowed k.allowed v w (sym h.spelled ∙ k.spelled)
    go One Two h k v w = absurd (formats_apart t.entries u.entries t.rest u.rest (sym h.spelled ∙ k.spelled))
    go Two One h k v w = absurd (formats_apart u.entries t.entries u.rest t.rest (sym k.spelled ∙ h.spelled))

begun : (bytes : List ℕ) (a : Result (List Entry) ChronFault) → IsNoHistory bytes → Told bytes a → ⊥
begun bytes a none t =
    none t.format (entries_text 1 t.entries ++ t.rest)
    (t.begins.spelled ∙ append_assoc (head_line t.format ++ line_feed) (entries_text 1 t.entries) t.rest)

pub spells_one : SpellsOne
spells_one bytes entries others h k =
    let same : ◌≡◌ {A = Result (List Entry) ChronFault} (Ok entries) (Ok others) =
    one_told bytes (Ok entries) (Ok others) (told_text bytes entries h) (told_text bytes others k) in cc

pub faults_are_no_texts : FaultsAreNoTexts
faults_are_no_texts bytes fault entries h k = go (told_fault bytes fault h)
  where
    go : IsNoHistory bytes ⊎ Told bytes (Err fault) → ⊥
    go (inl none) = begun bytes (Ok entries) none (told_text bytes entries k)
    go (inr t) =
        let same : ◌≡◌ {A = Result (List Entry) ChronFault} (Err fault) (Ok entries) =
        one_told bytes (Err fault) (Ok entries) t (told_text bytes entries k) in absurd (cc)

-- bytes that begin with no first line have only that fault
alone : (bytes : List ℕ) (fault : ChronFault) → IsNoHistory bytes → HasFault bytes fault → fault ≡ NotHistory
alone bytes OutOfMemory none h = absurd h
alone bytes (BadChange n) none h = absurd h
alone bytes NotHistory none h = refl
alone bytes (BadLine n) none (inl h) = absurd (go (told_fault bytes (BadLine n) (inl h)))
  where
    go : IsNoHistory bytes ⊎ Told bytes (Err (BadLine n)) → ⊥
    go (inl z) = begun_at h.stands.begins
      where
        begun_at : {f : Format} {es : List Entry} {r : List ℕ} → Begins f es bytes r → ⊥
        begun_at {f = f} {es = es} {r = r} b =
            none f (entries_text 1 es ++ r) (b.spelled ∙ append_assoc (head_line f ++ line_feed) (entries_text 1 es) r)
    go (inr t) = begun bytes (Err (BadLine n)) none t
alone bytes (BadLine n) none (inr h) =
    absurd (none h.format (entries_text 1 h.entries ++ (end_line (length h.entries) ++ line_feed ++ h.rest))
    (h.begins.spelled
    ∙ append_assoc (head_line h.format ++ line_feed) (entries_text 1 h.entries)
    (end_line (length h.entries) ++ line_feed ++ h.rest)))
alone bytes TooLong none h =
    absurd (none h.format (entries_text 1 h.entries ++ (entry_line (MOST_ENTRIES + 1) h.next ++ line_feed ++ h.rest))
    (h.begins.spelled
    ∙ append_assoc (head_line h.format ++ line_feed) (entries_text 1 h.entries)
    (entry_line (MOST_ENTRIES + 1) h.next ++ line_feed ++ h.rest)))
alone bytes NoEnd none h =
    absurd (none h.format (entries_text 1 h.entries ++ h.rest)
    (h.begins.spelled ∙ append_assoc (head_line h.format ++ line_feed) (entries_text 1 h.entries) h.rest))

pub has_one_fault : HasOneFault
has_one_fault bytes fault other h k = go (told_fault bytes fault h) (told_fault bytes other k)
  where
    go : IsNoHistory bytes ⊎ Told bytes (Err fault) → IsNoHistory bytes ⊎ Told bytes (Err other) → fault ≡ other
    go (inl none) q = alone bytes fault none h ∙ sym (alone bytes other none k)
    go (inr t) (inl none) = alone bytes fault none h ∙ sym (alone bytes other none k)
    go (inr t) (inr u) =
        let same : ◌≡◌ {A = Result (List Entry) ChronFault} (Err fault) (Err other) =
        one_told bytes (Err fault) (Err other) t u in cc

in_two : (deed : Deed) → HasLine Two deed
in_two (Dig target doors) = tt
in_two (Make names) = tt
in_two (Player name) = tt
in_two (Lock object key) = tt
in_two (Unlock object) = tt
in_two (Move thing to) = tt
in_two (Walk exit) = tt
in_two (Cost exit cost) = tt
in_two (Rename object names) = tt
in_two (Recycle object) = tt
in_two (Say text) = tt
in_two (Emote text) = tt

each_in_two : (entries : List Entry) → AllByRecursion IsEntry entries → AllByRecursion (IsEntryOf Two) entries
each_in_two [] h = tt
each_in_two (e ∷ entries) h = ((h.0, in_two e.change.deed), each_in_two entries h.1)

pub is_written_again : IsWrittenAgain
is_written_again entries others h few =
    let text : List ℕ = history_text Two entries in
    let spells : SpellsHistory text entries = (Two, record { each = each_in_two entries h; few = few }, refl) in
    (spells, λ k. spells_one text others entries k spells)
