-- Rooms keep their entries and their labels when entries are swapped.
use Rattle.std.proofs.Common.{◌≡◌, ◌≢◌, ℕ, ◌+◌, ◌<◌, ◌≤◌, inl, inr, true, nat_lt, Option, Some, None, List, length}
use Rattle.std.proofs.Common.{get_or, set, sym, ◌∙◌, ap, subst, refl, arith, get_or-set_same, get_or-set_other}
use Rattle.std.proofs.Common.{length-set, replicate}
use Rattle.std.proofs.lemmas.Bool.{cases_lt, cases_eq}
use Rattle.std.proofs.lemmas.Bool.Decides.{nat_tests}
use Rattle.std.proofs.lemmas.List.{length-map, ext_get_or, get_or-map, get_or_past, set-get_or, set-set, get_or_read}
use Rattle.std.proofs.lemmas.List.{get_or-replicate, length-replicate}
use Rattle.mud_roads.specs.declared.label.Label.{Label}
use Rattle.mud_search.specs.declared.queue.Entry.{Entry}
use Rattle.mud_search.specs.inner.Queues.{entry_at, place_at, label_there, waiting_labels, IsMatched, IsSwapped}

pub length_labels : (es : List Entry) (ps : List ℕ) (w : ℕ) → IsMatched es ps
    → length (waiting_labels es ps w) ≡ length es
length_labels es ps w m = length-map ps (λ p. label_there es w p) ∙ m.whole

-- the label of a room by its place
pub label_at_place : (es : List Entry) (ps : List ℕ) (w r : ℕ) → IsMatched es ps → r < length es
    → get_or (waiting_labels es ps w) r None ≡ label_there es w (place_at ps r)
label_at_place es ps w r m within = get_or-map (λ p. label_there es w p) ps r 0 None (omega (arith, m.whole))

-- a room's index is that of its entry
place_of_entry : (es : List Entry) (ps : List ℕ) (p r : ℕ) → IsMatched es ps → p < length es → (entry_at es p).room ≡ r
    → (r < length es) × (place_at ps r ≡ p)
place_of_entry es ps p r m within is = rw is at (m.here p within)

-- the label of a room, by the index of its entry
pub label_of_entry : (es : List Entry) (ps : List ℕ) (w p r : ℕ) → IsMatched es ps
    → p < length es → (entry_at es p).room ≡ r
    → get_or (waiting_labels es ps w) r None ≡ label_there es w p
label_of_entry es ps w p r m within is =
    let at = place_of_entry es ps p r m within is in
    label_at_place es ps w r m at.0 ∙ ap (λ (k : ℕ). label_there es w k) at.1

-- equal entries that both wait or both do not give one label
same_there : (es fs : List Entry) (w v p q : ℕ) → entry_at fs p ≡ entry_at es q → nat_lt p v ≡ nat_lt q w
    → label_there fs v p ≡ label_there es w q
same_there es fs w v p q same both = cc

-- the facts about all entries but one room's that keep the labels of a changed queue
abbrev pub IsKept : List Entry → List Entry → ℕ → ℕ → ℕ → Type 0
IsKept es fs w v room =
    (p : ℕ) → p < length fs → (entry_at fs p).room ≢ room → (q : ℕ) × (q < length es)
    × (entry_at fs p ≡ entry_at es q) × (nat_lt p v ≡ nat_lt q w)

kept_label : (es fs : List Entry) (ps qs : List ℕ) (w v room : ℕ) → IsMatched es ps
    → IsMatched fs qs → length fs ≡ length es
    → IsKept es fs w v room → (r : ℕ) → r < length fs → r ≢ room
    → get_or (waiting_labels fs qs v) r None ≡ get_or (waiting_labels es ps w) r None
kept_label es fs ps qs w v room m n whole kept r within other =
    let there = n.there r within in
    let p : ℕ = place_at qs r in
    let found = kept p there.0 (λ e. other (sym there.1 ∙ e)) in
    let old : (entry_at es found.0).room ≡ r = ap (λ (e : Entry). e.room) (sym found.2) ∙ there.1 in
    label_at_place fs qs v r n within ∙ same_there es fs w v p found.0 found.2 found.3
    ∙ sym (label_of_entry es ps w found.0 r m found.1 old)

-- then the labels are unchanged, except that of the room
pub kept_labels : (es fs : List Entry) (ps qs : List ℕ) (w v room : ℕ) (l : Option Label) → IsMatched es ps
    → IsMatched fs qs → length fs ≡ length es
    → IsKept es fs w v room → room < length es → get_or (waiting_labels fs qs v) room None ≡ l
    → waiting_labels fs qs v ≡ set (waiting_labels es ps w) room l
kept_labels es fs ps qs w v room l m n whole kept within is =
    ext_get_or None (waiting_labels fs qs v) (set (waiting_labels es ps w) room l)
    (length_labels fs qs v n ∙ whole ∙ sym (length_labels es ps w m) ∙ sym (length-set (waiting_labels es ps w) room l))
    (λ r h.
    elim (cases_eq r room) [
      | inl same ↦
          rw same (is ∙ sym
          (get_or-set_same (waiting_labels es ps w) room l None (omega (arith, length_labels es ps w m))))
      | inr other ↦
          kept_label es fs ps qs w v room m n whole kept r (omega (arith, length_labels fs qs v n)) other
          ∙ sym (get_or-set_other (waiting_labels es ps w) room r l None other)
    ])

-- two waiting rooms are swapped
pub swapped_labels : (es fs : List Entry) (ps qs : List ℕ) (w i j : ℕ) → IsMatched es ps
    → IsMatched fs qs → IsSwapped es fs i j
    → w ≤ length es → i < w → j < w → waiting_labels fs qs w ≡ waiting_labels es ps w
swapped_labels es fs ps qs w i j m n s fits one other =
    let room : ℕ = (entry_at es i).room in
    let kept : IsKept es fs w w room =
    λ p h apart.
    elim (cases_eq p i) [
      | inl e ↦ (j, omega arith, rw e s.one, grind (arith, nat_tests))
      | inr not_one ↦
          elim (cases_eq p j) [
            | inl e ↦ (i, omega arith, rw e s.other, grind (arith, nat_tests))
            | inr not_other ↦ (p, omega (arith, s.whole), s.rest p not_one not_other, refl)
          ]
    ] in
    let old : get_or (waiting_labels es ps w) room None ≡ label_there es w i =
    label_of_entry es ps w i room m (omega arith) refl in
    let new : get_or (waiting_labels fs qs w) room None ≡ label_there fs w j =
    label_of_entry fs qs w j room n (omega (arith, s.whole)) (ap (λ (e : Entry). e.room) s.other) in
    let both : nat_lt j w ≡ nat_lt i w = grind (arith, nat_tests) in
    kept_labels es fs ps qs w w room (get_or (waiting_labels es ps w) room None) m n s.whole
    kept (m.here i (omega arith)).0
    (new ∙ same_there es fs w w j i s.other both ∙ sym old)
    ∙ set-get_or (waiting_labels es ps w) room None

-- a room starts to wait, and gets some label
pub admitted_labels : (es fs : List Entry) (ps qs : List ℕ) (w at room : ℕ) → IsMatched es ps
    → IsMatched fs qs → IsSwapped es fs at w
    → w ≤ at → at < length es → (entry_at es at).room ≡ room
    → waiting_labels fs qs (w + 1) ≡ set (waiting_labels es ps w) room (get_or (waiting_labels fs qs (w + 1)) room None)
admitted_labels es fs ps qs w at room m n s behind within is =
    let kept : IsKept es fs w (w + 1) room =
    λ p h apart.
    elim (cases_eq p w) [
      | inl e ↦ absurd (apart (rw e (ap (λ (e : Entry). e.room) s.other ∙ is)))
      | inr not_last ↦
          elim (cases_eq p at) [
            | inl e ↦ (w, omega arith, rw e s.one, grind (arith, nat_tests))
            | inr not_at ↦ (p, omega (arith, s.whole), s.rest p not_at not_last, grind (arith, nat_tests))
          ]
    ] in
    kept_labels es fs ps qs w (w + 1) room (get_or (waiting_labels fs qs (w + 1)) room None) m n s.whole kept
    (place_of_entry es ps at room m within is).0 refl

-- a room stops waiting
pub dismissed_labels : (es fs : List Entry) (ps qs : List ℕ) (w last at : ℕ) → IsMatched es ps
    → IsMatched fs qs → IsSwapped es fs at last
    → w ≡ last + 1 → w ≤ length es → at < w
    → waiting_labels fs qs last ≡ set (waiting_labels es ps w) (entry_at es at).room None
dismissed_labels es fs ps qs w last at m n s more fits within =
    let room : ℕ = (entry_at es at).room in
    let kept : IsKept es fs w last room =
    λ p h apart.
    elim (cases_eq p last) [
      | inl e ↦ absurd (apart (rw e (ap (λ (e : Entry). e.room) s.other)))
      | inr not_last ↦
          elim (cases_eq p at) [
            | inl e ↦ (last, omega arith, rw e s.one, grind (arith, nat_tests))
            | inr not_at ↦ (p, omega (arith, s.whole), s.rest p not_at not_last, grind (arith, nat_tests))
          ]
    ] in
    let out : label_there fs last last ≡ None = grind (arith, nat_tests) in
    kept_labels es fs ps qs w last room None m n s.whole kept (m.here at (omega arith)).0
    (label_of_entry fs qs last last room n (omega (arith, s.whole)) (ap (λ (e : Entry). e.room) s.other) ∙ out)

-- a waiting room gets another label
pub written_matched : (es : List Entry) (ps : List ℕ) (at : ℕ) (e : Entry) → IsMatched es ps → at < length es
    → (entry_at es at).room ≡ e.room
    → IsMatched (set es at e) ps
written_matched es ps at e m within is =
    let rooms : (p : ℕ) → (entry_at (set es at e) p).room ≡ (entry_at es p).room =
    λ p.
    elim (cases_eq p at) [
      | inl same ↦ rw same (ap (λ (x : Entry). x.room) (get_or-set_same es at e _ within) ∙ sym is)
      | inr other ↦ ap (λ (x : Entry). x.room) (get_or-set_other es at p e _ other)
    ] in
    let whole : length (set es at e) ≡ length es = length-set es at e in
    record {
      few = rw whole m.few;
      whole = rw whole m.whole;
      here = λ i h. rw (whole, rooms i) (m.here i (rw whole at h));
      there = λ r h. rw (whole, rooms (place_at ps r)) (m.there r (rw whole at h));
    }

pub written_labels : (es : List Entry) (ps : List ℕ) (w at : ℕ) (e : Entry) → IsMatched es ps → w ≤ length es → at < w
    → (entry_at es at).room ≡ e.room
    → waiting_labels (set es at e) ps w ≡ set (waiting_labels es ps w) e.room (Some e.label)
written_labels es ps w at e m fits within is =
    let inside : at < length es = omega arith in
    let here : entry_at (set es at e) at ≡ e = get_or-set_same es at e _ inside in
    let n : IsMatched (set es at e) ps = written_matched es ps at e m inside is in
    let whole : length (set es at e) ≡ length es = length-set es at e in
    let kept : IsKept es (set es at e) w w e.room =
    λ p h apart.
    elim (cases_eq p at) [
      | inl same ↦ absurd (apart (rw same (ap (λ (x : Entry). x.room) here)))
      | inr other ↦ (p, omega arith, get_or-set_other es at p e _ other, refl)
    ] in
    let front : nat_lt at w ≡ true = grind (arith, nat_tests) in
    let label : label_there (set es at e) w at ≡ Some e.label = cc in
    kept_labels es (set es at e) ps ps w w e.room (Some e.label) m n whole kept
    (place_of_entry es ps at e.room m inside is).0
    (label_of_entry (set es at e) ps w at e.room n (omega arith) (ap (λ (x : Entry). x.room) here) ∙ label)

-- the entries after a swap
pub swapped_entries : (es : List Entry) (i j : ℕ) (a b : Entry) → i < length es → j < length es
    → a ≡ entry_at es i → b ≡ entry_at es j
    → IsSwapped es (set (set es i b) j a) i j
swapped_entries es i j a b one other is_a is_b =
    let whole : length (set es i b) ≡ length es = length-set es i b in
    let last : entry_at (set (set es i b) j a) j ≡ a = get_or-set_same (set es i b) j a _ (omega arith) in
    record {
      whole = length-set (set es i b) j a ∙ whole;
      one = elim (cases_eq i j) [
        | inl same ↦ ap (entry_at (set (set es i b) j a)) same ∙ last ∙ is_a ∙ ap (entry_at es) same
        | inr apart ↦ get_or-set_other (set es i b) j i a _ apart ∙ get_or-set_same es i b _ one ∙ is_b
      ];
      other = last ∙ is_a;
      rest = λ k not_one not_other. get_or-set_other (set es i b) j k a _ not_other
          ∙ get_or-set_other es i k b _ not_one;
    }

-- a list of indices in which two were set, the second one last
two_places : (ps : List ℕ) (r q i j : ℕ) → r < length ps → q < length ps
    → (place_at (set (set ps r i) q j) q ≡ j)
    × (r ≢ q → place_at (set (set ps r i) q j) r ≡ i)
    × ((k : ℕ) → k ≢ r → k ≢ q → place_at (set (set ps r i) q j) k ≡ place_at ps k)
two_places ps r q i j one other =
    let whole : length (set ps r i) ≡ length ps = length-set ps r i in (
      get_or-set_same (set ps r i) q j 0 (omega arith),
      λ apart. get_or-set_other (set ps r i) q r j 0 apart ∙ get_or-set_same ps r i 0 one,
      λ k not_one not_other. get_or-set_other (set ps r i) q k j 0 not_other ∙ get_or-set_other ps r k i 0 not_one,
    )

-- two entries of one room are one
pub one_entry : (es : List Entry) (ps : List ℕ) (i j : ℕ) → IsMatched es ps → i < length es → j < length es
    → (entry_at es i).room ≡ (entry_at es j).room → i ≡ j
one_entry es ps i j m one other same = sym (m.here i one).1 ∙ ap (place_at ps) same ∙ (m.here j other).1

-- if two entries and their rooms' indices are swapped, all stay matched
matched_from_swap : (es fs : List Entry) (ps qs : List ℕ) (i j : ℕ) → IsMatched es ps → IsSwapped es fs i j
    → i < length es → j < length es
    → length qs ≡ length ps
    → place_at qs (entry_at es i).room ≡ j
    → ((entry_at es j).room ≢ (entry_at es i).room → place_at qs (entry_at es j).room ≡ i)
    → ((k : ℕ) → k ≢ (entry_at es j).room → k ≢ (entry_at es i).room → place_at qs k ≡ place_at ps k)
    → IsMatched fs qs
matched_from_swap es fs ps qs i j m s one other whole to_j to_i kept =
    let room : Entry → ℕ = λ e. e.room in
    let hi = m.here i one in
    let hj = m.here j other in
    record {
      few = rw s.whole m.few;
      whole = whole ∙ m.whole ∙ sym s.whole;
      here = λ k h.
          elim (cases_eq k j) [
            | inl e ↦ rw (e, s.other, s.whole) (hi.0, to_j)
            | inr not_j ↦
                elim (cases_eq k i) [
                  | inl e ↦ rw (e, s.one, s.whole)
                      (hj.0, to_i (λ same. not_j (e ∙ one_entry es ps i j m one other (sym same))))
                  | inr not_i ↦
                      let within : k < length es = omega (arith, s.whole) in
                      let at = m.here k within in
                      rw (s.rest k not_i not_j, s.whole) (
                        at.0,
                        kept (entry_at es k).room (λ same. not_j (one_entry es ps k j m within other same))
                            (λ same. not_i (one_entry es ps k i m within one same)) ∙ at.1,
                      )
                ]
          ];
      there = λ r h.
          elim (cases_eq r (entry_at es i).room) [
            | inl e ↦ rw (e, to_j, s.other, s.whole) (other, refl)
            | inr not_i ↦
                elim (cases_eq r (entry_at es j).room) [
                  | inl e ↦ rw (e, to_i (λ same. not_i (e ∙ same)), s.one, s.whole) (one, refl)
                  | inr not_j ↦
                      let at = m.there r (rw s.whole at h) in
                      let stays : place_at qs r ≡ place_at ps r = kept r not_j not_i in
                      rw (
                        stays,
                        s.whole,
                        s.rest (place_at ps r)
                            (λ same. not_i (sym at.1 ∙ ap (λ (p : ℕ). (entry_at es p).room) same))
                            (λ same. not_j (sym at.1 ∙ ap (λ (p : ℕ). (entry_at es p).room) same)),
                      ) at
                ]
          ];
    }

pub swapped_matched : (es : List Entry) (ps : List ℕ) (i j : ℕ) (a b : Entry) → IsMatched es ps
    → i < length es → j < length es
    → a ≡ entry_at es i → b ≡ entry_at es j
    → IsMatched (set (set es i b) j a) (set (set ps b.room i) a.room j)
swapped_matched es ps i j a b m one other is_a is_b =
    let first : a.room ≡ (entry_at es i).room = ap (λ (e : Entry). e.room) is_a in
    let second : b.room ≡ (entry_at es j).room = ap (λ (e : Entry). e.room) is_b in
    let hi = m.here i one in
    let hj = m.here j other in
    let two = two_places ps (entry_at es j).room (entry_at es i).room i j
    (omega (arith, m.whole)) (omega (arith, m.whole)) in
    let s : IsSwapped es (set (set es i b) j a) i j = swapped_entries es i j a b one other is_a is_b in
    let P : ℕ → Type 0 = λ x. IsMatched (set (set es i b) j a) (set (set ps x i) (entry_at es i).room j) in
    let Q : ℕ → Type 0 = λ y. IsMatched (set (set es i b) j a) (set (set ps b.room i) y j) in
    subst Q (sym first) (subst P (sym second)
    (matched_from_swap es (set (set es i b) j a) ps
    (set (set ps (entry_at es j).room i) (entry_at es i).room j) i j m s one other
    (length-set (set ps (entry_at es j).room i) (entry_at es i).room j ∙ length-set ps (entry_at es j).room i)
    two.0 two.1 two.2))

-- if none waits
pub none_wait : (es : List Entry) (ps : List ℕ) (n : ℕ) → length ps ≡ n → waiting_labels es ps 0 ≡ replicate n None
none_wait es ps n whole =
    let same : length (waiting_labels es ps 0) ≡ n = length-map ps (λ p. label_there es 0 p) ∙ whole in
    ext_get_or None (waiting_labels es ps 0) (replicate n None) (same ∙ sym (length-replicate n None))
    (λ r h.
    let within : r < n = omega arith in
    let out : label_there es 0 (place_at ps r) ≡ None = grind (arith, nat_tests) in
    get_or-map (λ p. label_there es 0 p) ps r 0 None (omega arith) ∙ out ∙ sym (get_or-replicate n r None None within))

-- a room whose index is past the waiting ones does not wait
pub absent_stays : (es : List Entry) (ps : List ℕ) (w r p : ℕ) → IsMatched es ps
    → r < length es → p ≡ get_or ps r p → w ≤ p
    → waiting_labels es ps w ≡ set (waiting_labels es ps w) r None
absent_stays es ps w r p m within is behind =
    let place : p ≡ place_at ps r = get_or_read ps r p (omega (arith, m.whole)) is 0 in
    let out : label_there es w (place_at ps r) ≡ None = grind (arith, nat_tests) in
    let none : get_or (waiting_labels es ps w) r None ≡ None = label_at_place es ps w r m within ∙ out in
    sym (set-get_or (waiting_labels es ps w) r None) ∙ ap (set (waiting_labels es ps w) r) none

-- a room with a label waits
there_within : (es : List Entry) (w p : ℕ) (l : Label) → label_there es w p ≡ Some l
    → (p < w) × ((entry_at es p).label ≡ l)
there_within es w p l is =
    elim (cases_lt p w) [
      | inl h ↦
          let front : label_there es w p ≡ Some (entry_at es p).label = grind (arith, nat_tests) in
          (h, cc)
      | inr h ↦
          let out : label_there es w p ≡ None = grind (arith, nat_tests) in
          absurd (cc)
    ]

pub waits_at : (es : List Entry) (ps : List ℕ) (w r : ℕ) (l : Label) → IsMatched es ps
    → get_or (waiting_labels es ps w) r None ≡ Some l
    → (place_at ps r < w) × ((entry_at es (place_at ps r)).label ≡ l) × ((entry_at es (place_at ps r)).room ≡ r)
waits_at es ps w r l m is =
    elim (cases_lt r (length es)) [
      | inl within ↦
          let found = there_within es w (place_at ps r) l (sym (label_at_place es ps w r m within) ∙ is) in
          (found.0, found.1, (m.there r within).1)
      | inr past ↦
          let none : get_or (waiting_labels es ps w) r None ≡ None =
          get_or_past (waiting_labels es ps w) r None (omega (arith, length_labels es ps w m)) in
          absurd (cc)
    ]

-- so all labels but that of the new room are unchanged
pub admitted_set : (es fs : List Entry) (ps qs : List ℕ) (w at room : ℕ) → IsMatched es ps
    → IsMatched fs qs → IsSwapped es fs at w
    → room < length es → at ≡ get_or ps room at → w ≤ at → (l : Option Label)
    → set (waiting_labels fs qs (w + 1)) room l ≡ set (waiting_labels es ps w) room l
admitted_set es fs ps qs w at room m n s within is behind l =
    let place : at ≡ place_at ps room = get_or_read ps room at (omega (arith, m.whole)) is 0 in
    let there = m.there room within in
    let inside : at < length es = omega arith in
    let mine : (entry_at es at).room ≡ room = ap (λ (p : ℕ). (entry_at es p).room) place ∙ there.1 in
    ap (λ (xs : List (Option Label)). set xs room l) (admitted_labels es fs ps qs w at room m n s behind inside mine)
    ∙ set-set (waiting_labels es ps w) room (get_or (waiting_labels fs qs (w + 1)) room None) l
