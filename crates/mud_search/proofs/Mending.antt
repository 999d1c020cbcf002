-- The heap order while an entry rises or sinks.
use Rattle.std.proofs.Common.{◌≡◌, ℕ, zero, suc, ◌-◌, ◌/◌, ◌<◌, ◌≤◌, inl, inr, refl, Some, None, List}
use Rattle.std.proofs.Common.{length, sym, ◌∙◌, ap, subst, arith, get_or}
use Rattle.std.proofs.lemmas.List.{get_or_read}
use Rattle.std.proofs.lemmas.Bool.{cases_lt, cases_eq}
use Rattle.mud_roads.specs.declared.label.Label.{Label}
use Rattle.mud_search.specs.declared.queue.Entry.{Entry}
use Rattle.mud_search.specs.inner.Boards.{IsBefore}
use Rattle.mud_search.specs.inner.Queues.{entry_at, place_at, waiting_labels, IsQueue, IsNoLater, IsOrderedBut}
use Rattle.mud_search.specs.inner.Queues.{IsOrderedDownTo, IsSwapped}
use Rattle.mud_search.proofs.Heaps.{waits_at}
use Rattle.mud_search.proofs.Orders.{no_later_itself, no_later_trans}

-- no entry comes before its parent
abbrev pub IsOrdered : List Entry → ℕ → Type 0
IsOrdered es w = (i : ℕ) → 0 < i → i < w → IsNoLater (entry_at es ((i - 1) / 2)) (entry_at es i)

pub moved : (a b c d : Entry) → a ≡ c → b ≡ d → IsNoLater c d → IsNoLater a b
moved a b c d p q h =
    let P : Entry → Type 0 = λ x. IsNoLater x d in
    let Q : Entry → Type 0 = λ y. IsNoLater a y in
    subst Q (sym q) (subst P (sym p) h)

-- two entries that were read
pub between : (es : List Entry) (i j : ℕ) (a b : Entry) → i < length es → j < length es
    → a ≡ get_or es i a → b ≡ get_or es j b → IsNoLater a b → IsNoLater (entry_at es i) (entry_at es j)
between es i j a b one other is_a is_b h =
    moved _ _ a b (sym (get_or_read es i a one is_a _)) (sym (get_or_read es j b other is_b _)) h

-- the least entry is the root
pub front_first : (es : List Entry) (w : ℕ) → IsOrdered es w → (fuel i : ℕ) → i ≤ fuel → i < w
    → IsNoLater (entry_at es 0) (entry_at es i)
front_first es w o zero i le within =
    let none : i ≡ 0 = omega arith in
    let P : ℕ → Type 0 = λ k. IsNoLater (entry_at es 0) (entry_at es k) in
    subst P (sym none) (no_later_itself (entry_at es 0))
front_first es w o (suc fuel) i le within =
    elim (cases_lt 0 i) [
      | inl some ↦
          no_later_trans (entry_at es 0) (entry_at es ((i - 1) / 2)) (entry_at es i)
          (front_first es w o fuel ((i - 1) / 2) (omega arith) (omega arith)) (o i some within)
      | inr none ↦
          let P : ℕ → Type 0 = λ k. IsNoLater (entry_at es 0) (entry_at es k) in
          let zero_i : 0 ≡ i = omega arith in
          subst P zero_i (no_later_itself (entry_at es 0))
    ]

-- so the root comes before each waiting room
pub first_of_all : (es : List Entry) (ps : List ℕ) (w : ℕ) (e : Entry) → IsQueue es ps w → 0 < w → e ≡ get_or es 0 e
    → (r : ℕ) (l : Label) → get_or (waiting_labels es ps w) r None ≡ Some l → IsBefore e.label e.room l r
first_of_all es ps w e q some is r l waits =
    let fits : w ≤ length es = q.fits in
    let found = waits_at es ps w r l q.matched waits in
    let p : ℕ = place_at ps r in
    let here : e ≡ entry_at es 0 = get_or_read es 0 e (omega arith) is _ in
    let first : IsNoLater e (entry_at es p) =
    moved e (entry_at es p) (entry_at es 0) (entry_at es p) here refl
    (front_first es w q.ordered p p (omega arith) found.0) in
    let P : Label → Type 0 = λ k. IsBefore e.label e.room k (entry_at es p).room in
    let Q : ℕ → Type 0 = λ k. IsBefore e.label e.room l k in
    subst Q found.2 (subst P found.1 first)

-- an entry rises one step
pub risen : (es fs : List Entry) (w at above : ℕ) → 0 < at → at < w → above ≡ (at - 1) / 2
    → IsOrderedBut es w at → IsSwapped es fs at above
    → IsNoLater (entry_at es at) (entry_at es above) → IsOrderedBut fs w above
risen es fs w at above pos within is o s before =
    record {
      rest = λ i some less apart not_under.
          let same : entry_at fs i ≡ entry_at es i = s.rest i (omega arith) (omega arith) in
          elim (cases_eq ((i - 1) / 2) at) [
            | inl under ↦
                moved _ _ (entry_at es above) (entry_at es i) (ap (entry_at fs) under ∙ s.one) same
                (let P : ℕ → Type 0 = λ k. IsNoLater (entry_at es k) (entry_at es i) in
                subst P (sym is) (o.past i some less under pos))
            | inr other ↦
                moved _ _ (entry_at es ((i - 1) / 2)) (entry_at es i) (s.rest ((i - 1) / 2) other not_under) same
                (o.rest i some less (omega arith) other)
          ];
      past = λ i some less under top.
          let above_same : entry_at fs ((above - 1) / 2) ≡ entry_at es ((above - 1) / 2) =
          s.rest ((above - 1) / 2) (omega arith) (omega arith) in
          let first : IsNoLater (entry_at es ((above - 1) / 2)) (entry_at es above) =
          o.rest above top (omega arith) (omega arith) (omega arith) in
          elim (cases_eq i at) [
            | inl same ↦
                moved _ _ (entry_at es ((above - 1) / 2)) (entry_at es above) above_same
                (ap (entry_at fs) same ∙ s.one) first
            | inr other ↦
                let second : IsNoLater (entry_at es ((i - 1) / 2)) (entry_at es i) =
                o.rest i some less other (omega arith) in
                let P : ℕ → Type 0 = λ k. IsNoLater (entry_at es k) (entry_at es i) in
                moved _ _ (entry_at es ((above - 1) / 2)) (entry_at es i) above_same (s.rest i other (omega arith))
                (no_later_trans (entry_at es ((above - 1) / 2)) (entry_at es above)
                (entry_at es i) first (subst P under second))
          ];
    }

-- an entry sinks one step
pub sunk : (es fs : List Entry) (w at below : ℕ) → 0 < below → below < w → (below - 1) / 2 ≡ at
    → ((i : ℕ) → 0 < i → i < w → (i - 1) / 2 ≡ at → IsNoLater (entry_at es below) (entry_at es i))
    → IsNoLater (entry_at es below) (entry_at es at) → IsOrderedDownTo es w at
    → IsSwapped es fs at below → IsOrderedDownTo fs w below
sunk es fs w at below pos within is first before o s =
    record {
      rest = λ i some less apart.
          elim (cases_eq ((i - 1) / 2) at) [
            | inl under ↦
                elim (cases_eq i below) [
                  | inl same ↦ moved _ _ (entry_at es below) (entry_at es at) (ap (entry_at fs) under ∙ s.one)
                      (ap (entry_at fs) same ∙ s.other) before
                  | inr other ↦
                      moved _ _ (entry_at es below) (entry_at es i) (ap (entry_at fs) under ∙ s.one)
                      (s.rest i (omega arith) other) (first i some less under)
                ]
            | inr not_under ↦
                let above_same : entry_at fs ((i - 1) / 2) ≡ entry_at es ((i - 1) / 2) =
                s.rest ((i - 1) / 2) not_under apart in
                elim (cases_eq i at) [
                  | inl same ↦
                      let over : (i - 1) / 2 ≡ (at - 1) / 2 = omega arith in
                      moved _ _ (entry_at es ((at - 1) / 2)) (entry_at es below) (above_same ∙ ap (entry_at es) over)
                      (ap (entry_at fs) same ∙ s.one)
                      (o.past below pos within is (omega arith))
                  | inr other ↦
                      moved _ _ (entry_at es ((i - 1) / 2)) (entry_at es i) above_same (s.rest i other (omega arith))
                      (o.rest i some less not_under)
                ]
          ];
      past = λ i some less under top.
          let P : ℕ → Type 0 = λ k. IsNoLater (entry_at es k) (entry_at es i) in
          moved _ _ (entry_at es below) (entry_at es i) (ap (entry_at fs) is ∙ s.one)
          (s.rest i (omega arith) (omega arith))
          (subst P under (o.rest i some less (omega arith)));
    }
