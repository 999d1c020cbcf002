-- An entry sinks, and is written at its final index. Until then the place holds another entry, which moved up.
use Rattle.std.proofs.Common.{◌≡◌, ◌≢◌, ℕ, ◌-◌, ◌/◌, ◌<◌, ◌≤◌, List, length, set, sym, ◌∙◌, ap, subst, arith}
use Rattle.std.proofs.Common.{get_or, get_or-set_same, get_or-set_other, length-set}
use Rattle.std.proofs.lemmas.List.{get_or_read, set-set, set_comm, set-get_or}
use Rattle.mud_search.specs.declared.queue.Entry.{Entry}
use Rattle.mud_search.specs.inner.Queues.{entry_at, place_at, waiting_labels, IsMatched, IsNoLater, IsFirstBelow}
use Rattle.mud_search.specs.inner.Queues.{IsOrderedDownTo, IsSwapped}
use Rattle.mud_search.proofs.Heaps.{swapped_entries, swapped_matched, swapped_labels, one_entry}
use Rattle.mud_search.proofs.Mending.{moved, sunk}

-- writing an entry back changes nothing
pub read_and_written : (es : List Entry) (ps : List ℕ) (at : ℕ) (e : Entry) → IsMatched es ps → at < length es
    → e ≡ get_or es at e → (set es at e ≡ es) × (set ps e.room at ≡ ps)
read_and_written es ps at e m within is =
    let here : e ≡ entry_at es at = get_or_read es at e within is _ in
    let place : place_at ps e.room ≡ at = ap (λ (x : Entry). place_at ps x.room) here ∙ (m.here at within).1 in (
      ap (set es at) is ∙ set-get_or es at e,
      ap (set ps e.room) (sym place) ∙ set-get_or ps e.room 0,
    )

-- the lesser child of a place stays, whatever is written at the place
pub first_stays : (es : List Entry) (w at below : ℕ) (e : Entry) → IsFirstBelow es w at below
    → IsFirstBelow (set es at e) w at below
first_stays es w at below e f =
    let kept : (i : ℕ) → 0 < i → (i - 1) / 2 ≡ at → entry_at (set es at e) i ≡ entry_at es i =
    λ i some under. get_or-set_other es at i e _ (omega arith) in
    record {
      some = f.some;
      within = f.within;
      under = f.under;
      first = λ i some less under. moved _ _ (entry_at es below) (entry_at es i) (kept below f.some f.under)
          (kept i some under) (f.first i some less under);
    }

-- an entry sinks one step
pub sunk_on : (es : List Entry) (ps : List ℕ) (w at below : ℕ) (e n : Entry)
    → IsMatched (set es at e) (set ps e.room at) → w ≤ length es → at < w
    → IsFirstBelow es w at below → IsNoLater (entry_at es below) e → n ≡ entry_at es below
    → IsOrderedDownTo (set es at e) w at
    → IsMatched (set (set es at n) below e) (set (set ps n.room at) e.room below)
    × IsOrderedDownTo (set (set es at n) below e) w below
    × (waiting_labels (set (set es at n) below e) (set (set ps n.room at) e.room below) w
    ≡ waiting_labels (set es at e) (set ps e.room at) w)
sunk_on es ps w at below e n m fits within f before is o =
    let fs : List Entry = set es at e in
    let qs : List ℕ = set ps e.room at in
    let gs : List Entry = set (set es at n) below e in
    let rs : List ℕ = set (set ps n.room at) e.room below in
    let whole : length fs ≡ length es = length-set es at e in
    let room : Entry → ℕ = λ x. x.room in
    let one : at < length fs = omega arith in
    let other : below < length fs = omega (arith, f.within) in
    let apart : below ≢ at = omega (arith, f.some, f.under) in
    let here : e ≡ entry_at fs at = sym (get_or-set_same es at e _ (omega arith)) in
    let there : n ≡ entry_at fs below = is ∙ sym (get_or-set_other es at below e _ apart) in
    let P : List Entry → Type 0 = λ xs. IsSwapped fs (set xs below e) at below in
    let s : IsSwapped fs gs at below =
    subst P (set-set es at e n) (swapped_entries fs at below e n one other here there) in
    let rooms : e.room ≢ n.room =
    λ same. apart (one_entry fs qs below at m other one (ap room (sym there) ∙ sym same ∙ ap room here)) in
    let places : set (set qs n.room at) e.room below ≡ rs =
    ap (λ xs. set xs e.room below) (set_comm ps e.room n.room at at rooms)
    ∙ set-set (set ps n.room at) e.room at below in
    let Q : List Entry → Type 0 = λ xs. IsMatched (set xs below e) (set (set qs n.room at) e.room below) in
    let R : List ℕ → Type 0 = λ xs. IsMatched gs xs in
    let matched : IsMatched gs rs =
    subst R places (subst Q (set-set es at e n) (swapped_matched fs qs at below e n m one other here there)) in
    let g : IsFirstBelow fs w at below = first_stays es w at below e f in
    let first : IsNoLater (entry_at fs below) (entry_at fs at) =
    moved _ _ (entry_at es below) e (sym there ∙ is) (sym here) before in (
      matched,
      sunk fs gs w at below f.some f.within f.under g.first first o s,
      swapped_labels fs gs qs rs w at below m matched s (omega arith) within f.within,
    )

-- the room of the lesser child has an index
pub room_below : (es : List Entry) (ps : List ℕ) (w at below : ℕ) (e n : Entry)
    → IsMatched (set es at e) (set ps e.room at) → w ≤ length es → IsFirstBelow es w at below → n ≡ entry_at es below
    → n.room < length ps
room_below es ps w at below e n m fits f is =
    let whole : length (set es at e) ≡ length es = length-set es at e in
    let places : length (set ps e.room at) ≡ length ps = length-set ps e.room at in
    let there : n ≡ entry_at (set es at e) below =
    is ∙ sym (get_or-set_other es at below e _ (omega (arith, f.some, f.under))) in
    let within : (entry_at (set es at e) below).room < length (set es at e) =
    (m.here below (omega (arith, f.within))).0 in
    let P : Entry → Type 0 = λ x. x.room < length (set es at e) in
    omega (arith, subst P (sym there) within, m.whole)
