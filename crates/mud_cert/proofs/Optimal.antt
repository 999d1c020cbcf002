-- The conclusion of a valid certificate is optimal.
use Rattle.std.proofs.Common.{◌≡◌, ℕ, ◌<◌, ◌≤◌, ◌⊎◌, inl, inr, List, length, get_or, None, Some, refl, sym, ◌∙◌, ap}
use Rattle.std.proofs.Common.{subst, arith}
use Rattle.std.specs.Prelude.{All, option_map}
use Rattle.std.proofs.lemmas.Bool.{cases_lt}
use Rattle.mud_roads.specs.declared.label.Label.{Label}
use Rattle.mud_roads.specs.declared.label.Step.{Step}
use Rattle.mud_world.specs.State.{State}
use Rattle.mud_world.specs.Sound.{IsSound}
use Rattle.mud_roads.specs.Passable.{roads_of}
use Rattle.mud_roads.specs.Labels.{Reaches}
use Rattle.mud_roads.proofs.Bounds.{walk_from_start, valid_is_least}
use Rattle.mud_roads.specs.Walks.{exits_of, total, IsLeast, Least, Gathers}
use Rattle.mud_cert.specs.declared.cert.Form.{Form}
use Rattle.mud_cert.specs.Certificate.{Account, hop_of}
use Rattle.mud_cert.specs.declared.cert.Conclusion.{Conclusion}
use Rattle.mud_cert.specs.declared.cert.Conclusion.TheVariants.{Route, Meet}
use Rattle.mud_cert.specs.Lookup.{label_at}
use Rattle.mud_cert.specs.inner.Ways.{end_of}
use Rattle.mud_cert.specs.Valid.{States, IsMember, GoesTo, Agrees}
use Rattle.mud_cert.specs.Laws.{ValidIsOptimal}
use Rattle.mud_cert.proofs.Members.{stated-steps, stated-end}
use Rattle.mud_cert.proofs.Conclusions.{Labels, Below, gathered-all, gathers-from, costless}

-- a given walk has the label of the room where it ends
stated-label : (w : State) → IsSound w → (form : Form) (m : Account) → IsMember w form m
    → (to : ℕ) (ss : List Step) → States w m to ss
    → label_at m to ≡ Some (total (hop_of form) ss)
stated-label w sound form m i to ss states = go i.walk
  where
    go : (m.walk ≡ None)
        ⊎ ((r : ℕ) × (ts : List Step) × States w m r ts × (label_at m r ≡ Some (total (hop_of form) ts)))
        → label_at m to ≡ Some (total (hop_of form) ss)
    go (inl none) = absurd (let bad : None ≡ Some (exits_of ss) = sym none ∙ states.stated in cc)
    go (inr (r, ts, other, label)) =
        let same : ts ≡ ss = sym (stated-steps w sound m (exits_of ts) r ts other.stated other)
        ∙ stated-steps w sound m (exits_of ts) to ss other.stated states in
        let ends : r ≡ to = sym (stated-end w sound m r ts other) ∙ ap (end_of m.from) same
        ∙ stated-end w sound m to ss states in
        ap (label_at m) (sym ends) ∙ label ∙ ap (λ (xs : List Step). Some (total (hop_of form) xs)) same

-- and is a least one
stated-least : (w : State) → IsSound w → (form : Form) (m : Account) → IsMember w form m
    → (to : ℕ) (ss : List Step) → States w m to ss
    → IsLeast (hop_of form) (roads_of w m.player) m.from to (total (hop_of form) ss)
stated-least w sound form m i to ss states =
    (valid_is_least (hop_of form) (roads_of w m.player) m.from (label_at m) i.labels).0 to ss states.walk
    (stated-label w sound form m i to ss states)

-- the label of the end of a given walk is the least one
goes-least : (w : State) → IsSound w → (form : Form) (m : Account) → IsMember w form m → (to : ℕ) (l : Label)
    → GoesTo w (Some to) m → label_at m to ≡ Some l
    → Least (hop_of form) (roads_of w m.player) m.from to (Some l)
goes-least w sound form m i to l (ss, states) e =
    let both : Some (total (hop_of form) ss) ≡ Some l = sym (stated-label w sound form m i to ss states) ∙ e in
    let same : total (hop_of form) ss ≡ l = cc in
    subst (λ (x : Label). IsLeast (hop_of form) (roads_of w m.player) m.from to x) same
    (stated-least w sound form m i to ss states)

-- the least label of a labelled room is its label, and a room with a walk has a label
record Labelled (m : Account) (to : ℕ) (least : Label) : Type 0 where
  label : Label
  there : label_at m to ≡ Some label
  below : label.cost ≤ least.cost

labelled : (w : State) (form : Form) (m : Account) → IsMember w form m → (to : ℕ) (l : Label)
    → IsLeast (hop_of form) (roads_of w m.player) m.from to l → Labelled m to l
labelled w form m i to l least =
    let r : Reaches (label_at m) to (total (hop_of form) least.walked.0) = walk_from_start (hop_of form)
    (roads_of w m.player) m.from (label_at m) i.labels least.walked.0 to least.walked.1 in
    let same : (total (hop_of form) least.walked.0).cost ≡ l.cost = ap (λ (x : Label). x.cost) least.walked.2 in
    record { label = r.0; there = r.1; below = omega (arith, r.2.0, same) }

-- the least labels of a room for all members are at most the claimed ones
below : (w : State) (form : Form) (ms : List Account) (r c : ℕ) → All (IsMember w form) ms
    → Gathers (λ m. Least (hop_of form) (roads_of w m.player) m.from) ms r c → All (Below r c) ms
below w form ms r c are g = λ i d lt.
    let has = g.all i d lt in
    let k = labelled w form (get_or ms i d) (are i d lt) r has.0 has.1 in
    (k.label, k.there, omega (arith, k.below, has.2))

some-of : (w : State) (hop : ℕ) (ms : List Account) (r c : ℕ)
    → Gathers (λ m. Least hop (roads_of w m.player) m.from) ms r c → 0 < length ms
some-of w hop ms r c g = let one = g.one in omega (arith, one.2)

agrees : (w : State) → IsSound w → (form : Form) (ms : List Account) (k : Conclusion)
    → All (IsMember w form) ms → Agrees w Labels ms k
    → Agrees w (λ m. Least (hop_of form) (roads_of w m.player) m.from) ms k
agrees w sound form ms (Route to (Some cost)) are v = (
  v.0,
  v.1,
  λ i d lt.
      let m : Account = get_or ms i d in
      let goes : GoesTo w (Some to) m = v.1 i d lt in
      let has = v.2 i d lt in
      let label = stated-label w sound form m (are i d lt) to goes.0 goes.1 in (
        Some (total (hop_of form) goes.0),
        stated-least w sound form m (are i d lt) to goes.0 goes.1,
        ap (option_map (λ (l : Label). l.cost)) (sym label ∙ has.1) ∙ has.2,
      ),
)
agrees w sound form ms (Route to None) are v = (
  v.0,
  v.1,
  λ i d lt.
      let m : Account = get_or ms i d in
      let has = v.2 i d lt in
      let none : label_at m to ≡ None = has.1 ∙ costless has.0 has.2 in (
        None,
        (valid_is_least (hop_of form) (roads_of w m.player) m.from (label_at m) (are i d lt).labels).1 to none,
        refl,
      ),
)
agrees w sound form ms (Meet (Some meeting)) are v = (
  v.0,
  record {
    gathers = record {
      all = λ i d lt.
          let has = v.1.gathers.all i d lt in
          (has.0, goes-least w sound form (get_or ms i d) (are i d lt) room has.0 (v.0 i d lt) has.1, has.2);
      one =
          let (k, x, lt, e, (l, label, costs)) = v.1.gathers.one in
          let member : IsMember w form x = subst (IsMember w form) e (are k x lt) in
          let goes : GoesTo w (Some room) x = subst (GoesTo w (Some room)) e (v.0 k x lt) in
          (k, x, lt, e, (l, goes-least w sound form x member room l goes label, costs));
    };
    best = λ r c g.
        let found = gathered-all ms r 0 c (omega arith) (below w form ms r c are g) in
        let there = gathers-from ms r found.0 (some-of w (hop_of form) ms r c g) found.1 in
        later found.0 c r (v.1.best r found.0 there) found.2;
  },
)
  where
    room : ℕ
    room = meeting.room

    later : (found c r : ℕ) → (meeting.cost < found) ⊎ ((meeting.cost ≡ found) × (room ≤ r)) → found ≤ c
        → (meeting.cost < c) ⊎ ((meeting.cost ≡ c) × (room ≤ r))
    later found c r (inl lt) h = inl (omega (arith, lt, h))
    later found c r (inr (e, le)) h =
        elim (cases_lt meeting.cost c) [ inl lt ↦ inl lt | inr ge ↦ inr (omega (arith, e, h, ge), le) ]
agrees w sound form ms (Meet None) are v = (
  v.0,
  λ r c g.
      let found = gathered-all ms r 0 c (omega arith) (below w form ms r c are g) in
      v.1 r found.0 (gathers-from ms r found.0 (some-of w (hop_of form) ms r c g) found.1),
)

pub valid_is_optimal : ValidIsOptimal
valid_is_optimal w sound c is v = record {
  conclusion = agrees w sound c.form c.members c.conclusion v.members v.conclusion;
  members = λ i d lt.
      let m : Account = get_or c.members i d in
      let own = v.members i d lt in
      record {
        stated = λ to ss states. stated-least w sound c.form m own to ss states;
        labels = λ to ss walk. walk_from_start (hop_of c.form) (roads_of w m.player) m.from
            (label_at m) own.labels ss to walk;
      };
}
