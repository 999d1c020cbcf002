-- The claims about one member are true.
use Rattle.std.proofs.Common.{◌≡◌, ℕ, ◌<◌, ◌⊎◌, inl, inr, false, List, [], ◌∷◌, get_or, Option, None, Some, refl, sym}
use Rattle.std.proofs.Common.{◌∙◌, ap, subst, arith}
use Rattle.std.specs.Prelude.{Contains, All, IfSome, IsTrue}
use Rattle.std.specs.Option.{option_map, option_map_or, option_and_then}
use Rattle.std.proofs.lemmas.Bool.{true≢false}
use Rattle.std.proofs.lemmas.List.Elements.{All-contains, All-cons, All-nil}
use Rattle.mud_world.specs.declared.record.Passage.{Passage}
use Rattle.mud_world.specs.Kinds.{kind_passage, is_player_kind}
use Rattle.mud_world.specs.State.{State, record_at, is_room, is_player, passage_of}
use Rattle.mud_world.specs.Sound.{IsSound}
use Rattle.mud_world.proofs.Records.{record_cases, in_bounds}
use Rattle.mud_roads.specs.declared.label.Label.{Label}
use Rattle.mud_roads.specs.declared.label.Step.{Step}
use Rattle.mud_roads.specs.Walks.{Walk, total, IsLeast, Least, IsRoute}
use Rattle.mud_roads.specs.Passable.{roads_of}
use Rattle.mud_roads.proofs.Roads.{road-at, room-below, steps-rooms, player-place}
use Rattle.mud_roads.proofs.Routes.{least-one, least_is_valid}
use Rattle.mud_cert.specs.declared.cert.Form.TheVariants.{Two}
use Rattle.mud_cert.specs.Certificate.{Account}
use Rattle.mud_cert.specs.Lookup.{label_at}
use Rattle.mud_cert.specs.inner.Labels as lookup
use Rattle.mud_cert.specs.Valid.{States, IsMember}
use Rattle.mud_cert.proofs.Lookups.{label-found, label-missing}
use Rattle.mud_guide.specs.inner.Arrivals.{Labelled}
use Rattle.mud_guide.specs.Ways.{exits_of, IsWayTo}
use Rattle.mud_guide.specs.Legs.{Leg, IsLeg}
use Rattle.mud_guide.specs.Accounts.{AreLeastLabels, IsAccountOf}
use Rattle.mud_guide.specs.inner.Listings.{IsInside, IsListed}
use Rattle.mud_guide.proofs.Totals.{route_is_least}

-- ---- numbers and rooms
player-below : (w : State) → IsSound w → (p : ℕ) → IsTrue (is_player w p) → p < w.next
player-below w sound p is =
    record_cases (record_at w p)
    (λ e. absurd (true≢false (sym is ∙ ap (λ v. option_map_or (λ r. is_player_kind r.kind) v false) e)))
    (λ r e. (in_bounds 0 w.next p r w.objects sound.rising e).1)

exit-below : (w : State) → IsSound w → (n : ℕ) (a : Passage) → passage_of w n ≡ Some a → n < w.next
exit-below w sound n a is =
    record_cases (record_at w n)
    (λ e. let bad : None ≡ Some a = sym (ap (option_and_then (λ r. kind_passage r.kind)) e) ∙ is in absurd (cc))
    (λ r e. (in_bounds 0 w.next n r w.objects sound.rising e).1)

-- the ends of the exit of a step
abbrev pub ends_of : ℕ → Step → Passage
ends_of from s = record { source = from; destination = s.to; cost = s.cost }

walk-exits : (w : State) → IsSound w → (p from to : ℕ) (ss : List Step) → Walk (roads_of w p) from ss to
    → All (λ s. s.exit < w.next) ss
walk-exits w sound p from to [] e = All-nil (λ (s : Step). s.exit < w.next)
walk-exits w sound p from to (s ∷ ss) (c, rest) =
    All-cons (λ (s : Step). s.exit < w.next) s ss
    (exit-below w sound s.exit (ends_of from s) (road-at w sound p from s c).0)
    (walk-exits w sound p s.to to ss rest)

-- a walk from a room ends at a room
pub walk-room : (w : State) → IsSound w → (p from to : ℕ) (ss : List Step) → IsTrue (is_room w from)
    → Walk (roads_of w p) from ss to → IsTrue (is_room w to)
walk-room w sound p from to [] is e = subst (λ (r : ℕ). IsTrue (is_room w r)) e is
walk-room w sound p from to (s ∷ ss) is (c, rest) =
    walk-room w sound p s.to to ss (steps-rooms w sound p from s c).1 rest

-- the numbers of a leg are those of objects
pub leg-inside : (w : State) → IsSound w → (p : ℕ) → IsTrue (is_player w p) → (to : Option ℕ) (j : Leg)
    → IsLeg w to p j → IsInside w.next j
leg-inside w sound p player to j is = record {
  player = omega (arith, is.player, player-below w sound p player);
  from = room-below w sound j.from (player-place w sound p j.from player is.from);
  exits = go to j.way is.way;
}
  where
    go : (to : Option ℕ) (way : Option (List Step)) → IsWayTo (roads_of w p) j.from to way
        → IfSome way (All (λ s. s.exit < w.next))
    go None None e = tt
    go None (Some ss) e = absurd (cc)
    go (Some r) None e = tt
    go (Some r) (Some ss) e = walk-exits w sound p j.from r ss (route_is_least (roads_of w p) j.from r ss e).0

-- ---- one member
module _ (w : State) (sound : IsSound w) (p : ℕ) (player : IsTrue (is_player w p)) (to : Option ℕ)
    (j : Leg) (goes : IsLeg w to p j)
    (labels : ℕ → Option Label) (least : Labelled (roads_of w p) j.from labels) (a : Account)
    (listed : IsListed labels w.next j a) where
  stands : IsTrue (is_room w j.from)
  stands = player-place w sound p j.from player goes.from

  label-least : (room : ℕ) (l : Label) → labels room ≡ Some l → IsLeast 1 (roads_of w p) j.from room l
  label-least room l e =
      let P : Option Label → Type 0 = λ o. Least 1 (roads_of w p) j.from room o in
      subst P e (least room)

  label-room : (room : ℕ) (l : Label) → labels room ≡ Some l → IsTrue (is_room w room)
  label-room room l e = let is = label-least room l e in walk-room w sound p j.from room is.walked.0 stands is.walked.1

  label-below : (room : ℕ) (l : Label) → labels room ≡ Some l → room < w.next
  label-below room l e = room-below w sound room (label-room room l e)

  contained : (room : ℕ) (l : Label) → Contains a.labels (room, l) → labels room ≡ Some l
  contained room l c =
      let P : ℕ × Label → Type 0 = λ e. (e.0 < w.next) × (labels e.0 ≡ Some e.1) in
      (All-contains P a.labels (room, l) listed.entries.inside c).1

  least-labels : AreLeastLabels (roads_of w p) j.from a.labels
  least-labels = record {
    rising = listed.entries.rising;
    least = λ room l. (
      λ c. label-least room l (contained room l c),
      λ is.
          let e = least-one 1 (roads_of w p) j.from room (labels room) l (least room) is in
          listed.entries.whole room l (label-below room l e) e,
    );
  }

  pub account : IsAccountOf w j a
  account =
      let P : ℕ → Type 0 = λ q. AreLeastLabels (roads_of w q) j.from a.labels in
      record {
        goes = record { player = listed.player; from = listed.from; walk = listed.walk };
        labels = subst P (sym goes.player) least-labels;
      }

  -- the certificate has the labels
  pub found : (room : ℕ) → label_at a room ≡ labels room
  found room = go (labels room) refl
    where
      go : (o : Option Label) → labels room ≡ o → lookup.label_in a.labels room ≡ o
      go (Some l) e =
          let c = listed.entries.whole room l (label-below room l e) e in
          let pair : ℕ × Label = (room, l) in
          let same : get_or a.labels c.0 pair ≡ pair = c.2 in
          label-found a.labels room c.0 pair listed.entries.rising c.1 (ap (λ (x : ℕ × Label). x.0) same)
          ∙ ap (λ (x : ℕ × Label). Some x.1) same
      go None e = label-missing a.labels room (λ i d lt same.
          let at = listed.entries.inside i d lt in
          let bad : Some (get_or a.labels i d).1 ≡ None = sym at.1 ∙ ap labels same ∙ e in
          cc)

  -- the claims about the player and its place
  abbrev own : Account
  own = record { player = p; from = j.from; labels = a.labels; walk = option_map exits_of j.way }

  own-is : own ≡ a
  own-is =
      let one : ℕ → Account =
      λ q. record { player = q; from = j.from; labels = a.labels; walk = option_map exits_of j.way } in
      let two : ℕ → Account =
      λ f. record { player = a.player; from = f; labels = a.labels; walk = option_map exits_of j.way } in
      let three : Option (List ℕ) → Account =
      λ k. record { player = a.player; from = a.from; labels = a.labels; walk = k } in
      ap one (sym goes.player ∙ sym listed.player) ∙ ap two (sym listed.from) ∙ ap three (sym listed.walk)

  -- the way leads to the target, and its label is that of the room
  abbrev Fits : Account → ℕ → List Step → Type 0
  Fits m r ss = States w m r ss × (label_at m r ≡ Some (total 1 ss))

  fits : (r : ℕ) (ss : List Step) → j.way ≡ Some ss → IsRoute 1 (roads_of w p) j.from r ss → Fits own r ss
  fits r ss way route =
      let is = route_is_least (roads_of w p) j.from r ss route in (
        record { stated = ap (option_map exits_of) way; walk = is.0 },
        found r ∙ least-one 1 (roads_of w p) j.from r (labels r) (total 1 ss) (least r) is.1,
      )

  way-walk : (to : Option ℕ) (way : Option (List Step)) → j.way ≡ way → IsWayTo (roads_of w p) j.from to way
      → (own.walk ≡ None) ⊎ ((r : ℕ) × (ss : List Step) × States w own r ss × (label_at own r ≡ Some (total 1 ss)))
  way-walk None None way e = inl (ap (option_map exits_of) way)
  way-walk None (Some ss) way e = absurd (cc)
  way-walk (Some r) None way e = inl (ap (option_map exits_of) way)
  way-walk (Some r) (Some ss) way e = let f = fits r ss way e in inr (r, ss, f.0, f.1)

  pub valid : IsMember w Two a
  valid =
      let known : (room : ℕ) → Least 1 (roads_of w p) j.from room (label_at own room) = λ room.
      let P : Option Label → Type 0 = λ o. Least 1 (roads_of w p) j.from room o in
      subst P (sym (found room)) (least room) in
      subst (IsMember w Two) own-is (record {
        player = player;
        place = goes.from;
        rooms = λ k d h. label-room (get_or a.labels k d).0 (get_or a.labels k d).1 (listed.entries.inside k d h).1;
        labels = least_is_valid 1 (roads_of w p) j.from (label_at own) known;
        walk = way-walk to j.way refl goes.way;
      })

  -- the walk ends there, and its label is that of the room
  pub arrives : (r : ℕ) (ss : List Step) → to ≡ Some r → j.way ≡ Some ss → States w a r ss
      × (label_at a r ≡ Some (total 1 ss))
  arrives r ss there way =
      let P : Option ℕ → Option (List Step) → Type 0 = λ o v. IsWayTo (roads_of w p) j.from o v in
      let route : IsRoute 1 (roads_of w p) j.from r ss =
      subst (P (Some r)) way (subst (λ (o : Option ℕ). P o j.way) there goes.way) in
      subst (λ (m : Account). Fits m r ss) own-is (fits r ss way route)

  -- without a way there is no walk
  pub stays : j.way ≡ None → a.walk ≡ None
  stays e = listed.walk ∙ ap (option_map exits_of) e
