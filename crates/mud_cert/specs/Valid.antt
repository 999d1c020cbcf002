-- Valid certificates, and optimal ones.
use Rattle.std.specs.Prelude.{◌≡◌, ◌≢◌, ℕ, ◌⊎◌, List, All, AllPairs, Option, None, Some, IsTrue, option_map}
use Rattle.mud_roads.specs.declared.label.Label.{Label}
use Rattle.mud_roads.specs.declared.label.Step.{Step}
use Rattle.mud_roads.specs.Walks.{Walk, exits_of, total, IsLeast, Least, Gathers, IsMeeting}
use Rattle.mud_roads.specs.Labels.{Reaches, AreValid}
use Rattle.mud_roads.specs.Passable.{roads_of}
use Rattle.mud_world.specs.State.{State, is_player, is_room, place_of}
use Rattle.mud_cert.specs.declared.cert.Form.{Form}
use Rattle.mud_cert.specs.declared.cert.Meeting.{Meeting}
use Rattle.mud_cert.specs.declared.cert.Conclusion.{Conclusion}
use Rattle.mud_cert.specs.declared.cert.Conclusion.TheVariants.{Route, Meet}
use Rattle.mud_cert.specs.Certificate.{Account, Certificate, hop_of}
use Rattle.mud_cert.specs.Lookup.{label_at}

-- the given walk of the member has these steps, and leads the member to the room
pub record States (w : State) (m : Account) (to : ℕ) (steps : List Step) : Type 0 where
  pub stated : m.walk ≡ Some (exits_of steps)
  pub walk : Walk (roads_of w m.player) m.from steps to

-- a player at its place; only rooms are labelled, the labels are valid, and a given walk has the label of its end
pub record IsMember (w : State) (form : Form) (m : Account) : Type 0 where
  pub player : IsTrue (is_player w m.player)
  pub place : place_of w m.player ≡ Some m.from
  pub rooms : All (λ (e : ℕ × Label). IsTrue (is_room w e.0)) m.labels
  pub labels : AreValid (hop_of form) (roads_of w m.player) m.from (label_at m)
  pub walk : (m.walk ≡ None)
      ⊎ ((to : ℕ) × (ss : List Step) × States w m to ss × (label_at m to ≡ Some (total (hop_of form) ss)))

-- a given walk leads the member to the room; if there is no room to go to, no walk is given
abbrev pub GoesTo : State → Option ℕ → Account → Type 0
GoesTo w None m = m.walk ≡ None
GoesTo w (Some to) m = (ss : List Step) × States w m to ss

-- the meeting room and its cost, or None if no room has a label for each
abbrev pub IsPlace : {A : Type 0} → (A → ℕ → Option Label → Type 0) → List A → Option Meeting → Type 0
IsPlace Has party None = (room cost : ℕ) → Gathers Has party room cost → ⊥
IsPlace Has party (Some p) = IsMeeting Has party p.room p.cost

-- the conclusion agrees with the given walks, and with each member's labels
abbrev pub Agrees : State → (Account → ℕ → Option Label → Type 0) → List Account → Conclusion → Type 0
Agrees w Has ms (Route to cost) =
    IsTrue (is_room w to) × All (GoesTo w (option_map (λ c. to) cost)) ms
    × All (λ m. (o : Option Label) × Has m to o × (option_map (λ l. l.cost) o ≡ cost)) ms
Agrees w Has ms (Meet place) = All (GoesTo w (option_map (λ p. p.room) place)) ms × IsPlace Has ms place

-- distinct members, each valid, and a conclusion that agrees with the walks and the labels
pub record IsValid (w : State) (c : Certificate) : Type 0 where
  pub distinct : AllPairs (λ (a : Account) (b : Account). a.player ≢ b.player) c.members
  pub members : All (IsMember w c.form) c.members
  pub conclusion : Agrees w (λ m room l. label_at m room ≡ l) c.members c.conclusion

-- the given walk is a least one; a room that any walk of the member reaches has a label, and it is at most the walk's
pub record IsOptimal (w : State) (hop : ℕ) (m : Account) : Type 0 where
  pub stated : (to : ℕ) (ss : List Step) → States w m to ss → IsLeast hop (roads_of w m.player) m.from to (total hop ss)
  pub labels : (to : ℕ) (ss : List Step) → Walk (roads_of w m.player) m.from ss to
      → Reaches (label_at m) to (total hop ss)

-- the conclusion agrees with the least labels, the given walks are least, and no label is above the least one
pub record Optimal (w : State) (c : Certificate) : Type 0 where
  pub conclusion : Agrees w (λ m. Least (hop_of c.form) (roads_of w m.player) m.from) c.members c.conclusion
  pub members : All (IsOptimal w (hop_of c.form)) c.members
