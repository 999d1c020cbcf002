-- The state, the notices and the answers of a desk, by their parts.
use Rattle.std.specs.Prelude.{◌≡◌, ◌≤◌, ℕ, List, [], ◌∷◌, ◌++◌, length, take, drop, codes, Bool, if◌then◌else◌}
use Rattle.std.specs.Prelude.{Option, Some, None, IsSomeAnd, IfSome, IsTrue}
use Rattle.std.specs.Option.{option_map, option_and_then, option_to_list}
use Rattle.mud_world.specs.State.{State, is_player}
use Rattle.mud_rules.specs.HeardLine.{heard_line, notice_text}
use Rattle.mud_rules.specs.declared.verdict.Verdict.{Verdict}
use Rattle.mud_rules.specs.declared.verdict.Verdict.TheVariants.{Ask}
use Rattle.mud_rules.specs.declared.verdict.Query.TheVariants.{History}
use Rattle.mud_roads.specs.Passable.{Knowledge, IsTraveller, IsFollower}
use Rattle.mud_world.specs.declared.limits.TheConstants.{MOST_ENTRIES}
use Rattle.mud_guide.specs.declared.answer.Answer.{Answer}
use Rattle.mud_chron.specs.Entry.{Entry}
use Rattle.mud_cert.specs.Certificate.{Certificate}
use Rattle.mud_cert.specs.Text.{cert_text}
use Rattle.mud_hall.specs.Notices.{world_after, notices}
use Rattle.mud_hall.specs.Desk.{DeskState}
use Rattle.mud_hall.specs.declared.desk.Inner.{Inner}
use Rattle.mud_hall.specs.Answers.{answer_shown, Shows}
use Rattle.mud_row.specs.Known.{Standing}

-- a line, if it is told
abbrev pub if_told : Bool → List ℕ → List (List ℕ)
if_told told line = if told then line ∷ [] else []

-- the notice of change n, if its line is heard
abbrev pub notice_of : ℕ → Option (List ℕ) → List (List ℕ)
notice_of n line = option_to_list (option_map (notice_text n) line)

-- the notice of an entry for a player, if the player hears it; it would be entry n, and w is the world before it
abbrev pub notice_in : Option ℕ → ℕ → State → Entry → List (List ℕ)
notice_in player n w e = notice_of n (option_and_then (heard_line w e.change) player)

-- the desk after it saw these entries and got their notices
abbrev pub took_in : DeskState → List Entry → DeskState
took_in s entries = record s { seen = s.seen ++ entries; told = s.told ++ notices s.player s.seen entries }

-- the text is that of the certificate; its last line has no end
abbrev pub TellsProof : Option Certificate → List ℕ → Type 0
TellsProof cert text = IsSomeAnd cert (λ c. text ++ codes "\n" ≡ codes "proof\n" ++ cert_text c)

-- the player, if there is one, is one of this world
abbrev pub IsSeated : State → Option ℕ → Type 0
IsSeated w player = IfSome player (λ p. IsTrue (is_player w p))

-- the state of a desk with this replica; it also has notices of entries that its world has not applied yet
abbrev pub state_of : ℕ → Option ℕ → Standing → List ℕ → List (List ℕ) → DeskState
state_of number player r calls stored = record {
  number = number;
  player = player;
  seen = r.list;
  calls = calls;
  told = stored ++ notices player (take r.at r.list) (drop r.at r.list);
}

-- the boxed parts of a new desk with this replica
pub record IsUnused (r : Standing) (inner : Inner) : Type 0 where
  pub replica : inner.replica ≡ r
  pub calls : inner.calls.items ≡ []
  pub told : inner.told.items ≡ []
  pub traveller : inner.traveller ≡ None

-- the answer in a world at its version, which does not depend on the entries before it; there is none to the question
-- for those
abbrev pub IsResponse : State → ℕ → Option ℕ → Verdict → Option Answer → Type 0
IsResponse w v player verdict None = verdict ≡ Ask History
IsResponse w v player verdict (Some a) =
    (a.version ≡ v)
    × ((h : List Entry) → w ≡ world_after h → v ≡ length h → Shows h player verdict (answer_shown a))

-- the traveller is this player of this world
abbrev pub Travels : State → ℕ → Knowledge → Type 0
Travels w p t = IsTraveller w t × (t.player ≡ p)

-- the context of an answer: a world's version, a player of it or none, and a traveller that follows it, if one is known
pub record IsSight (w : State) (v : ℕ) (player : Option ℕ) (t : Option Knowledge) : Type 0 where
  pub few : v ≤ MOST_ENTRIES
  pub seated : IfSome player (λ p. IsTrue (is_player w p))
  pub known : IfSome t (IsFollower w)
