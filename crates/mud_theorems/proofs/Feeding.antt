-- The input and output at a desk, and the transcripts of all.
use Rattle.std.proofs.Common.{◌≡◌, ◌⊎◌, inl, inr, ℕ, Bool, true, false, List, [], ◌∷◌, ◌++◌, Some, map}
use Rattle.std.proofs.Common.{refl, sym, ◌∙◌, ap, subst}
use Rattle.std.specs.Prelude.{All}
use Rattle.std.specs.List.{AllZip}
use Rattle.std.proofs.lemmas.List.Elements.{All-nil, All-cons}
use Rattle.mud_chron.specs.Entry.{Entry}
use Rattle.mud_hall.specs.Desk.{DeskState, View, TakesIn, IsNew}
use Rattle.mud_hall.specs.Settlement.{IsSettled}
use Rattle.mud_hall.specs.Steps.{PerformsAll}
use Rattle.mud_session.specs.Session.{Turn, Plays, is_over, text_of}
use Rattle.mud_session.specs.State.{SessionState, DoorState}
use Rattle.mud_session.specs.Feeds.{Feeds}
use Rattle.mud_session.specs.Talks.{greeting}
use Rattle.mud_session.specs.Laws.{all_calls}
use Rattle.mud_theorems.specs.declared.transcript.Transcript.{Transcript}
use Rattle.mud_theorems.specs.Runs.{Work, IsWork}
use Rattle.mud_theorems.specs.Transcripts.{IsTranscript, ArePlayed}
use Rattle.mud_theorems.specs.Laws.{ThreadsMakeRuns}
use Rattle.mud_theorems.specs.inner.Played.{HasPlayed}

-- the law that turns are calls
abbrev pub TurnsAreCalls : Type 0
TurnsAreCalls =
    (capacity : ℕ) (old new : DeskState) (turns : List Turn) → Plays TakesIn capacity old turns new
    → PerformsAll capacity old (all_calls turns) new

-- all was played, or all up to an answered `quit`
whole : (old new : SessionState) (was is : DoorState) (typed : List ℕ) → (f : Feeds TakesIn [] typed old new was is)
    → (f.play.left ≡ []) ⊎ (is_over f.play.turns ≡ true)
whole old new was is typed f = go new.has_ended refl
  where
    go : (b : Bool) → new.has_ended ≡ b → (f.play.left ≡ []) ⊎ (is_over f.play.turns ≡ true)
    go true ended = inr (sym f.ended ∙ ended)
    go false ended = inl (f.all ended)

-- a session that has greeted plays the input at a new desk
pub has_played : TurnsAreCalls → (capacity : ℕ) (loaded : List Entry) (old new : SessionState) (was is : DoorState)
    (t : Transcript) → was.capacity ≡ capacity → IsNew loaded was.desk → old.out ≡ greeting
    → Feeds TakesIn [] t.typed.items old new was is → t.sent.items ≡ new.out → HasPlayed capacity loaded is.desk t
has_played law capacity loaded old new was is t same fresh greets f sent =
    let plays : Plays TakesIn capacity was.desk f.play.turns is.desk =
    subst (λ (n : ℕ). Plays TakesIn n was.desk f.play.turns is.desk) same f.play.plays in
    record {
      work = record { first = was.desk; calls = all_calls f.play.turns; desk = is.desk };
      desk_is = refl;
      is = record { new = fresh; does = law capacity was.desk is.desk f.play.turns plays };
      transcript = record {
        play = record {
          turns = f.play.turns;
          left = f.play.left;
          units_are = ap (map Some) f.units ∙ f.play.units_are;
          plays = plays;
        };
        done = whole old new was is t.typed.items f;
        calls = refl;
        says = sent ∙ f.out ∙ ap (λ (text : List ℕ). text ++ text_of f.play.turns) greets;
      };
    }

-- ---- all transcripts

-- the works behind the transcripts of these desks
record Behind (capacity : ℕ) (loaded : List Entry) (desks : List View) (ts : List Transcript) : Type 0 where
  works : List Work
  are : map (λ d. d.state) desks ≡ map (λ w. w.desk) works
  all : All (IsWork capacity loaded) works
  each : AllZip (IsTranscript capacity) works ts

behind : (capacity : ℕ) (loaded : List Entry) (desks : List View) (ts : List Transcript)
    → AllZip (λ d t. HasPlayed capacity loaded d.state t) desks ts → Behind capacity loaded desks ts
behind capacity loaded [] [] z = record { works = []; are = refl; all = All-nil (IsWork capacity loaded); each = tt }
behind capacity loaded [] (t ∷ ts) z = absurd z
behind capacity loaded (d ∷ ds) [] z = absurd z
behind capacity loaded (d ∷ ds) (t ∷ ts) (one, more) =
    let rest = behind capacity loaded ds ts more in
    record {
      works = one.work ∷ rest.works;
      are = ap (λ (s : DeskState). s ∷ map (λ (x : View). x.state) ds) (sym one.desk_is)
          ∙ ap (λ (l : List DeskState). one.work.desk ∷ l) rest.are;
      all = All-cons (IsWork capacity loaded) one.work rest.works one.is rest.all;
      each = (one.transcript, rest.each);
    }

pub all_played : ThreadsMakeRuns → (capacity : ℕ) (loaded history : List Entry) (desks : List View)
    (ts : List Transcript) → IsSettled loaded desks history
    → AllZip (λ d t. HasPlayed capacity loaded d.state t) desks ts → ArePlayed capacity loaded history ts
all_played law capacity loaded history desks ts settled z =
    let b = behind capacity loaded desks ts z in
    record {
      works = b.works;
      run = (law capacity loaded history desks b.works settled b.are b.all).0;
      each = b.each;
    }
