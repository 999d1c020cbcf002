-- The output for some bytes, and a prefix of it.
use Rattle.std.proofs.Common.{◌≡◌, ℕ, List, [], ◌++◌, take, refl, sym, ap, subst, ◌∙◌}
use Rattle.std.specs.Prelude.{Option}
use Rattle.std.specs.Io.KnownBytes.{Appends}
use Rattle.std.proofs.KnownBytes.{Appends-nil}
use Rattle.mud_session.specs.State.{SessionState, DoorState}
use Rattle.mud_session.specs.Session.{TakingIn, text_of}
use Rattle.mud_session.specs.Feeds.{Feeds}
use Rattle.mud_session.specs.inner.Service.{Serves, ServesInPart}
use Rattle.mud_session.proofs.Fresh.{fresh_units}

-- nothing was written
pub none_served : (takes_in : TakingIn) (earlier bytes : List ℕ) (door : DoorState)
    (held : Option (List ℕ)) → ServesInPart takes_in earlier bytes door held held
none_served takes_in earlier bytes door held = record {
  fresh = (fresh_units earlier bytes).0;
  units = (fresh_units earlier bytes).1;
  desk = door.desk;
  play = record { turns = []; left = (fresh_units earlier bytes).0; units_are = refl; plays = refl };
  count = 0;
  written = Appends-nil held;
}

-- the whole output of the session is written
pub all_served : (takes_in : TakingIn) (earlier bytes : List ℕ) (old mid new : SessionState)
    (old_door new_door : DoorState) (held now_held : Option (List ℕ)) (text : List ℕ) → old.out ≡ []
    → Feeds takes_in earlier bytes old mid old_door new_door → text ≡ mid.out
    → new ≡ record mid { out = [] } → new_door.capacity ≡ old_door.capacity → Appends held now_held text
    → Serves takes_in earlier bytes old new old_door new_door held now_held
all_served takes_in earlier bytes old mid new old_door new_door held now_held text none fed is after capacity written =
    subst (λ (s : SessionState). Serves takes_in earlier bytes old s old_door new_door held now_held) (sym after)
    (record {
      said = mid.out;
      feeds = fed;
      written = subst (λ (l : List ℕ). Appends held now_held l)
          (is ∙ fed.out ∙ ap (λ (l : List ℕ). l ++ text_of fed.play.turns) none) written;
      out = refl;
      capacity = capacity;
    })

-- a prefix of it is written
pub part_served : (takes_in : TakingIn) (earlier bytes : List ℕ) (old mid : SessionState)
    (old_door new_door : DoorState) (held now_held : Option (List ℕ)) (text : List ℕ) (n : ℕ) → old.out ≡ []
    → Feeds takes_in earlier bytes old mid old_door new_door → text ≡ mid.out → Appends held now_held (take n text)
    → ServesInPart takes_in earlier bytes old_door held now_held
part_served takes_in earlier bytes old mid old_door new_door held now_held text n none fed is written = record {
  fresh = fed.fresh;
  units = fed.units;
  desk = new_door.desk;
  play = fed.play;
  count = n;
  written = subst (λ (l : List ℕ). Appends held now_held (take n l))
      (is ∙ fed.out ∙ ap (λ (l : List ℕ). l ++ text_of fed.play.turns) none) written;
}
