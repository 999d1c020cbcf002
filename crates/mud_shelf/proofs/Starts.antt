-- The volume that a start continues.
use Rattle.std.proofs.Common.{◌≡◌, ◌≢◌, ◌<◌, ℕ, List, Option, Some, None, IfSome, MatchOption}
use Rattle.std.proofs.Common.{refl, sym, subst, arith}
use Rattle.std.specs.Prelude.{Contains, unwrap_or}
use Rattle.mud_shelf.specs.Names.{IsVolume, volume_name, HasVolume, IsLatest}
use Rattle.mud_shelf.specs.Turn.{Folder, IsCurrent}

-- a file that is not missed by the names is not there if no name is a volume's
not_there : (o : Option (List ℕ)) → ((o ≢ None) → ⊥) → o ≡ None
not_there None some = refl
not_there (Some b) some = absurd (some (λ is. absurd (cc)))

-- the highest number among the names, or 1
current_of : (journal : List ℕ) (names : List (List ℕ)) (folder : Folder) (latest : Option ℕ) (number : ℕ)
    → ((n : ℕ) → IsVolume n → folder (volume_name journal n) ≢ None → HasVolume journal names n)
    → ((name : List ℕ) → Contains names name → folder name ≢ None)
    → MatchOption latest ((n : ℕ) → ¬ HasVolume journal names n) (IsLatest journal names)
    → number ≡ unwrap_or latest 1 → IsCurrent journal folder number
current_of journal names folder None number all only none is = record {
  volume = subst IsVolume (sym is) (omega arith, omega arith);
  highest = λ m more volume. not_there (folder (volume_name journal m)) (λ there. none m (all m volume there));
  there = λ missing. is;
}
current_of journal names folder (Some n) number all only latest is = record {
  volume = subst IsVolume (sym is) latest.there.0;
  highest = λ m more volume. not_there (folder (volume_name journal m))
      (λ there. latest.highest m (subst (λ k. k < m) is more) (all m volume there));
  there = λ missing. absurd (only (volume_name journal n) latest.there.1
      (subst (λ k. folder (volume_name journal k) ≡ None) is missing));
}

pub current : (files : Option Folder) (journal : List ℕ) (names : List (List ℕ)) (latest : Option ℕ) (number : ℕ)
    → IfSome files (λ folder. (n : ℕ) → IsVolume n → folder (volume_name journal n) ≢ None → HasVolume journal names n)
    → IfSome files (λ folder. (name : List ℕ) → Contains names name → folder name ≢ None)
    → MatchOption latest ((n : ℕ) → ¬ HasVolume journal names n) (IsLatest journal names)
    → number ≡ unwrap_or latest 1 → IfSome files (λ folder. IsCurrent journal folder number)
current None journal names latest number all only is number_is = tt
current (Some folder) journal names latest number all only is number_is =
    current_of journal names folder latest number all only is number_is
