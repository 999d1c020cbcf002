-- Why nothing is left out, of what was chosen and of what was meant.
use Rattle.std.proofs.Common.{◌≡◌, ◌<◌, ◌⊎◌, ℕ, List, inl, get_or, refl, sym, ap, subst, arith, ⊎_elim}
use Rattle.std.specs.Prelude.{◌≤◌, All, length, Option, Some, None}
use Rattle.mud_world.specs.History.{world_of}
use Rattle.mud_chron.specs.Entry.{Entry}
use Rattle.mud_chron.specs.Replay.{changes_of}
use Rattle.mud_chron.specs.declared.fault.ChronFault.TheVariants.{OutOfMemory}
use Rattle.mud_compact.specs.declared.reading.TextKind.{TextKind}
use Rattle.mud_compact.specs.declared.reading.TextKind.TheVariants.{History, Journal}
use Rattle.mud_compact.specs.declared.fault.KeptFault.TheVariants.{Text}
use Rattle.mud_compact.specs.Answer.{KeepsLegal, KeepsNoWorld}
use Rattle.mud_undo.specs.declared.choice.Choice.{Choice}
use Rattle.mud_undo.specs.declared.choice.Choice.TheVariants.{Versions, Since}
use Rattle.mud_undo.specs.declared.answering.NoUndo.{NoUndo}
use Rattle.mud_undo.specs.declared.answering.NoUndo.TheVariants as faults
use Rattle.mud_undo.specs.Answer.{MeansVersions, MeansPlayer, MeansSince, IsNoUndo, HasNoUndo}

out_of_memory : (kind : TextKind) (bytes : List ℕ) → KeepsNoWorld kind bytes (Text OutOfMemory)
out_of_memory History bytes = inl (λ other. absurd (other refl))
out_of_memory Journal bytes = inl (λ other. absurd (other refl))

-- a fact about the choice that is meant
pub no_undo : (kind : TextKind) (bytes : List ℕ) (torn : Option ℕ) (entries : List Entry)
    (Means : List Entry → Choice → Type 0) (choice : Choice) → KeepsLegal kind bytes torn entries → Means entries choice
    → (f : NoUndo) → IsNoUndo entries (λ c. c ≡ choice) f → HasNoUndo kind bytes Means f
no_undo kind bytes torn entries Means choice keeps means (faults.History fault) is =
    subst (KeepsNoWorld kind bytes) (sym is) (out_of_memory kind bytes)
no_undo kind bytes torn entries Means choice keeps means (faults.NoChange version count) (is, range, none) =
    absurd (none choice refl)
no_undo kind bytes torn entries Means choice keeps means faults.NoPlayer none = absurd (none choice refl)
no_undo kind bytes torn entries Means choice keeps means (faults.StandsOn version) (other, same, stands) =
    (entries, torn, keeps, (other, subst (Means entries) (sym same) means, stands))
no_undo kind bytes torn entries Means choice keeps means faults.TooLong (other, same, long) =
    (entries, torn, keeps, (other, subst (Means entries) (sym same) means, long))

-- versions that are meant are those of changes
pub means_all : (versions : List ℕ) (entries : List Entry) (choice : Choice) → MeansVersions versions entries choice
    → All (λ v. (1 ≤ v) × (v ≤ length entries)) versions
means_all versions entries (Versions chosen) means = means.1
means_all versions entries (Since first actor) means = absurd means

-- equal versions and counts have equal facts
pub all_within : (xs ys : List ℕ) (m n : ℕ) → xs ≡ ys → m ≡ n → All (λ v. (1 ≤ v) × (v ≤ m)) xs
    → All (λ v. (1 ≤ v) × (v ≤ n)) ys
all_within xs ys m n same count all =
    subst (λ k. All (λ v. (1 ≤ v) × (v ≤ k)) ys) count (subst (λ l. All (λ v. (1 ≤ v) × (v ≤ m)) l) same all)

-- the meaning of a word for a player, if there is one
pub since_by : (first : ℕ) (by : Option (List ℕ)) (word : List ℕ) (entries : List Entry) (actor : Option ℕ) (p : ℕ)
    → by ≡ Some word → actor ≡ Some p → MeansPlayer (world_of (changes_of entries)) word p
    → MeansSince first by entries (Since first actor)
since_by first by word entries actor p is same means =
    subst (λ b. MeansSince first b entries (Since first actor)) (sym is) (p, means, ap (Since first) same)

pub since_all : (first : ℕ) (by : Option (List ℕ)) (entries : List Entry) (actor : Option ℕ) → by ≡ None → actor ≡ None
    → MeansSince first by entries (Since first actor)
since_all first by entries actor is same =
    subst (λ b. MeansSince first b entries (Since first actor)) (sym is) (ap (Since first) same)

-- not all versions are those of changes
pub missing : (versions : List ℕ) (count i : ℕ) → i < length versions
    → (get_or versions i 0 ≡ 0) ⊎ (count < get_or versions i 0) → All (λ v. (1 ≤ v) × (v ≤ count)) versions → ⊥
missing versions count i less either all =
    let within = all i 0 less in
    ⊎_elim (λ (none : get_or versions i 0 ≡ 0). absurd (omega (arith, none, within)))
    (λ (over : count < get_or versions i 0). absurd (omega (arith, over, within))) either
