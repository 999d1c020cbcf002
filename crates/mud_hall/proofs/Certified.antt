-- The checker accepts the certificate of an answer.
use Rattle.std.proofs.Common.{◌≡◌, ◌≢◌, ℕ, ◌≤◌, List, length, take}
use Rattle.std.proofs.Common.{Option, None, Some, sym, ◌∙◌, ap, subst, arith}
use Rattle.std.specs.Option.{IsSomeAnd}
use Rattle.std.proofs.lemmas.List.{length-append}
use Rattle.std.proofs.lemmas.List.Elements.{All-from_recursion}
use Rattle.std.proofs.Math.Seq.{take-append_seam}
use mathlib.Core.List.{IsPrefix}
use Rattle.mud_world.specs.State.{State}
use Rattle.mud_key.specs.declared.codes.TheConstants.{CR}
use Rattle.mud_world.specs.declared.limits.TheConstants.{MOST_ENTRIES}
use Rattle.mud_chron.specs.Entry.{Entry}
use Rattle.mud_chron.specs.History.{SpellsHistory}
use Rattle.mud_chron.specs.Laws.{IsWrittenAgain, HasNoReturns}
use Rattle.mud_cert.specs.Certificate.{Certificate, IsCertificate}
use Rattle.mud_cert.specs.Text.{cert_text}
use Rattle.mud_cert.specs.TextLaws.{HasNoReturn}
use Rattle.mud_cert.specs.Valid.{IsValid, Optimal}
use Rattle.mud_cert.specs.Laws.{ValidIsOptimal}
use Rattle.mud_checker.specs.Finding.{IsHistory, without_returns}
use Rattle.mud_checker.specs.Laws.{DropsNothing}
use Rattle.mud_hall.specs.Notices.{world_after}
use Rattle.mud_hall.specs.Steps.{AreLoadable}
use Rattle.mud_hall.specs.Right.{IsAcceptedWith, IsCertified}
use Rattle.mud_hall.proofs.Worlds.{world-sound}

-- the laws of lower crates that this needs
pub record Below : Type 0 where
  pub again : IsWrittenAgain
  pub no_returns : HasNoReturns
  pub no_return : HasNoReturn
  pub drops_nothing : DropsNothing
  pub optimal : ValidIsOptimal

-- the conditions on a certificate
pub record IsGood (w : State) (v : ℕ) (c : Certificate) : Type 0 where
  pub limits : IsCertificate c
  pub version : c.version ≡ v
  pub valid : IsValid w c

-- the first entries remain the first ones
pub first_stay : (f later : List Entry) → IsPrefix f later → take (length f) later ≡ f
first_stay f later on = ap (λ (x : List Entry). take (length f) x) (sym on.1) ∙ take-append_seam f on.0

longer : (f later : List Entry) → IsPrefix f later → length f ≤ length later
longer f later on = omega (arith, ap length on.1, length-append f on.0)

accepted : Below → (f g : List Entry) (c : Certificate) → IsPrefix f g → AreLoadable MOST_ENTRIES g
    → IsGood (world_after f) (length f) c → IsAcceptedWith g c
accepted below f g c on are good =
    let same : take c.version g ≡ f = ap (λ (n : ℕ). take n g) good.version ∙ first_stay f g on in
    let best : Optimal (world_after f) c =
    below.optimal (world_after f) (world-sound f) c good.limits good.valid in
    record {
      written = (below.again g g are.each are.few).0;
      accepted = λ text spells.
          let history : IsHistory (without_returns text) g = record {
            spells = subst (λ (t : List ℕ). SpellsHistory t g)
                (sym (below.drops_nothing text
                (All-from_recursion (λ b. b ≢ CR) text (below.no_returns text g spells)))) spells;
            legal = are.legal;
          } in (
            g,
            history,
            (
              c,
              good.limits,
              below.drops_nothing (cert_text c) (below.no_return c good.limits),
              (
                omega (arith, good.version, longer f g on),
                subst (λ (x : List Entry). IsValid (world_after x) c) (sym same) good.valid,
                subst (λ (x : List Entry). Optimal (world_after x) c) (sym same) best,
              ),
            ),
          );
    }

pub certified : Below → (f : List Entry) (cert : Option Certificate)
    → IsSomeAnd cert (IsGood (world_after f) (length f)) → IsCertified f cert
certified below f None good = absurd good
certified below f (Some c) good = (good.version, λ g on are. accepted below f g c on are good)
