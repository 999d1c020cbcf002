use Rattle.std.proofs.Common.{◌≡◌, ◌≢◌, ℕ, List, ◌++◌, Option, Some, None, sym, Bor}
use Rattle.std.specs.Prelude.{MatchOption, option_map}
use Rattle.std.proofs.lemmas.Bool.Decides.{Decides-eqb}
use Rattle.std.proofs.lemmas.Slice.Eq.{strip_prefix_is}
use Rattle.mud_cert.specs.inner.Reader.{after}
use Rattle.mud_cert.proofs.Pieces.{after-none, after-front}
use Rattle.mud_cert.proofs.lines.after.Goals as goal

found : (literal bytes : List ℕ) (o : Option (Bor (List ℕ))) → MatchOption o ((rest : List ℕ) → bytes ≢ literal ++ rest)
    (λ x. bytes ≡ literal ++ x.now) → option_map (λ x. x.now) o ≡ after literal bytes
found literal bytes (Some x) h = sym (rw h (after-front literal x.now))
found literal bytes None h = sym (after-none literal bytes h)

pub returns : goal.returns
returns c = found c.args.literal.now c.args.bytes.now c.strip_prefix.result
    (strip_prefix_is Decides-eqb c.args.bytes.now c.args.literal.now c.strip_prefix.result c.strip_prefix.ensures.cases)
