use Rattle.std.proofs.Common.{◌≡◌, ◌+◌, ◌∙◌, ap, subst, length, arith}
use Rattle.mud_world.specs.History.{world_of}
use Rattle.mud_chron.specs.Replay.{changes_of, world_at, AreLegal}
use Rattle.mud_chain.specs.inner.Searched.{IsSearched}
use Rattle.mud_chain.proofs.Continued.{continued}
use Rattle.mud_chain.proofs.chain.chain_of.Goals as goal

pub returns-in-Ok-version_in-clause-ok : goal.returns-in-Ok-version_in-clause-ok
returns-in-Ok-version_in-clause-ok c =
    let old = c.in-Ok.kept.entries.items in
    let new = c.in-Ok-read_kept.kept.entries.items in
    let old_is : c.deref.result.now ≡ old = c.deref.ensures.value in
    let new_is : c.deref-2.result.now ≡ new = c.deref-2.ensures.value in
    let most : c.len.result ≡ length old = omega (arith, c.len.ensures, c.in-Ok.kept.entries.ok.0) in
    let end = c.in-Ok-replay.world in
    let legal : AreLegal (changes_of old) =
    subst (λ es. AreLegal (changes_of es)) old_is c.in-Ok-replay.ensures.legal in
    let new_legal : AreLegal (changes_of new) =
    subst (λ es. AreLegal (changes_of es)) new_is c.in-Ok-version_in.ensures.legal in
    let found =
    subst (λ n. IsSearched (world_at new) end n (length new + 1) c.in-Ok-version_in.version) most
    (subst (λ es. IsSearched (world_at es) end c.len.result (length es + 1) c.in-Ok-version_in.version) new_is
    c.in-Ok-version_in.ensures.found) in
    record {
      before = old;
      after = new;
      old_kept = c.in-Ok.ensures.ok;
      new_kept = c.in-Ok-read_kept.ensures.ok;
      old_legal = legal;
      new_legal = new_legal;
      is = continued old new end c.in-Ok-version_in.version legal new_legal
          (c.in-Ok-replay.ensures.world ∙ ap (λ es. world_of (changes_of es)) old_is) found;
    }
