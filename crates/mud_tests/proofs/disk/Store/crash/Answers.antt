use Rattle.std.proofs.Common.{◌≡◌, List, ℕ, ◌++◌, subst, ap, ◌∙◌}
use Rattle.mud_journal.specs.Crash.{AreThere}
use Rattle.mud_tests.proofs.Holes.{left_of}
use Rattle.mud_tests.proofs.disk.Store.crash.Goals as goal

pub returns : goal.returns
returns c =
    let synced : List ℕ = c.args.self.now.synced.items in
    let behind : List ℕ = c.in_ok-behind.behind.items in
    let is : c.extend_from_slice.new.self.items ≡ synced ++ behind =
    c.in_ok-extend_from_slice.ensures.items
    ∙ ap (λ t. t ++ c.deref-4.result.now) (c.in_ok-bytes.ensures.items ∙ c.deref-3.ensures.value)
    ∙ ap (λ t. synced ++ t) c.deref-4.ensures.value in
    left_of c.args.self.now.is_made synced c.args.self.now.unsynced.items behind c.extend_from_slice.new.self.items
    (subst (λ w. AreThere w behind) c.deref-2.ensures.value c.in_ok-behind.ensures) is
