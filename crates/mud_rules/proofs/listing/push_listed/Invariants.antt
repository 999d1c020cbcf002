use Rattle.std.proofs.Common.{◌≡◌, ◌++◌, drop}
use Rattle.std.specs.Prelude.{codes, filter, if◌then◌else◌, not, string_bytes}
use Rattle.mud_world.specs.State.{is_number}
use Rattle.mud_rules.specs.inner.ObjectLists.{listed_after}
use Rattle.mud_rules.proofs.listing.push_listed.Given as goal

-- the list so far, and the rest of the numbers, make up the whole
abbrev pub invariant-loop-number : goal.invariant-loop-number
invariant-loop-number l =
    string_bytes l.text
    ++ listed_after (if l.is_first then l.heading else codes ", ") l.world
    (filter (λ o. not (is_number o l.player)) (drop l.number-index l.numbers))
    ≡ string_bytes l.fn.text ++ listed_after l.heading l.world (filter (λ o. not (is_number o l.player)) l.numbers)
