-- Lines of text formats, such as histories and proofs.
use Rattle.std.specs.Prelude.{◌≢◌, ℕ, List, All}
use Rattle.mud_key.specs.declared.codes.TheConstants.{LF}

-- bytes without a line feed
abbrev pub HasNoLineFeed : List ℕ → Type 0
HasNoLineFeed bytes = All (λ b. b ≢ LF) bytes
