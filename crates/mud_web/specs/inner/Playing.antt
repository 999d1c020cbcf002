-- The answer to a request to play, from its fields.
use Rattle.std.specs.Prelude.{◌≡◌, ◌≢◌, ℕ, true, List, [], ◌∷◌, codes}
use Rattle.websocket.specs.Headers.{Fields}
use Rattle.websocket.specs.Handshake.{accept_key_of}
use Rattle.mud_web.specs.declared.asking.Asked.{Asked}
use Rattle.mud_web.specs.declared.asking.Asked.TheVariants.{More, Page, Refused}
use Rattle.mud_web.specs.declared.asking.Besides.{Besides}
use Rattle.mud_web.specs.declared.refusal.Refusal.TheVariants as Status
use Rattle.mud_web.specs.Fields.{values}
use Rattle.mud_web.specs.Upgrade.{Has13, AsksKey}

-- the single field Origin has this value
abbrev pub IsFrom : Fields → (origin : List ℕ) → Type 0
IsFrom fields origin = values fields (codes "Origin") ≡ origin ∷ []

-- it upgrades with this key
abbrev pub IsUpgrade : Fields → Besides → (key : List ℕ) → Type 0
IsUpgrade fields asks key = (asks.is_get ≡ true) × (asks.version ≢ 0) × AsksKey fields key

-- the answer to a request to play
abbrev pub AnswersPlay : Fields → (origin : List ℕ) → Besides → Asked → Type 0
AnswersPlay fields origin asks More = ⊥
AnswersPlay fields origin asks Page = ⊥
AnswersPlay fields origin asks (Asked.Play accept len) =
    IsFrom fields origin × Has13 fields × ((key : List ℕ) × IsUpgrade fields asks key × (accept ≡ accept_key_of key))
    × (len ≡ asks.len)
AnswersPlay fields origin asks (Refused Status.Forbidden) = ¬ (IsFrom fields origin)
AnswersPlay fields origin asks (Refused Status.UpgradeRequired) = IsFrom fields origin × ¬ (Has13 fields)
AnswersPlay fields origin asks (Refused Status.BadRequest) =
    IsFrom fields origin × Has13 fields × ¬ ((key : List ℕ) × IsUpgrade fields asks key)
AnswersPlay fields origin asks (Refused other) = ⊥
