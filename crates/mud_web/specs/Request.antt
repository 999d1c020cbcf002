-- The meaning of a request's head (RFC 6455, section 4.2, and RFC 9110).
use Rattle.std.specs.Prelude.{◌≡◌, ◌≢◌, ◌⊎◌, ◌≤◌, ◌<◌, ℕ, List, [], ◌∷◌, length, drop, map, codes}
use Rattle.httparse.specs.Grammar.{RequestHead, print_request, ReadsRequest, NeverHasRequest, MayBecomeRequest}
use Rattle.httparse.specs.Spans.{name_and_value, RequestExceeds}
use Rattle.websocket.specs.Headers.{Fields}
use Rattle.websocket.specs.Handshake.{accept_key_of}
use Rattle.mud_web.specs.Fields.{values}
use Rattle.mud_web.specs.Targets.{IsHost, IsSite, Names}
use Rattle.mud_web.specs.Upgrade.{Has13, AsksKey}
use Rattle.mud_web.specs.declared.asking.TheConstants.{MOST_HEAD, MOST_FIELDS}
use Rattle.mud_web.specs.declared.asking.Asked.{Asked}
use Rattle.mud_web.specs.declared.asking.Asked.TheVariants.{More, Page, Play, Refused}
use Rattle.mud_web.specs.declared.refusal.Refusal.TheVariants as Status

-- the names and values of a head's fields; each value is trimmed
abbrev pub fields_of : RequestHead → Fields
fields_of head = map name_and_value head.fields

-- exactly one field is named Origin, and its value is this origin
abbrev pub ComesFrom : RequestHead → (origin : List ℕ) → Type 0
ComesFrom head origin = values (fields_of head) (codes "Origin") ≡ origin ∷ []

-- it upgrades to a web socket with this key
pub record Upgrades (head : RequestHead) (key : List ℕ) : Type 0 where
  pub get : head.method ≡ codes "GET"
  pub version : head.minor ≢ 0
  pub asks : AsksKey (fields_of head) key

-- the head is within the limits on its length and on the number of its fields
abbrev pub IsSmall : RequestHead → Type 0
IsSmall head = (length (print_request head) ≤ MOST_HEAD) × (length head.fields ≤ MOST_FIELDS)

-- a method that only reads: GET, or HEAD, which is answered like GET but without a body (RFC 9110, section 9.3.2)
abbrev pub IsRead : (method : List ℕ) → Type 0
IsRead method = (method ≡ codes "GET") ⊎ (method ≡ codes "HEAD")

-- exactly one field is named Host, and it has the form of a host; HTTP/1.0 may leave it out (RFC 9112, 3.2)
abbrev pub HasHost : (minor : ℕ) → Fields → Type 0
HasHost minor fields =
    let hosts = values fields (codes "Host") in
    ((hosts ≡ []) × (minor ≡ 0)) ⊎ ((host : List ℕ) × IsHost host × (hosts ≡ host ∷ []))

-- the target is the page, or the web socket; an absolute form may leave out the path `/`
abbrev pub IsPage : (target : List ℕ) → Type 0
IsPage target = Names target (codes "/") ⊎ IsSite target

abbrev pub IsPlay : (target : List ℕ) → Type 0
IsPlay target = Names target (codes "/play")

-- the request has a valid host and a method that only reads
abbrev pub IsFit : RequestHead → Type 0
IsFit head = HasHost head.minor (fields_of head) × IsRead head.method

-- the request asks to play
abbrev pub AsksToPlay : RequestHead → Type 0
AsksToPlay head = IsFit head × IsPlay head.target

-- the answer to a whole head, at a server whose page has this origin
abbrev pub Answers : RequestHead → (origin : List ℕ) → Asked → Type 0
Answers head origin Page = IsFit head × IsPage head.target
Answers head origin (Play accept len) =
    AsksToPlay head × ComesFrom head origin × Has13 (fields_of head)
    × ((key : List ℕ) × Upgrades head key × (accept ≡ accept_key_of key)) × (len ≡ length (print_request head))
Answers head origin (Refused Status.MethodNotAllowed) =
    HasHost head.minor (fields_of head) × ¬ (IsRead head.method)
Answers head origin (Refused Status.NotFound) = IsFit head × ¬ (IsPage head.target) × ¬ (IsPlay head.target)
Answers head origin (Refused Status.Forbidden) = AsksToPlay head × ¬ (ComesFrom head origin)
Answers head origin (Refused Status.UpgradeRequired) =
    AsksToPlay head × ComesFrom head origin × ¬ (Has13 (fields_of head))
Answers head origin (Refused Status.BadRequest) =
    ¬ (HasHost head.minor (fields_of head))
    ⊎ (AsksToPlay head × ComesFrom head origin × Has13 (fields_of head) × ¬ ((key : List ℕ) × Upgrades head key))
Answers head origin other = ⊥

-- the answer to bytes that do not begin with a whole head. The server waits for more bytes while they are few and can
-- still become a head, and refuses them otherwise
abbrev pub Waits : List ℕ → Asked → Type 0
Waits bytes More = (length bytes < MOST_HEAD) × MayBecomeRequest bytes
Waits bytes (Refused Status.BadRequest) = NeverHasRequest bytes
Waits bytes (Refused Status.TooLarge) = (MOST_HEAD ≤ length bytes) ⊎ RequestExceeds MOST_FIELDS bytes
Waits bytes other = ⊥

-- a whole head is answered, or refused if it is too large
abbrev pub AnswersWhole : RequestHead → (origin : List ℕ) → Asked → Type 0
AnswersWhole head origin asked =
    (IsSmall head → Answers head origin asked) × (¬ (IsSmall head) → asked ≡ Refused Status.TooLarge)

-- a request that is admitted to play has a whole head that asked for it
abbrev pub LetsIn : (bytes origin : List ℕ) → Asked → Type 0
LetsIn bytes origin (Play accept len) =
    (head : RequestHead) × ReadsRequest bytes head (drop len bytes) × IsSmall head
    × Answers head origin (Play accept len)
LetsIn bytes origin other = Unit {0}

-- a fact about the key in the answer, if there is one
abbrev pub IfPlay : Asked → (List ℕ → Type 0) → Type 0
IfPlay (Play accept len) P = P accept
IfPlay other P = Unit {0}
