-- The answers to refused requests (RFC 9110, section 15; RFC 6585, section 5).
use Rattle.std.specs.Prelude.{ℕ, List, [], ◌++◌, codes}
use Rattle.mud_web.specs.declared.refusal.Refusal.{Refusal}
use Rattle.mud_web.specs.declared.refusal.Refusal.TheVariants.{BadRequest, Forbidden, NotFound, MethodNotAllowed}
use Rattle.mud_web.specs.declared.refusal.Refusal.TheVariants.{RequestTimeout, UpgradeRequired, TooLarge}
use Rattle.mud_web.specs.declared.body.Body.{Body}
use Rattle.mud_web.specs.declared.body.Body.TheVariants.{Sent, LeftOut}

-- the status and its phrase
abbrev pub status_of : Refusal → List ℕ
status_of BadRequest = codes "400 Bad Request"
status_of Forbidden = codes "403 Forbidden"
status_of NotFound = codes "404 Not Found"
status_of MethodNotAllowed = codes "405 Method Not Allowed"
status_of RequestTimeout = codes "408 Request Timeout"
status_of UpgradeRequired = codes "426 Upgrade Required"
status_of TooLarge = codes "431 Request Header Fields Too Large"

-- each answer closes the connection, and a 426 names the protocol to upgrade to (RFC 9110, section 7.8)
abbrev pub connection_of : Refusal → List ℕ
connection_of UpgradeRequired = codes "Connection: close, Upgrade\r\n"
connection_of other = codes "Connection: close\r\n"

-- a 405 names the supported methods, and a 426 the protocol and its version (RFC 6455, section 4.4)
abbrev pub field_of : Refusal → List ℕ
field_of MethodNotAllowed = codes "Allow: GET, HEAD\r\n"
field_of UpgradeRequired = codes "Upgrade: websocket\r\nSec-WebSocket-Version: 13\r\n"
field_of other = []

-- a 403 gives the address of the server's page, and any other its status
abbrev pub body_of : Refusal → List ℕ
body_of Forbidden = codes "403 Forbidden: this world is played at "
body_of other = status_of other

-- a 403 names the origin of the server's page
abbrev pub shown_of : Refusal → (origin : List ℕ) → List ℕ
shown_of Forbidden origin = origin
shown_of other origin = []

-- the status line
abbrev pub status_line : Refusal → List ℕ
status_line refusal = codes "HTTP/1.1 " ++ status_of refusal ++ codes "\r\n"

-- the fields, and the empty line
abbrev pub fields_of : Refusal → List ℕ
fields_of refusal =
    connection_of refusal ++ codes "Content-Type: text/plain; charset=utf-8\r\n"
    ++ codes "X-Content-Type-Options: nosniff\r\n" ++ (field_of refusal ++ codes "\r\n")

-- the status line, the fields and the empty line
abbrev pub head_of : Refusal → List ℕ
head_of refusal = status_line refusal ++ fields_of refusal

-- the body
abbrev pub body_bytes : Refusal → (origin : List ℕ) → List ℕ
body_bytes refusal origin = body_of refusal ++ shown_of refusal origin ++ codes "\r\n"

-- the answer; its body ends with the connection, and the answer to HEAD has no body
abbrev pub refusal_bytes : Refusal → (origin : List ℕ) → Body → List ℕ
refusal_bytes refusal origin Sent = head_of refusal ++ body_bytes refusal origin
refusal_bytes refusal origin LeftOut = head_of refusal
