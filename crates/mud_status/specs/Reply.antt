-- Answers over HTTP/1.1 (RFC 9112).
use Rattle.std.specs.Prelude.{ℕ, List, [], ◌++◌, length, codes, decimal, Bool, if◌then◌else◌}
use Rattle.mud_status.specs.declared.status.Health.{Health}
use Rattle.mud_status.specs.declared.status.Health.TheVariants.{Well, Stopping, JournalFault, Full}
use Rattle.mud_status.specs.declared.status.Status.{Status}
use Rattle.mud_status.specs.declared.answering.Sought.{Sought}
use Rattle.mud_status.specs.declared.answering.Sought.TheVariants as Sought
use Rattle.mud_status.specs.Status.{health_word}
use Rattle.mud_status.specs.Metrics.{metrics_text}

-- the HTTP status for a health: 200, or 503
abbrev pub health_line : Health → List ℕ
health_line Well = codes "200 OK"
health_line Stopping = codes "503 Service Unavailable"
health_line JournalFault = codes "503 Service Unavailable"
health_line Full = codes "503 Service Unavailable"

-- the HTTP status of an answer
abbrev pub status_line : Sought → Status → List ℕ
status_line Sought.Health s = health_line s.health
status_line Sought.Metrics s = codes "200 OK"
status_line Sought.Missing s = codes "404 Not Found"
status_line Sought.BadMethod s = codes "405 Method Not Allowed"
status_line Sought.BadRequest s = codes "400 Bad Request"

-- the body of an answer
abbrev pub body_of : Sought → Status → List ℕ
body_of Sought.Health s = health_word s.health ++ codes "\n"
body_of Sought.Metrics s = metrics_text s
body_of Sought.Missing s = codes "/health or /metrics\n"
body_of Sought.BadMethod s = codes "GET or HEAD\n"
body_of Sought.BadRequest s = codes "no request of HTTP/1.1\n"

-- an answer with its body, or without it
abbrev pub reply_text : Sought → (has_body : Bool) → Status → List ℕ
reply_text sought has_body s =
    codes "HTTP/1.1 " ++ status_line sought s
    ++ codes "\r\nContent-Type: " ++ codes "text/plain; version=0.0.4; charset=utf-8"
    ++ codes "\r\nContent-Length: " ++ decimal (length (body_of sought s)) ++ codes "\r\n"
    ++ codes "Cache-Control: no-store\r\nConnection: close\r\n\r\n" ++ (if has_body then body_of sought s else [])
