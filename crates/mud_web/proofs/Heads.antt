-- A head that was parsed, and what it asks for.
use Rattle.std.proofs.Common.{◌≡◌, ℕ, ◌≤◌, List, length, take, map, sym, ap, ◌∙◌, subst, arith, codes}
use Rattle.std.proofs.Common.{inr}
use Rattle.std.specs.Prelude.{◌↔◌, IsTrue}
use Rattle.std.proofs.lemmas.List.{length-map, length-take}
use Rattle.httparse.specs.declared.spans.HeaderSpan.{HeaderSpan}
use Rattle.httparse.specs.declared.spans.RequestSpans.{RequestSpans}
use Rattle.httparse.specs.Grammar.{RequestHead, print_request, ReadsRequest}
use Rattle.httparse.specs.Spans.{span_bytes, IsRequestWithin, IsRequestAt, IsRequestOf, header_bytes, name_and_value}
use Rattle.httparse.proofs.GrammarLemmas.{request_unique}
use Rattle.websocket.specs.Headers.{fields_of as fields_at}
use Rattle.mud_web.specs.declared.asking.TheConstants.{MOST_HEAD, MOST_FIELDS}
use Rattle.mud_web.specs.declared.asking.Asked.{Asked}
use Rattle.mud_web.specs.declared.asking.Asked.TheVariants.{More, Page, Play, Refused}
use Rattle.mud_web.specs.declared.asking.Besides.{Besides}
use Rattle.mud_web.specs.declared.refusal.Refusal.TheVariants as Status
use Rattle.mud_web.specs.inner.Playing.{AnswersPlay, IsUpgrade}
use Rattle.mud_web.specs.Request.{fields_of, IsSmall, IsRead, HasHost, IsFit, IsPlay, AsksToPlay, Upgrades, Answers}
use Rattle.mud_web.specs.Request.{AnswersWhole}

-- ---- its host and its method

pub fit_at : (buf : List ℕ) (spans : List HeaderSpan) (r : RequestSpans) (h : RequestHead) → IsRequestAt buf spans r h
    → HasHost r.version (fields_at buf (take r.headers spans)) → IsRead (span_bytes buf r.method) → IsFit h
fit_at buf spans r h at host read = (rw (at.version, at.fields) at host, rw at.method at read)

-- ---- the answer to a request to play

-- the record describes the head without its fields
record IsTold (h : RequestHead) (besides : Besides) : Type 0 where
  get : IsTrue besides.is_get ↔ (h.method ≡ codes "GET")
  version : besides.version ≡ h.minor
  len : besides.len ≡ length (print_request h)

upgrades : (h : RequestHead) (besides : Besides) (key : List ℕ) → IsTold h besides
    → IsUpgrade (fields_of h) besides key → Upgrades h key
upgrades h besides key told (is_get, version, asks) =
    record { get = told.get.0 is_get; version = λ zero. version (told.version ∙ zero); asks = asks }

no_upgrade : (h : RequestHead) (besides : Besides) (key : List ℕ) → IsTold h besides → Upgrades h key
    → IsUpgrade (fields_of h) besides key
no_upgrade h besides key told up =
    (told.get.1 up.get, λ zero. up.version (sym told.version ∙ zero), up.asks)

played : (h : RequestHead) (origin : List ℕ) (besides : Besides) (asked : Asked) → IsTold h besides → AsksToPlay h
    → AnswersPlay (fields_of h) origin besides asked → Answers h origin asked
played h origin besides More told fit answers = absurd answers
played h origin besides Page told fit answers = absurd answers
played h origin besides (Play accept len) told fit (from, has13, (key, up, is), len_is) =
    (fit, from, has13, (key, upgrades h besides key told up, is), len_is ∙ told.len)
played h origin besides (Refused Status.Forbidden) told fit foreign = (fit, foreign)
played h origin besides (Refused Status.UpgradeRequired) told fit (from, other) = (fit, from, other)
played h origin besides (Refused Status.BadRequest) told fit (from, has13, none) =
    inr (fit, from, has13, λ some. none (some.0, no_upgrade h besides some.0 told some.1))
played h origin besides (Refused Status.MethodNotAllowed) told fit answers = absurd answers
played h origin besides (Refused Status.NotFound) told fit answers = absurd answers
played h origin besides (Refused Status.RequestTimeout) told fit answers = absurd answers
played h origin besides (Refused Status.TooLarge) told fit answers = absurd answers

pub played_at : (buf : List ℕ) (spans : List HeaderSpan) (r : RequestSpans) (h : RequestHead) (origin : List ℕ)
    (besides : Besides) (asked : Asked) → IsRequestAt buf spans r h
    → HasHost r.version (fields_at buf (take r.headers spans)) → IsRead (span_bytes buf r.method)
    → IsPlay (span_bytes buf r.path)
    → IsTrue besides.is_get ↔ (span_bytes buf r.method ≡ codes "GET") → besides.version ≡ r.version
    → besides.len ≡ r.len → AnswersPlay (fields_at buf (take r.headers spans)) origin besides asked
    → Answers h origin asked
played_at buf spans r h origin besides asked at host read play get version len answers =
    let told : IsTold h besides =
    record { get = rw at.method at get; version = version ∙ at.version; len = len ∙ at.len } in
    let plays : IsPlay h.target = rw at.path at play in
    played h origin besides asked told (fit_at buf spans r h at host read, plays) (rw at.fields at answers)

-- ---- a whole head

pub small_at : (buf : List ℕ) (spans : List HeaderSpan) (r : RequestSpans) (h : RequestHead) → IsRequestAt buf spans r h
    → IsRequestWithin buf spans r → r.len ≤ MOST_HEAD → length spans ≤ MOST_FIELDS → IsSmall h
small_at buf spans r h at within len room =
    let same : length (map (header_bytes buf) (take r.headers spans)) ≡ length (map name_and_value h.fields) =
    ap length at.fields in
    let count : length h.fields ≡ length (take r.headers spans) =
    sym (length-map h.fields name_and_value) ∙ sym same ∙ length-map (take r.headers spans) (header_bytes buf) in
    (omega (arith, at.len, len), omega (arith, count, length-take r.headers spans, room))

pub answers_whole : (buf : List ℕ) (spans : List HeaderSpan) (r : RequestSpans) (origin : List ℕ) (asked : Asked)
    → IsRequestWithin buf spans r → r.len ≤ MOST_HEAD → length spans ≤ MOST_FIELDS
    → ((h : RequestHead) → IsRequestAt buf spans r h → Answers h origin asked)
    → (h : RequestHead) → IsRequestAt buf spans r h → AnswersWhole h origin asked
answers_whole buf spans r origin asked within len room answers h at =
    (λ small. answers h at, λ large. absurd (large (small_at buf spans r h at within len room)))

pub answers_read : (buf : List ℕ) (spans : List HeaderSpan) (r : RequestSpans) (origin : List ℕ) (asked : Asked)
    → IsRequestOf buf spans r → ((h : RequestHead) → IsRequestAt buf spans r h → AnswersWhole h origin asked)
    → (h : RequestHead) (rest : List ℕ) → ReadsRequest buf h rest → AnswersWhole h origin asked
answers_read buf spans r origin asked (found, at) answers h rest reads =
    let same : found ≡ h = (request_unique buf found h _ rest at.reads reads).0 in
    subst (λ h. AnswersWhole h origin asked) same (answers found at)
