-- Successive steps are one run over all received bytes.
use Rattle.std.proofs.Common.{◌≡◌, ℕ, zero, suc, ◌<◌, List, [], ◌∷◌, ◌++◌, length, drop, Result, Ok, Err, refl, sym}
use Rattle.std.proofs.Common.{◌∙◌, ap, arith, append-nil, append_assoc, length-drop}
use Rattle.std.specs.Prelude.{option_map}
use Rattle.websocket.specs.declared.error.Error.{Error}
use Rattle.websocket.specs.declared.protocol.config.Role.TheVariants.{Server}
use Rattle.websocket.specs.declared.protocol.context.Step.{Step}
use Rattle.websocket.specs.declared.protocol.frame.codec.FrameStatus.{FrameStatus}
use Rattle.websocket.specs.declared.protocol.frame.codec.FrameStatus.TheVariants.{Partial, Complete}
use Rattle.websocket.specs.Content.{received_content}
use Rattle.websocket.specs.Frame.{decode_frame}
use Rattle.websocket.specs.FrameHeader.{decode_header}
use Rattle.std.specs.Prelude.{Bool, true, false}
use Rattle.mud_web.specs.declared.fault.Fault.{Fault}
use Rattle.mud_web.specs.declared.fault.Fault.TheVariants.{OutOfMemory, Over, Ended}
use Rattle.websocket.specs.Connection.{Connection, Effect, read_step, failed_connection}
use Rattle.websocket.specs.Stream.{Trace, prepend, after_read, read_times, read_all}
use Rattle.websocket.specs.View.{Returns, ReadLeaves}
use Rattle.websocket.proofs.StreamLemmas.{TookFrame_from_read, receive-read_all}
use Rattle.mud_web.specs.Channel.{Standing, new_connection, typed_by, reply_by, text_typed, replies, StandsAfter, Grows}
use Rattle.mud_web.specs.Channel.{TakesIn, EndsWith}
use Rattle.mud_web.specs.Close.{closes_for, ending_of}
use Rattle.mud_web.specs.Channel.{IfOver}
use Rattle.mud_web.specs.inner.Steps.{Took, Steps, Refuses, Reached, closes_in}
use Rattle.mud_web.proofs.Roles.{IsLive, role_kept, live_kept, sends_server, stands_live, closes_is}

abbrev Outcome : Type 0
Outcome = Result (FrameStatus (ℕ × Effect)) Error

-- ---- one read

pub record IsRead (conn next : Connection) (input left : List ℕ) (step : Step) (old new : List ℕ) : Type 0 where
  pub effect : Effect
  pub reads : read_step conn input ≡ Ok (Complete (step.consumed, effect))
  pub conn_is : next ≡ effect.next
  pub message : option_map (received_content left) step.message ≡ effect.message
  pub answers : new ≡ old ++ reply_by effect.reply
  pub role : next.role ≡ Server

is_read_by : (r : Outcome) (conn next : Connection) (input left : List ℕ) (step : Step) (old new : List ℕ)
    → read_step conn input ≡ r → conn.role ≡ Server → Returns r left (Complete step) → ReadLeaves r conn next old new
    → IsRead conn next input left step old new
is_read_by (Err e) conn next input left step old new is role returns leaves = absurd returns
is_read_by (Ok (Partial n)) conn next input left step old new is role returns leaves = absurd (cc returns)
is_read_by (Ok (Complete p)) conn next input left step old new is role returns leaves =
    let kept : p.1.next.role ≡ Server = role_kept conn input p is ∙ role in
    let here : next.role ≡ Server = rw leaves.0 kept in
    record {
      effect = p.1;
      reads = rw (is, returns.0) refl;
      conn_is = leaves.0;
      message = returns.1.0;
      answers = sends_server p.1.reply old new (rw here at leaves.1);
      role = here;
    }

pub is_read : (conn next : Connection) (input left : List ℕ) (step : Step) (old new : List ℕ)
    → conn.role ≡ Server → Returns (read_step conn input) left (Complete step)
    → ReadLeaves (read_step conn input) conn next old new → IsRead conn next input left step old new
is_read conn next input left step old new role returns leaves =
    is_read_by _ conn next input left step old new refl role returns leaves

-- ---- many

after_read_same : (f g : Connection → List ℕ → Trace) (conn : Connection) (bs : List ℕ) (r : Outcome)
    → read_step conn bs ≡ r
    → ((next : Connection) (rest : List ℕ) → length rest < length bs → f next rest ≡ g next rest)
    → after_read f conn bs r ≡ after_read g conn bs r
after_read_same f g conn bs (Err e) is same = refl
after_read_same f g conn bs (Ok (Partial n)) is same = refl
after_read_same f g conn bs (Ok (Complete p)) is same =
    let took = TookFrame_from_read conn bs p is in
    ap (prepend (p.1 ∷ []))
    (same p.1.next (drop p.0 bs) (omega (arith, length-drop p.0 bs, took.not_empty, took.inside)))

enough : (n m : ℕ) (conn : Connection) (bs : List ℕ) → length bs < n → length bs < m
    → read_times n conn bs ≡ read_times m conn bs
unfolding read_times
enough zero m conn bs hn hm = absurd (omega arith)
enough (suc n) zero conn bs hn hm = absurd (omega arith)
enough (suc n) (suc m) conn bs hn hm =
    after_read_same (read_times n) (read_times m) conn bs _ refl
    (λ next rest h. enough n m next rest (omega arith) (omega arith))

all_first : (conn : Connection) (bs : List ℕ)
    → read_all conn bs ≡ after_read (read_times (length bs)) conn bs (read_step conn bs)
unfolding read_times
all_first conn bs = refl

pub all_took : (conn : Connection) (bs : List ℕ) (p : ℕ × Effect) → read_step conn bs ≡ Ok (Complete p)
    → read_all conn bs ≡ prepend (p.1 ∷ []) (read_all p.1.next (drop p.0 bs))
all_took conn bs p is =
    let took = TookFrame_from_read conn bs p is in
    let shorter : length (drop p.0 bs) < length bs = omega (arith, length-drop p.0 bs, took.not_empty, took.inside) in
    rw (all_first conn bs, is) (ap (prepend (p.1 ∷ [])) (enough _ _ p.1.next (drop p.0 bs) shorter (omega arith)))

pub all_waits : (conn : Connection) (bs : List ℕ) (n : ℕ) → read_step conn bs ≡ Ok (Partial n)
    → read_all conn bs ≡ record { effects = []; end = Ok (conn, bs) }
all_waits conn bs n is = rw (all_first conn bs, is) refl

pub all_fails : (conn : Connection) (bs : List ℕ) (e : Error) → read_step conn bs ≡ Err e
    → read_all conn bs ≡ record { effects = []; end = Err e }
all_fails conn bs e is = rw (all_first conn bs, is) refl

pub goes_on : (line : Standing) (earlier bytes : List ℕ) → StandsAfter line earlier
    → read_all new_connection (earlier ++ bytes)
    ≡ prepend (read_all new_connection earlier).effects (read_all line.conn (line.unread ++ bytes))
goes_on line earlier bytes stands = rw (sym (receive-read_all new_connection earlier bytes), stands.is) refl

-- ---- grows, one step after the other

typed_more : (done : List Effect) (e : Effect) → text_typed (done ++ e ∷ []) ≡ text_typed done ++ typed_by e.message
typed_more [] e = rw append-nil refl
typed_more (x ∷ done) e = rw (typed_more done e, append_assoc) refl

replies_more : (done : List Effect) (e : Effect) → replies (done ++ e ∷ []) ≡ replies done ++ reply_by e.reply
replies_more [] e = rw append-nil refl
replies_more (x ∷ done) e = rw (replies_more done e, append_assoc) refl

prepend-prepend : (a b : List Effect) (t : Trace) → prepend a (prepend b t) ≡ prepend (a ++ b) t
prepend-prepend a b t = rw append_assoc refl

pub reached_more : (conn : Connection) (input : List ℕ) (line next : Standing) (t0 t1 t2 r0 r1 r2 : List ℕ)
    → Reached conn input line t0 t1 r0 r1 → Took line next t1 t2 r1 r2 → Reached conn input next t0 t2 r0 r2
reached_more conn input line next t0 t1 t2 r0 r1 r2 before took = record {
  done = before.done ++ took.effect ∷ [];
  rest = before.rest ∙ rw (all_took line.conn line.unread (took.count, took.effect) took.reads, took.conn, took.unread)
      (prepend-prepend before.done (took.effect ∷ []) (read_all took.effect.next (drop took.count line.unread)));
  types = rw (took.types, before.types, typed_more before.done took.effect, append_assoc) refl;
  answers = rw (took.answers, before.answers, replies_more before.done took.effect, append_assoc) refl;
}

grows : (old : Standing) (bytes t0 t1 r0 r1 : List ℕ) (line : Standing) (earlier : List ℕ) → StandsAfter old earlier
    → (reached : Reached old.conn (old.unread ++ bytes) line t0 t1 r0 r1)
    → (read_all line.conn line.unread).effects ≡ [] → Grows earlier bytes t0 t1 r0 r1 []
grows old bytes t0 t1 r0 r1 line earlier stands reached none = record {
  fresh = reached.done;
  finishes = rw (goes_on old earlier bytes stands, reached.rest, none, append-nil) refl;
  types = reached.types;
  answers = rw (append-nil, reached.answers) refl;
}

takes_in : (old new : Standing) (bytes t0 t1 r0 r1 : List ℕ) (needed : ℕ) → new.has_ended ≡ old.has_ended
    → Reached old.conn (old.unread ++ bytes) new t0 t1 r0 r1 → read_step new.conn new.unread ≡ Ok (Partial needed)
    → TakesIn old new bytes t0 t1 r0 r1
takes_in old new bytes t0 t1 r0 r1 needed same reached waits =
    let all = all_waits new.conn new.unread needed waits in
    record {
      stands = λ earlier stands. record {
        is = rw (goes_on old earlier bytes stands, reached.rest, all) refl;
        goes_on = same ∙ stands.goes_on;
      };
      grows = λ earlier stands. grows old bytes t0 t1 r0 r1 new earlier stands reached (rw all refl);
    }

grows_to : (earlier bytes t0 t1 r0 r1 r2 end : List ℕ) → Grows earlier bytes t0 t1 r0 r1 [] → r2 ≡ r1 ++ end
    → Grows earlier bytes t0 t1 r0 r2 end
grows_to earlier bytes t0 t1 r0 r1 r2 end g sends = record {
  fresh = g.fresh;
  finishes = g.finishes;
  types = g.types;
  answers = rw (sends, g.answers, append-nil, append_assoc) refl;
}

ends : (old new : Standing) (bytes t0 t1 r0 r1 r2 : List ℕ) (e : Error) → (IsLive old.conn → IsLive new.conn)
    → Reached old.conn (old.unread ++ bytes) new t0 t1 r0 r1 → read_step new.conn new.unread ≡ Err e
    → r2 ≡ r1 ++ closes_in (failed_connection new.conn).state (ending_of e)
    → EndsWith old bytes t0 t1 r0 r2 e
ends old new bytes t0 t1 r0 r1 r2 e kept reached fails sends =
    let all = all_fails new.conn new.unread e fails in
    record {
      ends = λ earlier stands. rw (goes_on old earlier bytes stands, reached.rest, all) refl;
      grows = λ earlier stands.
          grows_to earlier bytes t0 t1 r0 r1 r2 (closes_for e)
          (grows old bytes t0 t1 r0 r1 new earlier stands reached (rw all refl))
          (rw (closes_is new.conn new.unread e (kept (stands_live old earlier stands)) fails) at sends);
    }

pub fresh : (line : Standing) → line.conn ≡ new_connection → line.unread ≡ [] → line.has_ended ≡ false
    → StandsAfter line []
unfolding read_times read_step decode_frame decode_header
fresh line conn unread goes_on = record { is = rw (conn, unread) refl; goes_on = goes_on }

-- ---- the premises of a feed

-- the invariant of a loop: the frames so far, and that the connection is still open
pub record Keeps (old : Standing) (bytes : List ℕ) (line : Standing) (t0 t1 r0 r1 : List ℕ) : Type 0 where
  pub reached : Reached old.conn (old.unread ++ bytes) line t0 t1 r0 r1
  pub live : IsLive old.conn → IsLive line.conn
  pub goes_on : line.has_ended ≡ old.has_ended

pub feeds_ok : (old line next : Standing) (bytes t0 t1 t2 r0 r1 r2 : List ℕ) (more : Bool) → more ≡ false
    → Keeps old bytes line t0 t1 r0 r1 → Steps line next t1 t2 r1 r2 more → TakesIn old next bytes t0 t2 r0 r2
feeds_ok old line next bytes t0 t1 t2 r0 r1 r2 true h keeps took = absurd (cc h)
feeds_ok old line next bytes t0 t1 t2 r0 r1 r2 false h keeps waits =
    rw (waits.same, waits.types, waits.answers)
    (takes_in old line bytes t0 t1 r0 r1 waits.needed keeps.goes_on keeps.reached waits.reads)

pub feeds_on : (old line next : Standing) (bytes t0 t1 t2 r0 r1 r2 : List ℕ) (more : Bool) → more ≡ true
    → Keeps old bytes line t0 t1 r0 r1 → Steps line next t1 t2 r1 r2 more → Keeps old bytes next t0 t2 r0 r2
feeds_on old line next bytes t0 t1 t2 r0 r1 r2 true h keeps took = record {
  reached = reached_more old.conn (old.unread ++ bytes) line next t0 t1 t2 r0 r1 r2 keeps.reached took;
  live = λ h. rw took.conn (live_kept line.conn line.unread (took.count, took.effect) took.reads (keeps.live h));
  goes_on = took.goes_on ∙ keeps.goes_on;
}
feeds_on old line next bytes t0 t1 t2 r0 r1 r2 false h keeps waits = absurd (cc h)

feeds_over_by : (old line next : Standing) (bytes t0 t1 t2 r0 r1 r2 r3 : List ℕ) (e : Error)
    → Keeps old bytes line t0 t1 r0 r1 → Refuses line next t1 t2 r1 r2 e
    → r3 ≡ r2 ++ closes_in next.conn.state (ending_of e) → EndsWith old bytes t0 t2 r0 r3 e
feeds_over_by old line next bytes t0 t1 t2 r0 r1 r2 r3 e keeps refuses sends =
    rw refuses.types (ends old line bytes t0 t1 r0 r1 r3 e keeps.live keeps.reached refuses.reads
    (rw (refuses.conn, refuses.answers) at sends))

pub feeds_over : (old line next : Standing) (bytes t0 t1 t2 r0 r1 r2 r3 : List ℕ) (step_fault fault : Fault)
    → Keeps old bytes line t0 t1 r0 r1 → IfOver step_fault (Refuses line next t1 t2 r1 r2)
    → IfOver fault (λ e. (step_fault ≡ Over e) × (r3 ≡ r2 ++ closes_in next.conn.state (ending_of e)))
    → IfOver fault (EndsWith old bytes t0 t2 r0 r3)
feeds_over old line next bytes t0 t1 t2 r0 r1 r2 r3 step_fault OutOfMemory keeps refuses sends = tt
feeds_over old line next bytes t0 t1 t2 r0 r1 r2 r3 step_fault Ended keeps refuses sends = tt
feeds_over old line next bytes t0 t1 t2 r0 r1 r2 r3 step_fault (Over e) keeps refuses sends =
    feeds_over_by old line next bytes t0 t1 t2 r0 r1 r2 r3 e keeps (rw sends.0 at refuses) sends.1

-- ---- the premises of a step

pub took_from : (conn next : Connection) (input left unread : List ℕ) (step : Step) (has_ended : Bool)
    (t0 t1 r0 r1 : List ℕ)
    → IsRead conn next input left step r0 r1 → t1 ≡ t0 ++ typed_by (option_map (received_content left) step.message)
    → unread ≡ drop step.consumed input
    → Took (record { conn = conn; unread = input; has_ended = has_ended })
    (record { conn = next; unread = unread; has_ended = has_ended }) t0 t1 r0 r1
took_from conn next input left unread step has_ended t0 t1 r0 r1 read types rest = record {
  count = step.consumed;
  effect = read.effect;
  reads = read.reads;
  conn = read.conn_is;
  unread = rest;
  goes_on = refl;
  types = rw (types, read.message) refl;
  answers = read.answers;
}

pub role_after : (conn next : Connection) (input left : List ℕ) (step : Step) (old new : List ℕ)
    → conn.role ≡ Server → Returns (read_step conn input) left (Complete step)
    → ReadLeaves (read_step conn input) conn next old new → next.role ≡ Server
role_after conn next input left step old new role returns leaves =
    (is_read conn next input left step old new role returns leaves).role
