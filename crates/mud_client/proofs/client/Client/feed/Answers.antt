use Rattle.std.proofs.Common.{◌≡◌, ℕ, false, true, List, [], length, Option, refl, sym, ap, subst, ◌∙◌, inr}
use Rattle.std.proofs.Math.Logic.{∥∥₁_map, ∥∥₁_elim}
use Rattle.std.proofs.Math.Bool.{Bool-set}
use Rattle.mud_client.specs.declared.client.Client.TheInside.{Inside}
use Rattle.mud_client.specs.declared.client.Link.{Link}
use Rattle.mud_client.specs.declared.framing.Framing.{Framing}
use Rattle.mud_client.specs.declared.outgoing.End.{End}
use Rattle.mud_client.specs.Client.{ClientState, state_of, IsSound}
use Rattle.mud_client.specs.Steps.{MatchEnd, output_of, Steps, CutsOff}
use Rattle.mud_client.proofs.Feeding.{none_waits, some_wait}
use Rattle.mud_client.proofs.Leaving.{replies_read}
use Rattle.mud_client.proofs.Stepping.{comes_sound, broken_replies, cut_so, match_end}
use Rattle.mud_client.proofs.Stepping.{frames_step, line_step, step_stands}
use Rattle.mud_client.proofs.client.Client.feed.Given.{Over}
use Rattle.mud_client.proofs.client.Client.feed.Goals as goal
use Rattle.mud_client.proofs.client.Client.feed.Goals.{After-give, After-say}

-- the client before the input, and after it

abbrev before : (g : Over) → Inside g.row.J.Denot → Link → ClientState
before g inside link =
    state_of (length g.J.HallName.cells) link.framing link.waiting.items link.session inside.desk.state inside.has_ended

abbrev mid : (g : Over) → Inside g.row.J.Denot → Link → Framing → List ℕ → ClientState
mid g inside link framing typed =
    state_of (length g.J.HallName.cells) framing typed link.session inside.desk.state inside.has_ended

-- frames ended it

pub cut_off-requires-clause-open_still : goal.cut_off-requires-clause-open_still
cut_off-requires-clause-open_still g c κs bounds =
    ∥∥₁_elim (rw (sym c.deref_mut-link.ensures.value) at c.client.invariant) (Bool-set
    c.deref_mut-link.result.now.session.has_ended false)
    (λ i. sym (i c.if-client.false).ended ∙ c.if-client.false)

pub cut_off-requires-clause-replies : goal.cut_off-requires-clause-replies
cut_off-requires-clause-replies g c κs bounds =
    broken_replies c.in-Err.fault (before g c.client.inside c.deref_mut-link.result.now) c.args.bytes.now
    c.read-read.new.typed.items
    c.read-read.new.replies.items c.in-Err.ensures.over (∥∥₁_map (rw (sym c.deref_mut-link.ensures.value) at
    c.client.invariant) (λ i. i c.if-client.false))

pub returns-in-Err-clause-step : goal.returns-in-Err-clause-step
returns-in-Err-clause-step g c =
    let inside = c.client.inside in
    let cut : ClientState =
    record (mid g inside c.deref_mut-link.result.now c.read-read.new.self c.read-read.new.typed.items) {
      has_ended =
          true;
    } in
    let new = c.cut_off.result.0 in
    let out = output_of c.cut_off.result.1 in
    let bytes = c.args.bytes.now in
    subst (λ (x : ClientState). MatchEnd out.end (Steps bytes x new out) (λ e. CutsOff bytes e x new out)
    (out.text ≡ [])) (rw (sym c.deref_mut-link.ensures.value) at c.client.view_is)
    (match_end out.end (λ done. absurd done)
    (λ e is over. cut_so bytes c.read-read.new.replies.items c.in-Err.fault e (before g inside
    c.deref_mut-link.result.now) cut new out refl
    c.in-Err.ensures.over over.0 over.1 over.2) (λ none. none) c.cut_off.ensures.over)

pub returns-in-Err-clause-stands : goal.returns-in-Err-clause-stands
returns-in-Err-clause-stands g c start came sent s =
    match_end c.cut_off.result.1.end (λ done. absurd done) (λ e is over. tt) (λ none. tt) c.cut_off.ensures.over

-- the replies are the output

pub invariant_of-client-in_default : goal.invariant_of-client-in_default
invariant_of-client-in_default g c =
    let inside = c.client.inside in
    ∥∥₁_map (rw (sym c.deref_mut-link.ensures.value) at c.client.invariant) (λ i going.
    comes_sound c.args.bytes.now c.read-read.new.replies.items (before g inside c.deref_mut-link.result.now)
    (mid g inside c.deref_mut-link.result.now c.read-read.new.self c.read-read.new.typed.items)
    (record { reads = c.in_default.ensures.ok; same = refl }) (i going))

pub new-requires : goal.new-requires
new-requires g c =
    let inside = c.client.inside in
    record {
      tells = ∥∥₁_map (rw (sym c.deref_mut-link.ensures.value) at c.client.invariant) (λ i.
          let s : IsSound (before g inside c.deref_mut-link.result.now) = i c.if-client.false in
          inr (inr
          (replies_read c.deref_mut-link.result.now.framing c.read-read.new.self s.came c.args.bytes.now _
          c.deref_mut-link.result.now.waiting.items
          c.read-read.new.typed.items s.stands.said s.sent c.read-read.new.replies.items c.in_default.ensures.ok
          s.stands.frames)));
    }

replied : (g : Over) (c : After-give g) → Steps c.args.bytes.now c.args.self c.give.result.0 (output_of c.give.result.1)
replied g c =
    let inside = c.client.inside in
    let replies = c.read-read.new.replies in
    subst (λ (x : ClientState). Steps c.args.bytes.now x c.give.result.0 (output_of c.give.result.1)) (rw (sym
    c.deref_mut-link.ensures.value) at c.client.view_is)
    (frames_step c.args.bytes.now replies.items (before g inside c.deref_mut-link.result.now)
    (mid g inside c.deref_mut-link.result.now c.read-read.new.self c.read-read.new.typed.items) c.give.result.0
    (output_of c.give.result.1)
    (record { reads = c.in_default.ensures.ok; same = refl })
    (some_wait replies.items _ replies.ok.0 c.if-not-is_empty.ensures) c.if-client.false c.give.ensures.client
    (ap (λ h. h.text.items) c.give.ensures.text ∙ ap (λ v. v.items) c.new.ensures.text)
    (ap (λ h. h.version) c.give.ensures.text ∙ c.new.ensures.version) c.give.ensures.line)

pub returns-then-not-is_empty-clause-step : goal.returns-then-not-is_empty-clause-step
returns-then-not-is_empty-clause-step g c =
    let new = c.give.result.0 in
    let out = output_of c.give.result.1 in
    let bytes = c.args.bytes.now in
    subst (λ (e : Option End). MatchEnd e (Steps bytes c.args.self new out) (λ e. CutsOff bytes e c.args.self new out)
    (out.text ≡ [])) (sym c.give.ensures.end)
    (replied g (goal.at.returns-then-not-is_empty-clause-step g c).After-give)

pub returns-then-not-is_empty-clause-stands : goal.returns-then-not-is_empty-clause-stands
returns-then-not-is_empty-clause-stands g c start came sent s =
    let new = c.give.result.0 in
    let out = output_of c.give.result.1 in
    let bytes = c.args.bytes.now in
    step_stands start bytes came sent c.args.self new out
    (subst (λ (e : Option End). MatchEnd e (Steps bytes c.args.self new out)
    (λ e. CutsOff bytes e c.args.self new out) (out.text ≡ [])) (sym c.give.ensures.end)
    (replied g (goal.at.returns-then-not-is_empty-clause-stands g c).After-give)) s

-- the first waiting line is fed

pub say-requires : goal.say-requires
say-requires g c = c.in-Ok.ensures.names c.if-client.false

said : (g : Over) (c : After-say g)
    → MatchEnd c.say.result.1.end (Steps c.args.bytes.now c.args.self c.say.result.0 (output_of c.say.result.1))
    (λ e. CutsOff c.args.bytes.now e c.args.self c.say.result.0 (output_of c.say.result.1))
    (c.say.result.1.text.text.items ≡ [])
said g c =
    let inside = c.client.inside in
    let replies = c.read-read.new.replies in
    let bytes = c.args.bytes.now in
    let new = c.say.result.0 in
    let out = output_of c.say.result.1 in
    subst (λ (x : ClientState). MatchEnd out.end (Steps bytes x new out) (λ e. CutsOff bytes e x new out)
    (out.text ≡ [])) (rw (sym c.deref_mut-link.ensures.value) at c.client.view_is)
    (line_step bytes replies.items c.in-Ok.has_line (before g inside c.deref_mut-link.result.now)
    (mid g inside c.deref_mut-link.result.now c.read-read.new.self c.read-read.new.typed.items) c.in-Ok.client new out
    (record { reads = c.in_default.ensures.ok; same = refl })
    (none_waits replies.items _ replies.ok.0 c.if-not-is_empty.ensures) c.in-Ok.ensures.ok
    c.in-Ok.ensures.line c.say.ensures.says)

pub returns-in-Ok-clause-step : goal.returns-in-Ok-clause-step
returns-in-Ok-clause-step g c = said g (goal.at.returns-in-Ok-clause-step g c).After-say

pub returns-in-Ok-clause-stands : goal.returns-in-Ok-clause-stands
returns-in-Ok-clause-stands g c start came sent s =
    step_stands start c.args.bytes.now came sent c.args.self c.say.result.0 (output_of c.say.result.1)
    (said g (goal.at.returns-in-Ok-clause-stands g c).After-say) s
