-- A session keeps a line and no output.
use Rattle.std.proofs.Common.{◌≡◌, ℕ, ◌≤◌, Bool, true, false, Option, None, Some, List, [], ◌∷◌, ◌++◌, length}
use Rattle.std.proofs.Common.{inl, inr, refl, sym, ◌∙◌, ap, subst, arith, append-nil, length-append, length-take}
use Rattle.std.specs.List.{flat_map}
use Rattle.std.specs.Option.{option_to_list}
use Rattle.std.proofs.lemmas.Bool.Decides.{nat_tests}
use Rattle.websocket.specs.Frame.{decode_frame}
use Rattle.websocket.specs.FrameHeader.{encode_header, decode_header}
use Rattle.websocket.specs.Connection.{read_step}
use Rattle.websocket.specs.Stream.{read_times}
use Rattle.mud_nvt.specs.declared.TheConstants.{MOST}
use Rattle.mud_nvt.specs.declared.telnet.Piece.{Piece}
use Rattle.mud_nvt.specs.declared.strokes.Stroke.{Stroke}
use Rattle.mud_nvt.specs.declared.strokes.Stroke.TheVariants.{Character, EraseCharacter, EraseLine, EndLine}
use Rattle.mud_nvt.specs.declared.strokes.Stroke.TheVariants.{AreYouThere, Refuse, Nothing}
use Rattle.mud_nvt.specs.Strokes.{stroke}
use Rattle.mud_nvt.specs.Held.{Held}
use Rattle.mud_nvt.specs.History.{StandsAfter}
use Rattle.mud_nvt.specs.inner.Machine.{start, next, next_text, finished_piece, after_piece, run}
use Rattle.mud_hall.specs.Desk.{DeskState, TakesIn}
use Rattle.mud_hall.proofs.Notices.{notices-none}
use Rattle.mud_session.specs.State.{SessionState}
use Rattle.mud_session.specs.Session.{Case, Rests, Looks, Fails, Asks, Acts, Sees, Does, Turn, Plays, unit_of}
use Rattle.mud_session.specs.Session.{answer_to, wire_text, text_of}
use Rattle.mud_session.specs.Talks.{fresh, greeting, units_of, IsTalk}
use Rattle.mud_web.specs.Channel.{typed_of, replies}
use Rattle.mud_web.specs.Sending.{frame_of, frames_of}
use Rattle.mud_web.proofs.Sending.{messages_more}
use Rattle.mud_client.specs.declared.framing.Framing.{Framing}
use Rattle.mud_client.specs.declared.framing.Framing.TheVariants.{Telnet, Web}
use Rattle.mud_client.specs.Framed.{Leaving, Frames}
use Rattle.mud_client.specs.Client.{ClientState, Stands}
use Rattle.mud_client.specs.Steps.{Output, FeedsLine, Says, Steps, Looks as LooksUp}
use Rattle.mud_theorems.specs.Sizes.{IsSmall}
use Rattle.mud_theorems.specs.Laws.{SessionsAreSmall}

-- ---- the line

stroke_short : (too_long : Bool) (text : List ℕ) (s : Stroke) → length text ≤ MOST
    → length (next_text too_long text s) ≤ MOST
stroke_short true text (Character c) short = short
stroke_short false text (Character c) short = grind (arith, nat_tests, length-append {A = ℕ})
stroke_short too_long text EraseCharacter short = grind (arith, length-take {A = ℕ})
stroke_short too_long text EraseLine short = omega arith
stroke_short too_long text EndLine short = omega arith
stroke_short too_long text AreYouThere short = short
stroke_short too_long text (Refuse verb option) short = short
stroke_short too_long text Nothing short = short

piece_short : (h : Held) (o : Option Piece) → length h.text ≤ MOST → length (after_piece h o).text ≤ MOST
piece_short h None short = short
piece_short h (Some p) short = stroke_short h.too_long h.text (stroke h.after_cr p) short

run_short : (bytes : List ℕ) (h : Held) → length h.text ≤ MOST → length (run h bytes).text ≤ MOST
run_short [] h short = short
run_short (b ∷ bytes) h short = run_short bytes (next h b) (piece_short h (finished_piece h.place b) short)

line_short : (held : Held) (bytes : List ℕ) → StandsAfter held bytes → length held.text ≤ MOST
line_short held bytes stands =
    subst (λ (h : Held). length h.text ≤ MOST) (sym stands.is) (run_short bytes start (omega arith))

-- ---- empty lists

pub left-nil : {A : Type 0} (xs ys : List A) → xs ++ ys ≡ [] → xs ≡ []
left-nil [] ys e = refl
left-nil (x ∷ xs) ys e = absurd (cc)

pub right-nil : {A : Type 0} (xs ys : List A) → xs ++ ys ≡ [] → ys ≡ []
right-nil [] ys e = e
right-nil (x ∷ xs) ys e = absurd (cc)

-- ---- a guest that types nothing gets the greeting alone

record IsGuest (d : DeskState) : Type 0 where
  player : d.player ≡ None
  told : d.told ≡ []

look_quiet : (old new : DeskState) (lines : List (List ℕ)) → IsGuest old → Sees TakesIn old lines new
    → IsGuest new × (lines ≡ [])
look_quiet old new lines g s =
    let told : s.ready.told ≡ [] =
    ap (λ (d : DeskState). d.told) s.takes.is
    ∙ rw (g.told, g.player) (notices-none old.seen s.takes.entries) in
    let none : lines ++ new.told ≡ [] = sym s.tells.told ∙ told in
    let player : new.player ≡ None =
    ap (λ (d : DeskState). d.player) s.tells.is ∙ (ap (λ (d : DeskState). d.player) s.takes.is ∙ g.player) in
    (record { player = player; told = right-nil lines new.told none }, left-nil lines new.told none)

turn_quiet : (capacity : ℕ) (c : Case) (lines : List (List ℕ)) (old mid : DeskState) → IsGuest old
    → Does TakesIn capacity old c lines mid → option_to_list (unit_of c) ≡ []
    → IsGuest mid × (flat_map wire_text lines ++ answer_to c ≡ [])
turn_quiet capacity (Rests unit) lines old mid g does none = absurd (cc)
turn_quiet capacity Looks lines old mid g does none =
    let l = look_quiet old mid lines g does in (l.0, ap (λ (ls : List (List ℕ)). flat_map wire_text ls ++ []) l.1)
turn_quiet capacity (Fails line) lines old mid g does none = absurd (cc)
turn_quiet capacity (Asks line answer) lines old mid g does none = absurd (cc)
turn_quiet capacity (Acts line reply) lines old mid g does none = absurd (cc)

turns_quiet : (capacity : ℕ) (turns : List Turn) (old new : DeskState) → IsGuest old
    → Plays TakesIn capacity old turns new → units_of turns ≡ [] → text_of turns ≡ []
turns_quiet capacity [] old new g plays none = refl
turns_quiet capacity (turn ∷ turns) old new g (mid, does, last, plays) none =
    let here = turn_quiet capacity turn.case turn.notices old mid g does
    (left-nil (option_to_list (unit_of turn.case)) (units_of turns) none) in
    ap (λ (xs : List ℕ). xs ++ text_of turns) here.1
    ∙ turns_quiet capacity turns mid new here.0 plays
    (right-nil (option_to_list (unit_of turn.case)) (units_of turns) none)

pub greeted : (capacity : ℕ) (session : SessionState) (desk : DeskState)
    → IsTalk capacity (fresh greeting) [] [] session desk → session.out ≡ greeting
greeted capacity session desk t =
    let none : units_of t.turns ≡ [] = left-nil (units_of t.turns) t.left (sym t.given) in
    let guest : IsGuest t.first = record {
      player = ap (λ (d : DeskState). d.player) t.begun;
      told = ap (λ (d : DeskState). d.told) t.begun;
    } in
    sym t.says ∙ ap (λ (xs : List ℕ). greeting ++ xs) (turns_quiet capacity t.turns t.first desk guest t.plays none)
    ∙ append-nil greeting

-- ---- nothing came and nothing was sent

some_frame : (text : List ℕ) → frame_of text ≡ [] → ⊥
unfolding encode_header
some_frame text e = absurd (cc)

unsaid : (text : List ℕ) → frames_of text ≡ [] → text ≡ []
unsaid [] e = refl
unsaid (b ∷ text) e =
    let more = messages_more (b ∷ text) (omega arith) in
    absurd (some_frame _ (left-nil _ _ (ap (flat_map frame_of) (sym more) ∙ e)))

nothing_said : (leavings : List Leaving)
    → flat_map (λ l. replies l.answered ++ frames_of l.said) leavings ≡ [] → flat_map (λ l. l.said) leavings ≡ []
nothing_said [] e = refl
nothing_said (l ∷ ls) e =
    let later : List ℕ = flat_map (λ (k : Leaving). replies k.answered ++ frames_of k.said) ls in
    let here : replies l.answered ++ frames_of l.said ≡ [] =
    left-nil (replies l.answered ++ frames_of l.said) later e in
    ap (λ (xs : List ℕ). xs ++ flat_map (λ (k : Leaving). k.said) ls)
    (unsaid l.said (right-nil (replies l.answered) (frames_of l.said) here))
    ∙ nothing_said ls (right-nil (replies l.answered ++ frames_of l.said) later e)

typed_none : typed_of [] ≡ []
unfolding read_times read_step decode_frame decode_header
typed_none = refl

pub framed_none : (framing : Framing) (typed said : List ℕ) → Frames framing [] typed said []
    → (typed ≡ []) × (said ≡ [])
framed_none Telnet typed said (types, says) = (types, sym says)
framed_none (Web channel) typed said f =
    (f.types ∙ typed_none, f.says ∙ nothing_said f.leavings (sym f.leaves))

-- ---- the law

begun_small : (client : ClientState) → Stands [] [] client → IsSmall client.session
begun_small client s =
    let none = framed_none client.framing (s.typed ++ client.waiting) s.said s.frames in
    let typed : s.typed ≡ [] = left-nil s.typed client.waiting none.0 in
    let talk : IsTalk client.capacity (fresh greeting) [] [] client.session client.desk =
    subst (λ (said : List ℕ). IsTalk client.capacity (fresh greeting) [] said client.session client.desk) none.1
    (subst (λ (ts : List ℕ). IsTalk client.capacity (fresh greeting) ts s.said client.session client.desk) typed
    s.talk) in
    record {
      line = line_short client.session.terminal s.typed s.talk.stands;
      out = inr (greeted client.capacity client.session client.desk talk);
    }

look_small : (came sent : List ℕ) (old new : ClientState) (out : Output) → Stands came sent old
    → LooksUp old new out → IsSmall new.session
look_small came sent old new out s (looked, look, says) =
    let same : new.session.terminal ≡ old.session.terminal =
    ap (λ (c : ClientState). c.session.terminal) says.same ∙ ap (λ (x : SessionState). x.terminal) look.nudges.is in
    record {
      line = subst (λ (h : Held). length h.text ≤ MOST) (sym same)
          (line_short old.session.terminal s.typed s.talk.stands);
      out = inl (ap (λ (c : ClientState). c.session.out) says.same);
    }

line_small : (typed : List ℕ) (line : Bool) (old fed new : ClientState) (out : Output)
    → StandsAfter old.session.terminal typed → FeedsLine old fed → Says line fed new out → IsSmall new.session
line_small typed line old fed new out stands feeds says = record {
  line = subst (λ (h : Held). length h.text ≤ MOST) (sym (ap (λ (c : ClientState). c.session.terminal) says.same))
      (line_short fed.session.terminal _ (feeds.feeds typed stands).stands);
  out = inl (ap (λ (c : ClientState). c.session.out) says.same);
}

step_small : (came sent bytes : List ℕ) (old new : ClientState) (out : Output) → Stands came sent old
    → IsSmall old.session → Steps bytes old new out → IsSmall new.session
step_small came sent bytes old new out s small step =
    let same : step.mid.session ≡ old.session = ap (λ (c : ClientState). c.session) step.comes.same in
    elim step.gives [
      | inl frames ↦
          subst IsSmall (sym (ap (λ (c : ClientState). c.session) frames.same ∙ same)) small
      | inr both ↦
          line_small s.typed _ step.mid both.1 new out
          (subst (λ (x : SessionState). StandsAfter x.terminal s.typed) (sym same) s.talk.stands) both.2 both.3
    ]

pub sessions_are_small : SessionsAreSmall
sessions_are_small = (
  begun_small,
  λ came sent bytes old new out s small. (
    step_small came sent bytes old new out s small,
    look_small came sent old new out s,
  ),
)
