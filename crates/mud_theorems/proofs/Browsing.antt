-- A browser types lines, and reads what its session says.
use Rattle.std.proofs.Common.{◌≡◌, ℕ, ◌≤◌, List, [], ◌∷◌, ◌++◌, length, map, None, Some, Ok, All}
use Rattle.std.proofs.Common.{refl, sym, ◌∙◌, ap, subst, arith}
use Rattle.std.specs.Prelude.{IsUtf8}
use Rattle.std.specs.List.{flat_map}
use Rattle.std.proofs.Math.Seq.{take-append_seam}
use Rattle.std.specs.Str.{IsAscii}
use Rattle.std.proofs.lemmas.Grind.{flat_map-append}
use Rattle.std.proofs.lemmas.List.{drop_at, map-append}
use Rattle.std.proofs.lemmas.List.Elements.{All-head, All-tail}
use Rattle.std.proofs.lemmas.Str.{IsAscii-take, IsAscii-drop}
use Rattle.websocket.specs.declared.protocol.frame.codec.FrameStatus.TheVariants.{Complete}
use Rattle.websocket.specs.declared.protocol.frame.coding.OpCode.TheVariants as Op
use Rattle.websocket.specs.declared.protocol.frame.coding.Data.TheVariants.{Text}
use Rattle.websocket.specs.FrameHeader.{IsMask, decode_header}
use Rattle.websocket.specs.Frame.{encode_frame, decode_frame}
use Rattle.websocket.specs.Content.{text}
use Rattle.websocket.specs.Connection.{Effect, whole_header, read_step, on_frame, on_data, on_message_bytes}
use Rattle.websocket.specs.Stream.{Trace, prepend, read_times, read_all}
use Rattle.websocket.proofs.DecodeLemmas.{ltb_false}
use Rattle.websocket.proofs.StreamLemmas.{read_step-encode_frame}
use Rattle.websocket.proofs.TextLemmas.{is_utf8-true}
use Rattle.mud_nvt.specs.declared.codes.TheConstants.{LF}
use Rattle.mud_web.specs.declared.channel.TheConstants.{MOST_MESSAGE}
use Rattle.mud_web.specs.Channel.{Standing, new_connection, text_typed, reply_by, replies}
use Rattle.mud_web.specs.Sending.{messages_of, frames_of}
use Rattle.mud_web.specs.Laws.{Messages, TextsArrive}
use Rattle.mud_web.proofs.Runs.{all_took}
use Rattle.mud_client.specs.Framed.{Leaving, IsFramed, Frames}
use Rattle.mud_theorems.specs.Browsers.{Message, IsMessage, frames_by, lines_by, ReadsText}
use Rattle.mud_theorems.specs.Laws.{BrowsersTypeLines}

-- ---- the server reads the messages

reads_message : (line mask rest : List ℕ) → IsUtf8 line → length line ≤ MOST_MESSAGE → IsMask (Some mask)
    → let frame = encode_frame (whole_header (Op.Data Text) (Some mask)) line in
    read_step new_connection (frame ++ rest)
    ≡ Ok (Complete (length frame, record { message = Some (text line); reply = None; next = new_connection }))
unfolding on_frame on_data on_message_bytes
reads_message line mask rest valid fits masked =
    read_step-encode_frame new_connection (whole_header (Op.Data Text) (Some mask)) line rest
    (record { mask = masked; top_bit_clear = omega (arith, fits) })
    ∙ rw (ltb_false MOST_MESSAGE (length line) fits, is_utf8-true line valid) refl

-- no frame calls for a reply
abbrev AreQuiet : List Effect → Type 0
AreQuiet [] = Unit {0}
AreQuiet (e ∷ es) = (e.reply ≡ None) × AreQuiet es

-- a server reads these frames, which type these lines, and replies to none
record IsTyped (frames lines : List ℕ) : Type 0 where
  effects : List Effect
  types : text_typed effects ≡ lines
  quiet : AreQuiet effects
  reads : read_all new_connection frames ≡ record { effects = effects; end = Ok (new_connection, []) }

nothing_typed : IsTyped [] []
unfolding read_times read_step decode_frame decode_header
nothing_typed = record { effects = []; types = refl; quiet = tt; reads = refl }

one_more : (m : Message) (frames lines : List ℕ) → IsMessage m → IsTyped frames lines
    → IsTyped (encode_frame (whole_header (Op.Data Text) (Some m.mask)) m.line ++ frames)
    ((m.line ++ LF ∷ []) ++ lines)
one_more m frames lines (valid, fits, masked) later =
    let effect : Effect = record { message = Some (text m.line); reply = None; next = new_connection } in
    let frame : List ℕ = encode_frame (whole_header (Op.Data Text) (Some m.mask)) m.line in
    let took = all_took new_connection (frame ++ frames) (length frame, effect)
    (reads_message m.line m.mask frames valid fits masked) in
    record {
      effects = effect ∷ later.effects;
      types = ap (λ (xs : List ℕ). (m.line ++ LF ∷ []) ++ xs) later.types;
      quiet = (refl, later.quiet);
      reads = took ∙ ap (λ (t : Trace). prepend (effect ∷ []) t)
          (ap (read_all new_connection) (drop_at frame frames (length frame) refl) ∙ later.reads);
    }

all_typed : (messages : List Message) → All IsMessage messages → IsTyped (frames_by messages) (lines_by messages)
all_typed [] all = nothing_typed
all_typed (m ∷ messages) all =
    one_more m (frames_by messages) (lines_by messages) (All-head IsMessage m messages all)
    (all_typed messages (All-tail IsMessage m messages all))

-- ---- without replies, only texts are sent

quiet_parts : (xs ys : List Effect) → AreQuiet (xs ++ ys) → AreQuiet xs × AreQuiet ys
quiet_parts [] ys all = (tt, all)
quiet_parts (x ∷ xs) ys (one, all) = let parts = quiet_parts xs ys all in ((one, parts.0), parts.1)

no_reply : (effects : List Effect) → AreQuiet effects → replies effects ≡ []
no_reply [] all = refl
no_reply (e ∷ es) (one, all) = ap (λ (xs : List ℕ). xs ++ replies es) (ap reply_by one) ∙ no_reply es all

only_texts : (leavings : List Leaving) → AreQuiet (flat_map (λ l. l.answered) leavings)
    → flat_map (λ l. replies l.answered ++ frames_of l.said) leavings ≡ flat_map (λ l. frames_of l.said) leavings
only_texts [] all = refl
only_texts (l ∷ ls) all =
    let parts = quiet_parts l.answered (flat_map (λ (k : Leaving). k.answered) ls) all in
    let later : List ℕ = flat_map (λ (k : Leaving). replies k.answered ++ frames_of k.said) ls in
    ap (λ (xs : List ℕ). (xs ++ frames_of l.said) ++ later) (no_reply l.answered parts.0)
    ∙ ap (λ (xs : List ℕ). frames_of l.said ++ xs) (only_texts ls parts.1)

-- ---- the browser reads the texts

front_ascii : (xs ys : List ℕ) → IsAscii (xs ++ ys) → IsAscii xs
front_ascii xs ys all = subst IsAscii (take-append_seam xs ys) (IsAscii-take (xs ++ ys) (length xs) all)

back_ascii : (xs ys : List ℕ) → IsAscii (xs ++ ys) → IsAscii ys
back_ascii xs ys all = subst IsAscii (drop_at xs ys (length xs) refl) (IsAscii-drop (xs ++ ys) (length xs) all)

reads_nothing : ReadsText [] []
unfolding read_times read_step decode_frame decode_header
reads_nothing = record { texts = []; is = refl; effects = []; messages = refl; reads = refl }

reads_on : Messages → TextsArrive → (one sent said : List ℕ) → IsAscii one → ReadsText sent said
    → ReadsText (frames_of one ++ sent) (one ++ said)
reads_on whole arrive one sent said ascii later =
    let here = arrive one sent ascii in
    record {
      texts = messages_of one ++ later.texts;
      is = flat_map-append (λ (t : List ℕ). t) (messages_of one) later.texts
          ∙ ap (λ (xs : List ℕ). xs ++ flat_map (λ (t : List ℕ). t) later.texts) (whole one).0
          ∙ ap (λ (xs : List ℕ). one ++ xs) later.is;
      effects = here.0 ++ later.effects;
      messages = map-append (λ (e : Effect). e.message) here.0 later.effects
          ∙ ap (λ (xs : List _). xs ++ map (λ (e : Effect). e.message) later.effects) here.1
          ∙ ap (λ (xs : List _). map (λ (t : List ℕ). Some (text t)) (messages_of one) ++ xs) later.messages
          ∙ sym (map-append (λ (t : List ℕ). Some (text t)) (messages_of one) later.texts);
      reads = here.2 ∙ ap (prepend here.0) later.reads;
    }

reads_all : Messages → TextsArrive → (leavings : List Leaving) → IsAscii (flat_map (λ l. l.said) leavings)
    → ReadsText (flat_map (λ l. frames_of l.said) leavings) (flat_map (λ l. l.said) leavings)
reads_all whole arrive [] ascii = reads_nothing
reads_all whole arrive (l ∷ ls) ascii =
    let later : List ℕ = flat_map (λ (k : Leaving). k.said) ls in
    reads_on whole arrive l.said (flat_map (λ (k : Leaving). frames_of k.said) ls) later
    (front_ascii l.said later ascii) (reads_all whole arrive ls (back_ascii l.said later ascii))

-- ---- the law

framed_lines : Messages → TextsArrive → (channel : Standing) (messages : List Message) → All IsMessage messages
    → (typed said sent : List ℕ) → IsFramed channel (frames_by messages) typed said sent → IsAscii said
    → (typed ≡ lines_by messages) × ReadsText sent said
framed_lines whole arrive channel messages all typed said sent f ascii =
    let t = all_typed messages all in
    let effects : (read_all new_connection (frames_by messages)).effects ≡ t.effects =
    ap (λ (x : Trace). x.effects) t.reads in
    let quiet : AreQuiet (flat_map (λ (l : Leaving). l.answered) f.leavings) =
    subst AreQuiet (sym effects ∙ f.frames) t.quiet in
    let leaves : sent ≡ flat_map (λ (l : Leaving). frames_of l.said) f.leavings =
    f.leaves ∙ only_texts f.leavings quiet in (
      f.types ∙ (ap text_typed effects ∙ t.types),
      subst (λ (xs : List ℕ). ReadsText xs said) (sym leaves)
          (subst (ReadsText (flat_map (λ (l : Leaving). frames_of l.said) f.leavings)) (sym f.says)
          (reads_all whole arrive f.leavings (subst IsAscii f.says ascii))),
    )

pub browsers_type_lines : Messages → TextsArrive → BrowsersTypeLines
browsers_type_lines whole arrive messages all sent client channel web s ascii =
    let f : IsFramed channel (frames_by messages) (s.typed ++ client.waiting) s.said sent =
    subst (λ (framing : _). Frames framing (frames_by messages) (s.typed ++ client.waiting) s.said sent) web
    s.frames in
    let both = framed_lines whole arrive channel messages all (s.typed ++ client.waiting) s.said sent f ascii in
    (both.0, both.1, (client.session.out, sym s.talk.says))
