-- One more step of the output.
use Rattle.std.proofs.Common.{◌≡◌, ℕ, List, [], ◌∷◌, ◌++◌, refl, sym, ap, subst, ◌∙◌, append-nil, append_assoc}
use Rattle.std.proofs.Common.{None, inl, inr}
use Rattle.std.specs.List.{flat_map}
use Rattle.std.proofs.lemmas.Grind.{flat_map-append}
use Rattle.websocket.specs.declared.error.Error.{Error}
use Rattle.websocket.specs.Connection.{Effect, read_step}
use Rattle.websocket.specs.Frame.{decode_frame}
use Rattle.websocket.specs.FrameHeader.{decode_header}
use Rattle.websocket.specs.Stream.{read_times, read_all}
use Rattle.mud_web.specs.Channel.{Standing, StandsAfter, TakesIn, new_connection, text_typed, typed_of, replies}
use Rattle.mud_web.specs.Channel.{Finishes}
use Rattle.mud_web.specs.Close.{ending_of}
use Rattle.mud_web.specs.Sending.{frames_of}
use Rattle.mud_web.proofs.Sending.{frames_none}
use Rattle.mud_session.specs.Notices.{NamesUpTo}
use Rattle.mud_session.proofs.Naming.{names-nil}
use Rattle.mud_client.specs.declared.framing.Framing.{Framing}
use Rattle.mud_client.specs.declared.framing.Framing.TheVariants.{Telnet, Web}
use Rattle.mud_client.specs.Framed.{IsNew, Reads, Breaks, Leaving, IsFramed, Frames, framed}
use Rattle.mud_client.specs.Sayings.{AreReplies, SaysUpTo}

snoc : {A B : Type 0} (f : A → List B) (xs : List A) (x : A) → flat_map f (xs ++ x ∷ []) ≡ flat_map f xs ++ f x
snoc f xs x = flat_map-append f xs (x ∷ []) ∙ ap (λ (l : List _). flat_map f xs ++ l) (append-nil (f x))

typed_grows : (earlier bytes : List ℕ) (fresh : List Effect) → Finishes earlier bytes fresh
    → typed_of (earlier ++ bytes) ≡ typed_of earlier ++ text_typed fresh
typed_grows earlier bytes fresh finishes =
    ap text_typed finishes ∙ flat_map-append _ (read_all new_connection earlier).effects fresh

-- ---- over a web socket

-- there was no input
framed_new : (channel : Standing) → StandsAfter channel [] → IsFramed channel [] [] [] []
unfolding read_times read_step decode_frame decode_header
framed_new channel stands = record {
  stands = stands;
  types = refl;
  leavings = [];
  frames = refl;
  says = refl;
  leaves = refl;
}

-- one more output
one_more : (old new : Standing) (came now typed after said sent : List ℕ) (more : Leaving)
    → IsFramed old came typed said sent → StandsAfter new now → after ≡ typed_of now
    → (read_all new_connection now).effects ≡ (read_all new_connection came).effects ++ more.answered
    → IsFramed new now after (said ++ more.said) (sent ++ (replies more.answered ++ frames_of more.said))
one_more old new came now typed after said sent more f stands types effects = record {
  stands = stands;
  types = types;
  leavings = f.leavings ++ more ∷ [];
  frames = effects ∙ ap (λ (l : List Effect). l ++ more.answered) f.frames
      ∙ sym (snoc (λ (l : Leaving). l.answered) f.leavings more);
  says = ap (λ (l : List ℕ). l ++ more.said) f.says ∙ sym (snoc (λ (l : Leaving). l.said) f.leavings more);
  leaves = ap (λ (l : List ℕ). l ++ (replies more.answered ++ frames_of more.said)) f.leaves
      ∙ sym (snoc (λ (l : Leaving). replies l.answered ++ frames_of l.said) f.leavings more);
}

-- the frames that the bytes complete are replied to
framed_on : (old new : Standing) (came bytes typed waiting after said sent answered : List ℕ)
    → TakesIn old new bytes waiting after [] answered → IsFramed old came (typed ++ waiting) said sent
    → IsFramed new (came ++ bytes) (typed ++ after) said (sent ++ answered)
framed_on old new came bytes typed waiting after said sent answered takes f =
    let grows = takes.grows came f.stands in
    let types =
    ap (λ (l : List ℕ). typed ++ l) grows.types ∙ sym (append_assoc typed waiting (text_typed grows.fresh))
    ∙ ap (λ (l : List ℕ). l ++ text_typed grows.fresh) f.types
    ∙ sym (typed_grows came bytes grows.fresh grows.finishes) in
    let all = ap (λ (l : List ℕ). replies grows.fresh ++ l) frames_none ∙ sym grows.answers in
    subst (λ (l : List ℕ). IsFramed new (came ++ bytes) (typed ++ after) said (sent ++ l)) all
    (subst (λ (l : List ℕ). IsFramed new (came ++ bytes) (typed ++ after) l
    (sent ++ (replies grows.fresh ++ frames_of []))) (append-nil said)
    (one_more old new came (came ++ bytes) (typed ++ waiting) (typed ++ after) said sent
    (record { answered = grows.fresh; said = [] }) f (takes.stands came f.stands) types grows.finishes))

-- this is output
framed_more : (channel : Standing) (came typed said text sent : List ℕ) → IsFramed channel came typed said sent
    → IsFramed channel came typed (said ++ text) (sent ++ frames_of text)
framed_more channel came typed said text sent f =
    one_more channel channel came came typed typed said sent (record { answered = []; said = text }) f f.stands f.types
    (sym (append-nil (read_all new_connection came).effects))

-- ---- with either framing

pub frames_new : (framing : Framing) → IsNew framing → Frames framing [] [] [] []
frames_new Telnet new = (refl, refl)
frames_new (Web channel) new = framed_new channel new

pub frames_on : (old new : Framing) (came bytes typed waiting after said sent answered : List ℕ)
    → Reads old new bytes waiting after answered → Frames old came (typed ++ waiting) said sent
    → Frames new (came ++ bytes) (typed ++ after) said (sent ++ answered)
frames_on Telnet new came bytes typed waiting after said sent answered (is, types, none) f =
    subst (λ (n : Framing). Frames n (came ++ bytes) (typed ++ after) said (sent ++ answered)) (sym is) (
      ap (λ (l : List ℕ). typed ++ l) types ∙ sym (append_assoc typed waiting bytes)
          ∙ ap (λ (l : List ℕ). l ++ bytes) f.0,
      ap (λ (l : List ℕ). sent ++ l) none ∙ append-nil sent ∙ f.1,
    )
frames_on (Web old) new came bytes typed waiting after said sent answered (channel, is, takes) f =
    subst (λ (n : Framing). Frames n (came ++ bytes) (typed ++ after) said (sent ++ answered)) (sym is)
    (framed_on old channel came bytes typed waiting after said sent answered takes f)

pub frames_more : (framing : Framing) (came typed said text sent : List ℕ) → Frames framing came typed said sent
    → Frames framing came typed (said ++ text) (sent ++ framed framing text)
frames_more Telnet came typed said text sent f = (f.0, ap (λ (l : List ℕ). l ++ text) f.1)
frames_more (Web channel) came typed said text sent f = framed_more channel came typed said text sent f

-- ---- the named versions

says_framed : (framing : Framing) (most : ℕ) (text : List ℕ) → NamesUpTo most text
    → SaysUpTo most (framed framing text)
says_framed Telnet most text names = inl names
says_framed (Web channel) most text names = inr (inl (text, names, refl))

pub said_names : (framing : Framing) (seen version : ℕ) (out said bytes : List ℕ) → NamesUpTo seen out → said ≡ out
    → bytes ≡ framed framing said → version ≡ seen → SaysUpTo version bytes
said_names framing seen version out said bytes names is as_framed long =
    subst (λ (n : ℕ). SaysUpTo n bytes) (sym long)
    (subst (SaysUpTo seen) (sym (as_framed ∙ ap (framed framing) is)) (says_framed framing seen out names))

pub says_none : (text : List ℕ) → text ≡ [] → SaysUpTo 0 text
says_none text is = inl (subst (NamesUpTo 0) (sym is) (names-nil 0))

pub replies_read : (old new : Framing) (came bytes typed waiting after said sent answered : List ℕ)
    → Reads old new bytes waiting after answered → Frames old came typed said sent → AreReplies answered
replies_read Telnet new came bytes typed waiting after said sent answered (is, types, none) f = record {
  earlier = [];
  came = [];
  answered = [];
  finishes = sym (append-nil (read_all new_connection []).effects);
  ending = None;
  is = none;
}
replies_read (Web old) new came bytes typed waiting after said sent answered (channel, is, takes) f =
    let grows = takes.grows came f.stands in
    record {
      earlier = came;
      came = bytes;
      answered = grows.fresh;
      finishes = grows.finishes;
      ending = None;
      is = grows.answers;
    }

pub replies_broken : (old : Framing) (came bytes typed waiting after said sent answered : List ℕ) (error : Error)
    → Breaks old bytes waiting after answered error → Frames old came typed said sent → AreReplies answered
replies_broken Telnet came bytes typed waiting after said sent answered error breaks f = absurd breaks
replies_broken (Web old) came bytes typed waiting after said sent answered error breaks f =
    let grows = breaks.grows came f.stands in
    record {
      earlier = came;
      came = bytes;
      answered = grows.fresh;
      finishes = grows.finishes;
      ending = ending_of error;
      is = grows.answers;
    }
