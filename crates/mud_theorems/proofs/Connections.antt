-- Connections that are served at once.
use Rattle.std.proofs.Common.{◌≡◌, ◌≤◌, ◌⊎◌, inl, inr, ℕ, List, [], ◌∷◌, ◌++◌, take, drop, map}
use Rattle.std.proofs.Common.{Option, None, Some, refl, sym, ◌∙◌, ap, subst, append_assoc, append-nil, arith}
use Rattle.std.proofs.Common.{take-append-drop, Bool, true, false, ◌||◌, true≢false}
use Rattle.std.specs.Prelude.{All, IfSome}
use Rattle.std.specs.List.{AllZip, flat_map}
use Rattle.std.proofs.lemmas.List.Elements.{All-nil, All-cons, All-push, All-weaker}
use Rattle.std.proofs.lemmas.Grind.{flat_map-append}
use Rattle.std.proofs.Math.Logic.{∥∥₁_map}
use Rattle.websocket.specs.declared.error.Error.{Error}
use Rattle.mud_chron.specs.Entry.{Entry}
use Rattle.mud_hall.specs.Desk.{DeskState, View, TakesIn, as_guest, IsNew}
use Rattle.mud_hall.specs.Settlement.{IsSettled}
use Rattle.mud_hall.specs.Steps.{Call, Guest, Performs, PerformsAll, AreLoadable}
use Rattle.mud_nvt.specs.Units.{Given}
use Rattle.mud_session.specs.Session.{Turn, Plays, is_over, text_of}
use Rattle.mud_session.specs.Talks.{greeting}
use Rattle.mud_session.specs.Laws.{all_calls}
use Rattle.mud_session.proofs.Calling.{turns_are_calls}
use Rattle.mud_session.proofs.Naming.{names-more}
use Rattle.mud_client.specs.declared.framing.Framing.TheVariants.{Telnet}
use Rattle.mud_client.specs.declared.outgoing.End.{End}
use Rattle.mud_client.specs.Client.{ClientState, Stands}
use Rattle.mud_client.specs.Sayings.{SaysUpTo}
use Rattle.mud_client.specs.Steps.{Output, MatchEnd, IfDone, Steps, Looks, CutsOff, Reports}
use Rattle.mud_theorems.specs.Runs.{Work, IsWork}
use Rattle.mud_theorems.specs.Laws.{ThreadsMakeRuns}
use Rattle.mud_theorems.specs.Peers.{Traffic, Becomes, with_input, with_end, with_output, with_last, IsFresh}
use Rattle.mud_theorems.specs.Serving.{IsDone, IsServed, AreServed, TellsUpTo}
use Rattle.mud_theorems.specs.inner.Talking.{IsKnown, so_far, Began, IsTalking, IsQuiet, IsAtEnd, IsOver, WasServed}
use Rattle.mud_theorems.proofs.Talked.{began_new, looked, stepped, look_rests, step_rests}

-- ---- what is known of a peer

some-inj : {A : Type 0} (x y : A) → Some x ≡ Some y → x ≡ y
some-inj x y e = cc

apart : {A : Type 0} (x : A) → Some x ≡ None → ⊥
apart x e = cc

known_after : (old new : Option Traffic) (t : Traffic) (change : Traffic → Traffic) → IsKnown old t
    → Becomes change old new → IsKnown new (change t)
known_after None None t change known is = tt
known_after None (Some n) t change known is = absurd (apart n is)
known_after (Some k) None t change known is = absurd (apart (change k) (sym is))
known_after (Some k) (Some n) t change known is = some-inj n (change k) is ∙ ap change known

-- ---- versions

says_more : (n m : ℕ) (bytes : List ℕ) → n ≤ m → SaysUpTo n bytes → SaysUpTo m bytes
says_more n m bytes le (inl names) = inl (names-more n m bytes le names)
says_more n m bytes le (inr (inl (said, names, is))) = inr (inl (said, names-more n m said le names, is))
says_more n m bytes le (inr (inr replies)) = inr (inr replies)

each_more : (n m : ℕ) (texts : List (List ℕ)) → n ≤ m → All (SaysUpTo n) texts → All (SaysUpTo m) texts
each_more n m texts le all = All-weaker (SaysUpTo n) (SaysUpTo m) (λ t says. says_more n m t le says) texts all

tells_more : (n m : ℕ) (sent : List ℕ) → n ≤ m → TellsUpTo n sent → TellsUpTo m sent
tells_more n m sent le t = record { texts = t.texts; each = each_more n m t.texts le t.each; front = t.front }

one_more : (most : ℕ) (texts : List (List ℕ)) (text : List ℕ) → All (SaysUpTo most) texts → SaysUpTo most text
    → All (SaysUpTo most) (texts ++ text ∷ [])
one_more most texts text all says = All-push (SaysUpTo most) texts text all says

all-texts : (texts : List (List ℕ)) (text : List ℕ)
    → flat_map (λ text. text) (texts ++ text ∷ []) ≡ flat_map (λ text. text) texts ++ text
all-texts texts text =
    flat_map-append (λ (t : List ℕ). t) texts (text ∷ [])
    ∙ ap (λ (l : List ℕ). flat_map (λ (t : List ℕ). t) texts ++ l) (append-nil text)

-- ---- the end of a step

-- a step is done or not
match_end : {P Q R S : Type 0} {F G : Error → Type 0} (end : Option End) → (P → Q) → ((e : Error) → F e → G e) → (R → S)
    → MatchEnd end P F R → MatchEnd end Q G S
match_end None done over refused m = done m
match_end (Some End.Quit) done over refused m = done m
match_end (Some (End.Over e)) done over refused m = over e m
match_end (Some End.OutOfMemory) done over refused m = refused m
match_end (Some End.NotText) done over refused m = refused m
match_end (Some End.Earlier) done over refused m = refused m

-- ---- a connection that is served

module _ (capacity : ℕ) (loaded : List Entry) where
  -- it begins
  pub talk_begins : (traffic : Option Traffic) (most : ℕ) (desk : DeskState) (client : ClientState)
      → IsFresh traffic → IsNew loaded desk → client.framing ≡ Telnet → client.desk ≡ as_guest desk
      → client.capacity ≡ capacity → Stands [] [] client → IsTalking capacity loaded traffic most client [] []
  talk_begins traffic most desk client fresh new telnet is same stands = record {
    came = [];
    sent = [];
    known = fresh;
    began = began_new capacity loaded desk client new telnet is same stands;
    texts = [];
    each = All-nil (SaysUpTo most);
    told = refl;
  }

  -- bytes come
  pub talk_hears : (old new : Option Traffic) (most : ℕ) (client : ClientState) (bytes : List ℕ)
      → Becomes (with_input bytes) old new → IsTalking capacity loaded old most client [] []
      → IsTalking capacity loaded new most client bytes []
  talk_hears old new most client bytes gives t = record {
    came = t.came;
    sent = t.sent;
    known = subst (λ (l : List ℕ). IsKnown new (so_far (l ++ bytes) t.sent)) (append-nil t.came)
        (known_after old new (so_far (t.came ++ []) t.sent) (with_input bytes) t.known gives);
    began = t.began;
    texts = t.texts;
    each = t.each;
    told = t.told;
  }

  -- they are fed
  talk_fed : (traffic : Option Traffic) (most : ℕ) (old new : ClientState) (bytes : List ℕ) (out : Output)
      → Steps bytes old new out → IsTalking capacity loaded traffic most old bytes []
      → IsTalking capacity loaded traffic most new [] out.text
  talk_fed traffic most old new bytes out step t = record {
    came = t.came ++ bytes;
    sent = t.sent;
    known = subst (λ (l : List ℕ). IsKnown traffic (so_far l t.sent)) (sym (append-nil (t.came ++ bytes))) t.known;
    began = subst (λ (l : List ℕ). Began capacity loaded (t.came ++ bytes) (l ++ out.text) new)
        (append-nil t.sent) (stepped capacity loaded t.came (t.sent ++ []) bytes old new out step t.began);
    texts = t.texts;
    each = t.each;
    told = t.told;
  }

  pub talk_steps : (traffic : Option Traffic) (most : ℕ) (old new : ClientState) (bytes : List ℕ) (out : Output)
      → MatchEnd out.end (Steps bytes old new out) (λ error. CutsOff bytes error old new out) (out.text ≡ [])
      → ∥ IsTalking capacity loaded traffic most old bytes [] ∥₁
      → IfDone out.end (∥ IsTalking capacity loaded traffic most new [] out.text ∥₁)
  talk_steps traffic most old new bytes out m talking =
      match_end out.end (λ step. ∥∥₁_map talking (talk_fed traffic most old new bytes out step)) (λ e c. tt) (λ r. tt) m

  pub step_quiet : (traffic : Option Traffic) (most accepted : ℕ) (old new : ClientState) (bytes : List ℕ)
      (out : Output) → MatchEnd out.end (Steps bytes old new out) (λ error. CutsOff bytes error old new out)
      (out.text ≡ []) → Reports accepted new out → (old.has_ended ≡ true → out.end ≡ Some End.Earlier)
      → ∥ IsTalking capacity loaded traffic most old bytes [] ∥₁
      → IfDone out.end (∥ IsQuiet new out.end out.has_more ∥₁)
  step_quiet traffic most accepted old new bytes out m reports earlier talking =
      match_end out.end (λ step. ∥∥₁_map talking (λ t.
      step_rests accepted bytes old new out t.began.telnet step reports earlier)) (λ e c. tt) (λ r. tt) m

  -- it looks
  talk_looked : (traffic : Option Traffic) (most : ℕ) (old new : ClientState) (out : Output) → Looks old new out
      → IsTalking capacity loaded traffic most old [] []
      → IsTalking capacity loaded traffic most new [] out.text
  talk_looked traffic most old new out look t = record {
    came = t.came;
    sent = t.sent;
    known = t.known;
    began = subst (λ (l : List ℕ). Began capacity loaded t.came (l ++ out.text) new) (append-nil t.sent)
        (looked capacity loaded t.came (t.sent ++ []) old new out look t.began);
    texts = t.texts;
    each = t.each;
    told = t.told;
  }

  pub talk_looks : (traffic : Option Traffic) (most : ℕ) (old new : ClientState) (out : Output)
      → MatchEnd out.end (Looks old new out) (λ error. ⊥) (out.text ≡ [])
      → ∥ IsTalking capacity loaded traffic most old [] [] ∥₁
      → IfDone out.end (∥ IsTalking capacity loaded traffic most new [] out.text ∥₁)
  talk_looks traffic most old new out m talking =
      match_end out.end (λ look. ∥∥₁_map talking (talk_looked traffic most old new out look)) (λ e c. tt) (λ r. tt) m

  pub look_quiet : (accepted : ℕ) (old new : ClientState) (out : Output)
      → MatchEnd out.end (Looks old new out) (λ error. ⊥) (out.text ≡ []) → Reports accepted new out
      → (old.has_ended ≡ true → out.end ≡ Some End.Earlier) → IfDone out.end (∥ IsQuiet new out.end out.has_more ∥₁)
  look_quiet accepted old new out m reports earlier =
      match_end out.end (λ look. ∣ look_rests accepted old new out look reports earlier ∣₁) (λ e c. tt) (λ r. tt) m

  -- a text is sent
  pub talk_says : (old new : Option Traffic) (told most version : ℕ) (client : ClientState) (text : List ℕ)
      → told ≤ most → version ≤ most → SaysUpTo version text → Becomes (with_output text) old new
      → IsTalking capacity loaded old told client [] text → IsTalking capacity loaded new most client [] []
  talk_says old new told most version client text le far says gets t = record {
    came = t.came;
    sent = t.sent ++ text;
    known = known_after old new (so_far (t.came ++ []) t.sent) (with_output text) t.known gets;
    began = subst (λ (l : List ℕ). Began capacity loaded t.came l client) (sym (append-nil (t.sent ++ text))) t.began;
    texts = t.texts ++ text ∷ [];
    each = one_more most t.texts text (each_more told most t.texts le t.each) (says_more version most text far says);
    told = ap (λ (l : List ℕ). l ++ text) t.told ∙ sym (all-texts t.texts text);
  }

  -- an empty text
  pub talk_silent : (traffic : Option Traffic) (most : ℕ) (client : ClientState) (text : List ℕ) → text ≡ []
      → IsTalking capacity loaded traffic most client [] text → IsTalking capacity loaded traffic most client [] []
  talk_silent traffic most client text none t =
      subst (λ (l : List ℕ). IsTalking capacity loaded traffic most client [] l) none t

  tells_all : (traffic : Option Traffic) (most : ℕ) (client : ClientState) (text : List ℕ)
      → (t : IsTalking capacity loaded traffic most client [] text) → TellsUpTo most t.sent
  tells_all traffic most client text t =
      record { texts = t.texts; each = t.each; front = ([], append-nil t.sent ∙ t.told) }

  -- it is cut off before a text was sent
  pub talk_cut : (traffic : Option Traffic) (most : ℕ) (client : ClientState) (text : List ℕ)
      → IsTalking capacity loaded traffic most client [] text → IsOver capacity loaded traffic most true client
  talk_cut traffic most client text t = record {
    t = so_far t.came t.sent;
    known = subst (λ (l : List ℕ). IsKnown traffic (so_far l t.sent)) (append-nil t.came) t.known;
    output = t.sent ++ text;
    began = t.began;
    front = (text, refl);
    tells = tells_all traffic most client text t;
    done = inl refl;
  }

  -- its player has typed `quit`
  pub talk_quits : (traffic : Option Traffic) (most : ℕ) (client : ClientState) → client.session.has_ended ≡ true
      → client.session.out ≡ [] → IsTalking capacity loaded traffic most client [] []
      → IsOver capacity loaded traffic most false client
  talk_quits traffic most client ended none t = record {
    t = so_far t.came t.sent;
    known = subst (λ (l : List ℕ). IsKnown traffic (so_far l t.sent)) (append-nil t.came) t.known;
    output = t.sent ++ [];
    began = t.began;
    front = ([], refl);
    tells = tells_all traffic most client [] t;
    done = inr (inr (record { sent = sym (append-nil t.sent); none = none; all = inl ended }));
  }

  -- no more bytes come
  pub talk_ends : (old new : Option Traffic) (most : ℕ) (client : ClientState) → Becomes with_end old new
      → client.session.out ≡ [] → client.waiting ≡ [] → IsTalking capacity loaded old most client [] []
      → IsOver capacity loaded new most false client
  talk_ends old new most client ends none empty t = record {
    t = with_end (so_far t.came t.sent);
    known = subst (λ (l : List ℕ). IsKnown new (with_end (so_far l t.sent))) (append-nil t.came)
        (known_after old new (so_far (t.came ++ []) t.sent) with_end t.known ends);
    output = t.sent ++ [];
    began = t.began;
    front = ([], refl);
    tells = tells_all old most client [] t;
    done = inr (inr (record { sent = sym (append-nil t.sent); none = none; all = inr (refl, empty) }));
  }

  -- a part of a text was sent
  pub talk_breaks : (old new : Option Traffic) (told most version n : ℕ) (client : ClientState) (text : List ℕ)
      → told ≤ most → version ≤ most → SaysUpTo version text → Becomes (with_last (take n text)) old new
      → IsTalking capacity loaded old told client [] text → IsOver capacity loaded new most false client
  talk_breaks old new told most version n client text le far says gets t =
      let whole : (t.sent ++ take n text) ++ drop n text ≡ t.sent ++ text =
      append_assoc t.sent (take n text) (drop n text)
      ∙ ap (λ (l : List ℕ). t.sent ++ l) (take-append-drop n text) in
      record {
        t = with_last (take n text) (so_far t.came t.sent);
        known = subst (λ (l : List ℕ). IsKnown new (with_last (take n text) (so_far l t.sent))) (append-nil t.came)
            (known_after old new (so_far (t.came ++ []) t.sent) (with_last (take n text)) t.known gets);
        output = t.sent ++ text;
        began = t.began;
        front = (drop n text, whole);
        tells = record {
          texts = t.texts ++ text ∷ [];
          each = one_more most t.texts text (each_more told most t.texts le t.each)
              (says_more version most text far says);
          front = (
            drop n text,
            whole ∙ ap (λ (l : List ℕ). l ++ text) t.told ∙ sym (all-texts t.texts text),
          );
        };
        done = inr (inl refl);
      }

  -- ---- its end

  performs_last : (was now is : DeskState) (calls : List Call) (call : Call) → PerformsAll capacity was calls now
      → Performs capacity now call is → PerformsAll capacity was (calls ++ call ∷ []) is
  performs_last was now is [] call all one = (is, subst (λ (d : DeskState). Performs capacity d call is) all one, refl)
  performs_last was now is (c ∷ calls) call (mid, first, more) one =
      (mid, first, performs_last mid now is calls call more one)

  of_known : (traffic : Option Traffic) (t : Traffic) (P : Traffic → Type 0) → IsKnown traffic t → P t
      → IfSome traffic P
  of_known None t P known p = tt
  of_known (Some k) t P known p = subst P (sym known) p

  all_played : (ended : Bool) (left : List Given) (turns : List Turn) → ended ≡ is_over turns
      → (ended ≡ false → left ≡ []) → (left ≡ []) ⊎ (is_over turns ≡ true)
  all_played false left turns over all = inl (all refl)
  all_played true left turns over all = inr (sym over)

  pub was_served : (traffic : Option Traffic) (most : ℕ) (is_cut : Bool) (client : ClientState)
      → IsOver capacity loaded traffic most is_cut client
      → WasServed capacity loaded traffic most is_cut (as_guest client.desk)
  was_served traffic most is_cut client o =
      let b = o.began in
      let talk = b.talk.0 in
      let text : List ℕ = greeting ++ text_of talk.turns in
      let work : Work = record {
        first = b.first;
        calls = all_calls talk.turns ++ Guest ∷ [];
        desk = as_guest client.desk;
      } in
      let plays : Plays TakesIn capacity b.first talk.turns client.desk =
      subst (λ (n : ℕ). Plays TakesIn n b.first talk.turns client.desk) b.capacity_is
      (subst (λ (d : DeskState). Plays TakesIn client.capacity d talk.turns client.desk) b.talk.1 talk.plays) in
      let at_end : IsAtEnd o.t o.output client → IsDone b.typed text talk.turns o.t = λ e. record {
        all = elim e.all [
          | inl ended ↦ inl (sym talk.over ∙ ended)
          | inr both ↦
              inr (both.0, sym b.comes ∙ ap (λ (l : List ℕ). b.typed ++ l) both.1 ∙ append-nil b.typed)
        ];
        sent = e.sent ∙ sym (append-nil o.output) ∙ ap (λ (l : List ℕ). o.output ++ l) (sym e.none) ∙ sym talk.says;
      } in
      let done : (is_cut ≡ true) ⊎ (o.t.has_left ≡ true) ⊎ IsDone b.typed text talk.turns o.t =
      elim o.done [
        | inl cut ↦ inl cut
        | inr (inl left) ↦ inr (inl left)
        | inr (inr e) ↦ inr (inr (at_end e))
      ] in
      let served : IsServed capacity is_cut work o.t = record {
        read = b.typed;
        front = (client.waiting, b.comes);
        turns = talk.turns;
        desk = client.desk;
        plays = plays;
        calls = refl;
        left = talk.left;
        given = talk.given;
        played = all_played client.session.has_ended talk.left talk.turns talk.over talk.all;
        says = (
          o.front.0 ++ client.session.out,
          sym (append_assoc o.t.sent o.front.0 client.session.out)
              ∙ ap (λ (l : List ℕ). l ++ client.session.out) o.front.1 ∙ sym talk.says,
        );
        done = done;
      } in
      record {
        work = work;
        desk_is = refl;
        is = record {
          new = b.new;
          does = performs_last b.first client.desk (as_guest client.desk) (all_calls talk.turns) Guest
              (turns_are_calls capacity b.first client.desk talk.turns plays) refl;
        };
        served = of_known traffic o.t (IsServed capacity is_cut work) o.known served;
        tells = of_known traffic o.t (λ (t : Traffic). TellsUpTo most t.sent) o.known o.tells;
      }

  -- a weaker statement: it may name more versions, or be cut off
  pub served_more : (traffic : Option Traffic) (n m : ℕ) (cut also : Bool) (desk : DeskState) → n ≤ m
      → (cut ≡ true → also ≡ true) → WasServed capacity loaded traffic n cut desk
      → WasServed capacity loaded traffic m also desk
  served_more traffic n m cut also desk le follows w = record {
    work = w.work;
    desk_is = w.desk_is;
    is = w.is;
    served = still traffic w.served;
    tells = more traffic w.tells;
  }
    where
      done_still : {R : Type 0} → (cut ≡ true) ⊎ R → (also ≡ true) ⊎ R
      done_still (inl is) = inl (follows is)
      done_still (inr rest) = inr rest

      still : (traffic : Option Traffic) → IfSome traffic (IsServed capacity cut w.work)
          → IfSome traffic (IsServed capacity also w.work)
      still None s = tt
      still (Some t) s = record {
        read = s.read;
        front = s.front;
        turns = s.turns;
        desk = s.desk;
        plays = s.plays;
        calls = s.calls;
        left = s.left;
        given = s.given;
        played = s.played;
        says = s.says;
        done = done_still s.done;
      }

      more : (traffic : Option Traffic) → IfSome traffic (λ t. TellsUpTo n t.sent)
          → IfSome traffic (λ t. TellsUpTo m t.sent)
      more None tells = tt
      more (Some t) tells = tells_more n m t.sent le tells

  pub all_more : {P : Type 0} (traffic : P → Option Traffic) (n m : ℕ) (cut also : Bool) (ds : List View) (ps : List P)
      → n ≤ m → (cut ≡ true → also ≡ true)
      → AllZip (λ d p. WasServed capacity loaded (traffic p) n cut d.state) ds ps
      → AllZip (λ d p. WasServed capacity loaded (traffic p) m also d.state) ds ps
  all_more traffic n m cut also [] [] le follows z = tt
  all_more traffic n m cut also [] (p ∷ ps) le follows z = absurd z
  all_more traffic n m cut also (d ∷ ds) [] le follows z = absurd z
  all_more traffic n m cut also (d ∷ ds) (p ∷ ps) le follows (one, rest) = (
    served_more (traffic p) n m cut also d.state le follows one,
    all_more traffic n m cut also ds ps le follows rest,
  )

-- ---- one of two

pub or_left : (a b : Bool) → a ≡ true → (a || b) ≡ true
or_left false b is = absurd (true≢false (sym is))
or_left true b is = refl

pub or_right : (a b : Bool) → b ≡ true → (a || b) ≡ true
or_right false b is = is
or_right true b is = refl

-- ---- all connections

-- the works behind these connections
record Behind (capacity : ℕ) (loaded : List Entry) (most : ℕ) (is_cut : Bool) (desks : List View)
    (traffics : List (Option Traffic)) : Type 0 where
  works : List Work
  are : map (λ d. d.state) desks ≡ map (λ w. w.desk) works
  all : All (IsWork capacity loaded) works
  each : AllZip (λ work traffic. IfSome traffic (IsServed capacity is_cut work)) works traffics
  told : All (λ traffic. IfSome traffic (λ t. TellsUpTo most t.sent)) traffics

behind : {P : Type 0} (traffic : P → Option Traffic) (capacity : ℕ) (loaded : List Entry) (most : ℕ) (is_cut : Bool)
    (desks : List View) (peers : List P)
    → AllZip (λ d p. WasServed capacity loaded (traffic p) most is_cut d.state) desks peers
    → Behind capacity loaded most is_cut desks (map traffic peers)
behind traffic capacity loaded most is_cut [] [] z = record {
  works = [];
  are = refl;
  all = All-nil (IsWork capacity loaded);
  each = tt;
  told = All-nil (λ traffic. IfSome traffic (λ t. TellsUpTo most t.sent));
}
behind traffic capacity loaded most is_cut [] (p ∷ ps) z = absurd z
behind traffic capacity loaded most is_cut (d ∷ ds) [] z = absurd z
behind traffic capacity loaded most is_cut (d ∷ ds) (p ∷ ps) (one, more) =
    let rest = behind traffic capacity loaded most is_cut ds ps more in
    record {
      works = one.work ∷ rest.works;
      are = ap (λ (s : DeskState). s ∷ map (λ (x : View). x.state) ds) (sym one.desk_is)
          ∙ ap (λ (l : List DeskState). one.work.desk ∷ l) rest.are;
      all = All-cons (IsWork capacity loaded) one.work rest.works one.is rest.all;
      each = (one.served, rest.each);
      told = All-cons (λ traffic. IfSome traffic (λ t. TellsUpTo most t.sent)) (traffic p) (map traffic ps) one.tells
          rest.told;
    }

-- a connection was cut off only if the journal has failed
has_failed_so : (has_failed is_cut : Bool) → (has_failed ≡ true) ⊎ (is_cut ≡ false) → is_cut ≡ true
    → has_failed ≡ true
has_failed_so has_failed is_cut (inl failed) cut = failed
has_failed_so has_failed is_cut (inr none) cut = absurd (true≢false (sym cut ∙ none))

pub all_served : {P : Type 0} (traffic : P → Option Traffic) → ThreadsMakeRuns → (capacity : ℕ)
    (loaded history : List Entry) (most : ℕ) (is_cut has_failed : Bool) (desks : List View) (peers : List P)
    → IsSettled loaded desks history → (has_failed ≡ true) ⊎ (is_cut ≡ false)
    → AllZip (λ d p. WasServed capacity loaded (traffic p) most is_cut d.state) desks peers
    → AreServed capacity loaded history has_failed (map traffic peers)
all_served traffic law capacity loaded history most is_cut has_failed desks peers settled failed z =
    let b = behind traffic capacity loaded most has_failed desks peers
    (all_more capacity loaded traffic most most is_cut has_failed desks peers (omega arith)
    (has_failed_so has_failed is_cut failed) z) in
    record {
      works = b.works;
      run = (law capacity loaded history desks b.works settled b.are b.all).0;
      each = b.each;
    }

pub all_told : {P : Type 0} (traffic : P → Option Traffic) (capacity : ℕ) (loaded : List Entry) (most more : ℕ)
    (is_cut : Bool) (desks : List View) (peers : List P) → most ≤ more
    → AllZip (λ d p. WasServed capacity loaded (traffic p) most is_cut d.state) desks peers
    → All (λ t. IfSome t (λ t. TellsUpTo more t.sent)) (map traffic peers)
all_told traffic capacity loaded most more is_cut desks peers le z =
    (behind traffic capacity loaded more is_cut desks peers
    (all_more capacity loaded traffic most more is_cut is_cut desks peers le (λ cut. cut) z)).told

pub all_loadable : {P : Type 0} (traffic : P → Option Traffic) → ThreadsMakeRuns → (capacity : ℕ)
    (loaded history : List Entry) (most : ℕ) (is_cut : Bool) (desks : List View) (peers : List P)
    → IsSettled loaded desks history → AreLoadable capacity loaded
    → AllZip (λ d p. WasServed capacity loaded (traffic p) most is_cut d.state) desks peers
    → AreLoadable capacity history
all_loadable traffic law capacity loaded history most is_cut desks peers settled loadable z =
    let b = behind traffic capacity loaded most is_cut desks peers z in
    (law capacity loaded history desks b.works settled b.are b.all).1 loadable
