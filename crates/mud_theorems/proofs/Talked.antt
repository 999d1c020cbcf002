-- The talk of a client, which began at a new desk.
use Rattle.std.proofs.Common.{◌≡◌, ℕ, Bool, true, false, ◌||◌, List, [], ◌∷◌, ◌++◌, length, Option, None, Some, map}
use Rattle.std.proofs.Common.{◌&&◌, ◌+◌, refl, sym, ◌∙◌, ap, subst, append_assoc, append-nil, inl, inr, arith}
use Rattle.std.proofs.Common.{take-append-drop}
use Rattle.std.specs.Prelude.{nat_lt, is_none, is_some}
use Rattle.std.specs.List.{flat_map, position_or_len, after_first}
use Rattle.std.specs.Option.{option_to_list}
use Rattle.std.proofs.lemmas.Grind.{flat_map-append}
use Rattle.std.proofs.lemmas.Bool.Decides.{nat_tests}
use Rattle.mud_nvt.specs.Units.{Given}
use Rattle.mud_nvt.specs.History.{StandsAfter}
use Rattle.mud_chron.specs.Entry.{Entry}
use Rattle.mud_hall.specs.Desk.{DeskState, TakesIn, as_guest, IsNew}
use Rattle.mud_session.specs.State.{SessionState, DoorState}
use Rattle.mud_session.specs.Session.{Case, Rests, Looks, Fails, Asks, Acts, Does, Turn, Plays, unit_of, is_last}
use Rattle.mud_session.specs.Session.{is_over, wire_text, text_of}
use Rattle.mud_session.specs.Feeds.{Feeds, Nudges}
use Rattle.mud_session.specs.Talks.{fresh, units_of, IsTalk, greeting}
use Rattle.mud_session.proofs.Playing.{unit_in, Plays-append, is_over-append, text_of-append}
use Rattle.mud_client.specs.declared.framing.Framing.{Framing}
use Rattle.mud_client.specs.declared.framing.Framing.TheVariants.{Telnet}
use Rattle.mud_client.specs.declared.outgoing.End.{End}
use Rattle.mud_client.specs.declared.outgoing.End.TheVariants.{Quit, Earlier}
use Rattle.mud_client.specs.Framed.{Reads, framed}
use Rattle.mud_client.specs.Client.{ClientState, Stands}
use Rattle.mud_client.specs.Steps.{Output, door_of, ends_line, first_line, FeedsLine, Says, Steps}
use Rattle.mud_client.specs.Steps.{Looks as LooksUp, Reports}
use Rattle.mud_theorems.specs.inner.Talking.{TalkFrom, Began, IsQuiet}
use Rattle.mud_theorems.proofs.Small.{left-nil, right-nil, greeted, framed_none}

-- ---- one piece of input, and one look; the first desk stays

some-inj : {A : Type 0} (x y : A) → Some x ≡ Some y → x ≡ y
some-inj x y e = cc

same-units : (us vs : List Given) → map Some us ≡ map Some vs → us ≡ vs
same-units [] [] e = refl
same-units [] (v ∷ vs) e = absurd (cc)
same-units (u ∷ us) [] e = absurd (cc)
same-units (u ∷ us) (v ∷ vs) e =
    let head : Some u ≡ Some v = cc in
    let tail : map Some us ≡ map Some vs = cc in
    ap (λ (x : Given). x ∷ us) (some-inj u v head) ∙ ap (λ (xs : List Given). v ∷ xs) (same-units us vs tail)

units-are : (us : List Given) (turns : List Turn) (left : List Given)
    → map Some us ≡ map unit_in turns ++ map Some left → us ≡ units_of turns ++ left
units-are us [] left e = same-units us left e
units-are [] (turn ∷ turns) left e = absurd (cc)
units-are (u ∷ us) (turn ∷ turns) left e =
    let head : Some u ≡ unit_in turn = cc in
    let tail : map Some us ≡ map unit_in turns ++ map Some left = cc in
    ap (λ (xs : List Given). u ∷ xs) (units-are us turns left tail)
    ∙ ap (λ (o : Option Given). (option_to_list o ++ units_of turns) ++ left) head

units-append : (xs ys : List Turn) → units_of (xs ++ ys) ≡ units_of xs ++ units_of ys
units-append xs ys = flat_map-append (λ (turn : Turn). option_to_list (unit_of turn.case)) xs ys

fed : (first : DeskState) (capacity : ℕ) (typed sent bytes : List ℕ) (old new : SessionState) (was is : DoorState)
    → was.capacity ≡ capacity → TalkFrom first capacity typed sent old was.desk
    → Feeds TakesIn typed bytes old new was is → TalkFrom first capacity (typed ++ bytes) sent new is.desk
fed first capacity typed sent bytes old new was is same (t, begins) f =
    let going : is_over t.turns ≡ false = sym t.over ∙ f.goes_on in
    let none : t.left ≡ [] = t.all f.goes_on in
    let more : List Turn = f.play.turns in (
      record {
        first = t.first;
        begun = t.begun;
        turns = t.turns ++ more;
        plays = Plays-append TakesIn capacity t.first was.desk is.desk t.turns more going t.plays
            (subst (λ (n : ℕ). Plays TakesIn n was.desk more is.desk) same f.play.plays);
        over = f.ended ∙ sym (is_over-append t.turns more going);
        stands = f.stands;
        left = f.play.left;
        given = f.units
            ∙ ap (λ (xs : List Given). xs ++ f.fresh)
            (t.given ∙ ap (λ (xs : List Given). units_of t.turns ++ xs) none ∙ append-nil (units_of t.turns))
            ∙ ap (λ (xs : List Given). units_of t.turns ++ xs) (units-are f.fresh more f.play.left f.play.units_are)
            ∙ sym (append_assoc (units_of t.turns) (units_of more) f.play.left)
            ∙ ap (λ (xs : List Given). xs ++ f.play.left) (sym (units-append t.turns more));
        all = f.all;
        says = ap (λ (xs : List ℕ). greeting ++ xs) (text_of-append t.turns more)
            ∙ sym (append_assoc greeting (text_of t.turns) (text_of more))
            ∙ ap (λ (xs : List ℕ). xs ++ text_of more) t.says
            ∙ append_assoc sent old.out (text_of more)
            ∙ ap (λ (xs : List ℕ). sent ++ xs) (sym f.out);
      },
      begins,
    )

nudged : (first : DeskState) (capacity : ℕ) (typed sent : List ℕ) (old new : SessionState) (was is : DoorState)
    → was.capacity ≡ capacity → TalkFrom first capacity typed sent old was.desk → Nudges TakesIn old new was is
    → TalkFrom first capacity typed sent new is.desk
nudged first capacity typed sent old new was is same (t, begins) n =
    let going : is_over t.turns ≡ false = sym t.over ∙ n.goes_on in
    let turn : Turn = record { case = Looks; notices = n.lines } in
    let said : List ℕ = flat_map wire_text n.lines in
    let one : Plays TakesIn capacity was.desk (turn ∷ []) is.desk = (
      is.desk,
      subst (λ (c : ℕ). Does TakesIn c was.desk Looks n.lines is.desk) same n.looks,
      λ last. refl,
      refl,
    ) in
    let spoken : text_of (turn ∷ []) ≡ said = append-nil (said ++ []) ∙ append-nil said in (
      record {
        first = t.first;
        begun = t.begun;
        turns = t.turns ++ turn ∷ [];
        plays = Plays-append TakesIn capacity t.first was.desk is.desk t.turns (turn ∷ []) going t.plays one;
        over = ap (λ (s : SessionState). s.has_ended) n.is ∙ n.goes_on
            ∙ sym (is_over-append t.turns (turn ∷ []) going);
        stands = subst (λ (s : SessionState). StandsAfter s.terminal typed) (sym n.is) t.stands;
        left = t.left;
        given = t.given ∙ ap (λ (xs : List Given). xs ++ t.left)
            (sym (append-nil (units_of t.turns)) ∙ sym (units-append t.turns (turn ∷ [])));
        all = λ going. t.all n.goes_on;
        says = ap (λ (xs : List ℕ). greeting ++ xs) (text_of-append t.turns (turn ∷ []))
            ∙ sym (append_assoc greeting (text_of t.turns) (text_of (turn ∷ [])))
            ∙ ap (λ (xs : List ℕ). xs ++ text_of (turn ∷ [])) t.says
            ∙ append_assoc sent old.out (text_of (turn ∷ []))
            ∙ ap (λ (xs : List ℕ). sent ++ (old.out ++ xs)) spoken
            ∙ ap (λ (s : SessionState). sent ++ s.out) (sym n.is);
      },
      begins,
    )

-- the output is taken
taken : (first : DeskState) (capacity : ℕ) (typed sent : List ℕ) (session : SessionState) (desk : DeskState)
    → TalkFrom first capacity typed sent session desk
    → TalkFrom first capacity typed (sent ++ session.out) (record session { out = [] }) desk
taken first capacity typed sent session desk (t, begins) = (
  record {
    first = t.first;
    begun = t.begun;
    turns = t.turns;
    plays = t.plays;
    over = t.over;
    stands = t.stands;
    left = t.left;
    given = t.given;
    all = t.all;
    says = t.says ∙ sym (append-nil (sent ++ session.out));
  },
  begins,
)

-- ---- the initial state

open_turn : (c : Case) → option_to_list (unit_of c) ≡ [] → is_last c ≡ false
open_turn (Rests unit) none = absurd (cc)
open_turn Looks none = refl
open_turn (Fails line) none = absurd (cc)
open_turn (Asks line answer) none = absurd (cc)
open_turn (Acts line reply) none = absurd (cc)

open_turns : (turns : List Turn) → units_of turns ≡ [] → is_over turns ≡ false
open_turns [] none = refl
open_turns (turn ∷ turns) none =
    ap (λ (b : Bool). b || is_over turns)
    (open_turn turn.case (left-nil (option_to_list (unit_of turn.case)) (units_of turns) none))
    ∙ open_turns turns (right-nil (option_to_list (unit_of turn.case)) (units_of turns) none)

guest_still : (loaded : List Entry) (desk : DeskState) → IsNew loaded desk → as_guest desk ≡ desk
guest_still loaded desk new = ap as_guest new.is ∙ sym new.is

pub began_new : (capacity : ℕ) (loaded : List Entry) (desk : DeskState) (client : ClientState) → IsNew loaded desk
    → client.framing ≡ Telnet → client.desk ≡ as_guest desk → client.capacity ≡ capacity → Stands [] [] client
    → Began capacity loaded [] [] client
began_new capacity loaded desk client new telnet is same s =
    let none = framed_none client.framing (s.typed ++ client.waiting) s.said s.frames in
    let typed : s.typed ≡ [] = left-nil s.typed client.waiting none.0 in
    let waiting : client.waiting ≡ [] = right-nil s.typed client.waiting none.0 in
    let talk : IsTalk client.capacity (fresh greeting) [] [] client.session client.desk =
    subst (λ (said : List ℕ). IsTalk client.capacity (fresh greeting) [] said client.session client.desk) none.1
    (subst (λ (ts : List ℕ). IsTalk client.capacity (fresh greeting) ts s.said client.session client.desk) typed
    s.talk) in
    let silent : units_of talk.turns ≡ [] = left-nil (units_of talk.turns) talk.left (sym talk.given) in
    let out = greeted client.capacity client.session client.desk talk in
    let here : client.desk ≡ desk = is ∙ guest_still loaded desk new in
    record {
      first = client.desk;
      new = subst (IsNew loaded) (sym here) new;
      typed = [];
      talk = (
        record {
          first = client.desk;
          begun = is ∙ sym (ap as_guest is);
          turns = [];
          plays = refl;
          over = talk.over ∙ open_turns talk.turns silent;
          stands = talk.stands;
          left = [];
          given = refl;
          all = λ going. refl;
          says = append-nil greeting ∙ sym out;
        },
        refl,
      );
      comes = waiting;
      telnet = telnet;
      capacity_is = same;
    }

-- ---- steps

-- the output of the session is returned
said : (capacity : ℕ) (loaded : List Entry) (came output : List ℕ) (line : Bool) (old new : ClientState) (out : Output)
    → Says line old new out → Began capacity loaded came output old
    → Began capacity loaded came (output ++ out.text) new
said capacity loaded came output line old new out says b =
    let plain : framed old.framing old.session.out ≡ old.session.out =
    ap (λ (f : Framing). framed f old.session.out) b.telnet in
    subst (λ (t : List ℕ). Began capacity loaded came (output ++ t) new) (sym (says.gives ∙ plain))
    (subst (Began capacity loaded came (output ++ old.session.out)) (sym says.same) (record {
      first = b.first;
      new = b.new;
      typed = b.typed;
      talk = taken b.first old.capacity b.typed output old.session old.desk b.talk;
      comes = b.comes;
      telnet = b.telnet;
      capacity_is = b.capacity_is;
    }))

-- the typed text waits
waits : (capacity : ℕ) (loaded : List Entry) (came output bytes : List ℕ) (old mid : ClientState)
    → mid ≡ record old { framing = mid.framing; waiting = mid.waiting } → mid.framing ≡ Telnet
    → mid.waiting ≡ old.waiting ++ bytes → Began capacity loaded came output old
    → Began capacity loaded (came ++ bytes) output mid
waits capacity loaded came output bytes old mid same telnet more b =
    let at : ClientState → Type 0 = λ x. TalkFrom b.first x.capacity b.typed output x.session x.desk in
    record {
      first = b.first;
      new = b.new;
      typed = b.typed;
      talk = subst at (sym same) b.talk;
      comes = ap (λ (w : List ℕ). b.typed ++ w) more ∙ sym (append_assoc b.typed old.waiting bytes)
          ∙ ap (λ (l : List ℕ). l ++ bytes) b.comes;
      telnet = telnet;
      capacity_is = ap (λ (x : ClientState). x.capacity) same ∙ b.capacity_is;
    }

-- the first line, and the text after it
line_splits : (bs : List ℕ) → bs ≡ first_line bs ++ after_first ends_line bs
line_splits bs = sym (take-append-drop (position_or_len ends_line bs + 1) bs)

-- the first waiting line is fed
line_fed : (capacity : ℕ) (loaded : List Entry) (came output : List ℕ) (old new : ClientState) → FeedsLine old new
    → Began capacity loaded came output old → Began capacity loaded came output new
line_fed capacity loaded came output old new f b =
    let line : List ℕ = first_line old.waiting in
    let talk : TalkFrom b.first new.capacity b.typed output old.session old.desk =
    subst (λ (n : ℕ). TalkFrom b.first n b.typed output old.session old.desk) (sym f.same.0) b.talk in
    record {
      first = b.first;
      new = b.new;
      typed = b.typed ++ line;
      talk = fed b.first new.capacity b.typed output line old.session new.session (door_of old) (door_of new)
          (sym f.same.0) talk (f.feeds b.typed b.talk.0.stands);
      comes = append_assoc b.typed line new.waiting
          ∙ ap (λ (l : List ℕ). b.typed ++ l) (ap (λ (l : List ℕ). line ++ l) f.rest ∙ sym (line_splits old.waiting))
          ∙ b.comes;
      telnet = f.same.1 ∙ b.telnet;
      capacity_is = f.same.0 ∙ b.capacity_is;
    }

pub looked : (capacity : ℕ) (loaded : List Entry) (came output : List ℕ) (old new : ClientState) (out : Output)
    → LooksUp old new out → Began capacity loaded came output old
    → Began capacity loaded came (output ++ out.text) new
looked capacity loaded came output old new out (mid, look, says) b =
    let same : mid.capacity ≡ old.capacity = ap (λ (x : ClientState). x.capacity) look.same in
    let waiting : mid.waiting ≡ old.waiting = ap (λ (x : ClientState). x.waiting) look.same in
    let framing : mid.framing ≡ old.framing = ap (λ (x : ClientState). x.framing) look.same in
    let talk : TalkFrom b.first mid.capacity b.typed output old.session old.desk =
    subst (λ (n : ℕ). TalkFrom b.first n b.typed output old.session old.desk) (sym same) b.talk in
    said capacity loaded came output false mid new out says (record {
      first = b.first;
      new = b.new;
      typed = b.typed;
      talk = nudged b.first mid.capacity b.typed output old.session mid.session (door_of old) (door_of mid) (sym same)
          talk look.nudges;
      comes = ap (λ (w : List ℕ). b.typed ++ w) waiting ∙ b.comes;
      telnet = framing ∙ b.telnet;
      capacity_is = same ∙ b.capacity_is;
    })

pub stepped : (capacity : ℕ) (loaded : List Entry) (came output bytes : List ℕ) (old new : ClientState) (out : Output)
    → Steps bytes old new out → Began capacity loaded came output old
    → Began capacity loaded (came ++ bytes) (output ++ out.text) new
stepped capacity loaded came output bytes old new out step b =
    let reads : Reads Telnet step.mid.framing bytes old.waiting step.mid.waiting step.answered =
    subst (λ (f : Framing). Reads f step.mid.framing bytes old.waiting step.mid.waiting step.answered) b.telnet
    step.comes.reads in
    let mid : Began capacity loaded (came ++ bytes) output step.mid =
    waits capacity loaded came output bytes old step.mid step.comes.same reads.0 reads.1 b in
    elim step.gives [
      | inl frames ↦ absurd (frames.some reads.2)
      | inr both ↦
          said capacity loaded (came ++ bytes) output _ both.1 new out both.3
          (line_fed capacity loaded (came ++ bytes) output step.mid both.1 both.2 mid)
    ]

-- ---- the rest after a step

none_waits : (bs : List ℕ) → nat_lt 0 (length bs) ≡ false → bs ≡ []
none_waits [] none = refl
none_waits (b ∷ bs) none = absurd (grind (arith, nat_tests, none))

none_more : (accepted : ℕ) (client : ClientState) (out : Output) → Reports accepted client out → out.end ≡ None
    → out.has_more ≡ false → client.waiting ≡ []
none_more accepted client out r goes_on none =
    none_waits client.waiting
    (sym (ap (λ (end : Option End). is_none end && nat_lt 0 (length client.waiting)) goes_on) ∙ sym r.more ∙ none)

-- after `quit` the session has ended
quit_ends : (was now : Bool) (end : Option End) → end ≡ Some Quit → (was ≡ true → end ≡ Some Earlier)
    → true ≡ (was || now) → now ≡ true
quit_ends false now end quit earlier ends = sym ends
quit_ends true now end quit earlier ends =
    let both : Some Quit ≡ Some Earlier = sym quit ∙ earlier refl in
    absurd (cc)

pub look_rests : (accepted : ℕ) (old new : ClientState) (out : Output) → LooksUp old new out
    → Reports accepted new out → (old.has_ended ≡ true → out.end ≡ Some Earlier) → IsQuiet new out.end out.has_more
look_rests accepted old new out (mid, look, says) reports earlier = (
  ap (λ (c : ClientState). c.session.out) says.same,
  none_more accepted new out reports,
  λ quit.
      let same : new.has_ended ≡ old.has_ended =
      ap (λ (c : ClientState). c.has_ended) says.same ∙ ap (λ (c : ClientState). c.has_ended) look.same in
      let ended : old.has_ended ≡ true =
      sym same ∙ reports.ended ∙ ap (λ (end : Option End). is_some end) quit in
      let both : Some Quit ≡ Some Earlier = sym quit ∙ earlier ended in
      absurd (cc),
)

pub step_rests : (accepted : ℕ) (bytes : List ℕ) (old new : ClientState) (out : Output) → old.framing ≡ Telnet
    → Steps bytes old new out → Reports accepted new out → (old.has_ended ≡ true → out.end ≡ Some Earlier)
    → IsQuiet new out.end out.has_more
step_rests accepted bytes old new out telnet step reports earlier =
    let reads : Reads Telnet step.mid.framing bytes old.waiting step.mid.waiting step.answered =
    subst (λ (f : Framing). Reads f step.mid.framing bytes old.waiting step.mid.waiting step.answered) telnet
    step.comes.reads in
    elim step.gives [
      | inl frames ↦ absurd (frames.some reads.2)
      | inr both ↦ (
        ap (λ (c : ClientState). c.session.out) both.3.same,
        none_more accepted new out reports,
        λ quit.
            quit_ends old.has_ended new.session.has_ended out.end quit earlier
            (sym (ap (λ (end : Option End). is_some end) quit) ∙ sym reports.ended
            ∙ ap (λ (c : ClientState). c.has_ended) both.3.same ∙ both.2.ended
            ∙ ap (λ (c : ClientState). c.has_ended || both.1.session.has_ended) step.comes.same
            ∙ ap (λ (c : ClientState). old.has_ended || c.session.has_ended) (sym both.3.same)),
      )
    ]
