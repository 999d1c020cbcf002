-- Replies and answers outlive a crash.
use Rattle.std.proofs.Common.{◌≡◌, ◌≤◌, ℕ, List, [], ◌∷◌, ◌++◌, length, take, drop, Option, Some, None}
use Rattle.std.proofs.Common.{inl, inr, refl, sym, ◌∙◌, ap, arith, subst, append_assoc}
use Rattle.std.specs.Prelude.{IfSome}
use Rattle.std.proofs.Math.Seq.{take-append_seam}
use Rattle.std.proofs.lemmas.List.{take-append-le, take-append-drop, length-append}
use Rattle.std.proofs.lemmas.List.Elements.{All-weaker}
use Rattle.std.proofs.lemmas.Option.{none-some}
use Rattle.std.specs.List.{AllByRecursion}
use mathlib.Core.List.{IsPrefix}
use Rattle.mud_words.specs.Parse.{parse_of}
use Rattle.mud_world.specs.State.{State}
use Rattle.mud_world.specs.Opening.{opening_state}
use Rattle.mud_world.specs.Legal.{after}
use Rattle.mud_world.specs.declared.limits.TheConstants.{MOST_ENTRIES}
use Rattle.mud_rules.specs.declared.verdict.Query.TheVariants as query
use Rattle.mud_rules.specs.declared.verdict.Verdict.{Verdict}
use Rattle.mud_rules.specs.declared.verdict.Verdict.TheVariants as verdict
use Rattle.mud_chron.specs.Entry.{Entry, IsEntry}
use Rattle.mud_chron.specs.Replay.{changes_of, AreLegalFrom, AreLegal}
use Rattle.mud_cert.specs.Certificate.{Certificate}
use Rattle.mud_journal.specs.Laws.{IsAlwaysRead, NothingIsLost}
use Rattle.mud_hall.specs.Desk.{DeskState}
use Rattle.mud_hall.specs.Replies.{Accepted, verdict_on}
use Rattle.mud_hall.specs.Answers.{Answered, Shows}
use Rattle.mud_hall.specs.Right.{IsCertified, IsAcceptedWith}
use Rattle.mud_hall.specs.Steps.{Call, Hall, AreLoadable, Begins, HallStep, IsRun, Makes, At, Act, Ask}
use Rattle.mud_hall.specs.Laws.{IsRight, HistoryGoesOn}
use Rattle.mud_session.specs.Notices.{IsPiece, IsNotice, NamesUpTo}
use Rattle.mud_theorems.specs.Survival.{WasCalled, StillHolds}
use Rattle.mud_theorems.specs.Laws.{WhatWasToldLasts}
use Rattle.mud_hall.proofs.Coming.{accepted_is}
use Rattle.mud_theorems.proofs.Merging.{at-here, run-append}

-- the laws below that this uses
pub record Below : Type 0 where
  pub guide : (capacity : ℕ) (loaded : List Entry) (begin : Hall) → Begins capacity loaded begin
      → (steps : List HallStep) (hall : Hall) → IsRun capacity loaded begin steps hall
      → (s : ℕ) (line : List ℕ) (a : Answered) (next : Hall)
      → Makes capacity loaded hall (At s (Ask line (Some a))) next
      → (d : DeskState) → hall.desks s ≡ Some d
      → IsPrefix d.seen hall.history × IsRight d.seen d.player (verdict_on d.seen d.player (parse_of line)) a
  pub going_on : HistoryGoesOn
  pub always_read : IsAlwaysRead
  pub nothing_is_lost : NothingIsLost

some-inj : {A : Type 0} (x y : A) → Some x ≡ Some y → x ≡ y
some-inj x y e = cc

-- ---- prefixes

trans : (a b c : List Entry) → IsPrefix a b → IsPrefix b c → IsPrefix a c
trans a b c x y = (x.0 ++ y.0, sym (append_assoc a x.0 y.0) ∙ (ap (λ (h : List Entry). h ++ y.0) x.1 ∙ y.1))

long : (f h : List Entry) → IsPrefix f h → length f ≤ length h
long f h on = omega (arith, ap length on.1, length-append f on.0)

front : (v : ℕ) (h : List Entry) → IsPrefix (take v h) h
front v h = (drop v h, take-append-drop v h)

-- the first entries of a prefix are the first entries
fronts : (f h : List Entry) (v : ℕ) → IsPrefix f h → v ≤ length f → take v f ≡ take v h
fronts f h v on within = sym (take-append-le v f on.0 within) ∙ ap (take v) on.1

-- a prefix is the first entries, as many as it has
first : (f h : List Entry) → IsPrefix f h → take (length f) h ≡ f
first f h on = ap (take (length f)) (sym on.1) ∙ take-append_seam f on.0

-- ---- a prefix of a history that can be loaded

each-front : (f more : List Entry) → AllByRecursion IsEntry (f ++ more) → AllByRecursion IsEntry f
each-front [] more is = tt
each-front (e ∷ f) more is = (is.0, each-front f more is.1)

legal-front : (w : State) (f more : List Entry) → AreLegalFrom w (changes_of (f ++ more))
    → AreLegalFrom w (changes_of f)
legal-front w [] more is = tt
legal-front w (e ∷ f) more is = (is.0, legal-front (after w e.change) f more is.1)

loadable-front : (capacity : ℕ) (f h : List Entry) → IsPrefix f h → AreLoadable capacity h → AreLoadable capacity f
loadable-front capacity f h on are =
    let each : AllByRecursion IsEntry (f ++ on.0) = subst (AllByRecursion IsEntry) (sym on.1) are.each in
    let legal : AreLegal (changes_of (f ++ on.0)) =
    subst (λ (x : List Entry). AreLegal (changes_of x)) (sym on.1) are.legal in
    record {
      each = each-front f on.0 each;
      legal = legal-front opening_state f on.0 legal;
      few = omega (arith, long f h on, are.few);
    }

-- ---- texts

notice-up : (m n : ℕ) (text : List ℕ) → m ≤ n → IsNotice m text → IsNotice n text
notice-up m n text le x = (x.0, x.1, x.2, x.3, x.4, omega (arith, le, x.5), x.6, x.7)

piece-up : (m n : ℕ) (piece : List ℕ) → m ≤ n → IsPiece m piece → IsPiece n piece
piece-up m n piece le (inl p) = inl (p.0, p.1, omega (arith, le, p.2), p.3, p.4)
piece-up m n piece le (inr (inl p)) = inr (inl (p.0, notice-up m n p.0 le p.1, p.2))
piece-up m n piece le (inr (inr (inl p))) = inr (inr (inl p))
piece-up m n piece le (inr (inr (inr p))) = inr (inr (inr p))

names-up : (m n : ℕ) (text : List ℕ) → m ≤ n → NamesUpTo m text → NamesUpTo n text
names-up m n text le names = record {
  pieces = names.pieces;
  each = All-weaker (IsPiece m) (IsPiece n) (λ piece p. piece-up m n piece le p) names.pieces names.each;
  is = names.is;
}

-- ---- certificates

-- only an answer that is certified has a certificate
certified : (f : List Entry) (player : Option ℕ) (v : Verdict) (a : Answered) (c : Certificate) → a.cert ≡ Some c
    → Shows f player v a → IsRight f player v a → IsCertified f (Some c)
certified f (Some p) (verdict.Ask (query.Journey j)) a c is shows right = subst (IsCertified f) is right.2
certified f (Some p) (verdict.Ask (query.Proof j)) a c is shows right = subst (IsCertified f) is right.4
certified f None (verdict.Ask (query.Journey j)) a c is shows right = absurd shows.1
certified f None (verdict.Ask (query.Proof j)) a c is shows right = absurd shows.1
certified f (Some p) (verdict.Ask (query.View view)) a c is shows right = absurd (none-some c (sym shows.1 ∙ is))
certified f None (verdict.Ask (query.View view)) a c is shows right = absurd (none-some c (sym shows.1 ∙ is))
certified f (Some p) (verdict.Ask query.History) a c is shows right = absurd (none-some c (sym shows.1 ∙ is))
certified f None (verdict.Ask query.History) a c is shows right = absurd (none-some c (sym shows.1 ∙ is))
certified f (Some p) (verdict.Refused r) a c is shows right = absurd (none-some c (sym shows.1 ∙ is))
certified f None (verdict.Refused r) a c is shows right = absurd (none-some c (sym shows.1 ∙ is))
certified f (Some p) (verdict.Change e) a c is shows right = absurd (none-some c (sym shows.1 ∙ is))
certified f None (verdict.Change e) a c is shows right = absurd (none-some c (sym shows.1 ∙ is))
certified f (Some p) (verdict.Become q) a c is shows right = absurd (none-some c (sym shows.1 ∙ is))
certified f None (verdict.Become q) a c is shows right = absurd (none-some c (sym shows.1 ∙ is))

-- ---- the law

-- the histories that accept an optional certificate
with-it : (f g : List Entry) (cert : Option Certificate) → IsPrefix f g → AreLoadable MOST_ENTRIES g
    → ((c : Certificate) → cert ≡ Some c → IsCertified f (Some c)) → IfSome cert (IsAcceptedWith g)
with-it f g None on loadable is = tt
with-it f g (Some c) on loadable is = (is c refl).1 g on loadable

-- an answer by the first entries of the history found
still : (got f : List Entry) (player : Option ℕ) (line : List ℕ) (a : Answered) → IsPrefix f got
    → a.version ≡ length f → AreLoadable MOST_ENTRIES got → Shows f player (verdict_on f player (parse_of line)) a
    → IsRight f player (verdict_on f player (parse_of line)) a → StillHolds got player line a
still got f player line a on version loadable shows right =
    let here : f ≡ take a.version got = sym (ap (λ n. take n got) version ∙ first f got on) in
    let S : List Entry → Type 0 = λ h. Shows h player (verdict_on h player (parse_of line)) a in
    let R : List Entry → Type 0 = λ h. IsRight h player (verdict_on h player (parse_of line)) a in
    let C : (c : Certificate) → a.cert ≡ Some c → IsCertified f (Some c) =
    λ c is. certified f player (verdict_on f player (parse_of line)) a c is shows right in
    record {
      there = omega (arith, version, long f got on);
      shows = subst S here shows;
      right = subst R here right;
      now = with-it f got a.cert on loadable C;
      later = λ g goes are. with-it f g a.cert (trans f got g on goes) are C;
    }

-- after an accepted change the history has as many entries as its version says
made : (capacity : ℕ) (loaded : List Entry) (old next : Hall) (s v : ℕ) (line text : List ℕ)
    → Makes capacity loaded old (At s (Act line (Accepted v text))) next → length next.history ≡ v
made capacity loaded old next s v line text (was, is, turns, grows, acts) =
    let c = accepted_is capacity acts.ready (parse_of line) v text is acts.replies in
    let entry : Entry = record { desk = acts.ready.number; change = c.change } in
    let seen : is.seen ≡ acts.ready.seen ++ entry ∷ [] = ap (λ (d : DeskState). d.seen) c.stores.3 in
    ap length (sym grows.2) ∙ ap length seen ∙ length-append acts.ready.seen (entry ∷ []) ∙ sym c.stores.1

-- the history of a run at a call is a prefix of its last one
after_call : HistoryGoesOn → (capacity : ℕ) (loaded : List Entry) (begin : Hall) → Begins capacity loaded begin
    → (s : ℕ) (call : Call) (next hall : Hall) → WasCalled capacity loaded begin s call next hall
    → IsPrefix next.history hall.history
after_call going_on capacity loaded begin begins s call next hall c =
    (going_on capacity loaded begin begins (c.before ++ At s call ∷ []) next
    (run-append capacity loaded begin c.old next c.before (At s call ∷ []) c.ran (next, c.makes, refl)) c.after hall
    c.goes_on).1

-- an answer of the run, which its desk gave by entries that are found
answered : Below → (capacity : ℕ) (loaded : List Entry) (begin : Hall) → Begins capacity loaded begin
    → (hall : Hall) (got : List Entry) → IsPrefix got hall.history → AreLoadable MOST_ENTRIES got
    → (s : ℕ) (line : List ℕ) (a : Answered) (next : Hall) (d : DeskState)
    → WasCalled capacity loaded begin s (Ask line (Some a)) next hall → a.version ≤ length got
    → next.desks s ≡ Some d → StillHolds got d.player line a
answered below capacity loaded begin begins hall got only loadable s line a next d c within at = go c.makes
  where
    on : IsPrefix next.history hall.history
    on = after_call below.going_on capacity loaded begin begins s (Ask line (Some a)) next hall c

    go : Makes capacity loaded c.old (At s (Ask line (Some a))) next → StillHolds got d.player line a
    go (was, is, turns, same, (answers, stays)) =
        let right =
        below.guide capacity loaded begin begins c.before c.old c.ran s line a next c.makes was turns.before in
        let here : next.desks s ≡ Some is =
        ap (λ (h : Hall). h.desks s) turns.after ∙ at-here c.old next.history s is in
        let mine : was ≡ d = sym stays ∙ some-inj is d (sym here ∙ at) in
        let seen : IsPrefix was.seen hall.history =
        trans was.seen next.history hall.history (subst (IsPrefix was.seen) (sym same) right.0) on in
        let short : length was.seen ≤ length got = omega (arith, answers.version, within) in
        let equal : was.seen ≡ take (length was.seen) got =
        sym (fronts got hall.history (length was.seen) only short ∙ first was.seen hall.history seen) in
        let there : IsPrefix was.seen got =
        subst (λ (x : List Entry). IsPrefix x got) (sym equal) (front (length was.seen) got) in
        subst (λ (x : DeskState). StillHolds got x.player line a) mine
        (still got was.seen was.player line a there answers.version loadable answers.shows right.1)

pub lasts : Below → WhatWasToldLasts
lasts below capacity loaded begin begins steps hall run synced bytes crash = (
  λ fault refused. below.always_read bytes synced crash.added fault crash.left refused,
  λ got torn finds.
      let whole = below.going_on capacity loaded begin begins steps hall run [] hall refl in
      let found = below.nothing_is_lost bytes synced crash.added got torn crash.left finds in
      let only : IsPrefix got hall.history =
      trans got (synced ++ crash.added) hall.history found.1 crash.mine in
      let can : AreLoadable capacity got = loadable-front capacity got hall.history only whole.0 in
      let most : AreLoadable MOST_ENTRIES got = record {
        each = can.each;
        legal = can.legal;
        few = omega (arith, long got (synced ++ crash.added) found.1, crash.left.allowed.few);
      } in
      let enough : length synced ≤ length got = long synced got found.0 in (
        record {
          all = found.0;
          only = only;
          loadable = can;
          same = λ v within. fronts got hall.history v only (omega (arith, within, enough));
        },
        λ text names. names-up (length synced) (length got) text enough names,
        λ s v line text next c within.
            let on =
            after_call below.going_on capacity loaded begin begins s (Act line (Accepted v text)) next hall c in
            let v_is = made capacity loaded c.old next s v line text c.makes in
            fronts got hall.history v only (omega (arith, within, enough))
            ∙ ap (λ n. take n hall.history) (sym v_is) ∙ first next.history hall.history on,
        λ s line a next d c within at.
            answered below capacity loaded begin begins hall got only most s line a next d c
            (omega (arith, within, enough)) at,
      ),
)
