-- The invariant of a hall is preserved by every step.
use Rattle.std.proofs.Common.{◌≡◌, ◌≢◌, ℕ, ◌+◌, ◌≤◌, ◌<◌, ◌⊎◌, inl, inr, List, [], ◌∷◌, ◌++◌, length}
use Rattle.std.proofs.Common.{Option, None, Some, refl, sym, ◌∙◌, ap, subst, arith, append_assoc, append-nil, cond, eqb}
use Rattle.std.specs.List.{AllByRecursion}
use mathlib.Core.List.{IsPrefix}
use Rattle.std.proofs.lemmas.Bool.{cases_eq, eq-eqb, ne_eqb}
use Rattle.std.proofs.lemmas.List.{map-append, length-append}
use Rattle.mud_world.specs.State.{State}
use Rattle.mud_world.specs.Legal.{refusal, after}
use Rattle.mud_world.specs.History.{world_from}
use Rattle.mud_world.specs.Opening.{opening_state}
use Rattle.mud_world.specs.declared.change.Change.{Change}
use Rattle.mud_chron.specs.declared.limits.TheConstants.{MOST_DESKS}
use Rattle.mud_chron.specs.Entry.{Entry, IsEntry}
use Rattle.mud_chron.specs.Replay.{changes_of, AreLegalFrom, AreLegal}
use Rattle.mud_chron.proofs.Spellable.{legal_is_spellable}
use Rattle.mud_words.specs.Parse.{parse_of}
use Rattle.mud_hall.specs.Notices.{world_after}
use Rattle.mud_hall.specs.Desk.{DeskState}
use Rattle.mud_hall.specs.Replies.{Reply, Accepted, Became, Refused, Question, Failed}
use Rattle.mud_hall.specs.Replies.{Replies, verdict_on}
use Rattle.mud_hall.specs.Steps.{See, Act, Ask, Guest, Told}
use Rattle.mud_hall.specs.Steps.{Hall, AreLoadable, hall_begun, lone_desk, opened_alone, Begins, Turns, Grows}
use Rattle.mud_hall.specs.Steps.{HallStep, Desk, Learn, At, Makes, IsRun}
use Rattle.mud_world.proofs.Worlds.{stepped-legal}
use Rattle.mud_rules.specs.Laws.{IsMade}
use Rattle.mud_rules.proofs.Decided.{are_made}
use Rattle.mud_hall.specs.Laws.{HistoryGoesOn}
use Rattle.mud_hall.proofs.Worlds.{world-sound}
use Rattle.mud_hall.proofs.Coming.{WasChange, accepted_is, stored_number, same_number}

-- a desk of a hall with this history
pub record IsDesk (h : List Entry) (s : ℕ) (d : DeskState) : Type 0 where
  pub from : 1 ≤ s
  pub to : s ≤ MOST_DESKS
  pub number : d.number ≡ s
  pub known : IsPrefix d.seen h

abbrev AreDesks : List Entry → Hall → Type 0
AreDesks h hall = (s : ℕ) (d : DeskState) → hall.desks s ≡ Some d → IsDesk h s d

-- the invariant of a hall in every run
pub record IsKept (capacity : ℕ) (hall : Hall) : Type 0 where
  pub each : AllByRecursion IsEntry hall.history
  pub legal : AreLegal (changes_of hall.history)
  pub few : length hall.history ≤ capacity
  pub desks : (s : ℕ) (d : DeskState) → hall.desks s ≡ Some d → IsDesk hall.history s d

-- and the history is extended
pub record Keeps (capacity : ℕ) (old new : Hall) : Type 0 where
  pub kept : IsKept capacity new
  pub on : IsPrefix old.history new.history

some-inj : {A : Type 0} (x y : A) → Some x ≡ Some y → x ≡ y
some-inj x y e = cc

-- ---- histories
goes-same : (old new : List Entry) → new ≡ old → IsPrefix old new
goes-same old new e = ([], append-nil old ∙ sym e)

pub goes_trans : (a b c : List Entry) → IsPrefix a b → IsPrefix b c → IsPrefix a c
goes_trans a b c x y = (x.0 ++ y.0, sym (append_assoc a x.0 y.0) ∙ (ap (λ (h : List Entry). h ++ y.0) x.1 ∙ y.1))

pub each-push : (es : List Entry) (e : Entry) → AllByRecursion IsEntry es → IsEntry e
    → AllByRecursion IsEntry (es ++ e ∷ [])
each-push [] e is last = (last, tt)
each-push (x ∷ es) e is last = (is.0, each-push es e is.1 last)

legal-push : (w : State) (cs : List Change) (e : Change) → AreLegalFrom w cs → refusal (world_from w cs) e ≡ None
    → AreLegalFrom w (cs ++ e ∷ [])
legal-push w [] e legal is = (is, tt)
legal-push w (c ∷ cs) e legal is = (
  legal.0,
  legal-push (after w c) cs e legal.1 (sym (ap (λ (v : State). refusal (world_from v cs) e)
      (stepped-legal w c legal.0)) ∙ is),
)

legal-more : (h : List Entry) (e : Entry) → AreLegal (changes_of h) → refusal (world_after h) e.change ≡ None
    → AreLegal (changes_of (h ++ e ∷ []))
legal-more h e legal is =
    subst AreLegal (sym (map-append (λ (x : Entry). x.change) h (e ∷ [])))
    (legal-push opening_state (changes_of h) e.change legal is)

-- two lists with one last entry each
last-one : (xs ys : List Entry) (x y : Entry) → xs ++ x ∷ [] ≡ ys ++ y ∷ [] → xs ≡ ys
last-one [] [] x y e = refl
last-one [] (z ∷ []) x y e = absurd (cc)
last-one [] (z ∷ u ∷ zs) x y e = absurd (cc)
last-one (z ∷ []) [] x y e = absurd (cc)
last-one (z ∷ u ∷ zs) [] x y e = absurd (cc)
last-one (z ∷ zs) (u ∷ us) x y e =
    let head : z ≡ u = cc in
    let tail : zs ++ x ∷ [] ≡ us ++ y ∷ [] = cc in
    ap (λ (k : Entry). k ∷ zs) head ∙ ap (λ (ks : List Entry). u ∷ ks) (last-one zs us x y tail)

-- ---- one desk

-- the desk with number t, after this desk was set at s
at-seat : (desks : ℕ → Option DeskState) (s : ℕ) (is : DeskState) (t : ℕ) (d : DeskState)
    → cond (eqb t s) (Some is) (desks t) ≡ Some d → ((t ≡ s) × (is ≡ d)) ⊎ (desks t ≡ Some d)
at-seat desks s is t d at = go (cases_eq t s)
  where
    go : (t ≡ s) ⊎ (t ≢ s) → ((t ≡ s) × (is ≡ d)) ⊎ (desks t ≡ Some d)
    go (inl same) = inl (
      same,
      some-inj is d (sym (ap (λ b. cond b (Some is) (desks t)) (eq-eqb t s same)) ∙ at),
    )
    go (inr apart) = inr (sym (ap (λ b. cond b (Some is) (desks t)) (ne_eqb t s apart)) ∙ at)

goes-on : (old new : List Entry) (s : ℕ) (d : DeskState) → IsDesk old s d → IsPrefix old new → IsDesk new s d
goes-on old new s d good on = record {
  from = good.from;
  to = good.to;
  number = good.number;
  known = goes_trans d.seen old new good.known on;
}

turned : (old new : Hall) (s : ℕ) (was is : DeskState) → Turns old s was is new → AreDesks old.history old
    → is.number ≡ was.number → IsPrefix old.history new.history → AreDesks new.history new
turned old new s was is turns desks number on t d at =
    go (at-seat old.desks s is t d (sym (ap (λ (h : Hall). h.desks t) turns.after) ∙ at))
  where
    go : ((t ≡ s) × (is ≡ d)) ⊎ (old.desks t ≡ Some d) → IsDesk new.history t d
    go (inl p) =
        let good : IsDesk old.history s was = desks s was turns.before in
        let same : t ≡ s = p.0 in
        subst (IsDesk new.history t) p.1 (record {
          from = omega (arith, same, good.from);
          to = omega (arith, same, good.to);
          number = number ∙ good.number ∙ sym same;
          known = turns.known;
        })
    go (inr there) = goes-on old.history new.history t d (desks t d there) on

-- if the history does not change
stays : (capacity : ℕ) (old new : Hall) → IsKept capacity old → new.history ≡ old.history → AreDesks new.history new
    → Keeps capacity old new
stays capacity old new kept same desks =
    let long : length new.history ≡ length old.history = ap length same in
    record {
      kept = record {
        each = subst (AllByRecursion IsEntry) (sym same) kept.each;
        legal = subst (λ (h : List Entry). AreLegal (changes_of h)) (sym same) kept.legal;
        few = omega (arith, long, kept.few);
        desks = desks;
      };
      on = goes-same old.history new.history same;
    }

rests : (capacity : ℕ) (old new : Hall) (s : ℕ) (was is : DeskState) → IsKept capacity old → Turns old s was is new
    → is.number ≡ was.number → new.history ≡ old.history → Keeps capacity old new
rests capacity old new s was is kept turns number same =
    stays capacity old new kept same
    (turned old new s was is turns kept.desks number (goes-same old.history new.history same))

-- ---- acting

accepts : (capacity : ℕ) (old new : Hall) (s n : ℕ) (was is : DeskState) (e : Change) → IsKept capacity old
    → Turns old s was is new → n ≡ s
    → is.number ≡ was.number → IsMade (world_after old.history) e → length old.history < capacity
    → new.history ≡ old.history ++ record { desk = n; change = e } ∷ [] → Keeps capacity old new
accepts capacity old new s n was is e kept turns mine number made room grown =
    let entry : Entry = record { desk = n; change = e } in
    let good : IsDesk old.history s was = kept.desks s was turns.before in
    let one : IsEntry entry = record {
      spellable = legal_is_spellable (world_after old.history) n e (world-sound old.history) made.legal
          (omega (arith, mine, good.from)) (omega (arith, mine, good.to));
      parts = made.parts;
    } in
    let long : length new.history ≡ length old.history + 1 = ap length grown ∙ length-append old.history (entry ∷ []) in
    let on : IsPrefix old.history new.history = (entry ∷ [], sym grown) in
    record {
      kept = record {
        each = subst (AllByRecursion IsEntry) (sym grown) (each-push old.history entry kept.each one);
        legal = subst (λ (h : List Entry). AreLegal (changes_of h)) (sym grown)
            (legal-more old.history entry kept.legal made.legal);
        few = omega (arith, long, kept.few, room);
        desks = turned old new s was is turns kept.desks number on;
      };
      on = on;
    }

-- the stored change is the one that was accepted
stored : (capacity : ℕ) (old new : Hall) (s v : ℕ) (text line : List ℕ) (was ready is : DeskState)
    → IsKept capacity old → Turns old s was is new
    → ready.number ≡ was.number → WasChange capacity ready (parse_of line) (Accepted v text) is
    → Grows (Act line (Accepted v text)) old.history is new.history → Keeps capacity old new
stored capacity old new s v text line was ready is kept turns number c grows =
    let e = c.change in
    let n = ready.number in
    let entry : Entry = record { desk = n; change = e } in
    let mine : is.seen ≡ ready.seen ++ entry ∷ [] = ap (λ (d : DeskState). d.seen) c.stores.3 in
    let grown : new.history ≡ ready.seen ++ entry ∷ [] = sym grows.2 ∙ mine in
    let whole : ready.seen ≡ old.history = last-one ready.seen old.history entry grows.0 (sym grown ∙ grows.1) in
    let made : IsMade (world_after ready.seen) e =
    are_made (world_after ready.seen) (world-sound ready.seen) ready.player (parse_of line) e c.decides in
    let good : IsDesk old.history s was = kept.desks s was turns.before in
    accepts capacity old new s n was is e kept turns (number ∙ good.number)
    (stored_number capacity ready e (Accepted v text) is c.stores ∙ number)
    (subst (λ (x : List Entry). IsMade (world_after x) e) whole made)
    (subst (λ (x : List Entry). length x < capacity) whole c.stores.0)
    (grown ∙ ap (λ (x : List Entry). x ++ entry ∷ []) whole)

-- if the reply is not an accepted change, the history does not change
replies : (capacity : ℕ) (old new : Hall) (s : ℕ) (line : List ℕ) (was ready is : DeskState) (reply : Reply)
    → IsKept capacity old
    → Turns old s was is new → ready.number ≡ was.number → Grows (Act line reply) old.history is new.history
    → Replies capacity ready (parse_of line) reply is → Keeps capacity old new
replies capacity old new s line was ready is reply kept turns number grows r =
    let mine : is.number ≡ was.number =
    same_number capacity ready (verdict_on ready.seen ready.player (parse_of line)) reply is r ∙ number in
    go reply grows r mine
  where
    go : (reply : Reply) → Grows (Act line reply) old.history is new.history
        → Replies capacity ready (parse_of line) reply is
        → is.number ≡ was.number → Keeps capacity old new
    go (Accepted v text) grows r mine =
        stored capacity old new s v text line was ready is kept turns number
        (accepted_is capacity ready (parse_of line) v text is r) grows
    go (Became v text) grows r mine = rests capacity old new s was is kept turns mine grows
    go (Refused v f text) grows r mine = rests capacity old new s was is kept turns mine grows
    go (Question v) grows r mine = rests capacity old new s was is kept turns mine grows
    go (Failed fault) grows r mine = rests capacity old new s was is kept turns mine grows

-- ---- the steps

gives : (capacity : ℕ) (loaded : List Entry) (old new : Hall) (s : ℕ) → IsKept capacity old
    → Makes capacity loaded old (Desk s) new → Keeps capacity old new
gives capacity loaded old new s kept (is, fresh, number, next, known, after) =
    let same : new.history ≡ old.history = ap (λ (h : Hall). h.history) after in
    stays capacity old new kept same (λ t d at.
    subst (λ (h : List Entry). IsDesk h t d) (sym same)
    (go t d (at-seat old.desks s is t d (sym (ap (λ (h : Hall). h.desks t) after) ∙ at))))
  where
    go : (t : ℕ) (d : DeskState) → ((t ≡ s) × (is ≡ d)) ⊎ (old.desks t ≡ Some d) → IsDesk old.history t d
    go t d (inl p) =
        let here : t ≡ s = p.0 in
        subst (IsDesk old.history t) p.1 (record {
          from = omega (arith, here, number, fresh.from);
          to = omega (arith, here, number, fresh.to);
          number = number ∙ sym here;
          known = known;
        })
    go t d (inr there) = kept.desks t d there

pub makes_kept : (capacity : ℕ) (loaded : List Entry) (old : Hall) (step : HallStep) (new : Hall) → IsKept capacity old
    → Makes capacity loaded old step new → Keeps capacity old new
makes_kept capacity loaded old (Desk s) new kept m = gives capacity loaded old new s kept m
makes_kept capacity loaded old (Learn s t) new kept (was, is, other, turns, same, at, l) =
    rests capacity old new s was is kept turns (ap (λ (d : DeskState). d.number) l.takes_in.is) same
makes_kept capacity loaded old (At s See) new kept (was, is, turns, same, t) =
    rests capacity old new s was is kept turns (ap (λ (d : DeskState). d.number) t.is) same
makes_kept capacity loaded old (At s (Act line reply)) new kept (was, is, turns, grows, a) =
    replies capacity old new s line was a.ready is reply kept turns (ap
    (λ (d : DeskState). d.number) a.takes_in.is) grows a.replies
makes_kept capacity loaded old (At s (Ask line None)) new kept (was, is, turns, same, stands) =
    rests capacity old new s was is kept turns (ap (λ (d : DeskState). d.number) stands) same
makes_kept capacity loaded old (At s (Ask line (Some a))) new kept (was, is, turns, same, asked) =
    rests capacity old new s was is kept turns (ap (λ (d : DeskState). d.number) asked.1) same
makes_kept capacity loaded old (At s Guest) new kept (was, is, turns, same, becomes) =
    rests capacity old new s was is kept turns (ap (λ (d : DeskState). d.number) becomes) same
makes_kept capacity loaded old (At s (Told lines)) new kept (was, is, turns, same, hands) =
    rests capacity old new s was is kept turns (ap (λ (d : DeskState). d.number) hands.is) same

pub run_kept : (capacity : ℕ) (loaded : List Entry) (old : Hall) (steps : List HallStep) (new : Hall)
    → IsKept capacity old → IsRun capacity loaded old steps new → Keeps capacity old new
run_kept capacity loaded old [] new kept same = record {
  kept = subst (IsKept capacity) same kept;
  on = goes-same old.history new.history (ap (λ (h : Hall). h.history) (sym same));
}
run_kept capacity loaded old (step ∷ steps) new kept (hall, made, run) =
    let one : Keeps capacity old hall = makes_kept capacity loaded old step hall kept made in
    let rest : Keeps capacity hall new = run_kept capacity loaded hall steps new one.kept run in
    record { kept = rest.kept; on = goes_trans old.history hall.history new.history one.on rest.on }

no-desk : (h : List Entry) (s : ℕ) (d : DeskState) → None ≡ Some d → IsDesk h s d
no-desk h s d none = let bad : ◌≡◌ {A = Option DeskState} None (Some d) = none in absurd (cc)

opened_kept : (capacity : ℕ) (loaded : List Entry) → AreLoadable capacity loaded → IsKept capacity (hall_begun loaded)
opened_kept capacity loaded are = record {
  each = are.each;
  legal = are.legal;
  few = are.few;
  desks = λ s d none. no-desk loaded s d none;
}

alone_kept : (capacity : ℕ) → IsKept capacity opened_alone
alone_kept capacity = record {
  each = tt;
  legal = tt;
  few = omega arith;
  desks = λ s d at. go s d (at-seat (λ t. None) 1 lone_desk s d at);
}
  where
    go : (s : ℕ) (d : DeskState) → ((s ≡ 1) × (lone_desk ≡ d)) ⊎ (None ≡ Some d) → IsDesk [] s d
    go s d (inl p) =
        let here : s ≡ 1 = p.0 in
        subst (IsDesk [] s) p.1 (record {
          from = omega (arith, here);
          to = omega (arith, here);
          number = sym here;
          known = ([], refl);
        })
    go s d (inr none) = no-desk [] s d none

pub begun_kept : (capacity : ℕ) (loaded : List Entry) (begin : Hall) → Begins capacity loaded begin
    → IsKept capacity begin
begun_kept capacity loaded begin (inl b) = subst (IsKept capacity) (sym b.1) (opened_kept capacity loaded b.0)
begun_kept capacity loaded begin (inr b) = subst (IsKept capacity) (sym b.1) (alone_kept capacity)

pub history_goes_on : HistoryGoesOn
history_goes_on capacity loaded begin begins steps hall run more later goes =
    let first : Keeps capacity begin hall =
    run_kept capacity loaded begin steps hall (begun_kept capacity loaded begin begins) run in
    let rest : Keeps capacity hall later = run_kept capacity loaded hall more later first.kept goes in
    (record { each = rest.kept.each; legal = rest.kept.legal; few = rest.kept.few }, rest.on)
