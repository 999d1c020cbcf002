use Rattle.std.proofs.Common.{◌≡◌, ◌≤◌, ◌+◌, ℕ, Bool, true, false, cond, ltb, List, length, take, drop, Option, Some}
use Rattle.std.proofs.Common.{None, is_some, min, refl, sym, ap, subst, ◌∙◌, arith, rules, tests, ◌||◌, OnOk}
use Rattle.std.specs.List.{position_or_len, after_first}
use Rattle.std.proofs.lemmas.List.{length-take, take_all, drop_all}
use Rattle.std.proofs.lemmas.List.Folds.{length-prefix_len}
use Rattle.std.proofs.lemmas.Bool.Decides.{nat_tests}
use Rattle.std.proofs.lemmas.Iterator.{YieldsList-from_slice}
use Rattle.std.proofs.lemmas.Iterator.Search.{position_from_yields_List}
use Rattle.mud_client.specs.Client.{ClientState, state_of}
use Rattle.mud_client.specs.Steps.{ends_line, first_line, has_line, FeedsLine}
use Rattle.mud_client.proofs.Stepping.{fed_line, fed_kept, fed_names_at, on_ok}
use Rattle.mud_client.proofs.client.Client.feed_line.Given.{Over}
use Rattle.mud_client.proofs.client.Client.feed_line.Goals as goal
use Rattle.mud_client.proofs.client.Client.feed_line.Goals.{After-into_desk, in-Some, in-None}
use Rattle.mud_client.proofs.client.Client.feed_line.Goals.{then-has_ended, else-has_ended}

-- the first `count` bytes are the first line, with its line end if it has one
record IsLine (bs : List ℕ) (end : Option ℕ) (count : ℕ) : Type 0 where
  takes : take count bs ≡ first_line bs
  leaves : drop count bs ≡ after_first ends_line bs
  ended : is_some end ≡ has_line bs

found : (bs : List ℕ) (at : ℕ) (t : Bool) → t ≡ has_line bs
    → Some at ≡ cond t (Some (position_or_len ends_line bs)) None → IsLine bs (Some at) (at + 1)
found bs at true which is =
    let same : at ≡ position_or_len ends_line bs = cc in
    record {
      takes = ap (λ (n : ℕ). take (n + 1) bs) same;
      leaves = ap (λ (n : ℕ). drop (n + 1) bs) same;
      ended = which;
    }
found bs at false which is = absurd (cc)

not_found : (bs : List ℕ) (t : Bool) → t ≡ has_line bs
    → None ≡ cond t (Some (position_or_len ends_line bs)) None → IsLine bs None (length bs)
not_found bs true which is = absurd (cc)
not_found bs false which is =
    let n : ℕ = position_or_len ends_line bs in
    let within : min n (length bs) ≡ n = rw (← length-take n bs) (length-prefix_len _ bs) in
    let past : false ≡ ltb n (length bs) = which in
    let all : length bs ≤ n + 1 = grind (arith, nat_tests) in
    record {
      takes = take_all (length bs) bs (omega arith) ∙ sym (take_all (n + 1) bs all);
      leaves = drop_all (length bs) bs (omega arith) ∙ sym (drop_all (n + 1) bs all);
      ended = which;
    }

first : (g : Over) (c : After-into_desk g) → IsLine c.deref_mut-parts.result.now.waiting.items c.match-end.end
    c.match-end.count
first g c =
    let waiting = c.deref_mut-parts.result.now.waiting in
    let bs : List ℕ = waiting.items in
    let count : ℕ = c.match-end.count in
    let at = position_from_yields_List ends_line _ _ c.position-end.result c.position-end.ensures.ran
    (YieldsList-from_slice bs (c.iter.ensures.rest ∙ c.deref.ensures.value)) (λ x b q k. search (rules, tests)) in
    elim c.match-end.branch [
      | in-Some w ↦
          let is : c.match-end.end ≡ Some w.in-Some.end = cc in
          subst (λ (e : Option ℕ). IsLine bs e count) (sym is)
          (subst (λ (n : ℕ). IsLine bs (Some w.in-Some.end) n) (sym w.count-is)
          (found bs w.in-Some.end _ refl (sym w.in-Some.is ∙ at)))
      | in-None w ↦
          let is : c.match-end.end ≡ None = cc in
          subst (λ (e : Option ℕ). IsLine bs e count) (sym is)
          (subst (λ (n : ℕ). IsLine bs None n) (sym (w.count-is ∙ w.len-count.ensures ∙ waiting.ok.0))
          (not_found bs _ refl (sym w.in-None.is ∙ at)))
    ]

-- the client before, and after
abbrev before : (g : Over) (c : After-into_desk g) → ClientState
before g c =
    let inside = c.self.inside in
    state_of (length g.J.HallName.cells) c.deref_mut-parts.result.now.framing c.deref_mut-parts.result.now.waiting.items
    c.deref_mut-parts.result.now.session inside.desk.state
    inside.has_ended

abbrev after : (g : Over) (c : After-into_desk g) → ClientState
after g c =
    state_of (length g.J.HallName.cells) c.deref_mut-parts.result.now.framing c.drop_front.new.text.items
    c.feed-fed.new.self
    c.into_desk.result.state c.if-has_ended.has_ended

ended : (g : Over) (c : After-into_desk g)
    → c.if-has_ended.has_ended ≡ (c.self.inside.has_ended || c.feed-fed.new.self.has_ended)
ended g c =
    elim c.if-has_ended.branch [
      | then-has_ended w ↦ w.has_ended-is ∙ w.if-has_ended.true
          ∙ sym (ap (λ (b : Bool). b || c.feed-fed.new.self.has_ended) w.if-has_ended.true)
      | else-has_ended w ↦ w.has_ended-is ∙ c.ended-is_over.ensures
          ∙ sym (ap (λ (b : Bool). b || c.feed-fed.new.self.has_ended) w.if-has_ended.false)
    ]

fed : (g : Over) (c : After-into_desk g) → OnOk c.feed-fed.result (FeedsLine (before g c) (after g c))
fed g c =
    let inside = c.self.inside in
    let line = first g c in
    let count : ℕ = c.match-end.count in
    on_ok c.feed-fed.result c.feed-fed.ensures.ok
    (fed_line (length g.J.HallName.cells) c.deref_mut-parts.result.now.framing
    c.deref_mut-parts.result.now.waiting.items c.drop_front.new.text.items
    (take count c.deref-2.result.now) c.deref_mut-parts.result.now.session c.feed-fed.new.self inside.desk.state
    c.into_desk.result.state _
    c.up_to-seat.result c.feed-fed.new.door inside.has_ended c.if-has_ended.has_ended c.up_to-seat.ensures
    c.into_desk.ensures.state (ap (λ (bs : List ℕ). take count bs) c.deref-2.ensures.value ∙ line.takes)
    (c.drop_front.ensures ∙ line.leaves) (ended g c))

pub invariant_of-client : goal.invariant_of-client
invariant_of-client g c =
    let p = (goal.at.invariant_of-client g c).After-into_desk in
    fed_kept c.feed-fed.result (before g p) (after g p) (fed g p) c.feed-fed.ensures.err (ended g p) (rw (sym
    c.deref_mut-parts.ensures.value) at c.self.invariant)

pub invariant_of-client-in-Err : goal.invariant_of-client-in-Err
invariant_of-client-in-Err g c =
    let p = (goal.at.invariant_of-client-in-Err g c).After-into_desk in
    fed_kept c.feed-fed.result (before g p) (after g p) (fed g p) c.feed-fed.ensures.err (ended g p) (rw (sym
    c.deref_mut-parts.ensures.value) at c.self.invariant)

pub returns-in-Ok-clause-ok : goal.returns-in-Ok-clause-ok
returns-in-Ok-clause-ok g c =
    let p = (goal.at.returns-in-Ok-clause-ok g c).After-into_desk in
    subst (λ (x : ClientState). FeedsLine x (after g p)) (rw (sym c.deref_mut-parts.ensures.value) at c.self.view_is)
    (subst (λ r. OnOk r (FeedsLine (before g p) (after g p))) c.in-Ok.is (fed g p))

pub returns-in-Ok-clause-line : goal.returns-in-Ok-clause-line
returns-in-Ok-clause-line g c =
    let p = (goal.at.returns-in-Ok-clause-line g c).After-into_desk in
    c.is_some.ensures ∙ (first g p).ended ∙ ap (λ (x : ClientState). has_line x.waiting) (rw (sym
    c.deref_mut-parts.ensures.value) at c.self.view_is)

pub returns-in-Ok-clause-names : goal.returns-in-Ok-clause-names
returns-in-Ok-clause-names g c going =
    let p = (goal.at.returns-in-Ok-clause-names g c).After-into_desk in
    fed_names_at (before g p) (after g p)
    (subst (λ r. OnOk r (FeedsLine (before g p) (after g p))) c.in-Ok.is (fed g p)) (rw (sym
    c.deref_mut-parts.ensures.value) at c.self.invariant)
    (ap (λ (x : ClientState). x.has_ended) (rw (sym c.deref_mut-parts.ensures.value) at c.self.view_is) ∙ going)
