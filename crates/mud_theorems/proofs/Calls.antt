-- The effect of a call on the list of its desk's calls, and calls one after the other.
use Rattle.std.proofs.Common.{◌≡◌, ℕ, ◌+◌, ◌≤◌, ◌<◌, ◌⊎◌, inl, inr, List, [], ◌∷◌, ◌++◌, length}
use Rattle.std.proofs.Common.{None, Some, refl, sym, ◌∙◌, ap, subst, arith, append_assoc, append-nil}
use Rattle.std.proofs.lemmas.List.{length-append}
use mathlib.Core.List.{IsPrefix}
use Rattle.mud_words.specs.Parse.{parse_of}
use Rattle.mud_world.specs.declared.change.Change.{Change}
use Rattle.mud_rules.specs.declared.verdict.Verdict.{Verdict}
use Rattle.mud_rules.specs.declared.verdict.Verdict.TheVariants as verdict
use Rattle.mud_chron.specs.Entry.{Entry}
use Rattle.mud_hall.specs.declared.fault.Fault.TheVariants.{OutOfMemory, HistoryFull, Unpublished, DesksFull}
use Rattle.mud_hall.specs.Desk.{DeskState, TakesIn}
use Rattle.mud_hall.specs.Replies.{Reply, Accepted, Became, Refused, Question, Failed, Stores, Comes, Acts, verdict_on}
use Rattle.mud_hall.specs.Steps.{Call, See, Act, Ask, Guest, Told, Performs, PerformsAll, Grows}
use Rattle.mud_hall.proofs.Coming.{Plain, plainly, WasChange, accepted_is}

pub chained : {X : Type 0} (a b c : List X) → IsPrefix a b → IsPrefix b c → IsPrefix a c
chained {X} a b c x y = (x.0 ++ y.0, sym (append_assoc a x.0 y.0) ∙ (ap (λ (h : List X). h ++ y.0) x.1 ∙ y.1))

pub longer : {X : Type 0} (f h : List X) → IsPrefix f h → length f ≤ length h
longer f h on = omega (arith, ap length on.1, length-append f on.0)

-- ---- one call

-- a call that stores nothing
pub record Quiet (old : DeskState) (call : Call) (new : DeskState) : Type 0 where
  pub number : new.number ≡ old.number
  pub on : IsPrefix old.seen new.seen
  pub calls : new.calls ≡ old.calls
  pub still : (h : List Entry) → Grows call h new h

-- a call that stores the next entry after all that the desk had seen by then
pub record Stored (old : DeskState) (call : Call) (new : DeskState) : Type 0 where
  pub line : List ℕ
  pub version : ℕ
  pub text : List ℕ
  pub is : call ≡ Act line (Accepted version text)
  pub number : new.number ≡ old.number
  pub on : IsPrefix old.seen new.seen
  pub calls : new.calls ≡ old.calls ++ version ∷ []
  pub long : length new.seen ≡ version
  pub more : length old.seen < version

-- the number, the seen entries and the calls stay
record Stays (old new : DeskState) : Type 0 where
  number : new.number ≡ old.number
  seen : new.seen ≡ old.seen
  calls : new.calls ≡ old.calls

same-stays : (old new : DeskState) → new ≡ old → Stays old new
same-stays old new same = record {
  number = ap (λ (d : DeskState). d.number) same;
  seen = ap (λ (d : DeskState). d.seen) same;
  calls = ap (λ (d : DeskState). d.calls) same;
}

stays-on : (old new : DeskState) → Stays old new → IsPrefix old.seen new.seen
stays-on old new s = ([], append-nil old.seen ∙ sym s.seen)

stays-quiet : (old new : DeskState) (call : Call) → Stays old new → ((h : List Entry) → Grows call h new h)
    → Quiet old call new
stays-quiet old new call s still =
    record { number = s.number; on = stays-on old new s; calls = s.calls; still = still }

takes-on : (old new : DeskState) → TakesIn old new → IsPrefix old.seen new.seen
takes-on old new t = (t.entries, sym (ap (λ (d : DeskState). d.seen) t.is))

-- ---- the entries that a line that acts stores

abbrev IsRefusing : Reply → Type 0
IsRefusing (Accepted v text) = ⊥
IsRefusing other = Unit {0}

refused-stays : (capacity : ℕ) (s : DeskState) (e : Change) (reply : Reply) (new : DeskState) → IsRefusing reply
    → Stores capacity s e reply new → Stays s new
refused-stays capacity s e (Accepted v text) new r x = absurd r
refused-stays capacity s e (Failed HistoryFull) new r x = same-stays s new x.1
refused-stays capacity s e (Failed Unpublished) new r x = same-stays s new x.1
refused-stays capacity s e (Failed OutOfMemory) new r x = same-stays s new x
refused-stays capacity s e (Failed DesksFull) new r x = absurd x
refused-stays capacity s e (Became v text) new r x = absurd x
refused-stays capacity s e (Refused v f text) new r x = absurd x
refused-stays capacity s e (Question v) new r x = absurd x

comes-stays : (capacity : ℕ) (s : DeskState) (v : Verdict) (reply : Reply) (new : DeskState) → IsRefusing reply
    → Comes capacity s v reply new → Stays s new
comes-stays capacity s v reply new r c = go v (plainly capacity s v reply new c)
  where
    go : (v : Verdict) → ((reply ≡ Failed OutOfMemory) × (new ≡ s)) ⊎ Plain capacity s v reply new → Stays s new
    go v (inl h) = same-stays s new h.1
    go (verdict.Change e) (inr h) = refused-stays capacity s e reply new r h
    go (verdict.Become p) (inr h) = record {
      number = ap (λ (d : DeskState). d.number) h.1;
      seen = ap (λ (d : DeskState). d.seen) h.1;
      calls = ap (λ (d : DeskState). d.calls) h.1;
    }
    go (verdict.Refused f) (inr h) = same-stays s new h.1
    go (verdict.Ask q) (inr h) = same-stays s new h.1

-- the desk applied entries, and then stored none
took-quiet : (old ready new : DeskState) (call : Call) → TakesIn old ready → Stays ready new
    → ((h : List Entry) → Grows call h new h) → Quiet old call new
took-quiet old ready new call t s still = record {
  number = s.number ∙ ap (λ (d : DeskState). d.number) t.is;
  on = chained old.seen ready.seen new.seen (takes-on old ready t) (stays-on ready new s);
  calls = s.calls ∙ ap (λ (d : DeskState). d.calls) t.is;
  still = still;
}

-- and if it stored one
took-stored : (capacity : ℕ) (old ready new : DeskState) (line : List ℕ) (v : ℕ) (text : List ℕ) → TakesIn old ready
    → WasChange capacity ready (parse_of line) (Accepted v text) new → Stored old (Act line (Accepted v text)) new
took-stored capacity old ready new line v text t c =
    let entry : Entry = record { desk = ready.number; change = c.change } in
    let seen : new.seen ≡ ready.seen ++ entry ∷ [] = ap (λ (d : DeskState). d.seen) c.stores.3 in
    let here : IsPrefix ready.seen new.seen = (entry ∷ [], sym seen) in
    let one : length new.seen ≡ length ready.seen + 1 =
    ap length seen ∙ length-append ready.seen (entry ∷ []) in
    record {
      line = line;
      version = v;
      text = text;
      is = refl;
      number = ap (λ (d : DeskState). d.number) c.stores.3 ∙ ap (λ (d : DeskState). d.number) t.is;
      on = chained old.seen ready.seen new.seen (takes-on old ready t) here;
      calls = ap (λ (d : DeskState). d.calls) c.stores.3
          ∙ ap (λ (n : ℕ). ready.calls ++ n ∷ []) (sym c.stores.1)
          ∙ ap (λ (ns : List ℕ). ns ++ v ∷ []) (ap (λ (d : DeskState). d.calls) t.is);
      long = one ∙ sym c.stores.1;
      more = omega (arith, longer old.seen ready.seen (takes-on old ready t), c.stores.1);
    }

acted : (capacity : ℕ) (old new : DeskState) (line : List ℕ) (reply : Reply)
    → Acts capacity old (parse_of line) reply new → Quiet old (Act line reply) new ⊎ Stored old (Act line reply) new
acted capacity old new line (Accepted v text) a =
    inr (took-stored capacity old a.ready new line v text a.takes_in
    (accepted_is capacity a.ready (parse_of line) v text new a.replies))
acted capacity old new line (Became v text) a =
    inl (took-quiet old a.ready new (Act line (Became v text)) a.takes_in
    (comes-stays capacity a.ready (verdict_on a.ready.seen a.ready.player (parse_of line))
    (Became v text) new tt a.replies) (λ h. refl))
acted capacity old new line (Refused v f text) a =
    inl (took-quiet old a.ready new (Act line (Refused v f text)) a.takes_in
    (comes-stays capacity a.ready (verdict_on a.ready.seen a.ready.player (parse_of line))
    (Refused v f text) new tt a.replies) (λ h. refl))
acted capacity old new line (Question v) a =
    inl (took-quiet old a.ready new (Act line (Question v)) a.takes_in
    (comes-stays capacity a.ready (verdict_on a.ready.seen a.ready.player (parse_of line))
    (Question v) new tt a.replies) (λ h. refl))
acted capacity old new line (Failed fault) a =
    inl (took-quiet old a.ready new (Act line (Failed fault)) a.takes_in
    (comes-stays capacity a.ready (verdict_on a.ready.seen a.ready.player (parse_of line))
    (Failed fault) new tt a.replies) (λ h. refl))

-- a call stores nothing, or the next entry
pub performed : (capacity : ℕ) (old : DeskState) (call : Call) (new : DeskState) → Performs capacity old call new
    → Quiet old call new ⊎ Stored old call new
performed capacity old See new t = inl (record {
  number = ap (λ (d : DeskState). d.number) t.is;
  on = takes-on old new t;
  calls = ap (λ (d : DeskState). d.calls) t.is;
  still = λ h. refl;
})
performed capacity old (Act line reply) new a = acted capacity old new line reply a
performed capacity old (Ask line None) new same =
    inl (stays-quiet old new (Ask line None) (same-stays old new same) (λ h. refl))
performed capacity old (Ask line (Some a)) new asked =
    inl (stays-quiet old new (Ask line (Some a)) (same-stays old new asked.1) (λ h. refl))
performed capacity old Guest new becomes = inl (stays-quiet old new Guest (record {
  number = ap (λ (d : DeskState). d.number) becomes;
  seen = ap (λ (d : DeskState). d.seen) becomes;
  calls = ap (λ (d : DeskState). d.calls) becomes;
}) (λ h. refl))
performed capacity old (Told lines) new hands = inl (stays-quiet old new (Told lines) (record {
  number = ap (λ (d : DeskState). d.number) hands.is;
  seen = ap (λ (d : DeskState). d.seen) hands.is;
  calls = ap (λ (d : DeskState). d.calls) hands.is;
}) (λ h. refl))

-- ---- calls one after the other

-- the number stays, and the seen entries and the calls grow
pub record Goes (old new : DeskState) : Type 0 where
  pub number : new.number ≡ old.number
  pub seen : IsPrefix old.seen new.seen
  pub calls : IsPrefix old.calls new.calls

pub goes : (capacity : ℕ) (old : DeskState) (calls : List Call) (new : DeskState)
    → PerformsAll capacity old calls new → Goes old new
goes capacity old [] new same =
    let s = same-stays old new same in
    record { number = s.number; seen = stays-on old new s; calls = ([], append-nil old.calls ∙ sym s.calls) }
goes capacity old (call ∷ calls) new (now, does, rest) =
    on (performed capacity old call now does) (goes capacity now calls new rest)
  where
    on : Quiet old call now ⊎ Stored old call now → Goes now new → Goes old new
    on (inl q) g = record {
      number = g.number ∙ q.number;
      seen = chained old.seen now.seen new.seen q.on g.seen;
      calls = subst (λ (ns : List ℕ). IsPrefix ns new.calls) q.calls g.calls;
    }
    on (inr s) g = record {
      number = g.number ∙ s.number;
      seen = chained old.seen now.seen new.seen s.on g.seen;
      calls = chained old.calls now.calls new.calls (s.version ∷ [], sym s.calls) g.calls;
    }

pub cancel : (xs ys zs : List ℕ) → xs ++ ys ≡ xs ++ zs → ys ≡ zs
cancel [] ys zs e = e
cancel (x ∷ xs) ys zs e = let tail : xs ++ ys ≡ xs ++ zs = cc in cancel xs ys zs tail

-- the first entry that a desk stores is of the first of its remaining calls
pub record IsNext (now new : DeskState) (stored version : ℕ) (rest : List ℕ) : Type 0 where
  pub same : stored ≡ version
  pub left : new.calls ≡ now.calls ++ rest

pub next : (old : DeskState) (call : Call) (now new : DeskState) (v : ℕ) (rest : List ℕ) → (s : Stored old call now)
    → Goes now new → new.calls ≡ old.calls ++ v ∷ rest → IsNext now new s.version v rest
next old call now new v rest s g is =
    let w : ℕ = s.version in
    let more : List ℕ = g.calls.0 in
    let both : old.calls ++ w ∷ more ≡ old.calls ++ v ∷ rest =
    sym (append_assoc old.calls (w ∷ []) more) ∙ ap (λ (ns : List ℕ). ns ++ more) (sym s.calls) ∙ g.calls.1 ∙ is in
    let tails : w ∷ more ≡ v ∷ rest = cancel old.calls (w ∷ more) (v ∷ rest) both in
    let same : w ≡ v = cc in
    let left : more ≡ rest = cc in
    record { same = same; left = sym g.calls.1 ∙ ap (λ (ns : List ℕ). now.calls ++ ns) left }

pub nothing-left : (ns : List ℕ) (v : ℕ) (rest : List ℕ) → ns ≡ ns ++ v ∷ rest → ⊥
nothing-left ns v rest e = omega (arith, ap length e, length-append ns (v ∷ rest))

-- before its next change a desk has seen fewer entries than that has in its version
pub below : (capacity : ℕ) (old : DeskState) (calls : List Call) (new : DeskState) (v : ℕ) (rest : List ℕ)
    → PerformsAll capacity old calls new → new.calls ≡ old.calls ++ v ∷ rest → length old.seen < v
below capacity old [] new v rest same is =
    absurd (nothing-left old.calls v rest (sym (ap (λ (d : DeskState). d.calls) same) ∙ is))
below capacity old (call ∷ calls) new v rest (now, does, more) is =
    go (performed capacity old call now does) (below capacity now calls new v rest more)
    (goes capacity now calls new more)
  where
    go : Quiet old call now ⊎ Stored old call now
        → (new.calls ≡ now.calls ++ v ∷ rest → length now.seen < v) → Goes now new → length old.seen < v
    go (inl q) less g =
        let l : length now.seen < v = less (is ∙ ap (λ (ns : List ℕ). ns ++ v ∷ rest) (sym q.calls)) in
        omega (arith, l, longer old.seen now.seen q.on)
    go (inr s) less g =
        let n = next old call now new v rest s g is in
        omega (arith, s.more, n.same)
