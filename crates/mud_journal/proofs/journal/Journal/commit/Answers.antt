use Rattle.std.proofs.Common.{◌≡◌, ℕ, ◌+◌, List, ◌++◌, take, Result, Ok, Err, OnErr, ◌∙◌, ap}
use Rattle.mud_chron.specs.Text.{entries_text}
use Rattle.mud_journal.proofs.Disks.{added, unchanged, appended, unsynced, whole, untouched, in_append, in_sync}
use Rattle.mud_journal.proofs.journal.Journal.commit.Goals as goal

any_err : {A E : Type 0} {P : Type 0} (r : Result A E) → P → OnErr r P
any_err (Ok x) p = tt
any_err (Err e) p = p

pub returns-then-self-clause-fault : goal.returns-then-self-clause-fault
returns-then-self-clause-fault g c =
    unchanged (g.D.Appends.kept c.args.self.now.disk) c.args.self.now.count c.args.entries.now

pub returns-then-self-gt-MOST_ENTRIES-clause-fault : goal.returns-then-self-gt-MOST_ENTRIES-clause-fault
returns-then-self-gt-MOST_ENTRIES-clause-fault g c =
    unchanged (g.D.Appends.kept c.args.self.now.disk) c.args.self.now.count c.args.entries.now

pub returns-in_err-push_entries-clause-fault : goal.returns-in_err-push_entries-clause-fault
returns-in_err-push_entries-clause-fault g c =
    any_err c.from_residual.result
    (unchanged (g.D.Appends.kept c.args.self.now.disk) c.args.self.now.count c.args.entries.now)

pub returns-in_err-append-clause-fault : goal.returns-in_err-append-clause-fault
returns-in_err-append-clause-fault g c =
    let lines : List ℕ = entries_text (c.args.self.now.count + 1) c.args.entries.now in
    let text : c.as_bytes.result.now ≡ lines =
    c.as_bytes.ensures.value ∙ c.in_ok-push_entries.ensures
    ∙ ap (λ (t : List ℕ). t ++ lines) c.new-text.ensures.bytes in
    any_err c.from_residual-in_err-append.result
    (appended (g.D.Appends.kept c.args.self.now.disk) (g.D.Appends.kept c.append.new.self) c.args.self.now.count
    c.in_err-append.ensures.err.0 c.args.entries.now c.as_bytes.result.now text c.in_err-append.ensures.err.1)

pub returns-in_err-sync-clause-fault : goal.returns-in_err-sync-clause-fault
returns-in_err-sync-clause-fault g c =
    let lines : List ℕ = entries_text (c.args.self.now.count + 1) c.args.entries.now in
    let text : c.as_bytes.result.now ≡ lines =
    c.as_bytes.ensures.value ∙ c.in_ok-push_entries.ensures
    ∙ ap (λ (t : List ℕ). t ++ lines) c.new-text.ensures.bytes in
    any_err c.from_residual-in_err-sync.result
    (unsynced (g.D.Appends.kept c.args.self.now.disk) (g.D.Appends.kept c.append.new.self)
    (g.D.Appends.kept c.sync.new.self)
    c.args.self.now.count c.args.entries.now c.as_bytes.result.now text c.in_ok-append.ensures.ok
    c.in_err-sync.ensures.err)

pub returns-clause-ok : goal.returns-clause-ok
returns-clause-ok g c =
    let lines : List ℕ = entries_text (c.args.self.now.count + 1) c.args.entries.now in
    let text : c.as_bytes.result.now ≡ lines =
    c.as_bytes.ensures.value ∙ c.in_ok-push_entries.ensures
    ∙ ap (λ (t : List ℕ). t ++ lines) c.new-text.ensures.bytes in
    added (g.D.Appends.kept c.args.self.now.disk) (g.D.Appends.kept c.append.new.self)
    (g.D.Appends.kept c.sync.new.self)
    c.args.self.now.count c.args.entries.now c.as_bytes.result.now text c.in_ok-append.ensures.ok
    c.in_ok-sync.ensures.ok

pub returns-then-self-clause-crash : goal.returns-then-self-clause-crash
returns-then-self-clause-crash g c = λ bytes since.
    untouched g.D.Appends.tears (g.D.Appends.kept c.args.self.now.disk) c.args.self.now.count c.args.entries.now bytes
    (g.met.D.Appends.left c.args.self.now.disk bytes since)

pub returns-then-self-gt-MOST_ENTRIES-clause-crash : goal.returns-then-self-gt-MOST_ENTRIES-clause-crash
returns-then-self-gt-MOST_ENTRIES-clause-crash g c = λ bytes since.
    untouched g.D.Appends.tears (g.D.Appends.kept c.args.self.now.disk) c.args.self.now.count c.args.entries.now bytes
    (g.met.D.Appends.left c.args.self.now.disk bytes since)

pub returns-in_err-push_entries-clause-crash : goal.returns-in_err-push_entries-clause-crash
returns-in_err-push_entries-clause-crash g c = λ bytes since.
    untouched g.D.Appends.tears (g.D.Appends.kept c.args.self.now.disk) c.args.self.now.count c.args.entries.now bytes
    (g.met.D.Appends.left c.args.self.now.disk bytes since)

pub returns-in_err-append-clause-crash : goal.returns-in_err-append-clause-crash
returns-in_err-append-clause-crash g c =
    let lines : List ℕ = entries_text (c.args.self.now.count + 1) c.args.entries.now in
    let text : c.as_bytes.result.now ≡ lines =
    c.as_bytes.ensures.value ∙ c.in_ok-push_entries.ensures
    ∙ ap (λ (t : List ℕ). t ++ lines) c.new-text.ensures.bytes in
    let n : ℕ = c.in_err-append.ensures.err.0 in
    in_append g.D.Appends.tears (g.D.Appends.kept c.args.self.now.disk) (g.D.Appends.kept c.append.new.self)
    c.args.self.now.count c.args.entries.now (take n c.as_bytes.result.now) _ _ _ _ c.append.ensures.crash
    (g.met.D.Appends.left c.args.self.now.disk) c.in_err-append.ensures.err.1
    (appended (g.D.Appends.kept c.args.self.now.disk) (g.D.Appends.kept c.append.new.self) c.args.self.now.count n
    c.args.entries.now c.as_bytes.result.now text c.in_err-append.ensures.err.1)

pub returns-in_err-sync-clause-crash : goal.returns-in_err-sync-clause-crash
returns-in_err-sync-clause-crash g c =
    let lines : List ℕ = entries_text (c.args.self.now.count + 1) c.args.entries.now in
    let text : c.as_bytes.result.now ≡ lines =
    c.as_bytes.ensures.value ∙ c.in_ok-push_entries.ensures
    ∙ ap (λ (t : List ℕ). t ++ lines) c.new-text.ensures.bytes in
    in_sync g.D.Appends.tears (g.D.Appends.kept c.args.self.now.disk) (g.D.Appends.kept c.append.new.self)
    c.args.self.now.count c.args.entries.now c.as_bytes.result.now _ _ _ _ _ _ c.append.ensures.crash
    c.sync.ensures.crash (g.met.D.Appends.left c.args.self.now.disk) c.in_ok-append.ensures.ok
    (whole (g.D.Appends.kept c.args.self.now.disk) (g.D.Appends.kept c.append.new.self) c.args.self.now.count
    c.args.entries.now c.as_bytes.result.now text c.in_ok-append.ensures.ok)

pub returns-clause-crash : goal.returns-clause-crash
returns-clause-crash g c =
    let lines : List ℕ = entries_text (c.args.self.now.count + 1) c.args.entries.now in
    let text : c.as_bytes.result.now ≡ lines =
    c.as_bytes.ensures.value ∙ c.in_ok-push_entries.ensures
    ∙ ap (λ (t : List ℕ). t ++ lines) c.new-text.ensures.bytes in
    in_sync g.D.Appends.tears (g.D.Appends.kept c.args.self.now.disk) (g.D.Appends.kept c.append.new.self)
    c.args.self.now.count c.args.entries.now c.as_bytes.result.now _ _ _ _ _ _ c.append.ensures.crash
    c.sync.ensures.crash (g.met.D.Appends.left c.args.self.now.disk) c.in_ok-append.ensures.ok
    (whole (g.D.Appends.kept c.args.self.now.disk) (g.D.Appends.kept c.append.new.self) c.args.self.now.count
    c.args.entries.now c.as_bytes.result.now text c.in_ok-append.ensures.ok)
