-- The keys after an object got one.
use Rattle.std.proofs.Common.{◌≡◌, ◌≢◌, ℕ, Some, None, sym, ◌∙◌, ap, ⊎_elim}
use Rattle.std.specs.Option.{option_map_or, option_and_then}
use Rattle.std.proofs.lemmas.Bool.{cases_eq}
use Rattle.mud_key.specs.Tree.{Tree}
use Rattle.mud_world.specs.declared.record.Record.{Record}
use Rattle.mud_world.specs.State.{State, record_at, key_of}
use Rattle.mud_world.specs.inner.Fields.{with_record, with_lock}
use Rattle.mud_world.proofs.Records.{record_cases, lookup-set_value_same, lookup-set_value_other}

pub locked_by : (w : State) (n : ℕ) (key : Tree ℕ) (r : Record) → record_at w n ≡ Some r
    → with_lock w n key ≡ with_record w n (record r { key = Some key })
locked_by w n key r at = ap (λ v. option_map_or (λ r. with_record w n (record r { key = Some key })) v w) at

pub locked-missing : (w : State) (n : ℕ) (key : Tree ℕ) → record_at w n ≡ None → with_lock w n key ≡ w
locked-missing w n key at = ap (λ v. option_map_or (λ r. with_record w n (record r { key = Some key })) v w) at

pub key_of-locked_same : (w : State) (n : ℕ) (key : Tree ℕ) (r : Record) → record_at w n ≡ Some r
    → key_of (with_lock w n key) n ≡ Some key
key_of-locked_same w n key r at =
    ap (λ w. key_of w n) (locked_by w n key r at)
    ∙ ap (option_and_then (λ r. r.key)) (lookup-set_value_same n (record r { key = Some key }) r w.objects at)

pub key_of-locked_other : (w : State) (n : ℕ) (key : Tree ℕ) (o : ℕ) → o ≢ n → key_of (with_lock w n key) o ≡ key_of w o
key_of-locked_other w n key o apart =
    record_cases (record_at w n)
    (λ e. ap (λ w. key_of w o) (locked-missing w n key e))
    (λ r e. ap (λ w. key_of w o) (locked_by w n key r e)
    ∙ ap (option_and_then (λ r. r.key)) (lookup-set_value_other n o apart (record r { key = Some key }) w.objects))

pub key_of-locked_gone : (w : State) (n : ℕ) (key : Tree ℕ) (o : ℕ) → record_at w o ≡ None
    → key_of (with_lock w n key) o ≡ None
key_of-locked_gone w n key o gone =
    ⊎_elim
    (λ (e : o ≡ n).
    let none : record_at w n ≡ None = ap (record_at w) (sym e) ∙ gone in
    ap (λ w. key_of w o) (locked-missing w n key none) ∙ ap (option_and_then (λ r. r.key)) gone)
    (λ apart. key_of-locked_other w n key o apart ∙ ap (option_and_then (λ r. r.key)) gone)
    (cases_eq o n)
