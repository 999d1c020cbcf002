-- An object gets another record. If it keeps its key, and no way up to a player changes, it leaves unlocked what was.
use Rattle.std.proofs.Common.{◌≡◌, ◌≢◌, ℕ, zero, suc, Bool, true, false, ◌&&◌, ◌||◌, Option, Some, refl, sym, ◌∙◌}
use Rattle.std.proofs.Common.{ap}
use Rattle.std.proofs.Common.{⊎_elim}
use Rattle.std.specs.Prelude.{nat_eq, is_some, is_none}
use Rattle.std.specs.Option.{option_map, option_map_or, option_and_then}
use Rattle.std.proofs.lemmas.Bool.{cases_eq}
use Rattle.mud_world.specs.declared.record.Record.{Record}
use Rattle.mud_world.specs.Truth.{key_true}
use Rattle.mud_world.specs.Kinds.{kind_place, kind_passage}
use Rattle.mud_world.specs.State.{State, record_at, exists, has, place_of, comes_to, within, unlocked_in, unlocked}
use Rattle.mud_world.specs.State.{leaving_of, is_number}
use Rattle.mud_world.specs.inner.Fields.{with_record}
use Rattle.mud_world.proofs.Records.{lookup-set_value_same, lookup-set_value_other}
use Rattle.mud_world.proofs.Numbering.{passing-keep}

module _ (w : State) (q : ℕ) (r r' : Record) (at : record_at w q ≡ Some r) where
  abbrev w' : State
  w' = with_record w q r'

  pub here : record_at w' q ≡ Some r'
  here = lookup-set_value_same q r' r w.objects at

  pub there : (n : ℕ) → n ≢ q → record_at w' n ≡ record_at w n
  there n apart = lookup-set_value_other q n apart r' w.objects

  -- an answer that is equal for both records does not change
  pub kept : {X : Type 0} (f : Option Record → X) → f (Some r') ≡ f (Some r) → (n : ℕ)
      → f (record_at w' n) ≡ f (record_at w n)
  kept f same n =
      ⊎_elim
      (λ (e : n ≡ q). ap (λ m. f (record_at w' m)) e ∙ ap f here ∙ same ∙ sym (ap f at)
      ∙ sym (ap (λ m. f (record_at w m)) e))
      (λ apart. ap f (there n apart))
      (cases_eq n q)

  pub kept-leaving :
      option_map (λ p. p.source) (kind_passage r'.kind) ≡ option_map (λ p. p.source) (kind_passage r.kind)
      → (n : ℕ) → leaving_of w' n ≡ leaving_of w n
  kept-leaving same n =
      passing-keep (λ r. is_number n (option_map (λ p. p.source) (kind_passage r.kind))) q r' r w.objects at
      (ap (is_number n) same)

  -- the ways up, if the place does not change
  pub comes-kept : kind_place r'.kind ≡ kind_place r.kind → (c n o : ℕ) → comes_to w' n o c ≡ comes_to w n o c
  comes-kept same c zero o = refl
  comes-kept same c (suc n) o =
      let again : (λ (p : ℕ). comes_to w' n p c) ≡ (λ (p : ℕ). comes_to w n p c) =
      λ i p. (comes-kept same c n p) i in
      ap (λ v. nat_eq o c || option_map_or (λ p. comes_to w' n p c) v false)
      (kept (option_and_then (λ r. kind_place r.kind)) same o)
      ∙ ap (λ (f : ℕ → Bool). nat_eq o c || option_map_or f (place_of w o) false) again

  module _ (key : r'.key ≡ r.key) (p : ℕ) (comes : (n o : ℕ) → comes_to w' n o p ≡ comes_to w n o p) where
    kept_within : ◌≡◌ {A = ℕ → Bool} (λ o. within w' o p) (λ o. within w o p)
    kept_within = λ i o.
        (ap (λ b. b && comes_to w' w.next o p) (kept is_some refl o) ∙ ap (λ b. exists w o && b) (comes w.next o)) i

    kept_unlocked_in : (n o : ℕ) → unlocked_in w' n (λ a. within w' a p) o ≡ unlocked_in w n (λ a. within w a p) o
    kept_unlocked_in zero o = kept (λ v. option_map_or (λ r. is_none r.key) v false) (ap is_none key) o
    kept_unlocked_in (suc n) o =
        let again : unlocked_in w' n (λ a. within w' a p) ≡ unlocked_in w n (λ a. within w a p) =
        λ i o. (kept_unlocked_in n o) i in
        let held : ℕ → Bool = λ a. within w a p in
        ap (λ (f : ℕ → Bool). has w' o (λ r. option_map_or (key_true (λ a. within w' a p) f) r.key true)) again
        ∙ ap (λ (f : ℕ → Bool). has w' o (λ r. option_map_or (key_true f (unlocked_in w n held)) r.key true))
        kept_within
        ∙ kept (λ v. option_map_or
        (λ r. option_map_or (key_true held (unlocked_in w n held)) r.key true) v false)
        (ap (λ k. option_map_or (key_true held (unlocked_in w n held)) k true) key) o

    pub kept-unlocked : (n : ℕ) → unlocked w' p n ≡ unlocked w p n
    kept-unlocked n = kept_unlocked_in 4 n
