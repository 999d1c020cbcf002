-- Players remain players.
use Rattle.std.proofs.Common.{◌≡◌, ◌≢◌, ℕ, Bool, true, false, cond, ◌+◌, ◌&&◌, ◌||◌, List, [], ◌∷◌, Option, Some, None}
use Rattle.std.proofs.Common.{refl, sym, ◌∙◌, ap, arith, ⊎_elim}
use Rattle.std.specs.Prelude.{not, nat_eq, find, IfSome, IsTrue}
use Rattle.std.specs.Option.{option_map, option_map_or}
use Rattle.std.specs.List.{list_any}
use Rattle.std.specs.Map.{lookup}
use Rattle.std.specs.Str.{str_eq_ignore_ascii_case}
use Rattle.std.proofs.lemmas.Bool.{cases_eq, true≢false, eq-eqb, ne_eqb, and_parts}
use Rattle.mud_world.specs.declared.record.Record.{Record}
use Rattle.mud_world.specs.declared.record.Kind.{Kind}
use Rattle.mud_world.specs.declared.record.Kind.TheVariants.{Room, Exit, Thing, Player as PlayerIn}
use Rattle.mud_world.specs.declared.change.Change.{Change}
use Rattle.mud_world.specs.declared.change.Deed.{Deed}
use Rattle.mud_world.specs.declared.change.Deed.TheVariants.{Dig, Make, Lock, Unlock, Move, Walk, Cost, Player, Rename}
use Rattle.mud_world.specs.declared.change.Deed.TheVariants.{Recycle, Say, Emote}
use Rattle.mud_world.specs.declared.refusal.Refusal.TheVariants.{WrongKind}
use Rattle.mud_world.specs.Kinds.{kind_at, kind_costing, is_player_kind}
use Rattle.mud_world.specs.State.{State, record_at, is_player, destination_of, named_player}
use Rattle.mud_world.specs.Sound.{IsRising, IsSound}
use Rattle.mud_world.specs.Legal.{with_record_changed, dig_records, new_record, fails, refusal, after}
use Rattle.mud_world.specs.inner.Fields.{with_record, without_object, with_place}
use Rattle.mud_world.specs.Laws.{PlayersStay, NewPlayersArePlayers}
use Rattle.mud_world.proofs.Records.{record_cases, bool_cases, lookup-set_value_same, lookup-set_value_other}
use Rattle.mud_world.proofs.Records.{in_bounds}
use Rattle.mud_world.proofs.Removing.{lookup-remove_other}
use Rattle.mud_world.proofs.Grown.{next_missing}
use Rattle.mud_world.proofs.Naming.{record-new}
use Rattle.mud_world.proofs.Digging.{has-grown}
use Rattle.mud_world.proofs.Least.{refusals_law}

abbrev is_one : Option Record → Bool
is_one v = option_map_or (λ r. is_player_kind r.kind) v false

-- a record that changes without becoming or ceasing to be a player's
kept-changed : (w : State) (n : ℕ) (f : Record → Record)
    → ((r : Record) → is_player_kind (f r).kind ≡ is_player_kind r.kind) → (p : ℕ)
    → is_player (with_record_changed w n f) p ≡ is_player w p
kept-changed w n f same p =
    record_cases (record_at w n)
    (λ e. ap (λ (v : Option Record). is_player (option_map_or (λ r. with_record w n (f r)) v w) p) e)
    (λ r e. ap (λ (v : Option Record). is_player (option_map_or (λ r. with_record w n (f r)) v w) p) e ∙ kept r e)
  where
    kept : (r : Record) → record_at w n ≡ Some r → is_player (with_record w n (f r)) p ≡ is_player w p
    kept r at =
        ⊎_elim
        (λ (e : p ≡ n).
        ap (λ m. is_one (record_at (with_record w n (f r)) m)) e
        ∙ ap is_one (lookup-set_value_same n (f r) r w.objects at) ∙ same r
        ∙ sym (ap is_one at) ∙ sym (ap (λ m. is_one (record_at w m)) e))
        (λ apart. ap is_one (lookup-set_value_other n p apart (f r) w.objects))
        (cases_eq p n)

moved_kind : (y : ℕ) (k : Kind) → is_player_kind (kind_at y k) ≡ is_player_kind k
moved_kind y Room = refl
moved_kind y (Exit a) = refl
moved_kind y (Thing q) = refl
moved_kind y (PlayerIn q) = refl

costing_kind : (cost : ℕ) (k : Kind) → is_player_kind (kind_costing cost k) ≡ is_player_kind k
costing_kind cost Room = refl
costing_kind cost (Exit a) = refl
costing_kind cost (Thing q) = refl
costing_kind cost (PlayerIn q) = refl

kept-moved : (w : State) (n y p : ℕ) → is_player (with_place w n y) p ≡ is_player w p
kept-moved w n y p = kept-changed w n (λ r. record r { kind = kind_at y r.kind }) (λ r. moved_kind y r.kind) p

-- a recycled object is not a player
recycled-apart : (w : State) (a n : ℕ) → refusal w (record { actor = a; deed = Recycle n }) ≡ None
    → is_player w n ≡ false
recycled-apart w a n legal =
    let e : Change = record { actor = a; deed = Recycle n } in
    let holds : fails w e WrongKind ≡ false = ((refusals_law w e).1).0 legal WrongKind in
    bool_cases (is_player w n)
    (λ yes. absurd (true≢false (sym (or_true (not (is_player w a)) (is_player w n) yes) ∙ holds))) (λ past. past)
  where
    or_true : (x y : Bool) → y ≡ true → (x || y) ≡ true
    or_true true y e = refl
    or_true false y e = e

kept-removed : (w : State) (n p : ℕ) → is_player w n ≡ false → is_player w p ≡ true
    → is_player (without_object w n) p ≡ true
kept-removed w n p gone is =
    ⊎_elim
    (λ (e : p ≡ n). absurd (true≢false (sym is ∙ ap (is_player w) e ∙ gone)))
    (λ apart. ap is_one (lookup-remove_other n p apart w.objects) ∙ is)
    (cases_eq p n)

pub players_stay : PlayersStay
players_stay w e sound legal p is = go e.deed legal
  where
    walked : (o : Option ℕ) → is_player (option_map_or (with_place w e.actor) o w) p ≡ true
    walked None = is
    walked (Some y) = kept-moved w e.actor y p ∙ is

    go : (deed : Deed) → refusal w (record { actor = e.actor; deed = deed }) ≡ None
        → is_player (after w (record { actor = e.actor; deed = deed })) p ≡ true
    go (Dig target doors) l = has-grown w (dig_records w e.actor target doors) (λ r. is_player_kind r.kind) p is
    go (Make names) l = has-grown w (new_record e.actor names (Thing e.actor) ∷ []) (λ r. is_player_kind r.kind) p is
    go (Player name) l =
        has-grown w (new_record e.actor (name ∷ []) (PlayerIn 0) ∷ []) (λ r. is_player_kind r.kind) p is
    go (Lock object key) l = kept-changed w object (λ r. record r { key = Some key }) (λ r. refl) p ∙ is
    go (Unlock object) l = kept-changed w object (λ r. record r { key = None }) (λ r. refl) p ∙ is
    go (Move thing to) l = kept-moved w thing to p ∙ is
    go (Walk exit) l = walked (destination_of w exit)
    go (Cost exit cost) l =
        kept-changed w exit (λ r. record r { kind = kind_costing cost r.kind }) (λ r. costing_kind cost r.kind) p ∙ is
    go (Rename object names) l = kept-changed w object (λ r. record r { names = names }) (λ r. refl) p ∙ is
    go (Recycle object) l = kept-removed w object p (recycled-apart w e.actor object l) is
    go (Say text) l = is
    go (Emote text) l = is

pub new_players_are_players : NewPlayersArePlayers
new_players_are_players w name sound =
    ap is_one (record-new w (new_record w.next (name ∷ []) (PlayerIn 0)) (next_missing w sound))

-- ---- the player found by a name

-- the record of a player that was found
pub record IsFound (n : ℕ) (name : List ℕ) (es : List (ℕ × Record)) : Type 0 where
  pub r : Record
  pub at : lookup (nat_eq n) es ≡ Some r
  pub player : is_player_kind r.kind ≡ true
  pub named : list_any (str_eq_ignore_ascii_case name) r.names ≡ true

pub found-in : (name : List ℕ) (n low high : ℕ) (es : List (ℕ × Record)) → IsRising low es high
    → option_map (λ (e : ℕ × Record). e.0)
    (find (λ e. is_player_kind e.1.kind && list_any (str_eq_ignore_ascii_case name) e.1.names) es) ≡ Some n
    → IsFound n name es
found-in name n low high [] rising is = absurd (let bad : None ≡ Some n = is in cc)
found-in name n low high (e ∷ es) rising is =
    bool_cases test
    (λ yes.
    let same : Some e.0 ≡ Some n =
    sym (ap (λ (b : Bool). option_map (λ (x : ℕ × Record). x.0) (cond b (Some e) rest)) yes) ∙ is in
    let here : e.0 ≡ n = cc in
    record {
      r = e.1;
      at = ap (λ (b : Bool). cond b (Some e.1) (lookup (nat_eq n) es)) (eq-eqb n e.0 (sym here));
      player = (and_parts (is_player_kind e.1.kind) (list_any (str_eq_ignore_ascii_case name) e.1.names) yes).0;
      named = (and_parts (is_player_kind e.1.kind) (list_any (str_eq_ignore_ascii_case name) e.1.names) yes).1;
    })
    (λ past.
    let more =
    found-in name n (e.0 + 1) high es rising.1
    (sym (ap (λ (b : Bool). option_map (λ (x : ℕ × Record). x.0) (cond b (Some e) rest)) past) ∙ is) in
    let above = in_bounds (e.0 + 1) high n more.r es rising.1 more.at in
    let apart : n ≢ e.0 = λ (s : n ≡ e.0). let bad : ⊥ = omega (arith, above.0, s) in bad in
    record {
      r = more.r;
      at = ap (λ (b : Bool). cond b (Some e.1) (lookup (nat_eq n) es)) (ne_eqb n e.0 apart) ∙ more.at;
      player = more.player;
      named = more.named;
    })
  where
    test : Bool
    test = is_player_kind e.1.kind && list_any (str_eq_ignore_ascii_case name) e.1.names

    rest : Option (ℕ × Record)
    rest = find (λ (x : ℕ × Record). is_player_kind x.1.kind && list_any (str_eq_ignore_ascii_case name) x.1.names) es

-- the object found by a name is a player
pub named-player : (w : State) → IsSound w → (name : List ℕ) (n : ℕ) → named_player w name ≡ Some n
    → is_player w n ≡ true
named-player w sound name n is =
    let f = found-in name n 0 w.next w.objects sound.rising is in
    ap is_one f.at ∙ f.player

-- likewise for a result that may be None
pub named-if : (w : State) → IsSound w → (name : List ℕ) (o : Option ℕ) → o ≡ named_player w name
    → IfSome o (λ n. IsTrue (is_player w n))
named-if w sound name None e = tt
named-if w sound name (Some n) e = named-player w sound name n (sym e)
