use Rattle.std.proofs.Common.{◌≡◌, ℕ, ◌+◌, List, [], ◌∷◌, ◌++◌, length}
use Rattle.std.proofs.Common.{Some, None, refl, sym, ap, ◌∙◌, subst, arith, length-append}
use Rattle.std.specs.Prelude.{IsTrue, IfSome}
use Rattle.std.proofs.lemmas.List.{map_push}
use Rattle.mud_world.specs.State.{State, is_player}
use Rattle.mud_world.specs.History.{world_of}
use Rattle.mud_world.specs.Legal.{refusal, after}
use Rattle.mud_world.proofs.Histories.{world_of-legal}
use Rattle.mud_rules.specs.inner.Outcome.{IsActor}
use Rattle.mud_roads.specs.Passable.{IsFollower}
use Rattle.mud_chron.specs.Entry.{Entry}
use Rattle.mud_chron.specs.Replay.{changes_of}
use Rattle.mud_chron.proofs.Spellable.{legal_is_spellable}
use Rattle.mud_hall.specs.Notices.{world_after}
use Rattle.mud_hall.specs.Desk.{DeskState, as_accepted}
use Rattle.mud_hall.specs.Settlement.{versions_by}
use Rattle.mud_hall.specs.Alone.{Alone, alone}
use Rattle.mud_hall.specs.declared.solo.Solo.TheInside.{Inside}
use Rattle.mud_hall.proofs.Notices.{state_eq}
use Rattle.mud_hall.proofs.Worlds.{world-sound}
use Rattle.mud_hall.proofs.Storing.{actor-plays, actor-seated}
use Rattle.mud_hall.proofs.Lists.{versions-snoc}
use Rattle.mud_world.proofs.Worlds.{stepped-legal}
use Rattle.mud_hall.proofs.solo.Solo.keep.Goals as goal

pub new-requires : goal.new-requires
new-requires c =
    let h : List Entry = c.self.inside.history.items in
    let legal : refusal (world_after h) c.args.change ≡ None =
    subst (λ (v : Alone). refusal (world_after v.state.seen) c.args.change ≡ None)
    (sym c.self.view_is) c.requires.lawful.0 in
    legal_is_spellable (world_after h) 1 c.args.change (world-sound h) legal (omega arith) (omega arith)

pub invariant_of-self-2 : goal.invariant_of-self-2
invariant_of-self-2 c =
    let h : List Entry = c.self.inside.history.items in
    let e = c.args.change in
    let entry : Entry = record { desk = 1; change = e } in
    let made : c.push_reserved.new.self.items ≡ h ++ entry ∷ [] = c.push_reserved.ensures.items
    ∙ (ap (λ xs. xs ++ c.new.result ∷ []) c.apply.ensures.items
    ∙ ap (λ (x : Entry). h ++ x ∷ []) c.new.ensures) in
    let legal : refusal (world_after h) e ≡ None = subst (λ (v : Alone). refusal (world_after v.state.seen) e ≡ None)
    (sym c.self.view_is) c.requires.lawful.0 in
    let actor : IsActor (world_after h) (Some c.self.inside.player) e =
    subst (λ (v : Alone). IsActor (world_after v.state.seen) v.state.player e) (sym c.self.view_is)
    c.requires.lawful.1 in
    let left : c.apply.new.world ≡ after (world_after h) e =
    c.in_ok-apply.ensures.ok ∙ ap (λ (w : State). after w e) c.self.invariant.world in
    let seated : IsTrue (is_player (world_after h) c.self.inside.player) =
    subst (λ (w : State). IsTrue
    (is_player w c.self.inside.player)) c.self.invariant.world c.self.invariant.plays in
    let list : length h ≡ length c.args.self.now.state.seen = ap (λ (v : Alone). length v.state.seen) c.self.view_is in
    let capacity : c.self.inside.capacity ≡ c.args.self.now.capacity = ap (λ (v : Alone). v.capacity) c.self.view_is in
    record {
      world = left ∙ (sym (world_of-legal (changes_of h) e legal)
          ∙ (ap world_of (sym (map_push (λ (x : Entry). x.change) h entry)) ∙ ap world_after (sym made)));
      room = omega (arith, ap length made, length-append h (entry ∷ []), list, capacity, c.requires.room);
      few = omega (arith, c.self.invariant.few);
      plays = subst (λ (w : State). IsTrue (is_player w e.actor)) (sym left)
          (actor-plays (world_after h) h (Some c.self.inside.player) e refl legal actor seated);
      known = c.follow_change.ensures (world_after h) (world-sound h)
          (subst (λ (w : State). IfSome c.self.inside.traveller (IsFollower w)) c.self.invariant.world
          c.self.invariant.known) (left ∙ sym (stepped-legal (world_after h) e legal));
    }

pub returns-clause-ok : goal.returns-clause-ok
returns-clause-ok c =
    let h : List Entry = c.self.inside.history.items in
    let e = c.args.change in
    let entry : Entry = record { desk = 1; change = e } in
    let made : c.push_reserved.new.self.items ≡ h ++ entry ∷ [] = c.push_reserved.ensures.items
    ∙ (ap (λ xs. xs ++ c.new.result ∷ []) c.apply.ensures.items
    ∙ ap (λ (x : Entry). h ++ x ∷ []) c.new.ensures) in
    let actor : IsActor (world_after h) (Some c.self.inside.player) e =
    subst (λ (v : Alone). IsActor (world_after v.state.seen) v.state.player e) (sym c.self.view_is)
    c.requires.lawful.1 in
    let place : 1 + length h ≡ length h + 1 = omega arith in
    let calls : versions_by 1 1 c.push_reserved.new.self.items ≡ versions_by 1 1 h ++ (length h + 1) ∷ [] =
    ap (versions_by 1 1) made ∙ (versions-snoc 1 1 h entry ∙ ap (λ (k : ℕ). versions_by 1 1 h ++ k ∷ []) place) in
    let new : DeskState = record {
      number = 1;
      player = Some e.actor;
      seen = c.push_reserved.new.self.items;
      calls = versions_by 1 1 c.push_reserved.new.self.items;
      told = [];
    } in
    let P : Alone → Type 0 = λ v. new ≡ as_accepted v.state e in
    subst P c.self.view_is
    (state_eq new (as_accepted (alone c.self.inside.capacity c.self.inside.player h).state e) refl
    (actor-seated (world_after h) (Some c.self.inside.player) e actor) made calls refl)
