use Rattle.std.proofs.Common.{map, take, get_or, ap, ◌∙◌, ◌++◌, ◌∷◌, [], sym, subst}
use Rattle.std.proofs.lemmas.List.{take_more, map-append}
use Rattle.mud_survey.specs.inner.Meant.{AreMeant}
use Rattle.mud_survey.proofs.Parties.{meant-more}
use Rattle.mud_survey.proofs.party.players_meant.Goals as goal

pub loop-i-preserved : goal.loop-i-preserved
loop-i-preserved c =
    let w = c.args.world.now in
    let words = c.args.words.now in
    let i = c.loop-i.i in
    let word = get_or words i (record { ref_ptr = (0, 0); now = [] }) in
    let so_far = map (λ s. s.now) (take i words) in
    let more = ap (map (λ s. s.now)) (take_more words i (record { ref_ptr = (0, 0); now = [] }) c.loop-i-test.true)
    ∙ map-append (λ s. s.now) (take i words) (word ∷ []) in
    subst (λ l. AreMeant w l c.push.new.self.items) (sym more)
    (subst (λ l. AreMeant w (so_far ++ word.now ∷ []) l) (sym c.in_ok-push-in-Some.ensures.items)
    (meant-more w so_far c.loop-i.players.items word.now c.in-Some.player c.loop-i.invariant c.in-Some.ensures))
