use Rattle.std.proofs.Common.{List, ℕ, refl, sym, ap, subst, ◌∙◌, Global}
use Rattle.std.specs.Prelude.{not, string_bytes}
use Rattle.mud_words.specs.Words.{is_blank}
use Rattle.mud_nvt.specs.declared.Unit.{Unit as CodeUnit}
use Rattle.mud_nvt.specs.Units.{TooLong, Ayt, Answer, Text}
use Rattle.mud_nvt.specs.UnitViews.{unit_shown}
use Rattle.mud_session.specs.inner.TurnTexts.{sends, HasTurn}
use Rattle.mud_session.proofs.Sending.{sends_none}
use Rattle.mud_session.proofs.Answering.{on_ok, rested, unanswered}
use Rattle.mud_session.proofs.session.Session.answer.Goals as goal

pub returns-in-TooLong-clause-turn : goal.returns-in-TooLong-clause-turn
returns-in-TooLong-clause-turn g c =
    let s = c.args.self.now in
    let d = g.D.Door.state c.args.door.now in
    let new = c.send.new.self in
    let P : CodeUnit Global → Type 0 = λ u. HasTurn g.D.Door.takes_in (unit_shown u) s new d d in
    on_ok c.send.result (λ is goes. subst P (sym c.in-TooLong.is)
    (rested g.D.Door.takes_in TooLong s new d d goes refl is refl)) c.send.ensures

pub returns-in-Ayt-clause-turn : goal.returns-in-Ayt-clause-turn
returns-in-Ayt-clause-turn g c =
    let s = c.args.self.now in
    let d = g.D.Door.state c.args.door.now in
    let new = c.send-in-Ayt.new.self in
    let P : CodeUnit Global → Type 0 = λ u. HasTurn g.D.Door.takes_in (unit_shown u) s new d d in
    on_ok c.send-in-Ayt.result (λ is goes. subst P (sym c.in-Ayt.is)
    (rested g.D.Door.takes_in Ayt s new d d goes refl is refl)) c.send-in-Ayt.ensures

pub returns-in-Answer-clause-turn : goal.returns-in-Answer-clause-turn
returns-in-Answer-clause-turn g c =
    let s = c.args.self.now in
    let d = g.D.Door.state c.args.door.now in
    let new = c.send_bytes.new.self in
    let P : CodeUnit Global → Type 0 = λ u. HasTurn g.D.Door.takes_in (unit_shown u) s new d d in
    on_ok c.send_bytes.result (λ is goes. subst P (sym c.in-Answer.is)
    (rested g.D.Door.takes_in (Answer c.in-Answer.bytes) s new d d goes refl
    (is ∙ ap (λ (l : List ℕ). sends s l) c.as_slice.ensures) refl)) c.send_bytes.ensures

pub returns-in-Text-clause-turn : goal.returns-in-Text-clause-turn
returns-in-Text-clause-turn g c = λ goes.
    let s = c.args.self.now in
    let d = g.D.Door.state c.args.door.now in
    let P : CodeUnit Global → Type 0 = λ u. HasTurn g.D.Door.takes_in (unit_shown u) s s d d in
    subst P (sym c.in-Text.is)
    (rested g.D.Door.takes_in (Text (string_bytes c.in-Text.line)) s s d d goes
    (ap (λ t. not (is_blank t)) (sym c.as_str.ensures.value)
    ∙ ap not (sym c.is_blank.ensures.value ∙ c.if-is_blank.true)) (sends_none s) refl)

pub returns-in-Err-clause-turn : goal.returns-in-Err-clause-turn
returns-in-Err-clause-turn g c =
    let s = c.args.self.now in
    let was = g.D.Door.state c.args.door.now in
    let is = g.D.Door.state c.look.new.door in
    let new = c.send-in-Err.new.self in
    let P : CodeUnit Global → Type 0 = λ u. HasTurn g.D.Door.takes_in (unit_shown u) s new was is in
    on_ok c.send-in-Err.result (λ said goes. subst P (sym c.in-Text.is)
    (unanswered g.D.Door.takes_in (string_bytes c.in-Text.line) s c.look.new.self new was is is
    (ap is_blank (sym c.as_str.ensures.value) ∙ sym c.is_blank.ensures.value ∙ c.if-is_blank.false)
    (c.in_ok-look-in-Err.ensures.looked goes) refl said)) c.send-in-Err.ensures
