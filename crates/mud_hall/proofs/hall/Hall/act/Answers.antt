use Rattle.std.proofs.Common.{List, ℕ, length, refl, sym, ◌∙◌, subst}
use Rattle.std.proofs.lemmas.Result.{err_from_is_err_and}
use Rattle.mud_words.specs.Line.{line_of}
use Rattle.mud_hall.specs.declared.fault.Fault.{Fault}
use Rattle.mud_hall.specs.Replies.{reply_shown, Acts, Comes, Failed, verdict_on}
use Rattle.mud_hall.proofs.Coming.{comes_memory}
use Rattle.mud_hall.proofs.Notices.{takes_more}
use Rattle.mud_hall.proofs.hall.Hall.act.Goals as goal

pub returns-clause-acts : goal.returns-clause-acts
returns-clause-acts g c =
    let ready = c.see.new.self.state in
    let line = line_of c.args.said.now in
    let after = c.reply-reply.new.self.state in
    let P : List ℕ → Type 0 =
    λ cells. Comes (length cells) ready (verdict_on ready.seen ready.player line) (reply_shown c.reply-reply.result)
    after in
    record {
      ready = ready;
      takes_in = takes_more c.args.desk.now.state c.lock_for.new.desk.state ready c.lock_for.ensures.takes
          c.see.ensures.state;
      replies = subst P c.args.self.now.cells c.reply-reply.ensures.comes;
    }

pub returns-in_err-see-clause-acts : goal.returns-in_err-see-clause-acts
returns-in_err-see-clause-acts g c =
    let ready = c.see.new.self.state in
    let line = line_of c.args.said.now in
    let capacity = length g.J.HallName.cells in
    let Q : Fault → Type 0 =
    λ f. Comes capacity ready (verdict_on ready.seen ready.player line) (Failed f) ready in
    let p = err_from_is_err_and c.from_residual-in_err-see.result c.from_residual-in_err-see.ensures.1 in
    rw p.1 (record {
      ready = ready;
      takes_in = takes_more c.args.desk.now.state c.lock_for.new.desk.state ready c.lock_for.ensures.takes
          c.see.ensures.state;
      replies = subst Q (sym (p.2 ∙ c.in_err-see.ensures.fault))
          (comes_memory capacity ready (verdict_on ready.seen ready.player line) ready refl);
    })
