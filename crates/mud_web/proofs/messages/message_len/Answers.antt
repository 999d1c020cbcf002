use Rattle.std.proofs.Common.{◌≢◌, ◌∙◌, arith, length-take}
use Rattle.mud_web.specs.declared.messages.TheConstants.{MOST_SENT}
use Rattle.mud_web.specs.inner.Cuts.{first_len}
use Rattle.mud_web.proofs.Sending.{length_cut, fits_len, cut_len, end_some}
use Rattle.mud_web.proofs.messages.message_len.Goals as goal

pub slice_bounds-last_end-end : goal.slice_bounds-last_end-end
slice_bounds-last_end-end c = length_cut MOST_SENT c.args.text.now (omega arith)

pub returns-then-text-le-MOST_SENT-clause-value : goal.returns-then-text-le-MOST_SENT-clause-value
unfolding first_len
returns-then-text-le-MOST_SENT-clause-value c = fits_len MOST_SENT c.args.text.now (omega arith)

pub returns-in-0-clause-value : goal.returns-in-0-clause-value
unfolding first_len
returns-in-0-clause-value c =
    rw c.in-0.is at (cut_len MOST_SENT c.args.text.now c.last_end.result (omega arith) c.last_end.ensures)

pub returns-in_default-clause-value : goal.returns-in_default-clause-value
unfolding first_len
returns-in_default-clause-value c =
    let some : c.last_end.result ≢ 0 = omega arith in
    end_some c.last_end.result MOST_SENT some
    ∙ cut_len MOST_SENT c.args.text.now c.last_end.result (omega arith) c.last_end.ensures

pub returns-in_default-clause-within : goal.returns-in_default-clause-within
returns-in_default-clause-within c = omega (arith, c.last_end.ensures.within, length-take MOST_SENT c.args.text.now)
