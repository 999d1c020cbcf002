use Rattle.mud_web.proofs.FirstLines.{feed_decides}
use Rattle.mud_web.proofs.first_line.FirstLine.feed.Goals as goal

pub returns-clause-decides : goal.returns-clause-decides
returns-clause-decides c earlier stands =
    rw c.verdict_at.ensures (feed_decides c.args.self.now (record { place = c.place_after-self.result }) earlier
    c.args.bytes.now c.place_after-self.ensures stands)
