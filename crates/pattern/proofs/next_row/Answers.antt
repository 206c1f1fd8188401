use native.Mathlib.Omega.{arith}
use Rattle.pattern.specs.Laws.{behind_feed, behind-end}
use Rattle.pattern.proofs.next_row.Goals as goal

pub returns-then-feed-table : goal.returns-then-feed-table
returns-then-feed-table c = (omega arith, behind_feed c.args.table.now c.args.at _ c.find-feed.ensures.0)

pub returns : goal.returns
returns c = (c.find-feed.ensures.1 c.requires, behind-end c.args.table.now c.args.at _ c.find-feed.ensures.0 c.if-feed-table.false)
