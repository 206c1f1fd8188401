use Rattle.pattern.specs.Laws.{row-found}
use Rattle.pattern.proofs.row.Goals as goal

pub returns : goal.returns
returns c = row-found c.args.table.now c.row_at-from.result c.find-to.result c.args.k c.row_at-from.ensures.1 c.find-to.ensures.0
