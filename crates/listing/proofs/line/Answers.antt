use Rattle.listing.specs.Laws.{row_line}
use Rattle.listing.proofs.line.Goals as goal

pub returns : goal.returns
returns c = row_line c.args.k c.args.v.now c.args.s.now c.args.out.now c.requires c.sentence.ensures
