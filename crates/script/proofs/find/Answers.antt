use Rattle.text.specs.Laws.{found}
use Rattle.script.proofs.find.Goals as goal

pub returns : goal.returns
returns c = found c.args.b c.args.s.now c.args.from c.find.result c.find.ensures.0
