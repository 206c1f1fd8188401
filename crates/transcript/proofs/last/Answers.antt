use Rattle.transcript.specs.Laws.{last-whole}
use Rattle.transcript.proofs.last.Goals as goal

pub returns : goal.returns
returns c = let a = c.args in last-whole a.verdict a.sent a.started a.transfer a.memory.now a.out.now c.report-n.ensures c.part.ensures c.print.ensures
