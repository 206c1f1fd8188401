use Rattle.transcript.specs.Laws.{bad_some}
use Rattle.transcript.proofs.bad.Goals as goal

pub returns : goal.returns
returns c = let a = c.args in bad_some a.refusal a.out.now c.if-refusal-eq0.false c.refused-n.ensures c.part.ensures c.place.ensures
