use Rattle.entries.specs.Laws.{walk-within, walk-beyond}
use Rattle.entries.proofs.transfer.Goals as goal

pub returns-then-n-le4 : goal.returns-then-n-le4
returns-then-n-le4 c = λ version. rw (walk-within version 4 c.args.s.now c.if-n-le4.true)

pub returns-else-n-le4 : goal.returns-else-n-le4
returns-else-n-le4 c = λ version. rw (walk-beyond version 4 c.args.s.now c.if-n-le4.false)
