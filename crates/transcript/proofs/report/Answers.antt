use mathlib.Core.Bool.{cond}
use Rattle.transcript.specs.Laws.{seven}
use Rattle.text.specs.Text.{chars}
use Rattle.decimal.specs.Decimal.{decimal}
use Rattle.hexadecimal.specs.Hexadecimal.{address}
use Rattle.transcript.proofs.report.Goals as goal

pub returns : goal.returns
returns c = let a = c.args in seven (chars "END ") (decimal a.verdict) (chars " ") (decimal a.sent) (chars " ") (cond a.started (address a.transfer) (chars "-")) (chars " ") a.out.now c.add-a.ensures (rw c.from.ensures at c.write-b.ensures) c.add-c.ensures c.write-d.ensures c.add-e.ensures c.entry-f.ensures c.add.ensures
