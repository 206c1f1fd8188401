use Rattle.transcript.specs.Laws.{three}
use Rattle.text.specs.Text.{chars}
use Rattle.decimal.specs.Decimal.{decimal}
use Rattle.transcript.proofs.refused.Goals as goal

pub returns : goal.returns
returns c = let a = c.args in three (chars "BAD ") (decimal a.refusal) (chars "\n") a.out.now 0 c.add-a.ensures (rw c.from.ensures at c.write-b.ensures) c.add.ensures
