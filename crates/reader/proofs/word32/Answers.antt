use Rattle.std.proofs.Common.{arith}
use Rattle.octets.specs.NumberLaws.{number-four}
use Rattle.reader.proofs.word32.Goals as goal

pub returns : goal.returns
returns c = omega (arith, number-four c.args.at c.args.s.now, c.from_le_bytes.ensures)
