use Rattle.std.proofs.Common.{arith}
use Rattle.octets.specs.NumberLaws.{number-two}
use Rattle.reader.proofs.word16.Goals as goal

pub returns : goal.returns
returns c = omega (arith, number-two c.args.at c.args.s.now, c.from_le_bytes.ensures)
