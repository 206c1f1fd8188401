use Rattle.std.proofs.Common.{get_or, ◌≡◌, add-zero, arith}
use Rattle.octets.specs.NumberLaws.{number-four}
use Rattle.octets.proofs.word32.Goals as goal

pub returns : goal.returns
returns c =
    let a = c.args in let b = c.part.ensures in
    let first : get_or c.part.result 0 0 ≡ get_or a.s.now a.at 0 = rw add-zero at (b 0 (omega arith)) in
    omega (arith, number-four a.at a.s.now, first, b 1 (omega arith), b 2 (omega arith), b 3 (omega arith), c.from_le_bytes.ensures)
