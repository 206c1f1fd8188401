use native.Mathlib.Omega.{arith}
use borrow.Author.Tests.{lt-ltb, le-ltb}
use Rattle.block.specs.Block.{cell}
use Rattle.block.proofs.cell.Goals as goal

pub returns-then-x-lt2 : goal.returns-then-x-lt2
unfolding cell
returns-then-x-lt2 c = let a = c.args in rw (lt-ltb a.x 2 (omega arith), c.padded.ensures)

pub returns-then-x-lt8 : goal.returns-then-x-lt8
unfolding cell
returns-then-x-lt8 c = let a = c.args in
    rw (le-ltb a.x 2 (omega arith), lt-ltb a.x 8 (omega arith)) c.name_cell.ensures

pub returns-then-x-lt-LENGTH : goal.returns-then-x-lt-LENGTH
unfolding cell
returns-then-x-lt-LENGTH c = let a = c.args in
    rw (le-ltb a.x 2 (omega arith), le-ltb a.x 8 (omega arith), lt-ltb a.x 14 (omega arith)) c.name_cell-then-x-lt-LENGTH.ensures

pub returns : goal.returns
unfolding cell
returns c = let a = c.args in
    rw (le-ltb a.x 2 (omega arith), le-ltb a.x 8 (omega arith), le-ltb a.x 14 (omega arith))
