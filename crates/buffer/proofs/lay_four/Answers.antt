use native.Mathlib.Omega.{arith}
use Rattle.buffer.specs.LayLaws.{laid-four}
use Rattle.buffer.proofs.lay_four.Goals as goal

pub returns : goal.returns
returns c = let a = c.args in
    laid-four a.head.now a.body.now a.tail.now a.rest.now a.out.now _ _ _ _ (omega arith) (omega arith)
    c.put.ensures.1
    c.put-2.ensures.1
    c.put-3.ensures.1
    c.put-4.ensures.1
