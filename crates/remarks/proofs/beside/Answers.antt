use Prim.Native.Nat.{◌-◌, ◌*◌}
use native.Mathlib.Omega.{arith}
use Rattle.remarks.specs.Laws.{worded_by, beside-whole}
use Rattle.remarks.proofs.beside.Goals as goal

pub returns : goal.returns
returns c = let a = c.args in
    beside-whole a.letter a.bytes.now a.w a.out.now c.min.result c.min.ensures _
    (worded_by a.w (22 - 2 * c.min.result) (omega arith) c.said.result c.unwrap_or.result c.unwrap_or.ensures c.said.ensures).2 c.print.ensures
