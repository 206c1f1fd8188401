use mathlib.Core.List.{◌++◌}
use native.Mathlib.Nat.{add-sub_cancel_left}
use native.Mathlib.Omega.{arith}
use lib.ListN.{length-append}
use Rattle.buffer.specs.LayLaws.{laid-over}
use Rattle.memory.specs.Memory.{bytes_from}
use Rattle.memory.specs.Laws.{length-bytes_from, bytes_from-inside}
use Rattle.memory.proofs.lay.Goals as goal

pub returns-then-n-gt1500 : goal.returns-then-n-gt1500
returns-then-n-gt1500 c = let a = c.args in
    laid-over (a.head.now ++ bytes_from a.memory.now a.address a.n) a.out.now (simp (length-append, length-bytes_from) (omega arith))

pub returns : goal.returns
returns c = let a = c.args in
    let size = add-sub_cancel_left a.address a.n in
    rw (size, ← bytes_from-inside a.memory.now a.address a.n (omega arith)) at c.lay.ensures
