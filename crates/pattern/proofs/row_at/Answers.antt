use Prim.Native.Nat.{◌-◌, ◌+◌}
use mathlib.Core.Path.{◌≡◌, ap, ◌∙◌}
use native.Mathlib.Omega.{arith}
use lib.ListN.{drop}
use Rattle.pattern.specs.Pattern.{skip}
use Rattle.pattern.specs.Laws.{skip_on, skip-done}
use Rattle.pattern.proofs.row_at.Goals as goal

pub loop-preserved : goal.loop-preserved
loop-preserved c = let l = c.loop in
    let k = c.args.k in
    let e : k - (l.counter + 1) ≡ k - l.counter - 1 = omega arith in
    (c.next_row-at.ensures.0, rw e (ap (skip _) c.next_row-at.ensures.1 ∙ skip_on (k - l.counter) (drop l.at c.args.table.now) (omega arith) ∙ l.invariant.1))

pub returns : goal.returns
returns c = (c.loop.invariant.0, skip-done (c.args.k - c.loop.counter) (drop c.loop.at c.args.table.now) (omega arith) ∙ c.loop.invariant.1)
