use Prim.Native.Nat.{◌≤◌, ◌-◌}
use mathlib.Core.Path.{◌≡◌}
use lib.ListN.{length, drop}
use Rattle.pattern.specs.Pattern.{skip}
use Rattle.pattern.proofs.row_at.Given as goal

abbrev pub invariant-loop : goal.invariant-loop
invariant-loop l = (l.at ≤ length l.table) × (skip (l.k - l.counter) (drop l.at l.table) ≡ skip l.k l.table)
