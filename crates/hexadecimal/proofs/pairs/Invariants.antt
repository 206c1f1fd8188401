use Prim.Native.Nat.{◌+◌, ◌≤◌}
use mathlib.Core.Path.{◌≡◌}
use lib.ListN.{length, drop}
use Rattle.text.specs.Laws.{Pending}
use Rattle.hexadecimal.specs.Hexadecimal.{pairs}
use Rattle.hexadecimal.proofs.pairs.Given as goal

abbrev pub invariant-loop-b : goal.invariant-loop-b
invariant-loop-b l = (l.to ≤ length l.out + 1) × (length l.out ≡ length l.initial.out) × Pending (pairs (drop l.b-index l.s)) l.to l.out (pairs l.s) l.at l.initial.out
