use Prim.Native.Nat.{ℕ, ◌<◌}
use mathlib.Core.Path.{◌≡◌}
use mathlib.Core.List.{List}
use lib.ListN.{length, get_or}
use Rattle.parameters.specs.declared.Parameters.{Parameters}
use Rattle.block.specs.Block.{block_byte}
use Rattle.block.proofs.block.Given as goal

abbrev pub Done : Parameters → List ℕ → List ℕ → ℕ → Type 0
Done p memory bytes x = (i : ℕ) → i < x → get_or bytes i 0 ≡ block_byte p memory i

abbrev pub invariant-loop-x : goal.invariant-loop-x
invariant-loop-x l = (length l.b-items ≡ 14) × Done l.parameters l.memory l.b-items l.x
