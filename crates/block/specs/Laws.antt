-- Laws of the parameter block: where it lies, and each of its bytes.
use Rattle.std.specs.Prelude.{ℕ, ◌+◌, ◌%◌, ◌≤◌, ◌<◌, ◌≡◌, List, length, get_or, None}
use Rattle.std.proofs.Common.{arith, le-ltb}
use Rattle.octets.specs.ValuesLaws.{entry, length-values}
use Rattle.parameters.specs.declared.Parameters.{Parameters}
use Rattle.block.specs.Block.{top, place, cell, block_byte, block}

-- the top is even, and the first even address that is not below the memory's end
pub top_even : (size : ℕ) → top size % 2 ≡ 0
top_even size = omega arith

pub top-first : (size : ℕ) → (size ≤ top size) × ((a : ℕ) → a % 2 ≡ 0 → size ≤ a → top size ≤ a)
top-first size = (omega arith, λ a e l. omega arith)

-- in a memory of at least 64 bytes the block lies within
pub place_inside : (size : ℕ) → 64 ≤ size → place size + 14 ≤ size
place_inside size h = omega arith

-- it has 14 bytes, and each is the one that its place says
pub length-block : (p : Parameters) (memory : List ℕ) → length (block p memory) ≡ 14
unfolding block
length-block p memory = length-values (block_byte p memory) 0 14

pub get_or-block : (p : Parameters) (memory : List ℕ) (x : ℕ) → x < 14 → get_or (block p memory) x 0 ≡ block_byte p memory x
unfolding block
get_or-block p memory x h = entry (block_byte p memory) 0 14 x h

-- beyond the 14 bytes it changes nothing
pub cell-beyond : (p : Parameters) (x : ℕ) → 14 ≤ x → cell p x ≡ None
unfolding cell
cell-beyond p x h = rw (le-ltb x 2 (omega arith), le-ltb x 8 (omega arith), le-ltb x 14 h)
