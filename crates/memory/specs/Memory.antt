-- The machine's memory (PROTOCOL 4, 'Machine end'): which loads fit, memory with a load laid over it, and the bytes of a dump reply.
use Rattle.std.specs.Prelude.{ℕ, ◌+◌, ◌≡◌, Bool, ◌&&◌, not, cond as pick, List, ◌++◌, length, take, drop, replicate, leb}
use Rattle.std.proofs.Math.ListN.{get_elem?}
use Rattle.buffer.specs.Lay.{over}
use Rattle.window.specs.declared.Window.{Window}
use Rattle.window.specs.Window.{InWindow, touches}

-- a load of n bytes at an address fits a machine with this ROM window and a memory of this size: it ends no later than memory, and does
-- not touch the window
unfoldable pub fits : Window → ℕ → ℕ → ℕ → Bool
fits window address n size = leb (address + n) size && not (touches window address n)

-- memory with a load's bytes laid over it
abbrev pub laid : List ℕ → ℕ → List ℕ → List ℕ
laid bytes address memory = over bytes address memory

-- memory after a load: the bytes laid over it where they fit, else as it was
abbrev pub deposited : Window → List ℕ → ℕ → List ℕ → List ℕ
deposited window bytes address memory = pick (fits window address (length bytes) (length memory)) (laid bytes address memory) memory

-- the bytes of a window in a memory are the old ones (PROTOCOL 6, 'Link'); `get_elem? xs a` is element a of xs, counted from 0, and none
-- beyond the end of xs
abbrev pub WindowKept : Window → List ℕ → List ℕ → Type 0
WindowKept window old memory = (a : ℕ) → InWindow window a → get_elem? memory a ≡ get_elem? old a

-- n bytes of memory from an address on; beyond memory they are 0
unfoldable pub bytes_from : List ℕ → ℕ → ℕ → List ℕ
bytes_from memory address n = take n (drop address memory ++ replicate n 0)
