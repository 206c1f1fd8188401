-- The machine's ROM window (PROTOCOL 4, 'Machine end'): addresses that no load and no parameter block may touch.
use Rattle.std.specs.Prelude.{ℕ, ◌+◌, ◌≤◌, ◌<◌, min, max, Bool, ◌||◌, eqb, leb, ltb}
use Rattle.window.specs.declared.Window.{Window}

abbrev pub none : Window
none = record { start = 0; length = 0 }

-- there is no window, or it ends within the address range
abbrev pub allowed : Window → Bool
allowed w = eqb w.length 0 || leb (w.start + w.length) 4294967296

-- an address lies in n bytes from a start on; and in the window
abbrev pub Lies : ℕ → ℕ → ℕ → Type 0
Lies start n a = (start ≤ a) × (a < start + n)

abbrev pub InWindow : Window → ℕ → Type 0
InWindow w a = Lies w.start w.length a

-- the window touches n bytes from an address on: the greater of the starts is below the lesser of the ends
unfoldable pub touches : Window → ℕ → ℕ → Bool
touches w address n = ltb (max w.start address) (min (w.start + w.length) (address + n))
