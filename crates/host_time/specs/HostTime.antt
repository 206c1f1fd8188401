-- The ten fields of a host time, an entry of code 20 (PROTOCOL 2, 'Messages'): what each may be.
use Rattle.std.specs.Prelude.{ℕ, ◌-◌, Bool, false, not, ◌&&◌, ◌||◌, cond as pick, eqb, leb, ltb, ℤ, pos, negsuc, neg_ℤ}
use Rattle.std.specs.Int.Signed.{le_z, lt_z}

abbrev pub within : ℕ → ℕ → ℕ → Bool
within low high b = leb low b && leb b high

-- ---- the offset, in signed numbers
-- the number that a byte is in two's complement
abbrev pub signed : ℕ → ℤ
signed b = pick (ltb b 128) (pos b) (negsuc (255 - b))

abbrev pub between : ℤ → ℤ → ℤ → Bool
between low high z = le_z low z && le_z z high

-- one is below zero and the other above it
abbrev pub opposite : ℤ → ℤ → Bool
opposite a b = (lt_z a (pos 0) && lt_z (pos 0) b) || (lt_z b (pos 0) && lt_z (pos 0) a)

-- ---- the host time
-- field k may be this byte, after the byte before it
unfoldable pub field : ℕ → ℕ → ℕ → Bool
field k before b =
    pick (eqb k 0) (within 0 127 b)  -- century
    (pick (eqb k 1) (within 0 100 b)  -- year
    (pick (eqb k 2) (within 1 12 b)  -- month
    (pick (eqb k 3) (within 1 31 b)  -- day
    (pick (eqb k 4) (within 0 23 b)  -- hour
    (pick (eqb k 5) (within 0 59 b)  -- minute
    (pick (eqb k 6) (within 0 59 b)  -- second
    (pick (eqb k 7) (within 0 99 b)  -- hundredths
    (pick (eqb k 8) (between (neg_ℤ (pos 12)) (pos 13) (signed b))  -- offset hours
    (pick (eqb k 9) (between (neg_ℤ (pos 59)) (pos 59) (signed b) && not (opposite (signed before) (signed b)))  -- offset minutes, never of the opposite sign to the hours
    false)))))))))
