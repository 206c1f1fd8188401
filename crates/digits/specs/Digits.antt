-- Digits. A text is the list of its characters' codes.
use Rattle.std.specs.Prelude.{ℕ, zero, suc, ◌+◌, ◌-◌, ◌/◌, ◌%◌, Bool, ◌&&◌, cond as pick, List, [], ◌∷◌, ◌++◌, leb, ltb}

-- a digit's character: 0 to 9, then A to F
abbrev pub digit : ℕ → ℕ
digit d = pick (ltb d 10) (48 + d) (55 + d)

abbrev pub within : ℕ → ℕ → ℕ → Bool
within low high c = leb low c && leb c high

-- the value of a digit, 0 to 9 and A to F; 16 for any other character
unfoldable pub nibble : ℕ → ℕ
nibble c = pick (within 48 57 c) (c - 48) (pick (within 65 70 c) (c - 55) 16)

-- the last k digits of a number in a base, high digit first
unfoldable pub digits : ℕ → ℕ → ℕ → List ℕ
digits base zero n = []
digits base (suc k) n = digits base k (n / base) ++ (digit (n % base) ∷ [])
