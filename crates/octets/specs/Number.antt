-- Numbers of several bytes, low byte first (PROTOCOL 1, 'Numbers').
use Rattle.std.specs.Prelude.{ℕ, zero, suc, ◌+◌, ◌*◌, ◌/◌, ◌%◌, ◌<◌, List, [], ◌∷◌, length, get_or, take, drop}

-- the number that bytes make, low byte first
unfoldable pub number : List ℕ → ℕ
number [] = 0
number (b ∷ bs) = b + 256 * number bs

-- the number in n bytes of a string from a place on
abbrev pub word : ℕ → List ℕ → ℕ → ℕ
word n s at = number (take n (drop at s))

-- the n low bytes of a number, low byte first
unfoldable pub low : ℕ → ℕ → List ℕ
low zero x = []
low (suc n) x = x % 256 ∷ low n (x / 256)

-- every element is a byte
abbrev pub Octets : List ℕ → Type 0
Octets xs = (k : ℕ) → k < length xs → get_or xs k 0 < 256
