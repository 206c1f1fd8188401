-- Decimal numbers: their text, and the number that a text is.
use Rattle.std.specs.Prelude.{ℕ, ◌+◌, ◌*◌, Bool, ◌&&◌, ◌||◌, not, cond as pick, List, [], ◌∷◌, length, get_or, eqb, leb, ltb}
use Rattle.std.specs.List.{list_all}
use Rattle.digits.specs.Digits.{nibble, digits}

-- digits without the zeros in front; the last digit stays
unfoldable pub trimmed : List ℕ → List ℕ
trimmed [] = []
trimmed (a ∷ []) = a ∷ []
trimmed (a ∷ b ∷ rest) = pick (eqb a 48) (trimmed (b ∷ rest)) (a ∷ b ∷ rest)

-- a number of at most twenty digits, as one of 64 bits is
abbrev pub decimal : ℕ → List ℕ
decimal n = trimmed (digits 10 20 n)

-- every character is a digit
unfoldable pub are_digits : List ℕ → Bool
are_digits s = list_all (λ c. ltb (nibble c) 10) s

-- some digits, and no zero in front unless it is the only digit
abbrev pub is_number : List ℕ → Bool
is_number s = are_digits s && (leb 1 (length s) && (eqb (length s) 1 || not (eqb (get_or s 0 0) 48)))

-- the value of digits behind those of a value
unfoldable pub value : ℕ → List ℕ → ℕ
value n [] = n
value n (d ∷ rest) = value (n * 10 + nibble d) rest
