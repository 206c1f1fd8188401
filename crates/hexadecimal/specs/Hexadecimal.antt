-- Bytes in capital hexadecimal, two digits each, high digit first: their text, and the bytes that a text stands for.
use Rattle.std.specs.Prelude.{ℕ, ◌+◌, ◌*◌, Bool, true, false, ◌&&◌, cond as pick, List, [], ◌∷◌, ◌++◌, ltb}
use Rattle.buffer.specs.Lay.{Output, refuse}
use Rattle.digits.specs.Digits.{nibble, digits}
use Rattle.text.specs.Text.{placed}

unfoldable pub pairs : List ℕ → List ℕ
pairs [] = []
pairs (b ∷ rest) = digits 16 2 b ++ pairs rest

-- an address of eight digits
abbrev pub address : ℕ → List ℕ
address n = digits 16 8 n

pub data Decoded : Type 0 where
  not_hexadecimal : Decoded
  spelled : List ℕ → Decoded

abbrev pub is_digit : ℕ → Bool
is_digit c = ltb (nibble c) 16

-- a byte in front of what follows it
abbrev pub before : ℕ → Decoded → Decoded
before b not_hexadecimal = not_hexadecimal
before b (spelled rest) = spelled (b ∷ rest)

unfoldable pub hexadecimal : List ℕ → Decoded
hexadecimal [] = spelled []
hexadecimal (a ∷ []) = not_hexadecimal
hexadecimal (a ∷ b ∷ rest) = pick (is_digit a && is_digit b) (before (nibble a * 16 + nibble b) (hexadecimal rest)) not_hexadecimal

abbrev pub is_hexadecimal : Decoded → Bool
is_hexadecimal not_hexadecimal = false
is_hexadecimal (spelled s) = true

-- the bytes in a lent buffer: 10 for what is no hexadecimal, then 9 for a buffer that is too short
abbrev pub decoded : Decoded → List ℕ → Output
decoded not_hexadecimal out = refuse 10 out
decoded (spelled s) out = placed s out
