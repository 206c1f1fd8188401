-- Reading a line character by character, into a buffer that keeps the first bytes.
use Rattle.std.specs.Prelude.{ℕ, ◌+◌, ◌*◌, ◌%◌, Bool, true, false, ◌||◌, cond as pick, Option, Some, None, List, [], ◌∷◌, length, take, set, ltb}
use Rattle.digits.specs.Digits.{nibble}
use Rattle.hexadecimal.specs.declared.Line.{Line}
use Rattle.hexadecimal.specs.Hexadecimal.{Decoded, not_hexadecimal, spelled, is_digit}

-- a digit waits, and its value
abbrev pub waits : Option ℕ → Bool
waits None = false
waits (Some d) = true

abbrev pub waiting : Option ℕ → ℕ
waiting None = 0
waiting (Some d) = d % 16

-- a line before its first character
abbrev pub fresh : Line
fresh = record { length = 0; high = None; foul = false; begun = false }

-- a line after one more character, with room for so many bytes
abbrev pub next : ℕ → Line → ℕ → Line
next room line c =
    pick (is_digit c)
    (pick (waits line.high)
    (record { length = pick (ltb line.length room) (line.length + 1) line.length; high = None; foul = line.foul; begun = true })
    (record { length = line.length; high = Some (nibble c); foul = line.foul; begun = true }))
    (record { length = line.length; high = line.high; foul = true; begun = true })

-- the buffer after one more character
abbrev pub kept : Line → ℕ → List ℕ → List ℕ
kept line c buffer = pick (is_digit c) (pick (waits line.high) (set buffer line.length (waiting line.high * 16 + nibble c)) buffer) buffer

-- a line that ends here is no hexadecimal: a character is no digit, or a digit waits for the second one
abbrev pub is_foul : Line → Bool
is_foul line = line.foul || waits line.high

-- A line so far, and its buffer.
pub record Held : Type 0 where
  pub line : Line
  pub buffer : List ℕ

abbrev pub held : Line → List ℕ → Held
held line buffer = record { line = line; buffer = buffer }

abbrev pub opened : List ℕ → Held
opened buffer = held fresh buffer

abbrev pub stepped : Held → ℕ → Held
stepped h c = held (next (length h.buffer) h.line c) (kept h.line c h.buffer)

unfoldable pub run : List ℕ → Held → Held
run [] h = h
run (c ∷ rest) h = run rest (stepped h c)

-- what the line stands for, if it ends here
abbrev pub ended : Held → Decoded
ended h = pick (is_foul h.line) not_hexadecimal (spelled (take h.line.length h.buffer))
