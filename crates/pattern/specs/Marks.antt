-- A mark by its character, and no mark by 0.
use Rattle.std.specs.Prelude.{ℕ, Option, Some, None}
use Rattle.pattern.specs.declared.Mark.{Mark}
use Rattle.pattern.specs.declared.Mark.TheVariants.{Number, Address, Bytes, Row}

abbrev pub code : Mark → ℕ
code Number = 35
code Address = 64
code Bytes = 37
code Row = 38

abbrev pub code_of : Option Mark → ℕ
code_of None = 0
code_of (Some m) = code m
