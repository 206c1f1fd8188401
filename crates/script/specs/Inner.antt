-- What the parts of the check answer.
use Rattle.std.specs.Prelude.{ℕ, cond as pick, Option, Some, None, List}
use Rattle.decimal.specs.Decimal.{value}
use Rattle.script.specs.Script.{ranges, memory, size, repeats, is_settings, well_formed, said}
use Rattle.script.specs.declared.Numbers.{Numbers}
use Rattle.script.specs.declared.Script.{Script}

-- a number from low to high
abbrev pub number : ℕ → ℕ → List ℕ → Option ℕ
number low high s = pick (ranges low high s) (Some (value 0 s)) None

-- the first line's numbers
abbrev pub numbers : List ℕ → Numbers
numbers line = record { memory = value 0 (memory line); size = value 0 (size line); repeats = value 0 (repeats line) }

abbrev pub settings : List ℕ → Option Numbers
settings line = pick (is_settings line) (Some (numbers line)) None

-- what the three lines say
abbrev pub parts : List ℕ → Option Script
parts s = pick (well_formed s) (Some (said s)) None
