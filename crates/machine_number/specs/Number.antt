-- The number rule: what a load's number makes of it (PROTOCOL 4, 'Machine end').
use Rattle.std.specs.Prelude.{ℕ, ◌+◌, ◌%◌, ◌&&◌, ◌||◌, cond as pick, eqb}
use Rattle.machine_record.specs.declared.Machine.{Machine}
use Rattle.machine_record.specs.Record.{is}
use Rattle.machine_number.specs.declared.Heeded.{Heeded}
use Rattle.machine_number.specs.declared.Heeded.TheVariants.{Ignored, Taken, Again}

-- the number after a number: after 255 comes 0
abbrev pub after : ℕ → ℕ
after n = (n + 1) % 256

-- what a frame's number makes of it: 0 ignored, 1 taken, 2 the last reply again. Offering and Started ignore it; number 0, or the
-- one that Loading expects, is taken; the one before the expected gets the last reply again
abbrev pub heed : Machine → ℕ → ℕ
heed m number =
    pick (is 1 m || is 4 m) 0
    (pick (eqb number 0 || (is 3 m && eqb number m.expected)) 1
    (pick (is 3 m && eqb (after number) m.expected) 2
    0))

-- the same as the code has it
abbrev pub heeds : Heeded → ℕ
heeds Ignored = 0
heeds Taken = 1
heeds Again = 2
