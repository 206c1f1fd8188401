-- The table of codes as the code has it, and the refusal that it leads to.
use Rattle.std.specs.Prelude.{ℕ, ◌+◌, ◌-◌, cond as pick, eqb, ltb}
use Rattle.std.proofs.Math.Option.{Option, none, some}
use Rattle.message.specs.Read.{Row}

-- an entry: 1 for a code that is not listed, else a mark with the least length, which is the only one or is not
abbrev pub marked : Option Row → ℕ
marked none = 1
marked (some row) = pick (eqb row.longest row.shortest) 512 256 + row.shortest

-- the longest frame of an entry
abbrev pub limit : ℕ → ℕ
limit entry = pick (ltb entry 512) 1500 (entry - 512)

-- the refusal of n bytes by their code and their length: not listed, ends too early, bytes left over; 0 is none
abbrev pub refusal : ℕ → Option Row → ℕ
refusal n none = 3
refusal n (some row) = pick (ltb n row.shortest) 1 (pick (ltb row.longest n) 2 0)
