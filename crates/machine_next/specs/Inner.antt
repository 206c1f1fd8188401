-- What the functions inside the decision on a load answer, in numbers.
use Rattle.std.specs.Prelude.{ℕ, Bool, false, not, cond as pick, eqb}
use Rattle.machine_record.specs.declared.Machine.{Machine}
use Rattle.machine_record.specs.Record.{loading}
use Rattle.machine_number.specs.Number.{after, heed}
use Rattle.machine_next.specs.declared.Sends.TheVariants.{Nothing, Load}
use Rattle.machine_next.specs.declared.Next.{Next}
use Rattle.machine_next.specs.Next.{next}

-- a frame that is taken, of data or of entries, and the number rule
abbrev pub taken : Machine → ℕ → Bool → Machine → Bool → Next
taken m number fit fitted entries =
    pick fit (next fitted (not entries) entries (Load (after number) 0))
    (next (loading m.parameters (after number) 1) false false (Load (after number) 1))

abbrev pub heeded : Machine → ℕ → Next → Next
heeded m number n =
    pick (eqb (heed m number) 1) n (pick (eqb (heed m number) 2) (next m false false (Load m.expected m.error)) (next m false false Nothing))
