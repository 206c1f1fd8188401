-- The machine end's record, by its states: 0 Idle, 1 Offering, 2 Requesting, 3 Loading, 4 Started (PROTOCOL 4, 'Machine end').
use Rattle.std.specs.Prelude.{ℕ, Bool, eqb}
use Rattle.parameters.specs.declared.Parameters.{Parameters}
use Rattle.parameters.specs.Parameters.{none}
use Rattle.machine_record.specs.declared.Machine.{Machine}
use Rattle.machine_record.specs.declared.State.{State}
use Rattle.machine_record.specs.declared.State.TheVariants.{Idle, Offering, Requesting, Loading, Started}

-- the states by their numbers
abbrev pub number : State → ℕ
number Idle = 0
number Offering = 1
number Requesting = 2
number Loading = 3
number Started = 4

-- a machine in a state, with Loading's expected number and last reply's error, Started's transfer address, and the parameters that it keeps
abbrev pub in_state : ℕ → ℕ → ℕ → ℕ → Parameters → Machine
in_state state expected error transfer parameters =
    record { transfer = transfer; state = state; expected = expected; error = error; parameters = parameters }

abbrev pub idle : Parameters → Machine
idle parameters = in_state 0 0 0 0 parameters

-- fresh machines, which keep none
abbrev pub offering : Machine
offering = in_state 1 0 0 0 none

abbrev pub requesting : Machine
requesting = in_state 2 0 0 0 none

abbrev pub loading : Parameters → ℕ → ℕ → Machine
loading parameters expected error = in_state 3 expected error 0 parameters

abbrev pub started : Parameters → ℕ → Machine
started parameters transfer = in_state 4 0 0 transfer parameters

-- the same machine, with other parameters
abbrev pub keeping : Machine → Parameters → Machine
keeping m parameters = in_state m.state m.expected m.error m.transfer parameters

abbrev pub is : ℕ → Machine → Bool
is state m = eqb m.state state
