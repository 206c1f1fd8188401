-- What the functions inside an event answer.
use Rattle.std.specs.Prelude.{ℕ, Bool, ◌||◌, cond as pick, List, eqb}
use Rattle.job.specs.declared.Setup.{Setup}
use Rattle.job.specs.declared.Ends.{Ends}
use Rattle.job.specs.declared.Moved.{Moved}
use Rattle.job.specs.Run.{Run, Step, host_sends}
use Rattle.host_turns.specs.Turns.{host_turn}
use Rattle.machine_turns.specs.Turns.{machine_turn}
use Rattle.rehearse.specs.Rehearse.{still, host_left, machine_left}

-- the machine sends at h, k and n
abbrev pub machine_sends : ℕ → Bool
machine_sends letter = eqb letter 104 || (eqb letter 107 || eqb letter 110)

-- an event is a turn, and the frame that leaves afterwards
abbrev pub turn : Setup → List ℕ → Run → ℕ → Step
turn s file w letter =
    pick (machine_sends letter) (machine_turn s.machine w (eqb letter 110))
    (pick (host_sends letter) (host_turn s.host file w (eqb letter 109))
    (still w))

abbrev pub leaving : ℕ → Ends → Ends
leaving letter e =
    pick (eqb letter 104) (host_left e)
    (pick (eqb letter 120) (host_left e)
    (pick (eqb letter 116) (machine_left e)
    (pick (eqb letter 121) (machine_left e)
    e)))

abbrev pub afterwards : ℕ → Moved → Moved
afterwards letter m = record { ends = leaving letter m.ends; sent = m.sent }
