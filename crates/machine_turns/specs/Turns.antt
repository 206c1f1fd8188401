-- The machine's turns in a rehearsal (PROTOCOL 8, 'Rehearsal').
use Rattle.std.specs.Prelude.{ℕ, Bool, cond as pick, List}
use Rattle.step.specs.Step.{Outcome}
use Rattle.machine_record.specs.declared.Settings.{Settings}
use Rattle.machine_record.specs.declared.Machine.{Machine}
use Rattle.machine_timer.specs.Timer.{machine_timer}
use Rattle.machine.specs.Machine.{machine_frame}
use Rattle.queue.specs.Queue.{first}
use Rattle.job.specs.Turn.{on_first}
use Rattle.job.specs.Run.{Run, Step, machine_moves}

module _ (s : Settings) (w : Run) where
  -- the host's first frame is handed over to the machine
  abbrev pub machine_handed : Outcome Machine (List ℕ)
  machine_handed =
      on_first (first w.ends.from_host w.host_places) w.ends.machine w.memory w.reply
      (machine_frame s w.ends.machine (first w.ends.from_host w.host_places) w.memory w.reply)

  abbrev pub machine_timed : Outcome Machine (List ℕ)
  machine_timed = machine_timer s w.ends.machine w.memory w.reply

  -- its timer, or the first frame
  abbrev pub machine_turn : Bool → Step
  machine_turn timer = machine_moves w (pick timer machine_timed machine_handed)
