-- The host's turns in a rehearsal (PROTOCOL 8, 'Rehearsal'), which has no parameter string.
use Rattle.std.specs.Prelude.{ℕ, Bool, cond as pick, List, []}
use Rattle.step.specs.Step.{Outcome}
use Rattle.load_record.specs.declared.Settings.{Settings}
use Rattle.load_record.specs.declared.Session.{Session}
use Rattle.load.specs.Load.{load_frame, load_timer}
use Rattle.queue.specs.Queue.{first}
use Rattle.job.specs.Turn.{on_first}
use Rattle.job.specs.Run.{Run, Step, host_moves}

module _ (s : Settings) (file : List ℕ) (w : Run) where
  -- the machine's first frame is handed over to the host
  abbrev pub host_handed : Outcome Session Unit
  host_handed =
      on_first (first w.ends.from_machine w.machine_places) w.ends.session tt w.reply
      (load_frame s w.ends.session file [] (first w.ends.from_machine w.machine_places) w.reply)

  abbrev pub host_timed : Outcome Session Unit
  host_timed = load_timer s w.ends.session file [] w.reply

  -- its timer, or the first frame
  abbrev pub host_turn : Bool → Step
  host_turn timer = host_moves w (pick timer host_timed host_handed)
