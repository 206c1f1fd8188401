-- A rehearsal (PROTOCOL 8, 'Rehearsal'): what each event does, and the whole transcript of an input, over the
-- definitions of the ends' calls, of the queues' places and of the lines.
use Rattle.std.specs.Prelude.{ℕ, cond as pick, List, [], ◌∷◌, ◌++◌, take, drop, replicate, eqb}
use Rattle.machine_record.specs.Record.{requesting}
use Rattle.machine_timer.specs.Timer.{machine_timer}
use Rattle.queue.specs.Queue.{leave}
use Rattle.transcript.specs.Transcript.{bad_line}
use Rattle.host_turns.specs.Turns.{host_handed, host_timed}
use Rattle.machine_turns.specs.Turns.{machine_handed, machine_timed}
use Rattle.job.specs.declared.Setup.{Setup}
use Rattle.job.specs.declared.Ends.{Ends}
use Rattle.job.specs.declared.Job.{Job}
use Rattle.job.specs.Job.{Reading, reading}
use Rattle.job.specs.Run.{Run, Step, run, frame, machine_moves, host_moves, fresh_ends, frame_line, begin_line, end_line}

-- ---- one event
-- nothing is sent
abbrev pub still : Run → Step
still w = record { run = w; sent = 0 }

-- the ends of a step changed
abbrev pub with : Step → Ends → Step
with t e = record { run = run e t.run.memory t.run.host_places t.run.machine_places t.run.reply; sent = t.sent }

-- the host's first frame leaves its queue, or the machine's
abbrev pub host_left : Ends → Ends
host_left e = record { session = e.session; machine = e.machine; from_host = leave e.from_host; from_machine = e.from_machine }

abbrev pub machine_left : Ends → Ends
machine_left e = record { session = e.session; machine = e.machine; from_host = e.from_host; from_machine = leave e.from_machine }

abbrev pub host_leaves : Step → Step
host_leaves t = with t (host_left t.run.ends)

abbrev pub machine_leaves : Step → Step
machine_leaves t = with t (machine_left t.run.ends)

-- h, k, x hand over, keep, drop from the host; t, u, y from the machine; m, n host and machine timer
abbrev pub event : Setup → List ℕ → Run → ℕ → Step
event s file w letter =
    pick (eqb letter 104) (host_leaves (machine_moves w (machine_handed s.machine w)))
    (pick (eqb letter 107) (machine_moves w (machine_handed s.machine w))
    (pick (eqb letter 120) (host_leaves (still w))
    (pick (eqb letter 116) (machine_leaves (host_moves w (host_handed s.host file w)))
    (pick (eqb letter 117) (host_moves w (host_handed s.host file w))
    (pick (eqb letter 121) (machine_leaves (still w))
    (pick (eqb letter 109) (host_moves w (host_timed s.host file w))
    (pick (eqb letter 110) (machine_moves w (machine_timed s.machine w))
    (still w))))))))

-- the frame that was sent, if one was
abbrev pub event_line : ℕ → Step → List ℕ
event_line letter t = frame_line letter (frame t)

-- ---- the whole transcript
-- the machine sends its first frame
abbrev pub begin : Setup → Run → Step
begin s w = machine_moves w (machine_timer s.machine requesting w.memory w.reply)

module _ (s : Setup) (file : List ℕ) where
  -- the run after events in turn
  unfoldable pub after : Run → List ℕ → Run
  after w [] = w
  after w (letter ∷ rest) = after (event s file w letter).run rest

  -- their lines, and the last line
  unfoldable pub lines : Run → List ℕ → List ℕ
  lines w [] = end_line w.ends w.memory
  lines w (letter ∷ rest) = event_line letter (event s file w letter) ++ lines (event s file w letter).run rest

  abbrev pub begun : Step → List ℕ → List ℕ
  begun t letters = begin_line t ++ lines t.run letters

-- 16 places of 1,500 zeros
abbrev pub places : List (List ℕ)
places = replicate 16 (replicate 1500 0)

-- a memory of so many zeros, empty places
abbrev pub fresh : ℕ → Run
fresh size = run fresh_ends (replicate size 0) places places (replicate 1500 0)

-- an input's letters, and its image
abbrev pub letters_of : List ℕ → Job → List ℕ
letters_of input j = take j.script.events_length (drop j.script.events_at input)

abbrev pub file_of : Reading → List ℕ
file_of r = take r.job.file r.space

-- what is printed of an input: a refusal, or the first frame, the frames sent at each event, and the last line
abbrev pub printed : List ℕ → Reading → List ℕ
printed input r =
    pick (eqb r.refusal 0)
    (begun r.job.setup (file_of r) (begin r.job.setup (fresh r.job.script.memory)) (letters_of input r.job))
    (bad_line r.refusal)

abbrev pub transcript : List ℕ → List ℕ
transcript input = printed input (reading input (replicate 4096 0))
