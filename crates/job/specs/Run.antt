-- A rehearsal on its way: both ends, their memory, the places of their queues; and what a turn of an end changes.
use Rattle.std.specs.Prelude.{ℕ, ◌≡◌, Bool, false, ◌||◌, List, take, eqb}
use Rattle.step.specs.Step.{Outcome}
use Rattle.machine_record.specs.declared.Machine.{Machine}
use Rattle.machine_record.specs.Record.{is, requesting}
use Rattle.load_record.specs.declared.Session.{Session}
use Rattle.load_record.specs.Record.{fresh}
use Rattle.queue.specs.declared.Queue.{Queue}
use Rattle.queue.specs.Queue.{empty, sent, keeps}
use Rattle.transcript.specs.Transcript.{sent_line, last_line}
use Rattle.job.specs.declared.Ends.{Ends}
use Rattle.job.specs.declared.Moved.{Moved}
use Rattle.job.specs.Turn.{frame_of}

-- Both ends with their queues, the machine's memory, the places of both queues, and the reply buffer that each call is lent.
pub record Run : Type 0 where
  pub ends : Ends
  pub memory : List ℕ
  pub host_places : List (List ℕ)
  pub machine_places : List (List ℕ)
  pub reply : List ℕ

-- What a step leaves, and the length of the frame in the reply buffer that was sent, 0 for none.
pub record Step : Type 0 where
  pub run : Run
  pub sent : ℕ

abbrev pub run : Ends → List ℕ → List (List ℕ) → List (List ℕ) → List ℕ → Run
run ends memory hosts machines reply =
    record { ends = ends; memory = memory; host_places = hosts; machine_places = machines; reply = reply }

-- the frame that was sent
abbrev pub frame : Step → List ℕ
frame s = take s.sent s.run.reply

-- the machine's next state, and a frame that joins its queue; the same of the host
abbrev pub machine_sent : Ends → Machine → List ℕ → Ends
machine_sent e m frame =
    record { session = e.session; machine = m; from_host = e.from_host; from_machine = sent e.from_machine frame }

abbrev pub host_sent : Ends → Session → List ℕ → Ends
host_sent e h frame =
    record { session = h; machine = e.machine; from_host = sent e.from_host frame; from_machine = e.from_machine }

-- a turn of the machine: its frame joins its queue
abbrev pub machine_moves : Run → Outcome Machine (List ℕ) → Step
machine_moves w o =
    record {
      run =
          run (machine_sent w.ends o.end (frame_of o)) o.lent w.host_places (keeps w.ends.from_machine (frame_of o) w.machine_places) o.reply;
      sent = o.answer.length;
    }

-- a turn of the host
abbrev pub host_moves : Run → Outcome Session Unit → Step
host_moves w o =
    record {
      run =
          run (host_sent w.ends o.end (frame_of o)) w.memory (keeps w.ends.from_host (frame_of o) w.host_places) w.machine_places o.reply;
      sent = o.answer.length;
    }

-- a waiting host and a Requesting machine; no frame is on its way
abbrev pub fresh_ends : Ends
fresh_ends = record { session = fresh; machine = requesting; from_host = empty; from_machine = empty }

-- ---- lines
-- the host sends at t, u and m
abbrev pub host_sends : ℕ → Bool
host_sends letter = eqb letter 116 || (eqb letter 117 || eqb letter 109)

-- the line of a frame that was sent at an event; none for no bytes
abbrev pub frame_line : ℕ → List ℕ → List ℕ
frame_line letter bytes = sent_line (host_sends letter) bytes

-- the machine's first frame
abbrev pub begin_line : Step → List ℕ
begin_line s = sent_line false (frame s)

-- verdict, host frames, the transfer address if the machine is Started, memory
abbrev pub end_line : Ends → List ℕ → List ℕ
end_line e memory = last_line e.session.verdict e.session.sent (is 4 e.machine) e.machine.transfer memory

-- what came out of a step
abbrev pub Left : Step → Ends → ℕ → List ℕ → List (List ℕ) → List (List ℕ) → List ℕ → Type 0
Left s ends length' memory hosts machines reply =
    (ends ≡ s.run.ends) × (length' ≡ s.sent) × (memory ≡ s.run.memory) × (hosts ≡ s.run.host_places)
    × (machines ≡ s.run.machine_places) × (reply ≡ s.run.reply)

-- What came of a frame that an end sent, at the end of its turn: both ends, the frame's length, and its place in the queue.
abbrev pub Joined : (List ℕ → Ends) → Queue → List (List ℕ) → ℕ → List ℕ → Moved → List (List ℕ) → Type 0
Joined ends q places length' frame r places' = (r.ends ≡ ends frame) × (r.sent ≡ length') × (places' ≡ keeps q frame places)
