-- The calls of the host's end of a load (PROTOCOL 5, 'Host end', and 7, 'Refusals'): frames, the count of frames sent, and what
-- each call leaves.
use Rattle.std.specs.Prelude.{ℕ, ◌+◌, ◌%◌, cond as pick, List, eqb}
use Rattle.message.specs.Message.{Message, memory_load_transfer, memory_load, parameters}
use Rattle.directory.specs.Directory.{trailer}
use Rattle.image.specs.Image.{Piece, segment_of}
use Rattle.step.specs.Step.{Sending, nothing, sends, Act, Outcome, acts, call, frame_call}
use Rattle.load_record.specs.declared.Settings.{Settings}
use Rattle.load_record.specs.declared.Session.{Session}
use Rattle.load_record.specs.declared.Next.{Next}
use Rattle.load_record.specs.Record.{tallied}
use Rattle.load_next.specs.Next.{react}
use Rattle.load_timer.specs.Timer.{on_timer}
use Rattle.load_checks.specs.Checks.{given, frames, refusal}

-- ---- frames
-- frame i of n, with segment i: the last is code 20 with the parameter string, or code 0 if none is given; the others are code 2
abbrev pub numbered : Settings → List ℕ → ℕ → ℕ → ℕ → Piece → Message
numbered s string n transfer i p =
    pick (eqb (i + 1) n)
    (pick (given s) (parameters (i % 256) string transfer) (memory_load_transfer (i % 256) p.address p.bytes transfer))
    (memory_load (i % 256) p.address p.bytes)

-- frame i of the load
abbrev pub frame_message : Settings → List ℕ → List ℕ → ℕ → Message
frame_message s file string i = numbered s string (frames s file) (trailer file).transfer i (segment_of file s.segment_size i)

-- ---- what is counted, and what is sent
-- this record with one more frame sent
abbrev pub raised : Session → Session
raised h =
    record { position = h.position; sent = h.sent + 1; counts = h.counts; repeats = h.repeats; restarts = h.restarts; waiting = h.waiting; verdict = h.verdict }

abbrev pub counted : Next → Session
counted next = pick next.sends (raised next.session) next.session

-- what goes out, if anything does
abbrev pub sending : Next → Message → Sending
sending next what = pick next.sends (sends what) nothing

-- what is done next: the frame at the record's position goes out
abbrev pub does : Settings → List ℕ → List ℕ → Next → Act Session Unit
does s file string next = acts (counted next) tt (sending next (frame_message s file string next.session.position))

-- ---- calls
-- a step on a frame, which is counted
abbrev pub load_frame : Settings → Session → List ℕ → List ℕ → List ℕ → List ℕ → Outcome Session Unit
load_frame s h file string frame reply =
    frame_call s.version (refusal s h file string reply) frame h tt reply (λ f. does s file string (tallied h (react (frames s file) s.restart h f)))

-- a step on a timer
abbrev pub load_timer : Settings → Session → List ℕ → List ℕ → List ℕ → Outcome Session Unit
load_timer s h file string reply =
    call (refusal s h file string reply) h tt reply (does s file string (on_timer (frames s file) s.repeats h))
