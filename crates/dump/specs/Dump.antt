-- The calls of the host's end of a dump (PROTOCOL 5, 'Host end'): the record's counts, the dump buffer, and what each call leaves.
use Rattle.std.specs.Prelude.{ℕ, ◌+◌, Bool, cond as pick, List, length}
use Rattle.buffer.specs.Lay.{over}
use Rattle.message.specs.declared.Fields.{Fields}
use Rattle.message.specs.Read.{part}
use Rattle.step.specs.Step.{Act, Outcome, acts, call, frame_call}
use Rattle.dump_record.specs.declared.Settings.{Settings}
use Rattle.dump_record.specs.declared.Session.{Session}
use Rattle.dump_record.specs.declared.Next.{Next}
use Rattle.dump_record.specs.Record.{tallied}
use Rattle.dump_next.specs.Next.{react, sending}
use Rattle.dump_timer.specs.Timer.{on_timer}
use Rattle.dump_checks.specs.Checks.{refusal}
use Rattle.dump_count.specs.Count.{replies, frames}

-- ---- what is counted, and what stands in the dump buffer
-- this record with more replies taken and frames sent
abbrev pub raised : Session → ℕ → ℕ → Session
raised h taken sent =
    record {
      filled = h.filled;
      replies = h.replies + taken;
      sent = h.sent + sent;
      counts = h.counts;
      repeats = h.repeats;
      waiting = h.waiting;
      verdict = h.verdict;
    }

abbrev pub counted : Next → Session
counted n = raised n.session (replies n.takes) (frames n.sends)

-- a reply's bytes, if they are taken, go into the buffer from the reached place on
abbrev pub filled : Bool → List ℕ → ℕ → List ℕ → List ℕ
filled takes bytes at buffer = pick takes (over bytes at buffer) buffer

-- what is done next, with the buffer that it leaves
abbrev pub does : Settings → Next → List ℕ → Act Session (List ℕ)
does s n buffer = acts (counted n) buffer (sending s n.session n.sends)

-- ---- calls
-- a step on a frame, which is counted
abbrev pub on_frame : Settings → Session → List ℕ → List ℕ → Fields → Act Session (List ℕ)
on_frame s h frame buffer f = does s (tallied h (react s h f)) (filled (react s h f).takes (part frame f) h.filled buffer)

abbrev pub dump_frame : Settings → Session → List ℕ → List ℕ → List ℕ → Outcome Session (List ℕ)
dump_frame s h frame buffer reply = frame_call s.version (refusal s h (length buffer) (length reply)) frame h buffer reply (on_frame s h frame buffer)

-- a step on a timer
abbrev pub dump_timer : Settings → Session → List ℕ → List ℕ → Outcome Session (List ℕ)
dump_timer s h buffer reply = call (refusal s h (length buffer) (length reply)) h buffer reply (does s (on_timer s h) buffer)
