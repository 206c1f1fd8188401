-- The record of the host's end of a dump (PROTOCOL 5, 'Host end'): its updates, and the three things that can be done next: it
-- ignores, asks or completes. The counts are raised by the calls.
use Rattle.std.specs.Prelude.{ℕ, ◌+◌, ◌-◌, min, Bool, false, cond as pick, eqb}
use Rattle.counts.specs.declared.Counts.{Counts}
use Rattle.counts.specs.declared.Standing.{Standing}
use Rattle.counts.specs.Counts.{zero, tally}
use Rattle.dump_record.specs.declared.Settings.{Settings}
use Rattle.dump_record.specs.declared.Session.{Session}
use Rattle.dump_record.specs.declared.Sends.TheVariants.{Nothing, Request, Complete}
use Rattle.dump_record.specs.declared.Next.{Next}

-- a waiting host, all numbers 0
abbrev pub fresh : Session
fresh = record { filled = 0; replies = 0; sent = 0; counts = zero; repeats = 0; waiting = 1; verdict = 0 }

-- the address asked for, and how many bytes: the lesser of C and what is missing
abbrev pub place : Settings → Session → ℕ
place s h = s.address + h.filled

abbrev pub asked : Settings → Session → ℕ
asked s h = min s.request_bytes (s.length - h.filled)

-- this record with other numbers; its counts stay
abbrev pub changed : Session → ℕ → ℕ → ℕ → ℕ → Session
changed h filled repeats waiting verdict =
    record { filled = filled; replies = h.replies; sent = h.sent; counts = h.counts; repeats = repeats; waiting = waiting; verdict = verdict }

-- it asks, with so many bytes filled
abbrev pub reached : Session → ℕ → Session
reached h filled = changed h filled 0 0 h.verdict

-- one more repeat is used
abbrev pub repeated : Session → Session
repeated h = changed h h.filled (h.repeats + 1) h.waiting h.verdict

-- there is a verdict
abbrev pub ended : Session → ℕ → Session
ended h verdict = changed h h.filled h.repeats h.waiting verdict

-- nothing changes, and nothing goes out
abbrev pub ignores : Session → Next
ignores h = record { session = h; takes = false; sends = Nothing }

-- the next bytes are asked for, and a reply is taken or not
abbrev pub asks : Session → Bool → Next
asks h takes = record { session = h; takes = takes; sends = Request }

-- the dump ends with a verdict
abbrev pub completes : Session → ℕ → Bool → Next
completes h verdict takes = record { session = ended h verdict; takes = takes; sends = Complete }

-- once there is a verdict nothing changes and nothing is sent
abbrev pub running : Session → Next → Next
running h n = pick (eqb h.verdict 0) n (ignores h)

-- where it stands, for the counts: the bytes filled, the waiting mark, the verdict; a dump does not begin again
abbrev pub standing : Session → Standing
standing h = record { reached = h.filled; restarts = 0; waiting = h.waiting; verdict = h.verdict }

-- this record with other counts, and what is done next with them
abbrev pub counting : Counts → Session → Session
counting counts h =
    record { filled = h.filled; replies = h.replies; sent = h.sent; counts = counts; repeats = h.repeats; waiting = h.waiting; verdict = h.verdict }

abbrev pub with_counts : Counts → Next → Next
with_counts counts next = record { session = counting counts next.session; takes = next.takes; sends = next.sends }

-- the frame is counted that brought a record to what is done next
abbrev pub tallied : Session → Next → Next
tallied h next = with_counts (tally (standing h) (standing next.session) h.counts) next
