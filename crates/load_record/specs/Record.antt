-- The record of the host's end of a load (PROTOCOL 5, 'Host end'), its named updates, and what the host does next: its record, and
-- whether the frame at the record's position goes out. N frames make the load. The counts are raised by the calls.
use Rattle.std.specs.Prelude.{ℕ, ◌+◌, Bool, true, false, cond as pick, eqb, ltb}
use Rattle.counts.specs.declared.Counts.{Counts}
use Rattle.counts.specs.declared.Standing.{Standing}
use Rattle.counts.specs.Counts.{zero, tally}
use Rattle.load_record.specs.declared.Session.{Session}
use Rattle.load_record.specs.declared.Next.{Next}

-- the most restarts of a load
abbrev pub most_restarts : ℕ
most_restarts = 65535

-- a waiting host, all numbers 0
abbrev pub fresh : Session
fresh = record { position = 0; sent = 0; counts = zero; repeats = 0; restarts = 0; waiting = 1; verdict = 0 }

-- this record with other numbers; restarts and counts stay
abbrev pub changed : Session → ℕ → ℕ → ℕ → ℕ → Session
changed h position repeats waiting verdict =
    record { position = position; sent = h.sent; counts = h.counts; repeats = repeats; restarts = h.restarts; waiting = waiting; verdict = verdict }

-- the frame at a position is on its way, not yet repeated
abbrev pub reached : Session → ℕ → Session
reached h position = changed h position 0 0 h.verdict

-- the load begins again
abbrev pub restarted : Session → Session
restarted h =
    record { position = 0; sent = h.sent; counts = h.counts; repeats = 0; restarts = h.restarts + 1; waiting = 0; verdict = h.verdict }

-- one more repeat is used
abbrev pub repeated : Session → Session
repeated h = changed h h.position (h.repeats + 1) h.waiting h.verdict

-- there is a verdict
abbrev pub ended : Session → ℕ → Session
ended h verdict = changed h h.position h.repeats h.waiting verdict

-- nothing changes, and nothing goes out
abbrev pub ignores : Session → Next
ignores h = record { session = h; sends = false }

-- the frame at the record's position goes out
abbrev pub goes_out : Session → Next
goes_out h = record { session = h; sends = true }

-- the load ends with a verdict
abbrev pub ends : Session → ℕ → Next
ends h verdict = record { session = ended h verdict; sends = false }

-- a frame follows the one on its way
abbrev pub more : ℕ → Session → Bool
more N h = ltb (h.position + 1) N

-- once there is a verdict nothing changes and nothing goes out
abbrev pub running : Session → Next → Next
running h next = pick (eqb h.verdict 0) next (ignores h)

-- where it stands, for the counts: c, the restarts, the waiting mark, the verdict
abbrev pub standing : Session → Standing
standing h = record { reached = h.position; restarts = h.restarts; waiting = h.waiting; verdict = h.verdict }

-- this record with other counts, and what is done next with them
abbrev pub counting : Counts → Session → Session
counting counts h =
    record { position = h.position; sent = h.sent; counts = counts; repeats = h.repeats; restarts = h.restarts; waiting = h.waiting; verdict = h.verdict }

abbrev pub with_counts : Counts → Next → Next
with_counts counts next = record { session = counting counts next.session; sends = next.sends }

-- the frame is counted that brought a record to what is done next
abbrev pub tallied : Session → Next → Next
tallied h next = with_counts (tally (standing h) (standing next.session) h.counts) next
