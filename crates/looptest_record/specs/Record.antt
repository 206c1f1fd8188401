-- The record of the host's loop test (PROTOCOL 5, 'Host end') and its updates. The count of frames is raised by the calls.
use Rattle.std.specs.Prelude.{ℕ, ◌+◌}
use Rattle.looptest_record.specs.declared.Session.{Session}
use Rattle.looptest_record.specs.declared.Verdict.{Verdict}
use Rattle.looptest_record.specs.declared.Verdict.TheVariants.{Open, Looped, Plugged, GivenUp}

-- the verdicts by their numbers
abbrev pub number : Verdict → ℕ
number Open = 0
number Looped = 1
number Plugged = 2
number GivenUp = 3

-- this record with other numbers; its count of frames stays
abbrev pub changed : Session → ℕ → ℕ → Session
changed h repeats verdict = record { sent = h.sent; repeats = repeats; verdict = verdict }

-- there is a verdict
abbrev pub ended : Session → ℕ → Session
ended h verdict = changed h h.repeats verdict

-- one more repeat is used
abbrev pub repeated : Session → Session
repeated h = changed h (h.repeats + 1) h.verdict
