-- What the host's loop test does next on a timer (PROTOCOL 5, 'Host end'): its record, and whether its frame goes out.
use Rattle.std.specs.Prelude.{true, false, cond as pick, eqb, ltb}
use Rattle.looptest_record.specs.declared.Settings.{Settings}
use Rattle.looptest_record.specs.declared.Session.{Session}
use Rattle.looptest_record.specs.Record.{ended, repeated}
use Rattle.looptest_timer.specs.declared.Next.{Next}

-- nothing goes out, or the test's frame does again
abbrev pub waits : Session → Next
waits h = record { session = h; sends = false }

abbrev pub again : Session → Next
again h = record { session = h; sends = true }

-- a timer: the frame again if fewer than R repeats are used, otherwise given up
abbrev pub on_timer : Settings → Session → Next
on_timer s h =
    pick (eqb h.verdict 0)
    (pick (ltb h.repeats s.repeats) (again (repeated h)) (waits (ended h 3)))
    (waits h)
