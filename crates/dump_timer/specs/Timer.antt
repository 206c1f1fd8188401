-- What the host's end of a dump does next on a timer (PROTOCOL 5, 'Host end').
use Rattle.std.specs.Prelude.{false, cond as pick, eqb, ltb}
use Rattle.dump_record.specs.declared.Settings.{Settings}
use Rattle.dump_record.specs.declared.Session.{Session}
use Rattle.dump_record.specs.declared.Next.{Next}
use Rattle.dump_record.specs.Record.{repeated, ignores, asks, completes, running}

-- a timer while asking: the frame again if fewer than R repeats are used; else given up
abbrev pub on_timer : Settings → Session → Next
on_timer s h =
    running h
    (pick (eqb h.waiting 0)
    (pick (ltb h.repeats s.repeats) (asks (repeated h) false) (completes h 3 false))
    (ignores h))
