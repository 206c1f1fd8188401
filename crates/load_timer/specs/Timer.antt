-- What the host's end of a load does next on a timer (PROTOCOL 5, 'Host end'). N frames make the load.
use Rattle.std.specs.Prelude.{ℕ, cond as pick, eqb, ltb}
use Rattle.load_record.specs.declared.Session.{Session}
use Rattle.load_record.specs.declared.Next.{Next}
use Rattle.load_record.specs.Record.{repeated, ignores, goes_out, ends, more, running}

-- a timer while sending: the frame again if fewer than R repeats are used; else given up, or unconfirmed at the last frame
abbrev pub on_timer : ℕ → ℕ → Session → Next
on_timer N R h =
    running h
    (pick (eqb h.waiting 0)
    (pick (ltb h.repeats R) (goes_out (repeated h)) (ends h (pick (more N h) 3 4)))
    (ignores h))
