-- What the host's end of a dump does next on a frame (PROTOCOL 5, 'Host end'), and the messages that go out.
use Rattle.std.specs.Prelude.{ℕ, ◌+◌, true, false, ◌&&◌, cond as pick, eqb, leb}
use Rattle.message.specs.declared.Fields.{Fields}
use Rattle.message.specs.Message.{request_dump, dump_complete}
use Rattle.step.specs.Step.{Sending, nothing, sends}
use Rattle.dump_record.specs.declared.Settings.{Settings}
use Rattle.dump_record.specs.declared.Session.{Session}
use Rattle.dump_record.specs.declared.Sends.{Sends}
use Rattle.dump_record.specs.declared.Sends.TheVariants.{Nothing, Request, Complete}
use Rattle.dump_record.specs.declared.Next.{Next}
use Rattle.dump_record.specs.Record.{place, asked, reached, ignores, asks, completes, running}

-- a machine offers a dump: the first bytes are asked for
abbrev pub on_offer : Session → Next
on_offer h = pick (eqb h.waiting 1) (asks (reached h 0) false) (ignores h)

-- a reply is taken: full, or the next bytes are asked for
abbrev pub takes : Settings → Session → Next
takes s h = pick (eqb h.filled s.length) (completes h 1 true) (asks h true)

-- a reply of so many bytes is taken if its address is the one sent for and it has 1 to as many bytes as asked for
abbrev pub on_data : Settings → Session → ℕ → ℕ → Next
on_data s h address length =
    pick (eqb h.waiting 0 && eqb address (place s h) && leb 1 length && leb length (asked s h))
    (takes s (reached h (h.filled + length)))
    (ignores h)

-- on a frame it decides by its code; all other codes are ignored
abbrev pub react : Settings → Session → Fields → Next
react s h f =
    running h
    (pick (eqb f.code 12) (on_offer h)
    (pick (eqb f.code 14) (on_data s h f.address f.data_length)
    (ignores h)))

-- the messages that go out: code 4 for what is missing of the new record, or code 1
abbrev pub sending : Settings → Session → Sends → Sending
sending s h Nothing = nothing
sending s h Request = sends (request_dump (place s h) (asked s h))
sending s h Complete = sends dump_complete
