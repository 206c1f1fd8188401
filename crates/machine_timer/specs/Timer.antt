-- What the machine end does on a timer, and its call (PROTOCOL 4, 'Machine end', and 7, 'Refusals').
use Rattle.std.specs.Prelude.{ℕ, cond as pick, List, [], length}
use Rattle.message.specs.Message.{Message, request_program, request_dump_service}
use Rattle.step.specs.Step.{nothing, sends, Act, acts, Outcome, call}
use Rattle.machine_record.specs.declared.Settings.{Settings}
use Rattle.machine_record.specs.declared.Machine.{Machine}
use Rattle.machine_record.specs.Record.{is}
use Rattle.machine_checks.specs.Checks.{refusal}

-- what a Requesting and an Offering machine send, first of all and at each timer
abbrev pub asks_load : Settings → Message
asks_load s = request_program s.device 1 2 255 [] s.processor []

abbrev pub asks_dump : Settings → ℕ → Message
asks_dump s size = request_dump_service s.device 1 size 0 []

-- Requesting asks for a program, Offering for a dump; other timers do nothing
abbrev pub on_timer : Settings → Machine → List ℕ → Act Machine (List ℕ)
on_timer s m memory =
    acts m memory
    (pick (is 2 m) (sends (asks_load s))
    (pick (is 1 m) (sends (asks_dump s (length memory)))
    nothing))

-- the call
abbrev pub machine_timer : Settings → Machine → List ℕ → List ℕ → Outcome Machine (List ℕ)
machine_timer s m memory reply = call (refusal s m (length memory) (length reply)) m memory reply (on_timer s m memory)
