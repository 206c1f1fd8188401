-- The machine's end of the link: its state and its memory.
use Rattle.std.specs.Prelude.{ℕ, Bool, List, []}
use Rattle.machine_record.specs.declared.Machine.{Machine}
use Rattle.machine_record.specs.declared.Settings.{Settings}
use Rattle.machine_timer.specs.Timer.{on_timer, machine_timer}
use Rattle.machine.specs.Machine.{machine_frame}
use Rattle.link.specs.Link.{Frame, Turn, turned, queued, World, Ends}

pub record End : Type 0 where
  pub machine : Machine
  pub memory : List ℕ

abbrev pub machine_end : Machine → List ℕ → End
machine_end m memory = record { machine = m; memory = memory }

-- the calls of the machine, as the code promises them
abbrev pub frame_turn : Settings → End → Frame → List ℕ → Turn End
frame_turn ms e f b = turned machine_end (machine_frame ms e.machine f e.memory b)

abbrev pub timer_turn : Settings → End → List ℕ → Turn End
timer_turn ms e b = turned machine_end (machine_timer ms e.machine e.memory b)

-- them beside any host and any further events
abbrev pub ends_with : {H X : Type 0} → Settings → (H → Frame → Bool) → (H → Frame → List ℕ → Turn H) → (H → List ℕ → Turn H) → (World H End → X → World H End)
    → Ends H End X
ends_with ms hears frame timer more =
    record {
      hears = hears;
      host_frame = frame;
      host_timer = timer;
      machine_frame = frame_turn ms;
      machine_timer = timer_turn ms;
      further = more;
    }

-- fresh ends: a host, and a machine whose first frame, the one that a timer gives, is the only one queued
abbrev pub fresh_with : {H : Type 0} → Settings → H → Machine → List ℕ → World H End
fresh_with ms h m memory =
    record { host = h; machine = machine_end m memory; to_machine = []; to_host = queued (on_timer ms m memory).sending; taken = 0; heard = 0 }
