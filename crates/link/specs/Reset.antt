-- A reset of the machine (PROTOCOL 6, 'Link'), beside any host. It is an event and no call.
use Rattle.std.specs.Prelude.{ℕ, ◌+◌, cond as pick, List, [], ◌∷◌, map}
use Rattle.window.specs.declared.Window.{Window}
use Rattle.window.specs.Window.{touches}
use Rattle.machine_record.specs.declared.Settings.{Settings}
use Rattle.machine_record.specs.Record.{requesting}
use Rattle.machine_timer.specs.Timer.{on_timer}
use Rattle.link.specs.Link.{World, queued}
use Rattle.link.specs.Taken.{Taken, from_machine}
use Rattle.link.specs.MachineEnd.{End, machine_end}

-- memory, whose first byte is at an address, with other bytes outside the window; where there are none it is as it was
unfoldable pub anew : Window → ℕ → List ℕ → List ℕ → List ℕ
anew window address bytes [] = []
anew window address [] (m ∷ memory) = m ∷ memory
anew window address (b ∷ bytes) (m ∷ memory) = pick (touches window address 1) m b ∷ anew window (address + 1) bytes memory

-- The machine is Requesting and keeps nothing, memory outside the window is arbitrary (the event carries its bytes), both queues are emptied,
-- then the machine's code 8 is sent. The host stays as it is.
abbrev pub resets : {H : Type 0} → Settings → World H End → List ℕ → World H End
resets ms w bytes =
    let memory = anew ms.window 0 bytes w.machine.memory in
    record {
      host = w.host;
      machine = machine_end requesting memory;
      to_machine = [];
      to_host = queued (on_timer ms requesting memory).sending;
      taken = w.taken;
      heard = w.heard;
    }

-- what the link takes in it: all that is on its way then
abbrev pub reset_takes : {H : Type 0} → Settings → World H End → List ℕ → List Taken
reset_takes ms w bytes = map from_machine (resets ms w bytes).to_host
