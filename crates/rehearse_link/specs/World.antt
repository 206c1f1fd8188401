-- A rehearsal as a run of the link: its state as a world, and its letters as events.
use Rattle.std.specs.Prelude.{ℕ, cond as pick, List, [], ◌∷◌, ◌++◌, eqb}
use Rattle.load_record.specs.declared.Session.{Session}
use Rattle.job.specs.declared.Setup.{Setup}
use Rattle.job.specs.Run.{Run}
use Rattle.rehearse.specs.Rehearse.{event}
use Rattle.link.specs.Link.{World, Event, own, hand_to_machine, keep_to_machine, drop_to_machine, hand_to_host, keep_to_host, drop_to_host, host_timer, machine_timer}
use Rattle.link_load.specs.Model.{Reset}
use Rattle.link.specs.MachineEnd.{End, machine_end}
use Rattle.rehearse_link.specs.Ring.{frames}

-- both ends as they are, each queue as the list of the frames that wait, how many host frames the link has taken, and how many frames that
-- are counted it has handed to the host
abbrev pub world : ℕ → ℕ → Run → World Session End
world taken heard r =
    record {
      host = r.ends.session;
      machine = machine_end r.ends.machine r.memory;
      to_machine = frames r.ends.from_host r.host_places;
      to_host = frames r.ends.from_machine r.machine_places;
      taken = taken;
      heard = heard;
    }

-- a letter's event, its call lent this reply buffer; another letter is none
abbrev pub event_at : {X : Type 0} → List ℕ → ℕ → List (Event X)
event_at reply letter =
    pick (eqb letter 104) (own (hand_to_machine reply) ∷ [])
    (pick (eqb letter 107) (own (keep_to_machine reply) ∷ [])
    (pick (eqb letter 120) (own drop_to_machine ∷ [])
    (pick (eqb letter 116) (own (hand_to_host reply) ∷ [])
    (pick (eqb letter 117) (own (keep_to_host reply) ∷ [])
    (pick (eqb letter 121) (own drop_to_host ∷ [])
    (pick (eqb letter 109) (own (host_timer reply) ∷ [])
    (pick (eqb letter 110) (own (machine_timer reply) ∷ [])
    [])))))))

-- the events of letters in turn, each with the reply buffer that the rehearsal lends it
unfoldable pub events_of : (s : Setup) → List ℕ → Run → List ℕ → List (Event (Reset s.host))
events_of s file r [] = []
events_of s file r (letter ∷ rest) = event_at r.reply letter ++ events_of s file (event s file r letter).run rest
