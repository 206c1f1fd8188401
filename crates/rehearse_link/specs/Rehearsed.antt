-- What the theorem speaks of: an input's settings, image, memory and events, and the rehearsal after its last letter.
use Rattle.std.specs.Prelude.{ℕ, ◌≡◌, List, [], replicate}
use Rattle.counts.specs.Counts.{sum}
use Rattle.load_record.specs.declared.Session.{Session}
use Rattle.job.specs.declared.Setup.{Setup}
use Rattle.job.specs.Job.{Reading, reading}
use Rattle.job.specs.Run.{Run}
use Rattle.rehearse.specs.Rehearse.{begin, after, fresh, letters_of, file_of}
use Rattle.link.specs.Link.{World, Ends, Event}
use Rattle.link.specs.MachineEnd.{End}
use Rattle.link_load.specs.Model.{Reset, load_ends, fresh_world}
use Rattle.rehearse_link.specs.World.{world, events_of}

module _ (input : List ℕ) where
  abbrev pub asked : Reading
  asked = reading input (replicate 4096 0)

  -- no `BAD` is printed of it
  abbrev pub Accepted : Type 0
  Accepted = asked.refusal ≡ 0

  abbrev pub settings : Setup
  settings = asked.job.setup

  abbrev pub image : List ℕ
  image = file_of asked

  -- memory before the first event
  abbrev pub zeros : List ℕ
  zeros = replicate asked.job.script.memory 0

  -- the rehearsal after the machine's first frame, and after the last letter: of this the END line speaks
  abbrev pub begun : Run
  begun = (begin settings (fresh asked.job.script.memory)).run

  abbrev pub ended : Run
  ended = after settings image begun (letters_of input asked.job)

  -- ---- the same on the link: its ends, its fresh world, its events, and the world that the rehearsal ends in, whose counts of host
  -- frames and of frames handed to the host are the host's own
  abbrev pub ends : Ends Session End (Reset settings.host)
  ends = load_ends settings.host settings.machine image []

  abbrev pub fresh_ends : World Session End
  fresh_ends = fresh_world settings.machine zeros

  abbrev pub events : List (Event (Reset settings.host))
  events = events_of settings image begun (letters_of input asked.job)

  abbrev pub world_at_end : World Session End
  world_at_end = world ended.ends.session.sent (sum ended.ends.session.counts) ended
