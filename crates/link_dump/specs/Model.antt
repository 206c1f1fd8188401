-- A dump over the link: its ends, its fresh world, and what is claimed of a reached world (PROTOCOL 6, 'Link').
use Rattle.std.specs.Prelude.{ℕ, ◌+◌, ◌*◌, ◌≤◌, ◌<◌, ◌≡◌, true, List, ◌++◌, map, length, drop}
use Rattle.std.proofs.Math.Option.{some}
use Rattle.std.proofs.Math.ListN.{get_elem?}
use Rattle.memory.specs.Memory.{bytes_from}
use Rattle.machine_record.specs.declared.Settings.{Settings as MachineSettings}
use Rattle.machine_record.specs.Record.{offering}
use Rattle.counts.specs.Counts.{sum, top}
use Rattle.dump_record.specs.declared.Session.{Session}
use Rattle.dump_record.specs.declared.Settings.{Settings as DumpSettings}
use Rattle.dump_record.specs.Record.{fresh}
use Rattle.dump_checks.specs.Checks as dump_checks
use Rattle.dump.specs.Dump as dump
use Rattle.link.specs.Link.{Frame, Turn, turned, Ends, World, hearing, Event, step, run}
use Rattle.link.specs.Taken.{Taken, from_machine, all_taken}
use Rattle.link.specs.Counted.{Counted}
use Rattle.link.specs.MachineEnd.{End, frame_turn, timer_turn, fresh_with}

-- The host end: its record and its dump buffer.
pub record Host : Type 0 where
  pub session : Session
  pub buffer : List ℕ

abbrev pub host_end : Session → List ℕ → Host
host_end h buffer = record { session = h; buffer = buffer }

-- the calls of the host, as the code promises them, beside any machine and any further events
abbrev pub host_beside : {M X : Type 0} → DumpSettings → (M → Frame → List ℕ → Turn M) → (M → List ℕ → Turn M) → (World Host M → X → World Host M) → Ends Host M X
host_beside s frame timer more =
    record {
      hears = λ h f. hearing s.version h.session.verdict f;
      host_frame = λ h f b. turned host_end (dump.dump_frame s h.session f h.buffer b);
      host_timer = λ h b. turned host_end (dump.dump_timer s h.session h.buffer b);
      machine_frame = frame;
      machine_timer = timer;
      further = more;
    }

-- the calls of both ends; there are no further events
abbrev pub dump_ends : DumpSettings → MachineSettings → Ends Host End ⊥
dump_ends s ms = host_beside s (frame_turn ms) (timer_turn ms) (λ w x. absurd x)

-- fresh ends: a waiting host, all numbers 0, and an Offering machine whose first frame, the one that a timer gives, is the only one queued
abbrev pub fresh_world : MachineSettings → List ℕ → List ℕ → World Host End
fresh_world ms memory buffer = fresh_with ms (host_end fresh buffer) offering memory

-- the world after a list of events, from fresh ends with this memory and this dump buffer; `Event ⊥`: the link's own events and no others
abbrev pub after : DumpSettings → MachineSettings → List ℕ → List ℕ → List (Event ⊥) → World Host End
after s ms memory buffer es = run (dump_ends s ms) (fresh_world ms memory buffer) es

-- and every frame that the link took, in order, the fresh machine's first
abbrev pub all_frames : DumpSettings → MachineSettings → List ℕ → List ℕ → List (Event ⊥) → List Taken
all_frames s ms memory buffer es =
    map from_machine (fresh_world ms memory buffer).to_host
    ++ all_taken (dump_ends s ms) (λ w x. absurd x) (step (dump_ends s ms)) (fresh_world ms memory buffer) es

-- ---- the same dump with another limit of repeats
abbrev pub with_repeats : ℕ → DumpSettings → DumpSettings
with_repeats R s =
    record { length = s.length; address = s.address; request_bytes = s.request_bytes; repeats = R; version = s.version }

-- a dump that was given up: the host stopped because the frame on its way was repeated R times
abbrev pub GaveUp : Host → Type 0
GaveUp h = h.session.verdict ≡ 3

-- Byte k of a buffer is memory's at address a + k: the byte that stands there, or 0 if that is beyond memory's end.
-- `get_elem? xs k` is byte k of xs, counted from 0, and none beyond the end of xs.
pub record Copied (memory : List ℕ) (a : ℕ) (buffer : List ℕ) (k : ℕ) : Type 0 where
  pub inside : a + k < length memory → get_elem? buffer k ≡ get_elem? memory (a + k)
  pub beyond : length memory ≤ a + k → get_elem? buffer k ≡ some 0

-- What is claimed of a world: `memory` and `buffer` are the old ones.
pub record Dumped (s : DumpSettings) (memory buffer : List ℕ) (w : World Host End) : Type 0 where
  pub memory-is : w.machine.memory ≡ memory
  -- the first bytes of the dump buffer are memory from an address on, 0 beyond memory's end, and the rest is as it was
  pub buffer-is : w.host.buffer ≡ bytes_from memory s.address w.host.session.filled ++ drop w.host.session.filled buffer
  pub size : length w.host.buffer ≡ length buffer
  -- all L bytes are filled if the verdict is 1, finished, and only then
  pub filled : w.host.session.filled ≤ s.length
  pub finished : w.host.session.verdict ≡ 1 → w.host.session.filled ≡ s.length
  pub full : w.host.session.filled ≡ s.length → w.host.session.verdict ≡ 1
  -- frames sent is the number of host frames that the link took, and has its bound
  pub counted : w.host.session.sent ≡ w.taken
  pub bounded : w.host.session.sent ≤ (w.host.session.replies + 1) * (s.repeats + 1) + 1
  -- the four counts together are the readable frames that the link handed over while the verdict was 0
  pub handed : sum w.host.session.counts ≡ w.heard
  pub counts : Counted w.host.session.waiting 0 w.host.session.replies w.host.session.verdict w.host.session.counts
  pub never-rejected : w.host.session.counts.rejections ≡ 0
  -- the record is none of those that are bad, as long as no count can be at its top
  pub sound : w.heard < top → dump_checks.sound s w.host.session ≡ true
