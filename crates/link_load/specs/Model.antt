-- A load over the link: its ends, its fresh world, and what 'the first k are in' means (PROTOCOL 6, 'Link').
use Rattle.std.specs.Prelude.{ℕ, zero, suc, ◌≤◌, ◌<◌, min, ◌≡◌, Bool, true, false, ◌&&◌, ◌||◌, cond as pick, List, ◌++◌, map, ◌⊎◌, length, eqb, ltb}
use Rattle.memory.specs.Memory.{fits, laid}
use Rattle.directory.specs.Directory.{trailer, regions}
use Rattle.image.specs.Image.{many, segment_of}
use Rattle.parameters.specs.declared.Parameters.{Parameters}
use Rattle.parameters.specs.Parameters.{kept, none}
use Rattle.machine_record.specs.declared.Settings.{Settings as MachineSettings}
use Rattle.machine_record.specs.Record as machine
use Rattle.machine_next.specs.Next.{parameters_fit, parameters_laid}
use Rattle.load_record.specs.declared.Session.{Session}
use Rattle.load_record.specs.declared.Settings.{Settings as LoadSettings}
use Rattle.load_record.specs.Record.{fresh}
use Rattle.load_checks.specs.Checks.{given, frames}
use Rattle.load.specs.Load.{load_frame, load_timer}
use Rattle.link.specs.Link.{Frame, Turn, turned, Ends, World, hearing, Event, Left, left, last_left, step, run}
use Rattle.link.specs.Taken.{Taken, from_machine, all_taken}
use Rattle.link.specs.MachineEnd.{End, frame_turn, timer_turn, fresh_with}
use Rattle.link.specs.Reset.{resets, reset_takes}

-- the host's end is its record alone
abbrev pub host_end : Session → Unit {0} → Session
host_end h none = h

-- A reset is a further event of a load with the restart setting, and of no other: the event has that as a fact. It carries the bytes that
-- memory has afterwards outside the ROM window.
pub data ResetIf (restart : ℕ) : Type 0 where
  reset : restart ≡ 1 → List ℕ → ResetIf restart

-- of a load's settings that one alone says whether it has resets
abbrev pub Reset : LoadSettings → Type 0
Reset s = ResetIf s.restart

abbrev pub on_reset : {restart : ℕ} → MachineSettings → World Session End → ResetIf restart → World Session End
on_reset ms w (reset setting bytes) = resets ms w bytes

-- and what the link takes in it
abbrev pub on_reset_takes : {restart : ℕ} → MachineSettings → World Session End → ResetIf restart → List Taken
on_reset_takes ms w (reset setting bytes) = reset_takes ms w bytes

-- the calls of the host, as the code promises them, beside any machine and any further events
abbrev pub host_beside : {M X : Type 0} → LoadSettings → List ℕ → List ℕ → (M → Frame → List ℕ → Turn M) → (M → List ℕ → Turn M) → (World Session M → X → World Session M)
    → Ends Session M X
host_beside s file string frame timer more =
    record {
      hears = λ h f. hearing s.version h.verdict f;
      host_frame = λ h f b. turned host_end (load_frame s h file string f b);
      host_timer = λ h b. turned host_end (load_timer s h file string b);
      machine_frame = frame;
      machine_timer = timer;
      further = more;
    }

-- the calls of both ends, and the reset
abbrev pub load_ends : (s : LoadSettings) → MachineSettings → List ℕ → List ℕ → Ends Session End (Reset s)
load_ends s ms file string = host_beside s file string (frame_turn ms) (timer_turn ms) (on_reset ms)

-- fresh ends: a waiting host, and a Requesting machine whose first frame, the one that a timer gives, is the only one queued
abbrev pub fresh_world : MachineSettings → List ℕ → World Session End
fresh_world ms memory = fresh_with ms fresh machine.requesting memory

-- from fresh ends with this image, this parameter string and this memory: the world after a list of events; and the ends as its last reset
-- left them, the fresh ones if it has none
module _ (s : LoadSettings) (ms : MachineSettings) (file string memory : List ℕ) (es : List (Event (Reset s))) where
  abbrev pub after : World Session End
  after = run (load_ends s ms file string) (fresh_world ms memory) es

  abbrev pub last_reset : Left Session End
  last_reset = last_left (step (load_ends s ms file string)) (left (fresh_world ms memory)) (fresh_world ms memory) es

  -- and every frame that the link took, in order, the fresh machine's first
  abbrev pub all_frames : List Taken
  all_frames = map from_machine (fresh_world ms memory).to_host ++ all_taken (load_ends s ms file string) (on_reset_takes ms) (step (load_ends s ms file string)) (fresh_world ms memory) es

-- A host has heard of the reset that left these ends: it was waiting when the reset came, or stood at c = 0 with verdict 0; or its record says
-- that it has begun again since. Fresh ends are as if it had: their host waits.
abbrev pub heard_at_once : Left Session End → Bool
heard_at_once b = eqb b.host.waiting 1 || (eqb b.host.position 0 && eqb b.host.verdict 0)

abbrev pub restarted_since : Left Session End → Session → Bool
restarted_since b h = ltb b.host.restarts h.restarts

abbrev pub has_heard : Left Session End → Session → Bool
has_heard b h = heard_at_once b || restarted_since b h

-- what a load leaves in a fresh machine's record: what the parameter string says, and nothing if none is given
abbrev pub leaves : LoadSettings → List ℕ → Parameters
leaves s string = pick (given s) (kept string) none

-- the old memory with the first k segments of an image laid over it
module _ (file : List ℕ) (S : ℕ) (memory : List ℕ) where
  unfoldable pub laid_over : ℕ → List ℕ
  laid_over zero = memory
  laid_over (suc k) = laid (segment_of file S k).bytes (segment_of file S k).address (laid_over k)

-- how many of the first k frames are segments, and whether the parameter frame behind them is one of the first k
abbrev pub segments : LoadSettings → List ℕ → ℕ → ℕ
segments s file k = min k (many s.segment_size (regions file))

abbrev pub parameters_in : LoadSettings → List ℕ → ℕ → Bool
parameters_in s file k = given s && eqb k (frames s file)

module _ (s : LoadSettings) (ms : MachineSettings) (file string memory : List ℕ) where
  -- memory after the first k frames: the old memory with the segments among them laid over it, and over that what a parameter frame lays
  abbrev pub laid_frames : ℕ → List ℕ
  laid_frames k =
      let over = laid_over file s.segment_size memory (segments s file k) in
      pick (parameters_in s file k) (parameters_laid ms (kept string) over) over

  -- The first k of the load's n frames are in: they fit, memory is the old memory with what they lay laid over it, and the machine is Started
  -- with the image's transfer address and keeps what the parameter string says if k is n; otherwise it is not Started, and keeps nothing.
  pub record FirstIn (k : ℕ) (e : End) : Type 0 where
    pub most : k ≤ frames s file
    pub fitting : (i : ℕ) → i < segments s file k
        → fits ms.window (segment_of file s.segment_size i).address (length (segment_of file s.segment_size i).bytes) (length memory) ≡ true
    pub parameters-fit : parameters_in s file k ≡ true → parameters_fit ms (length memory) ≡ true
    pub memory-is : e.memory ≡ laid_frames k
    pub started : k ≡ frames s file → e.machine ≡ machine.started (leaves s string) (trailer file).transfer
    pub not-started : (k ≡ frames s file → ⊥) → machine.is 4 e.machine ≡ false
    pub keeps-nothing : (k ≡ frames s file → ⊥) → e.machine.parameters ≡ none

-- ---- the same load with another limit of repeats
abbrev pub with_repeats : ℕ → LoadSettings → LoadSettings
with_repeats R s =
    record { segment_size = s.segment_size; repeats = R; with_parameters = s.with_parameters; restart = s.restart; version = s.version }

-- the verdicts given up and unconfirmed: the host stopped because the frame on its way was repeated R times
abbrev pub GivenUp : ℕ → Type 0
GivenUp verdict = (verdict ≡ 3) ⊎ (verdict ≡ 4)

abbrev pub GaveUp : Session → Type 0
GaveUp h = GivenUp h.verdict
