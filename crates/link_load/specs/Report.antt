-- What is claimed of a reached world of a load: the host's report, and 'loaded' in the auditor's words (PROTOCOL 6, 'Link').
use Rattle.std.specs.Prelude.{ℕ, ◌+◌, ◌-◌, ◌≤◌, ◌<◌, ◌≡◌, Bool, true, false, ◌&&◌, cond as pick, List, [], ◌⊎◌, length, get_or, leb, Option, Some, None}
use Rattle.std.proofs.Math.Option.{some}
use Rattle.std.proofs.Math.ListN.{get_elem?}
use Rattle.version.specs.Version.{v21, older}
use Rattle.window.specs.Window.{Lies, InWindow}
use Rattle.parameters.specs.Parameters.{kept}
use Rattle.block.specs.Block.{place, cell}
use Rattle.memory.specs.Memory.{fits, WindowKept}
use Rattle.directory.specs.declared.Region.{Region}
use Rattle.directory.specs.Directory.{trailer, regions}
use Rattle.image.specs.Image.{segment_of}
use Rattle.holds.specs.Holds.{Absent, Last}
use Rattle.machine_record.specs.declared.Settings.{Settings as MachineSettings}
use Rattle.machine_record.specs.Record as machine
use Rattle.counts.specs.Counts.{sum}
use Rattle.load_record.specs.declared.Session.{Session}
use Rattle.load_record.specs.declared.Settings.{Settings as LoadSettings}
use Rattle.load_checks.specs.Checks.{given, frames, most_sent}
use Rattle.load_valid.specs.Valid.{restarts_allowed}
use Rattle.link.specs.Link.{World, Left}
use Rattle.link.specs.Counted.{Counted}
use Rattle.link.specs.MachineEnd.{End}
use Rattle.link_load.specs.Model.{heard_at_once, has_heard, leaves, segments, FirstIn}

-- What the host's record says of the machine end, n being the number of the load's frames: waiting, the first 0 are in; rejected, the first
-- c; finished, the first n; otherwise the first c, or the first c + 1.
pub record Means (s : LoadSettings) (ms : MachineSettings) (file string old : List ℕ) (w : World Session End) : Type 0 where
  pub waiting : w.host.waiting ≡ 1 → FirstIn s ms file string old 0 w.machine × (w.host.verdict ≡ 0)
  pub rejected : w.host.verdict ≡ 2 → FirstIn s ms file string old w.host.position w.machine
  pub finished : w.host.verdict ≡ 1 → FirstIn s ms file string old (frames s file) w.machine
  pub otherwise : (w.host.waiting ≡ 1 → ⊥) → (w.host.verdict ≡ 1 → ⊥) → (w.host.verdict ≡ 2 → ⊥)
      → FirstIn s ms file string old w.host.position w.machine ⊎ FirstIn s ms file string old (w.host.position + 1) w.machine

-- The report, b being the ends as the last reset left them (the fresh ones if there was none) and old the fresh machine's memory. If the host has
-- heard of that reset, its record means what it says, measured from the memory after it; if not, the machine is not started and stands as that
-- reset left it. The bytes of the ROM window are the old ones. Frames sent is the number of host frames that the link took, and the four counts
-- together are the readable frames that it handed over while the verdict was 0.
pub record Report (s : LoadSettings) (ms : MachineSettings) (file string old : List ℕ) (b : Left Session End) (w : World Session End) : Type 0 where
  pub heard-of : has_heard b w.host ≡ true → Means s ms file string b.machine.memory w
  pub not-heard-of : has_heard b w.host ≡ false → (machine.is 4 w.machine.machine ≡ false) × (w.machine ≡ b.machine)
  pub window_kept : WindowKept ms.window old w.machine.memory
  pub same_length : length b.machine.memory ≡ length old
  pub counted : w.host.sent ≡ w.taken
  pub bounded : w.host.sent ≤ most_sent w.host.restarts (frames s file) s.repeats
  pub restarts-allowed : w.host.restarts ≤ restarts_allowed s
  -- a restart answers a reset: there is one at most since the last, and none if that was heard of at once
  pub at_most_one : w.host.restarts ≤ b.host.restarts + 1
  pub none-at-once : heard_at_once b ≡ true → w.host.restarts ≡ b.host.restarts
  pub handed : sum w.host.counts ≡ w.heard
  pub counts : Counted w.host.waiting w.host.restarts w.host.position w.host.verdict w.host.counts
  -- every segment that was confirmed fits, whatever was reset since
  pub confirmed : (i : ℕ) → i < segments s file w.host.position
      → fits ms.window (segment_of file s.segment_size i).address (length (segment_of file s.segment_size i).bytes) (length old) ≡ true
  -- where each verdict stands
  pub finished-at : w.host.verdict ≡ 1 → w.host.position ≡ frames s file
  pub rejected-at : w.host.verdict ≡ 2 → w.host.position < frames s file
  pub given-up-at : w.host.verdict ≡ 3 → w.host.position + 1 < frames s file
  pub unconfirmed-at : w.host.verdict ≡ 4 → w.host.position + 1 ≡ frames s file
  -- finished or rejected, and not so when the reset came: it was heard of; a reset that comes after any verdict never is
  pub in_time : (w.host.verdict ≡ 1) ⊎ (w.host.verdict ≡ 2) → b.host.verdict ≡ 0 → has_heard b w.host ≡ true
  pub too_late : (b.host.verdict ≡ 0 → ⊥) → has_heard b w.host ≡ false

-- entry k of the image's directory is region r
abbrev pub Entry : List ℕ → ℕ → Region → Type 0
Entry file k r = get_elem? (regions file) k ≡ some r

-- a load with a parameter string, to a machine of version 2.1, lays the parameter block over the image
abbrev pub lays_block : LoadSettings → MachineSettings → Bool
lays_block s ms = given s && older ms.version

-- what that does to the byte at an address, in a memory of this size
abbrev pub block_at : LoadSettings → MachineSettings → List ℕ → ℕ → ℕ → Option ℕ
block_at s ms string size a = pick (lays_block s ms && leb (place size) a) (cell (kept string) (a - place size)) None

-- The machine holds the catalogued program: every region lies within the file and ends within memory, and no address lies both in it and in the
-- machine's ROM window, and so it is with the block, if the load lays one. A byte that the block writes is the block's; any other byte of a
-- region is the file's; any other byte of memory is as before. The machine is started at the image's transfer address; and its record keeps
-- what the parameter string says, nothing if none is given. `get_elem? xs k` is element k of xs, counted from 0, and none beyond the end of xs.
pub record Loaded (s : LoadSettings) (ms : MachineSettings) (file string old : List ℕ) (e : End) : Type 0 where
  pub size : length e.memory ≡ length old
  pub within : (k : ℕ) (r : Region) → Entry file k r → (r.place + r.length ≤ length file) × (r.address + r.length ≤ length e.memory)
  pub clear : (k : ℕ) (r : Region) → Entry file k r → (a : ℕ) → InWindow ms.window a → Lies r.address r.length a → ⊥
  pub block_within : lays_block s ms ≡ true → place (length old) + 14 ≤ length e.memory
  pub block-clear : lays_block s ms ≡ true → (a : ℕ) → InWindow ms.window a → Lies (place (length old)) 14 a → ⊥
  pub block : (a b : ℕ) → block_at s ms string (length old) a ≡ Some b → get_elem? e.memory a ≡ some b
  pub program : (k : ℕ) (r : Region) → Entry file k r → (x : ℕ) → x < r.length → block_at s ms string (length old) (r.address + x) ≡ None
      → get_elem? e.memory (r.address + x) ≡ get_elem? file (r.place + x)
  pub rest : (a : ℕ) → block_at s ms string (length old) a ≡ None
      → ((k : ℕ) (r : Region) → Entry file k r → (a < r.address) ⊎ (r.address + r.length ≤ a)) → get_elem? e.memory a ≡ get_elem? old a
  pub started : e.machine ≡ machine.started (leaves s string) (trailer file).transfer

-- the names in the parameter block: the entry type of each, and where it begins in the block
pub data Name : ℕ → ℕ → Type 0 where
  target : Name 1 2
  host : Name 3 8

-- The parameter block says what a string of entries of version 2.1 says, with the block at an address of this memory: the node number is the
-- last target address, padded with zeros; each name is the last of its type, padded with spaces (32); of one that is absent or empty the first
-- two bytes are 0. `get_or v x d` is byte x of v, counted from 0, and d beyond the end of v.
pub record Spelled (string : List ℕ) (at : ℕ) (memory : List ℕ) : Type 0 where
  pub number : (v : List ℕ) → Last v21 2 v string → (x : ℕ) → x < 2 → get_elem? memory (at + x) ≡ some (get_or v x 0)
  pub no_number : Absent 2 string → (x : ℕ) → x < 2 → get_elem? memory (at + x) ≡ some 0
  pub name : {kind from : ℕ} → Name kind from → (v : List ℕ) → Last v21 kind v string → 1 ≤ length v → (x : ℕ) → x < 6
      → get_elem? memory (at + (from + x)) ≡ some (get_or v x 32)
  pub no_name : {kind from : ℕ} → Name kind from → Absent kind string ⊎ Last v21 kind [] string → (x : ℕ) → x < 2
      → get_elem? memory (at + (from + x)) ≡ some 0
