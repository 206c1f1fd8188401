-- An image's segments, and the parameter frame behind them, as the numbered frames of a load.
use Rattle.std.specs.Prelude.{ℕ, suc, ◌+◌, ◌%◌, ◌≤◌, ◌<◌, ◌≡◌, Bool, ◌&&◌, cond as pick, List, length, eqb}
use Rattle.std.proofs.Math.Path.{refl}
use Rattle.std.proofs.Common.{◌∙◌, arith, length-append, eq-eqb, ne_eqb, eqb-true}
use Rattle.std.proofs.Math.Bool.{true, false}
use Rattle.std.proofs.lemmas.Bool.{eqb-false}
use Rattle.octets.specs.Number.{Octets, low}
use Rattle.parameters.specs.declared.Parameters.{Parameters}
use Rattle.parameters.specs.Parameters.{kept}
use Rattle.version.specs.Version.{older}
use Rattle.block.specs.Block.{place, block}
use Rattle.block.specs.Laws.{length-block}
use Rattle.memory.specs.Memory.{fits, laid}
use Rattle.memory.specs.Laws.{fits-inside, length-laid, laid-again}
use Rattle.message.specs.Message.{Message, memory_load_transfer, memory_load, parameters}
use Rattle.message.specs.Read.{fields}
use Rattle.message.specs.Write.{layout}
use Rattle.message.specs.Laws.{columns, load_transfer_fields, load_transfer_part, load_fields, load_part, parameters-numbers, parameters-fields, parameters-part}
use Rattle.directory.specs.Directory.{trailer, regions}
use Rattle.image.specs.Image.{many, segment_of, segment, cut_refusal}
use Rattle.directory.specs.Laws.{transfer-bound}
use Rattle.image.specs.Laws.{Held, ready, many-range, file_segment, length-segment}
use Rattle.machine_record.specs.declared.Machine.{Machine}
use Rattle.machine_record.specs.declared.Settings.{Settings}
use Rattle.machine_record.specs.Record.{loading, started}
use Rattle.machine_number.specs.Number.{after}
use Rattle.machine_next.specs.Next.{by_number, taken_as, on_load, parameters_fit, parameters_laid, on_parameters, react}
use Rattle.machine.specs.Machine.{machine_frame}
use Rattle.load_record.specs.declared.Settings.{Settings as LoadSettings}
use Rattle.load_checks.specs.Checks.{given, frames}
use Rattle.load_checks.specs.Laws.{Whole, frames-few}
use Rattle.load.specs.Load.{frame_message}
use Rattle.link.specs.Link.{turned}
use Rattle.link.specs.MachineEnd.{machine_end}
use Rattle.link.proofs.MachineEndLaws.{MachineAct, Becomes, on_read}
use Rattle.link_load.specs.Model.{parameters_in}
use Rattle.link_load.proofs.FramesLaws.{Frames}

-- the frames are at most 1,500 bytes long
last-short : (n a : ℕ) (d : List ℕ) (t : ℕ) → length d ≤ 1490 → length (layout (memory_load_transfer n a d t)) ≤ 1500
unfolding layout low
last-short n a d t h = simp length-append (omega arith)

other-short : (n a : ℕ) (d : List ℕ) → length d ≤ 1490 → length (layout (memory_load n a d)) ≤ 1500
unfolding layout low
other-short n a d h = omega arith

parameters-short : (n : ℕ) (e : List ℕ) (t : ℕ) → length e ≤ 1493 → length (layout (parameters n e t)) ≤ 1500
unfolding layout low
parameters-short n e t h = simp length-append (omega arith)

-- a frame of the load is a segment, or the parameter frame that ends it
module _ (s : LoadSettings) (file : List ℕ) where
  abbrev N : ℕ
  N = many s.segment_size (regions file)

  abbrev pub is_parameters : ℕ → Bool
  is_parameters i = given s && eqb (i + 1) (frames s file)

  pub is-segment : (i : ℕ) → i < frames s file → is_parameters i ≡ false → i < N
  is-segment i = go (given s)
    where
      go : (g : Bool) → i < pick g (N + 1) N → g && eqb (i + 1) (pick g (N + 1) N) ≡ false → i < N
      go true l e = omega (arith, eqb-false (i + 1) (N + 1) e)
      go false l e = l

  -- the parameter frame comes behind all segments; where it is one of the first k frames they are all, and else only segments
  pub parameters-last : given s ≡ true → is_parameters N ≡ true
  parameters-last g = rw (g, eq-eqb (N + 1) (N + 1) refl)

  pub in_last : (k : ℕ) → parameters_in s file k ≡ true → (given s ≡ true) × (k ≡ suc N)
  in_last k = go (given s)
    where
      go : (g : Bool) → g && eqb k (pick g (N + 1) N) ≡ true → (g ≡ true) × (k ≡ suc N)
      go true e = (refl, omega (arith, eqb-true k (N + 1) e))
      go false e = let z : ◌≡◌ {A = ℕ} 0 1 = cc in absurd (omega arith)

  pub in_early : (k : ℕ) → k ≤ frames s file → parameters_in s file k ≡ false → k ≤ N
  in_early k = go (given s)
    where
      go : (g : Bool) → k ≤ pick g (N + 1) N → g && eqb k (pick g (N + 1) N) ≡ false → k ≤ N
      go true l e = omega (arith, eqb-false k (N + 1) e)
      go false l e = l

  pub no_parameters : (i : ℕ) → i < N → is_parameters i ≡ false
  no_parameters i l = go (given s)
    where
      go : (g : Bool) → g && eqb (i + 1) (pick g (N + 1) N) ≡ false
      go true = ne_eqb (i + 1) (N + 1) (λ q. omega arith)
      go false = refl

  -- a frame that is not the last is none
  pub not_last : (i : ℕ) → i + 1 < frames s file → is_parameters i ≡ false
  not_last i l = go (given s)
    where
      go : (g : Bool) → g && eqb (i + 1) (frames s file) ≡ false
      go true = ne_eqb (i + 1) (frames s file) (λ q. omega arith)
      go false = refl

-- for a memory of a size
module _
    (s : LoadSettings) (ms : Settings) (file string : List ℕ) (size : ℕ) (ok : cut_refusal file s.segment_size ≡ 0) (o : Octets file)
    (w : given s ≡ true → Whole s.version string) where
  abbrev address : ℕ → ℕ
  address i = (segment_of file s.segment_size i).address

  abbrev bytes : ℕ → List ℕ
  bytes i = (segment_of file s.segment_size i).bytes

  abbrev t : ℕ
  t = (trailer file).transfer

  -- the machine after the last frame, from what it kept before
  abbrev done : Parameters → Machine
  done p = started (pick (given s) (kept string) p) t

  abbrev fit : ℕ → ℕ → Bool
  fit size i = pick (is_parameters s file i) (parameters_fit ms size) (fits ms.window (address i) (length (bytes i)) size)

  abbrev lays : ℕ → List ℕ → List ℕ
  lays i memory = pick (is_parameters s file i) (parameters_laid ms (kept string) memory) (laid (bytes i) (address i) memory)

  -- frame i by whether a string is given, and whether it is the last
  abbrev is : ℕ → Bool → Bool → Message
  is i g b = pick b (pick g (parameters (i % 256) string t) (memory_load_transfer (i % 256) (address i) (bytes i) t)) (memory_load (i % 256) (address i) (bytes i))

  -- what a segment's frame holds
  module _ (i : ℕ) (h : i < N s file) where
    held : Held s.segment_size (length file) (segment s.segment_size (regions file) i)
    held = file_segment file s.segment_size ok i h

    short : length (bytes i) ≤ 1490
    short = omega (arith, length-segment file s.segment_size ok i h, held, ready file s.segment_size ok)

    transfer-fields : fields ms.version (layout (memory_load_transfer (i % 256) (address i) (bytes i) t)) ≡ columns 0 0 (i % 256) 0 0 0 0 0 0 0 0 0 (address i) t 0 6 (length (bytes i)) 0 0
    transfer-fields =
        load_transfer_fields ms.version (i % 256) (address i) (bytes i) t (omega (arith, held)) (transfer-bound file o) (last-short (i % 256) (address i) (bytes i) t short)

    other-fields : fields ms.version (layout (memory_load (i % 256) (address i) (bytes i))) ≡ columns 0 2 (i % 256) 0 0 0 0 0 0 0 0 0 (address i) 0 0 6 (length (bytes i)) 0 0
    other-fields = load_fields ms.version (i % 256) (address i) (bytes i) (omega (arith, held)) (other-short (i % 256) (address i) (bytes i) short)

  -- the parameter frame, where the machine can read it: it may be of another version
  string-fields : (i : ℕ) → given s ≡ true → (fields ms.version (layout (parameters (i % 256) string t))).refusal ≡ 0
      → fields ms.version (layout (parameters (i % 256) string t)) ≡ columns 0 20 (i % 256) 0 0 0 0 0 0 0 0 0 0 t 0 2 (length string) 0 0
  string-fields i g = parameters-numbers ms.version (i % 256) string t (transfer-bound file o) (parameters-short (i % 256) string t (w g).1)

  module _ (i : ℕ) (h : i < frames s file) where
    -- it is read by a machine of the same version
    pub frame-read : ms.version ≡ s.version → (fields ms.version (layout (frame_message s file string i))).refusal ≡ 0
    frame-read same = go (given s) (eqb (i + 1) (frames s file)) refl (is-segment s file i h)
      where
        go : (g b : Bool) → given s ≡ g → (g && b ≡ false → i < N s file) → (fields ms.version (layout (is i g b))).refusal ≡ 0
        go true true e l =
            rw (parameters-fields ms.version (i % 256) string t (rw same (w e).0) (transfer-bound file o) (parameters-short (i % 256) string t (w e).1))
        go true false e l = rw (other-fields i (l refl))
        go false true e l = rw (transfer-fields i (l refl))
        go false false e l = rw (other-fields i (l refl))

    -- codes 0 and 2 are loads, and code 20, if it is read, is taken by the same rule
    react-frame : (m : Machine) (memory : List ℕ) → (fields ms.version (layout (frame_message s file string i))).refusal ≡ 0
        → react ms m (fields ms.version (layout (frame_message s file string i))) (layout (frame_message s file string i)) memory
        ≡ by_number m (i % 256)
        (taken_as m.parameters (i % 256) (fit (length memory) i) (pick (eqb (i + 1) (frames s file)) (done m.parameters) (loading m.parameters (after (i % 256)) 0)) (lays i memory) memory) memory
    unfolding on_load on_parameters
    react-frame m memory z = go (given s) (eqb (i + 1) (frames s file)) refl (is-segment s file i h) z
      where
        go : (g b : Bool) → given s ≡ g → (g && b ≡ false → i < N s file) → (fields ms.version (layout (is i g b))).refusal ≡ 0
            → react ms m (fields ms.version (layout (is i g b))) (layout (is i g b)) memory
            ≡ by_number m (i % 256)
            (taken_as m.parameters (i % 256) (pick (g && b) (parameters_fit ms (length memory)) (fits ms.window (address i) (length (bytes i)) (length memory)))
            (pick b (started (pick g (kept string) m.parameters) t) (loading m.parameters (after (i % 256)) 0)) (pick (g && b) (parameters_laid ms (kept string) memory) (laid (bytes i) (address i) memory)) memory) memory
        go true true e l z = rw (string-fields i e z, parameters-part (i % 256) string t)
        go true false e l z = rw (other-fields i (l refl), load_part (i % 256) (address i) (bytes i))
        go false true e l z = rw (transfer-fields i (l refl), load_transfer_part (i % 256) (address i) (bytes i) t)
        go false false e l z = rw (other-fields i (l refl), load_part (i % 256) (address i) (bytes i))

  -- what a machine does with frame i, in a memory of this size
  abbrev taken : ℕ → Machine → List ℕ → MachineAct
  taken i m memory =
      by_number m (i % 256)
      (taken_as m.parameters (i % 256) (fit size i) (pick (eqb (i + 1) (frames s file)) (done m.parameters) (loading m.parameters (after (i % 256)) 0)) (lays i memory) memory) memory

  sized : (i : ℕ) (m : Machine) (memory : List ℕ) → i < frames s file → length memory ≡ size
      → (fields ms.version (layout (frame_message s file string i))).refusal ≡ 0 → react ms m (fields ms.version (layout (frame_message s file string i))) (layout (frame_message s file string i)) memory ≡ taken i m memory
  sized i m memory l e z = rw (react-frame i l m memory z, e)

  pub takes-frame : (i : ℕ) (m : Machine) (memory b : List ℕ) → i < frames s file → length memory ≡ size
      → Becomes (turned machine_end (machine_frame ms m (layout (frame_message s file string i)) memory b)) (taken i m memory)
  takes-frame i m memory b l e = on_read ms m memory b (layout (frame_message s file string i)) (taken i m memory) (sized i m memory l e)

  -- a segment that fits lies within memory, so memory's length stays, and laid twice is laid once
  inside : (i : ℕ) (memory : List ℕ) → length memory ≡ size → fits ms.window (address i) (length (bytes i)) size ≡ true → address i + length (bytes i) ≤ length memory
  inside i memory z e = omega (arith, fits-inside ms.window (address i) (length (bytes i)) size e)

  -- a parameter frame that fits keeps memory's length, under 2.1 as a load of its block does
  parameters-length : (memory : List ℕ) → parameters_fit ms size ≡ true → length memory ≡ size → length (parameters_laid ms (kept string) memory) ≡ size
  parameters-length memory = go (older ms.version)
    where
      go : (b : Bool) → pick b (fits ms.window (place size) 14 size) true ≡ true → length memory ≡ size
          → length (pick b (laid (block (kept string) memory) (place (length memory)) memory) memory) ≡ size
      go true e z =
          let inside : place (length memory) + length (block (kept string) memory) ≤ length memory =
          rw (length-block (kept string) memory, z) (fits-inside ms.window (place size) 14 size e) in
          length-laid (block (kept string) memory) (place (length memory)) memory inside ∙ z
      go false e z = z

  pub keeps-length : (i : ℕ) (memory : List ℕ) → fit size i ≡ true → length memory ≡ size → length (lays i memory) ≡ size
  keeps-length i memory = go (is_parameters s file i)
    where
      go : (p : Bool) → pick p (parameters_fit ms size) (fits ms.window (address i) (length (bytes i)) size) ≡ true → length memory ≡ size
          → length (pick p (parameters_laid ms (kept string) memory) (laid (bytes i) (address i) memory)) ≡ size
      go true e z = parameters-length memory e z
      go false e z = length-laid (bytes i) (address i) memory (inside i memory z e) ∙ z

  pub lays-again : (i : ℕ) (memory : List ℕ) → i + 1 < frames s file → fit size i ≡ true → length memory ≡ size → lays i (lays i memory) ≡ lays i memory
  lays-again i memory l e z =
      let other = not_last s file i l in
      let fitting : fits ms.window (address i) (length (bytes i)) size ≡ true = rw other at e in
      rw other (laid-again (bytes i) (address i) memory (inside i memory z fitting))

  abbrev pub load_frames : Frames ms
  load_frames =
      record {
        many = frames s file;
        size = size;
        what = λ i. frame_message s file string i;
        fit = λ i. pick (is_parameters s file i) (parameters_fit ms size) (fits ms.window (segment_of file s.segment_size i).address (length (segment_of file s.segment_size i).bytes) size);
        lays = λ i memory. pick (is_parameters s file i) (parameters_laid ms (kept string) memory) (laid (segment_of file s.segment_size i).bytes (segment_of file s.segment_size i).address memory);
        done = λ p. started (pick (given s) (kept string) p) (trailer file).transfer;
        some = omega (arith, (many-range file s.segment_size ok).0, (frames-few s (many s.segment_size (regions file))).0);
        ended = λ p. refl;
        keeps = λ i memory l e z. keeps-length i memory e z;
        twice = lays-again;
        reacts = takes-frame;
      }
