-- All frames in is the program loaded, with the parameter block over it if the load lays one.
use Prim.Native.Nat.{ℕ, zero, suc, ◌+◌, ◌-◌, ◌≤◌, ◌<◌}
use Rattle.std.specs.Prelude.{◌≡◌, Bool, true, false, ◌&&◌, cond as pick, List, length, take, drop, get_or, leb, Option, Some, None}
use Rattle.std.specs.Option.{unwrap_or}
use Rattle.std.proofs.Math.Path.{refl}
use Rattle.std.proofs.Common.{ap, sym, subst, ◌∙◌, arith, get_or-take, get_or-drop, eq-eqb, leb-true, leb-false}
use Rattle.std.proofs.Math.Logic.{⊎_map}
use Rattle.std.proofs.Math.Option.{some}
use Rattle.std.proofs.Math.Decide.{dec_lt}
use Rattle.std.proofs.Math.ListN.{get_elem?}
use Rattle.octets.specs.TestLaws.{both}
use Rattle.version.specs.Version.{older}
use Rattle.window.specs.Window.{Lies, InWindow}
use Rattle.parameters.specs.declared.Parameters.{Parameters}
use Rattle.parameters.specs.Parameters.{kept}
use Rattle.block.specs.Block.{place, cell, block}
use Rattle.block.specs.Laws.{length-block, get_or-block, cell-beyond}
use Rattle.memory.specs.Memory.{fits, laid}
use Rattle.memory.specs.Laws.{fits-inside, fits-clear, length-laid, laid-within, laid-before, laid-behind}
use Rattle.directory.specs.declared.Region.{Region}
use Rattle.directory.specs.Directory.{trailer, regions, nowhere, bytes, entries_refusal}
use Rattle.image.specs.Image.{many, cut_refusal}
use Rattle.image.specs.Laws.{ready}
use Rattle.directory.specs.Laws.{region-fit}
use Rattle.image.specs.PartsLaws.{length-bytes}
use Rattle.machine_record.specs.declared.Settings.{Settings as MachineSettings}
use Rattle.load_record.specs.declared.Settings.{Settings}
use Rattle.load_checks.specs.Checks.{given, frames}
use Rattle.load_checks.specs.Laws.{frames-few}
use Rattle.link.specs.MachineEnd.{End}
use Rattle.link.proofs.ByteLaws.{is-there, same_byte}
use Rattle.link_load.specs.Model.{laid_over, segments, FirstIn}
use Rattle.link_load.specs.Report.{lays_block, block_at, Loaded, Entry}
use Rattle.link_load.proofs.RegionsLaws.{segments_over, regions_over, SegmentsFit, AllFit, all_fit, fits-at, segments-regions, regions-size, inside-region, outside_regions, stretch, there}

module _ (s : Settings) (ms : MachineSettings) (file string old : List ℕ) (ok : cut_refusal file s.segment_size ≡ 0) where
  over-segments : (k : ℕ) → laid_over file s.segment_size old k ≡ segments_over file s.segment_size (regions file) k old
  unfolding laid_over segments_over
  over-segments zero = refl
  over-segments (suc k) = rw (over-segments k)

  -- n frames hold all segments
  pub all-segments : segments s file (frames s file) ≡ many s.segment_size (regions file)
  all-segments = omega (arith, (frames-few s (many s.segment_size (regions file))).0)

  abbrev directory : ℕ
  directory = (trailer file).directory

  size-some : 1 ≤ s.segment_size
  size-some = (ready file s.segment_size ok).some

  entries : entries_refusal directory 0 (regions file) ≡ 0
  entries = (ready file s.segment_size ok).fitting

  before : directory ≤ length file
  before = omega (arith, (ready file s.segment_size ok).whole)

  -- where all segments fit, so do the regions, and none touches the window
  module _ (segments-fit : SegmentsFit file s.segment_size ms.window (regions file) (length old)) where
    regions-fit : AllFit file s.segment_size ms.window (regions file) (length old)
    regions-fit = all_fit file s.segment_size ms.window directory size-some before 0 (regions file) (length old) entries segments-fit

    pub clear_of : (k : ℕ) (r : Region) → Entry file k r → (a : ℕ) → InWindow ms.window a → Lies r.address r.length a → ⊥
    clear_of k r q a x y =
        let z = there (regions file) k r q in
        let e : Lies (get_or (regions file) k nowhere).address (get_or (regions file) k nowhere).length a = rw z.1 (omega arith, omega arith) in
        fits-clear ms.window (get_or (regions file) k nowhere).address (get_or (regions file) k nowhere).length (length old)
        (fits-at file s.segment_size ms.window (regions file) (length old) k regions-fit z.0) a x e

  module _ (e : End) (i : FirstIn s ms file string old (frames s file) e) where
    segments-fit : SegmentsFit file s.segment_size ms.window (regions file) (length old)
    segments-fit j l = i.fitting j (omega (arith, all-segments))

    all : AllFit file s.segment_size ms.window (regions file) (length old)
    all = regions-fit segments-fit

    -- memory with the regions laid over it
    abbrev image : List ℕ
    image = regions_over file s.segment_size (regions file) old

    image-size : length image ≡ length old
    image-size = regions-size file s.segment_size ms.window directory size-some before 0 (regions file) old entries all

    image-is : laid_over file s.segment_size old (segments s file (frames s file)) ≡ image
    image-is =
        (rw all-segments) ∙ over-segments (many s.segment_size (regions file))
        ∙ segments-regions file s.segment_size ms.window directory size-some before 0 (regions file) old entries segments-fit

    -- ---- what the block does to it
    abbrev p : Parameters
    p = kept string

    abbrev at : ℕ
    at = place (length old)

    memory-is : e.memory ≡ pick (lays_block s ms) (laid (block p image) at image) image
    memory-is = i.memory-is ∙ (rw (image-is, eq-eqb (frames s file) (frames s file) refl) (go (given s) (older ms.version)))
      where
        go : (g b : Bool) → pick (g && true) (pick b (laid (block p image) (place (length image)) image) image) image ≡ pick (g && b) (laid (block p image) at image) image
        go true true = rw image-size
        go true false = refl
        go false b = refl

    block-fits : lays_block s ms ≡ true → fits ms.window at 14 (length old) ≡ true
    block-fits q =
        let z = both (given s) (older ms.version) q in
        rw z.1 at (i.parameters-fit (rw (eq-eqb (frames s file) (frames s file) refl, z.0)))

    block_inside : lays_block s ms ≡ true → at + length (block p image) ≤ length image
    block_inside q = omega (arith, fits-inside ms.window at 14 (length old) (block-fits q), image-size, length-block p image)

    size : length e.memory ≡ length old
    size = rw memory-is (go (lays_block s ms) refl)
      where
        go : (b : Bool) → lays_block s ms ≡ b → length (pick b (laid (block p image) at image) image) ≡ length old
        go true q = length-laid (block p image) at image (block_inside q) ∙ image-size
        go false q = image-size

    -- each byte is the image's, but for what the block does to it
    overlaid : (a : ℕ) → get_or e.memory a 0 ≡ unwrap_or (block_at s ms string (length old) a) (get_or image a 0)
    overlaid a = rw memory-is (go (lays_block s ms) refl)
      where
        behind : (q : lays_block s ms ≡ true) → at ≤ a → get_or (laid (block p image) at image) a 0 ≡ unwrap_or (cell p (a - at)) (get_or image a 0)
        behind q l =
            elim (dec_lt (a - at) 14) [
              | yes m ↦ let here : at + (a - at) ≡ a = omega arith in
                  let same : place (length image) ≡ at = rw image-size in
                  subst (λ (k : ℕ). get_or (laid (block p image) at image) k 0 ≡ unwrap_or (cell p (a - at)) (get_or image k 0)) here
                  (laid-within (block p image) at image (block_inside q) (a - at) (omega (arith, length-block p image))
                  ∙ (rw same at (get_or-block p image (a - at) m)))
              | no m ↦ rw (cell-beyond p (a - at) (omega arith)) (laid-behind (block p image) at image (block_inside q) a (omega (arith, length-block p image)))
            ]

        by_place : (b : Bool) → lays_block s ms ≡ true → leb at a ≡ b → get_or (laid (block p image) at image) a 0 ≡ unwrap_or (pick b (cell p (a - at)) None) (get_or image a 0)
        by_place true q l = behind q (leb-true at a l)
        by_place false q l = laid-before (block p image) at image (block_inside q) a (leb-false at a l)

        go : (b : Bool) → lays_block s ms ≡ b
            → get_or (pick b (laid (block p image) at image) image) a 0 ≡ unwrap_or (pick (b && leb at a) (cell p (a - at)) None) (get_or image a 0)
        go true q = by_place (leb at a) q refl
        go false q = refl

    -- a byte that the block writes lies in memory
    written : (a b : ℕ) → block_at s ms string (length old) a ≡ Some b → a < length e.memory
    written a b q = go (lays_block s ms) refl q
      where
        changes : (x : Option ℕ) → x ≡ None → x ≡ Some b → ⊥
        changes x y z = let k : ◌≡◌ {A = ℕ} 0 1 = cc in omega arith

        inside : (c : Bool) → lays_block s ms ≡ true → leb at a ≡ c → pick c (cell p (a - at)) None ≡ Some b → a < length e.memory
        inside true l m z =
            elim (dec_lt (a - at) 14) [
              | yes n ↦ omega (arith, leb-true at a m, fits-inside ms.window at 14 (length old) (block-fits l), size)
              | no n ↦ absurd (changes (cell p (a - at)) (cell-beyond p (a - at) (omega arith)) z)
            ]
        inside false l m z = absurd (changes None refl z)

        go : (c : Bool) → lays_block s ms ≡ c → pick (c && leb at a) (cell p (a - at)) None ≡ Some b → a < length e.memory
        go true l z = inside (leb at a) l refl z
        go false l z = absurd (changes None refl z)

    -- region k of the directory
    module _ (k : ℕ) (l : k < length (regions file)) where
      abbrev region : Region
      region = get_or (regions file) k nowhere

      fit : fits ms.window region.address region.length (length old) ≡ true
      fit = fits-at file s.segment_size ms.window (regions file) (length old) k all l

      within : (region.place + region.length ≤ length file) × (region.address + region.length ≤ length e.memory)
      within =
          (omega (arith, before, (region-fit directory 0 (regions file) k entries l).within), omega (arith, size, fits-inside ms.window region.address region.length (length old) fit))

      -- each of its bytes in memory, where the block leaves it, and in the file
      held : (x : ℕ) → x < region.length → block_at s ms string (length old) (region.address + x) ≡ None
          → get_elem? e.memory (region.address + x) ≡ get_elem? file (region.place + x)
      held x b stays =
          let byte = inside-region file s.segment_size ms.window directory size-some before 0 (regions file) old k x entries all l b in
          let same : get_or e.memory (region.address + x) 0 ≡ get_or file (region.place + x) 0 =
          (rw stays at (overlaid (region.address + x))) ∙ byte ∙ get_or-take region.length (drop region.place file) x 0 b ∙ get_or-drop region.place file x 0 in
          is-there 0 e.memory (region.address + x) (omega (arith, within.1)) ∙ ap some same ∙ sym (is-there 0 file (region.place + x) (omega (arith, within.0)))

    -- a load that lays no block: all of a region's bytes
    pub whole-region : lays_block s ms ≡ false → (k : ℕ) (r : Region) → Entry file k r
        → take r.length (drop r.address e.memory) ≡ take r.length (drop r.place file)
    whole-region none k r q =
        let z = there (regions file) k r q in
        subst (λ (x : Region). take x.length (drop x.address e.memory) ≡ bytes file x) z.1 (whole k z.0)
      where
        whole : (k : ℕ) (l : k < length (regions file)) → take (region k l).length (drop (region k l).address e.memory) ≡ bytes file (region k l)
        whole k l =
            let n = length-bytes file (region k l) (within k l).0 in
            subst (λ (x : ℕ). take x (drop (region k l).address e.memory) ≡ bytes file (region k l)) n
            (stretch e.memory (bytes file (region k l)) (region k l).address (omega (arith, n, (within k l).1))
            (λ x b. rw (memory-is, none) (inside-region file s.segment_size ms.window directory size-some before 0 (regions file) old k x entries all l (omega (arith, n)))))

    pub all_in : Loaded s ms file string old e
    all_in =
        record {
          size = size;
          within = λ k r q.
              let z = there (regions file) k r q in
              let y : (r.place + r.length ≤ length file) × (r.address + r.length ≤ length e.memory) =
              subst (λ (x : Region). (x.place + x.length ≤ length file) × (x.address + x.length ≤ length e.memory)) z.1 (within k z.0) in
              (omega (arith, y.0), omega (arith, y.1));
          clear = λ k r q a x y. clear_of segments-fit k r q a x (omega (arith, y), omega (arith, y));
          block_within = λ q. omega (arith, fits-inside ms.window at 14 (length old) (block-fits q), size);
          block-clear = λ q a x y. fits-clear ms.window at 14 (length old) (block-fits q) a x y;
          block = λ a b q. is-there 0 e.memory a (written a b q) ∙ ap some (overlaid a ∙ (rw q));
          program = λ k r q.
              let z = there (regions file) k r q in
              subst (λ (x : Region). (y : ℕ) → y < x.length → block_at s ms string (length old) (x.address + y) ≡ None → get_elem? e.memory (x.address + y) ≡ get_elem? file (x.place + y)) z.1 (held k z.0);
          rest = λ a q g.
              same_byte e.memory old a size ((rw q at (overlaid a)) ∙ outside_regions file s.segment_size ms.window directory size-some before 0 (regions file) old a entries all
              (λ k l. ⊎_map (λ x. omega arith) (λ x. omega arith) (g k (get_or (regions file) k nowhere) (is-there nowhere (regions file) k l))));
          started = i.started refl;
        }
