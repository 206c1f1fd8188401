-- The segments laid over a memory are the regions laid over it, and what each byte of memory is then.
use Prim.Native.Nat.{ℕ, zero, suc, ◌+◌, ◌≤◌, ◌<◌}
use Rattle.std.specs.Prelude.{◌≡◌, ◌⊎◌, take, drop, get_or}
use Rattle.std.proofs.Math.Path.{refl, ap}
use Rattle.std.proofs.Common.{sym, ◌∙◌, arith, add-zero, add-suc, take-append-drop, length-take, length-drop, get_or-take, get_or-drop, ext_get_or}
use Rattle.std.proofs.Math.Bool.{true}
use mathlib.Core.List.{List, [], ◌∷◌}
use Rattle.std.proofs.Math.Logic.{⊎_elim}
use Rattle.std.proofs.Math.Option.{some, some-injective}
use Rattle.std.proofs.Math.ListN.{length, get_elem?, length-append}
use Rattle.window.specs.declared.Window.{Window}
use Rattle.memory.specs.Memory.{fits, laid}
use Rattle.memory.specs.Laws.{fits-inside, fits-empty, fits-joined, length-laid, laid-joined, laid-within, laid-before, laid-behind}
use Rattle.directory.specs.declared.Region.{Region}
use Rattle.directory.specs.Directory.{bytes, ending, nowhere, entries_refusal}
use Rattle.image.specs.Image.{many, segment, parts, cut, joined}
use Rattle.image.specs.PartsLaws.{joined-whole, cut-address, length-bytes, parts-some}
use Rattle.directory.specs.Laws.{Fit, accepted_cons}
use Rattle.image.specs.Laws.{segment-here, segment-later}

module _ (file : List ℕ) (S : ℕ) where
  -- the first j parts of a region laid over a memory; the first k segments of regions; whole regions
  unfoldable pub parts_over : Region → ℕ → List ℕ → List ℕ
  parts_over r zero m = m
  parts_over r (suc j) m = laid (bytes file (cut S r j)) (cut S r j).address (parts_over r j m)

  unfoldable pub segments_over : List Region → ℕ → List ℕ → List ℕ
  segments_over rs zero m = m
  segments_over rs (suc k) m = laid (bytes file (segment S rs k)) (segment S rs k).address (segments_over rs k m)

  unfoldable pub regions_over : List Region → List ℕ → List ℕ
  regions_over [] m = m
  regions_over (r ∷ rs) m = regions_over rs (laid (bytes file r) r.address m)

  -- the parts of a region, laid over one after the other, are the region
  parts-joined : (r : Region) (j : ℕ) (m : List ℕ) → 1 ≤ S → r.place + r.length ≤ length file → j ≤ parts S r → r.address ≤ length m
      → ((i : ℕ) → i < j → (cut S r i).address + length (bytes file (cut S r i)) ≤ length m)
      → parts_over r j m ≡ laid (joined file S r j) r.address m
  unfolding parts_over joined
  parts-joined r zero m s h l a f = rw (add-zero r.address) (sym (take-append-drop r.address m))
  parts-joined r (suc j) m s h l a f =
      let at = cut-address file S r j s h (omega arith) in
      let room : r.address + length (joined file S r j) + length (bytes file (cut S r j)) ≤ length m = omega (arith, f j (omega arith), at) in
      rw (parts-joined r j m s h (omega arith) a (λ i k. f i (omega arith)), at)
      (laid-joined (joined file S r j) (bytes file (cut S r j)) r.address m room)

  -- the first parts of the first region, and the segments behind it
  first-parts : (r : Region) (rs : List Region) (j : ℕ) (m : List ℕ) → j ≤ parts S r → segments_over (r ∷ rs) j m ≡ parts_over r j m
  unfolding segments_over parts_over
  first-parts r rs zero m l = refl
  first-parts r rs (suc j) m l = rw (segment-here S r rs j (omega arith), first-parts r rs j m (omega arith))

  later-parts : (r : Region) (rs : List Region) (k : ℕ) (m : List ℕ)
      → segments_over (r ∷ rs) (parts S r + k) m ≡ segments_over rs k (parts_over r (parts S r) m)
  unfolding segments_over
  later-parts r rs zero m = rw (add-zero (parts S r)) (first-parts r rs (parts S r) m (omega arith))
  later-parts r rs (suc k) m = rw (add-suc (parts S r) k, segment-later S r rs k, later-parts r rs k m)

  -- ---- the regions of an image whose segments fit a machine with a ROM window
  module _ (window : Window) where
    -- a region whose parts fit fits
    parts-fit : (r : Region) (n j : ℕ) → 1 ≤ S → r.place + r.length ≤ length file → j ≤ parts S r → fits window r.address 0 n ≡ true
        → ((i : ℕ) → i < j → fits window (cut S r i).address (length (bytes file (cut S r i))) n ≡ true)
        → fits window r.address (length (joined file S r j)) n ≡ true
    unfolding joined
    parts-fit r n zero s h l a f = a
    parts-fit r n (suc j) s h l a f =
        rw length-append
        (fits-joined window r.address (length (joined file S r j)) (length (bytes file (cut S r j))) n (parts-fit r n j s h (omega arith) a (λ i k. f i (omega arith)))
        (rw (cut-address file S r j s h (omega arith)) at (f j (omega arith))))

    -- every region fits a memory of n bytes
    pub AllFit : List Region → ℕ → Type 0
    AllFit [] n = Unit {0}
    AllFit (r ∷ rs) n = (fits window r.address r.length n ≡ true) × AllFit rs n

    -- every segment does
    abbrev pub SegmentsFit : List Region → ℕ → Type 0
    SegmentsFit rs n = (i : ℕ) → i < many S rs → fits window (segment S rs i).address (length (bytes file (segment S rs i))) n ≡ true

    inside : (r : Region) (n : ℕ) → fits window r.address r.length n ≡ true → ending r ≤ n
    inside r n e = fits-inside window r.address r.length n e

    -- what the first region's parts and the later segments have of it
    here : (r : Region) (rs : List Region) (n : ℕ) → SegmentsFit (r ∷ rs) n → (i : ℕ) → i < parts S r
        → fits window (cut S r i).address (length (bytes file (cut S r i))) n ≡ true
    unfolding many
    here r rs n f i l = rw (segment-here S r rs i l) at (f i (omega arith))

    later : (r : Region) (rs : List Region) (n : ℕ) → SegmentsFit (r ∷ rs) n → SegmentsFit rs n
    unfolding many
    later r rs n f i l = rw (segment-later S r rs i) at (f (parts S r + i) (omega arith))

    pub fits-at : (rs : List Region) (n k : ℕ) → AllFit rs n → k < length rs → fits window (get_or rs k nowhere).address (get_or rs k nowhere).length n ≡ true
    unfolding AllFit
    fits-at [] n k f l = absurd (omega (arith, l))
    fits-at (r ∷ rs) n zero f l = f.0
    fits-at (r ∷ rs) n (suc k) f l = fits-at rs n k f.1 (omega (arith, l))

    module _ (directory : ℕ) (s : 1 ≤ S) (d : directory ≤ length file) where
      region-fits : (end : ℕ) (r : Region) (n : ℕ) → Fit directory end r
          → ((i : ℕ) → i < parts S r → fits window (cut S r i).address (length (bytes file (cut S r i))) n ≡ true) → fits window r.address r.length n ≡ true
      unfolding joined
      region-fits end r n g f =
          let one = parts-some S r s g.some in
          let file-has : r.place + r.length ≤ length file = omega (arith, g.within) in
          let first : fits window r.address 0 n ≡ true =
          rw (cut-address file S r 0 s file-has one, add-zero) at (fits-empty window (cut S r 0).address (length (bytes file (cut S r 0))) n (f 0 one)) in
          rw (joined-whole file S r s, length-bytes file r file-has) at (parts-fit r n (parts S r) s file-has (omega arith) first f)

      pub all_fit : (end : ℕ) (rs : List Region) (n : ℕ) → entries_refusal directory end rs ≡ 0 → SegmentsFit rs n → AllFit rs n
      unfolding AllFit
      all_fit end [] n e f = tt
      all_fit end (r ∷ rs) n e f =
          let c = accepted_cons directory end r rs e in
          (region-fits end r n c.0 (here r rs n f), all_fit (ending r) rs n c.1 (later r rs n f))

      -- the segments laid over a memory are the regions laid over it
      pub segments-regions : (end : ℕ) (rs : List Region) (m : List ℕ) → entries_refusal directory end rs ≡ 0 → SegmentsFit rs (length m)
          → segments_over rs (many S rs) m ≡ regions_over rs m
      unfolding segments_over regions_over many
      segments-regions end [] m e f = refl
      segments-regions end (r ∷ rs) m e f =
          let c = accepted_cons directory end r rs e in
          let file-has : r.place + r.length ≤ length file = omega (arith, c.0.within) in
          let ends = inside r (length m) (region-fits end r (length m) c.0 (here r rs (length m) f)) in
          let whole : parts_over r (parts S r) m ≡ laid (bytes file r) r.address m =
          parts-joined r (parts S r) m s file-has (omega arith) (omega arith) (λ i l. fits-inside window (cut S r i).address (length (bytes file (cut S r i))) (length m) (here r rs (length m) f i l)) ∙ ap (λ (l : List ℕ). laid l r.address m) (joined-whole file S r s) in
          let size : length (laid (bytes file r) r.address m) ≡ length m =
          length-laid (bytes file r) r.address m (omega (arith, length-bytes file r file-has)) in
          rw (later-parts r rs (many S rs) m, whole)
          (segments-regions (ending r) rs (laid (bytes file r) r.address m) c.1 (rw size (later r rs (length m) f)))

      -- ---- each byte of memory then
      laid-size : (end : ℕ) (r : Region) (m : List ℕ) → Fit directory end r → fits window r.address r.length (length m) ≡ true → length (laid (bytes file r) r.address m) ≡ length m
      laid-size end r m g f =
          length-laid (bytes file r) r.address m
          (omega (arith, inside r (length m) f, length-bytes file r (omega (arith, g.within))))

      pub regions-size : (end : ℕ) (rs : List Region) (m : List ℕ) → entries_refusal directory end rs ≡ 0 → AllFit rs (length m) → length (regions_over rs m) ≡ length m
      unfolding regions_over AllFit
      regions-size end [] m e f = refl
      regions-size end (r ∷ rs) m e f =
          let c = accepted_cons directory end r rs e in
          let z = laid-size end r m c.0 f.0 in
          regions-size (ending r) rs (laid (bytes file r) r.address m) c.1 (rw z f.1) ∙ z

      -- a byte before the first region stays
      before-all : (end : ℕ) (rs : List Region) (m : List ℕ) (a : ℕ) → entries_refusal directory end rs ≡ 0 → AllFit rs (length m) → a < end
          → get_or (regions_over rs m) a 0 ≡ get_or m a 0
      unfolding regions_over AllFit
      before-all end [] m a e f l = refl
      before-all end (r ∷ rs) m a e f l =
          let c = accepted_cons directory end r rs e in
          let n = length-bytes file r (omega (arith, c.0.within)) in
          before-all (ending r) rs (laid (bytes file r) r.address m) a c.1 (rw (laid-size end r m c.0 f.0) f.1) (omega (arith, c.0.after))
          ∙ laid-before (bytes file r) r.address m (omega (arith, n, inside r (length m) f.0)) a (omega (arith, c.0.after))

      -- a byte of a region is the file's
      pub inside-region : (end : ℕ) (rs : List Region) (m : List ℕ) (k x : ℕ) → entries_refusal directory end rs ≡ 0 → AllFit rs (length m)
          → k < length rs → x < (get_or rs k nowhere).length
          → get_or (regions_over rs m) ((get_or rs k nowhere).address + x) 0 ≡ get_or (bytes file (get_or rs k nowhere)) x 0
      unfolding regions_over AllFit
      inside-region end [] m k x e f l b = absurd (omega (arith, l))
      inside-region end (r ∷ rs) m zero x e f l b =
          let c = accepted_cons directory end r rs e in
          let n = length-bytes file r (omega (arith, c.0.within)) in
          before-all (ending r) rs (laid (bytes file r) r.address m) (r.address + x) c.1 (rw (laid-size end r m c.0 f.0) f.1) (omega arith)
          ∙ laid-within (bytes file r) r.address m (omega (arith, n, inside r (length m) f.0)) x (omega (arith, n))
      inside-region end (r ∷ rs) m (suc k) x e f l b =
          let c = accepted_cons directory end r rs e in
          inside-region (ending r) rs (laid (bytes file r) r.address m) k x c.1 (rw (laid-size end r m c.0 f.0) f.1) (omega (arith, l)) b

      -- a byte of no region stays
      pub outside_regions : (end : ℕ) (rs : List Region) (m : List ℕ) (a : ℕ) → entries_refusal directory end rs ≡ 0 → AllFit rs (length m)
          → ((k : ℕ) → k < length rs → (a < (get_or rs k nowhere).address) ⊎ (ending (get_or rs k nowhere) ≤ a))
          → get_or (regions_over rs m) a 0 ≡ get_or m a 0
      unfolding regions_over AllFit
      outside_regions end [] m a e f g = refl
      outside_regions end (r ∷ rs) m a e f g =
          let c = accepted_cons directory end r rs e in
          let n = length-bytes file r (omega (arith, c.0.within)) in
          outside_regions (ending r) rs (laid (bytes file r) r.address m) a c.1 (rw (laid-size end r m c.0 f.0) f.1) (λ k l. g (suc k) (omega arith))
          ∙ ⊎_elim (λ l. laid-before (bytes file r) r.address m (omega (arith, n, inside r (length m) f.0)) a l)
          (λ l. laid-behind (bytes file r) r.address m (omega (arith, n, inside r (length m) f.0)) a (omega (arith, n, l))) (g 0 (omega arith))

-- ---- with no default for what is beyond a list's end
-- a stretch that has these bytes one by one has them together
pub stretch : (xs ys : List ℕ) (a : ℕ) → a + length ys ≤ length xs → ((x : ℕ) → x < length ys → get_or xs (a + x) 0 ≡ get_or ys x 0) → take (length ys) (drop a xs) ≡ ys
stretch xs ys a h f =
    let size : length (take (length ys) (drop a xs)) ≡ length ys = simp (length-take, length-drop) (omega arith) in
    ext_get_or 0 (take (length ys) (drop a xs)) ys size
    (λ i l. get_or-take (length ys) (drop a xs) i 0 (omega arith) ∙ get_or-drop a xs i 0 ∙ f i (omega arith))

-- an entry that is there
pub there : (rs : List Region) (k : ℕ) (r : Region) → get_elem? rs k ≡ some r → (k < length rs) × (get_or rs k nowhere ≡ r)
there [] k r e = let z : ◌≡◌ {A = ℕ} 0 1 = cc in absurd (omega arith)
there (x ∷ rs) zero r e = (omega arith, some-injective x r e)
there (x ∷ rs) (suc k) r e = let z = there rs k r e in (omega (arith, z.0), z.1)
