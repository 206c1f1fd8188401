-- Laws of segments: where they are cut from, what each is in an accepted file, and what a survey that accepts says.
use Rattle.std.specs.Prelude.{ℕ, zero, suc, ◌+◌, ◌-◌, ◌≤◌, ◌<◌, Bool, true, false, cond as pick, ◌≡◌, List, [], ◌∷◌, ltb, length, get_or, take}
use Rattle.std.proofs.Math.Path.{refl}
use Rattle.std.proofs.Common.{◌∙◌, zero-add, add_assoc, arith, ltb-true, ltb-false, leb-true, lt-ltb, le-ltb}
use Rattle.std.proofs.Math.Nat.{add-sub_cancel_left}
use Rattle.directory.specs.declared.Region.{Region}
use Rattle.directory.specs.Directory.{addresses, trailer, regions, ending, nowhere, entries_refusal}
use Rattle.directory.specs.Laws.{met, first-none, Fit, accepted_cons, length-entries, Placed, placed}
use Rattle.image.specs.Image.{widest, cut_refusal, parts, cut, many, segment, segment_of}
use Rattle.image.specs.PartsLaws.{parts-some, parts-bound, part-begins, length-bytes}

-- ---- segments
-- the first region's parts come first, then the segments of the others
pub segment-here : (S : ℕ) (r : Region) (rs : List Region) (j : ℕ) → j < parts S r → segment S (r ∷ rs) j ≡ cut S r j
unfolding segment
segment-here S r rs j h = rw (lt-ltb j (parts S r) h)

pub segment-beyond : (S : ℕ) (r : Region) (rs : List Region) (i : ℕ)
    → parts S r ≤ i → segment S (r ∷ rs) i ≡ segment S rs (i - parts S r)
unfolding segment
segment-beyond S r rs i h = rw (le-ltb i (parts S r) h)

pub segment-later : (S : ℕ) (r : Region) (rs : List Region) (i : ℕ) → segment S (r ∷ rs) (parts S r + i) ≡ segment S rs i
segment-later S r rs i = rw (segment-beyond S r rs (parts S r + i) (omega arith), add-sub_cancel_left)

-- part j of region k, with the segments of the regions before it counted
pub segment-at : (S : ℕ) (rs : List Region) (k j : ℕ) → k < length rs → j < parts S (get_or rs k nowhere)
    → segment S rs (many S (take k rs) + j) ≡ cut S (get_or rs k nowhere) j
unfolding many
segment-at S [] k j l h = absurd (omega arith)
segment-at S (r ∷ rs) zero j l h = rw (zero-add, segment-here S r rs j h)
segment-at S (r ∷ rs) (suc k) j l h =
    rw (add_assoc, segment-later S r rs (many S (take k rs) + j)) (segment-at S rs k j (omega arith) h)

-- to show something of segment i, show it of the region's part, or of the segment among the later regions
pub segment-cases : (P : Region → Type 0) (S : ℕ) (r : Region) (rs : List Region) (i : ℕ)
    → (i < parts S r → P (cut S r i)) → (parts S r ≤ i → P (segment S rs (i - parts S r))) → P (segment S (r ∷ rs) i)
unfolding segment
segment-cases P S r rs i here beyond = go (ltb i (parts S r)) refl
  where
    go : (b : Bool) → ltb i (parts S r) ≡ b → P (pick b (cut S r i) (segment S rs (i - parts S r)))
    go true e = here (ltb-true i (parts S r) e)
    go false e = beyond (ltb-false i (parts S r) e)

-- there is no segment past the last
pub segment-none : (S : ℕ) (rs : List Region) (i : ℕ) → many S rs ≤ i → segment S rs i ≡ nowhere
unfolding many segment
segment-none S [] i h = refl
segment-none S (r ∷ rs) i h =
    segment-beyond S r rs i (omega arith) ∙ segment-none S rs (i - parts S r) (omega arith)

-- regions that share no address have no more segments than there are addresses
pub many-bound : (S directory end : ℕ) (rs : List Region)
    → 1 ≤ S → entries_refusal directory end rs ≡ 0 → end ≤ addresses → end + many S rs ≤ addresses
unfolding many
many-bound S directory end [] s h l = omega arith
many-bound S directory end (r ∷ rs) s h l =
    let both = accepted_cons directory end r rs h in
    let rest = many-bound S directory (ending r) rs s both.1 both.0.below in
    omega (arith, parts-bound S r s)

pub many-some : (S directory end : ℕ) (rs : List Region)
    → 1 ≤ S → entries_refusal directory end rs ≡ 0 → 0 < length rs → 1 ≤ many S rs
unfolding many
many-some S directory end [] s h l = absurd (omega arith)
many-some S directory end (r ∷ rs) s h l =
    omega (arith, parts-some S r s (accepted_cons directory end r rs h).0.some)

-- what a segment is: it has 1 to S bytes, all within the file, and its addresses exist
pub record Held (S limit : ℕ) (p : Region) : Type 0 where
  pub some : 1 ≤ p.length
  pub size : p.length ≤ S
  pub within : p.place + p.length ≤ limit
  pub below : ending p ≤ addresses

pub cut-held : (S directory end : ℕ) (r : Region) (j : ℕ)
    → 1 ≤ S → Fit directory end r → j < parts S r → Held S directory (cut S r j)
cut-held S directory end r j s f l = omega (arith, part-begins S r j s l)

pub segment-held : (S directory end : ℕ) (rs : List Region) (i : ℕ)
    → 1 ≤ S → entries_refusal directory end rs ≡ 0 → i < many S rs → Held S directory (segment S rs i)
unfolding many
segment-held S directory end [] i s h l = absurd (omega arith)
segment-held S directory end (r ∷ rs) i s h l =
    let both = accepted_cons directory end r rs h in
    segment-cases (Held S directory) S r rs i (λ m. cut-held S directory end r i s both.0 m)
    (λ m. segment-held S directory (ending r) rs (i - parts S r) s both.1 (omega arith))

-- ---- a whole file
-- what acceptance says of a file and a size of segments
pub record Ready (file : List ℕ) (S : ℕ) : Type 0 where
  pub some : 1 ≤ S
  pub narrow : S ≤ widest
  pub whole : Placed (length file) (trailer file)
  pub fitting : entries_refusal (trailer file).directory 0 (regions file) ≡ 0

pub ready : (file : List ℕ) (S : ℕ) → cut_refusal file S ≡ 0 → Ready file S
ready file S h =
    let a = met _ _ _ h (omega arith) in
    let b = met _ _ _ a.1 (omega arith) in
    let c = first-none _ _ b.1 in
    record { some = leb-true _ _ a.0; narrow = leb-true _ _ b.0; whole = placed _ _ c.0; fitting = c.1 }

module _ (file : List ℕ) (S : ℕ) (h : cut_refusal file S ≡ 0) where
  -- the number of segments
  pub many-range : (1 ≤ many S (regions file)) × (many S (regions file) ≤ addresses)
  many-range =
      let r = ready file S h in
      let l = length-entries file (trailer file).directory (trailer file).count in (
        many-some S _ 0 (regions file) r.some r.fitting (omega arith),
        omega (arith, many-bound S _ 0 (regions file) r.some r.fitting (omega arith)),
      )

  -- every segment
  pub file_segment : (i : ℕ) → i < many S (regions file) → Held S (length file) (segment S (regions file) i)
  file_segment i l =
      let r = ready file S h in
      let p = segment-held S _ 0 (regions file) i r.some r.fitting l in
      record { some = p.some; size = p.size; within = omega arith; below = p.below }

  pub length-segment : (i : ℕ) → i < many S (regions file) → length (segment_of file S i).bytes ≡ (segment S (regions file) i).length
  length-segment i l = length-bytes file (segment S (regions file) i) (file_segment i l).within
