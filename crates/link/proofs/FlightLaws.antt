-- Numbered frames on their way: each is frame i of a numbering, with i never falling along the queue.
use Rattle.std.specs.Prelude.{ℕ, ◌+◌, ◌≤◌, ◌<◌, ◌≡◌, refl, List, [], ◌∷◌, ◌++◌}
use Rattle.std.proofs.Common.{arith, le_refl, le_trans, lt_of_lt_of_le, le_of_suc-le-suc, add-one}
use Rattle.std.proofs.Math.Numerals.{lt-add-one}
use Rattle.link.specs.Link.{Frame}
use Rattle.link.proofs.LinkLaws.{Lost, here, there}

module _ (f : ℕ → Frame) where
  -- from lo on, below hi
  pub data Flight : ℕ → ℕ → List Frame → Type 0 where
    none : {lo hi : ℕ} → Flight lo hi []
    more : {lo hi : ℕ} {q : List Frame} (i : ℕ) → lo ≤ i → i < hi → Flight i hi q → Flight lo hi (f i ∷ q)

  pub wider : {lo lo' hi hi' : ℕ} {q : List Frame} → lo' ≤ lo → hi ≤ hi' → Flight lo hi q → Flight lo' hi' q
  wider a b none = none
  wider a b (more i l h q) = more i (le_trans a l) (lt_of_lt_of_le h b) (wider (le_refl i) b q)

  -- one more frame, whose number none before it exceeds
  pub then : {lo hi : ℕ} {q : List Frame} (i : ℕ) → lo ≤ i → hi ≤ i + 1 → Flight lo hi q → Flight lo (i + 1) (q ++ (f i ∷ []))
  then i l h none = more i l (lt-add-one i) none
  then i l h (more j a b q) =
      more j a (lt_of_lt_of_le b h) (then i (le_of_suc-le-suc (rw add-one at (lt_of_lt_of_le b h))) h q)

  -- a queue without any one frame is still such a queue
  pub without : {lo hi : ℕ} {q r : List Frame} → Lost q r → Flight lo hi q → Flight lo hi r
  without here (more {hi = hi} i l h q) = wider l (le_refl hi) q
  without {lo = lo} {hi = hi} (there w) (more i l h q) = more i l h (without {lo = i} {hi = hi} w q)

  -- What the first frame is.
  pub record First (lo hi : ℕ) (x : Frame) (q : List Frame) : Type 0 where
    pub number : ℕ
    pub frame_is : x ≡ f number
    pub from : lo ≤ number
    pub below : number < hi
    pub whole : Flight number hi (x ∷ q)

  pub first : {lo hi : ℕ} {x : Frame} {q : List Frame} → Flight lo hi (x ∷ q) → First lo hi x q
  first (more i l h q) = record { number = i; frame_is = refl; from = l; below = h; whole = more i (le_refl i) h q }

-- A line to an end that has answered m frames: numbered frames from lo on, below hi. Only while m is 0 there may be others before
-- them, left over from before, that the end passes by.
module _ (f : ℕ → Frame) (Passed : ℕ → Type 0) where
  pub data Line (m lo hi : ℕ) : List Frame → Type 0 where
    clean : {q : List Frame} → Flight f lo hi q → Line m lo hi q
    leftover : {q : List Frame} (j : ℕ) → m ≡ 0 → Passed j → Line m lo hi q → Line m lo hi (f j ∷ q)

  pub wider-line : {m lo lo' hi hi' : ℕ} {q : List Frame} → lo' ≤ lo → hi ≤ hi' → Line m lo hi q → Line m lo' hi' q
  wider-line a b (clean q) = clean (wider f a b q)
  wider-line a b (leftover j z p q) = leftover j z p (wider-line a b q)

  pub then-line : {m lo hi : ℕ} {q : List Frame} (i : ℕ) → lo ≤ i → hi ≤ i + 1 → Line m lo hi q → Line m lo (i + 1) (q ++ (f i ∷ []))
  then-line i l h (clean q) = clean (then f i l h q)
  then-line i l h (leftover j z p q) = leftover j z p (then-line i l h q)

  -- one more frame left over, where there are no others
  pub then-passed : {m lo : ℕ} {q : List Frame} (j : ℕ) → m ≡ 0 → Passed j → Line m lo lo q → Line m lo lo (q ++ (f j ∷ []))
  then-passed j z p (clean none) = leftover j z p (clean none)
  then-passed j z p (clean (more i l h q)) = absurd (omega (arith, l, h))
  then-passed j z p (leftover k y o q) = leftover k y o (then-passed j z p q)

  pub without-line : {m lo hi : ℕ} {q r : List Frame} → Lost q r → Line m lo hi q → Line m lo hi r
  without-line w (clean q) = clean (without f w q)
  without-line here (leftover j z p q) = q
  without-line (there w) (leftover j z p q) = leftover j z p (without-line w q)

  -- what the first frame is: numbered, and then none is left over; or left over
  pub data Front (m lo hi : ℕ) (x : Frame) (q : List Frame) : Type 0 where
    numbered : First f lo hi x q → Front m lo hi x q
    passed : (j : ℕ) → x ≡ f j → m ≡ 0 → Passed j → Front m lo hi x q

  pub front : {m lo hi : ℕ} {x : Frame} {q : List Frame} → Line m lo hi (x ∷ q) → Front m lo hi x q
  front (clean q) = numbered (first f q)
  front (leftover j z p q) = passed j refl z p
