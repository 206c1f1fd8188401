-- First in, first out, and no frame that waits is overwritten.
use Rattle.std.specs.Prelude.{ℕ, zero, suc, ◌+◌, ◌-◌, ◌%◌, ◌<◌, ◌≤◌, ◌≡◌, refl, false, List, [], ◌∷◌, ◌++◌, length, get_or, set}
use Rattle.std.proofs.Common.{ap, arith, add-one, get_or-set_same, get_or-set_other, le-leb, eq-eqb, ne_eqb}
use Rattle.std.proofs.lemmas.Bool.{lt-leb}
use Rattle.buffer.specs.Lay.{put}
use Rattle.queue.specs.Queue.{empty, is_full, front, free, join, leave, stored, sent, keeps}
use Rattle.queue.specs.declared.Queue.{Queue}

-- n places of the ring from a place on
unfoldable pub places : ℕ → ℕ → List ℕ
places at zero = []
places at (suc n) = at % 16 ∷ places (at + 1) n

-- the places whose frames wait, the front first
abbrev pub waiting : Queue → List ℕ
waiting q = places q.first q.many

places_same : (a b n : ℕ) → a % 16 ≡ b % 16 → places a n ≡ places b n
unfolding places
places_same a b zero e = refl
places_same a b (suc n) e = rw (e, places_same (a + 1) (b + 1) n (omega arith))

places-more : (a n p : ℕ) → p ≡ (a + n) % 16 → places a (suc n) ≡ places a n ++ (p ∷ [])
unfolding places
places-more a zero p e = let z : (a + 0) % 16 ≡ a % 16 = omega arith in rw (e, z)
places-more a (suc n) p e = ap (λ (l : List ℕ). a % 16 ∷ l) (places-more (a + 1) n p (omega arith))

places-at : (a n k : ℕ) → k < n → get_or (places a n) k 0 ≡ (a + k) % 16
unfolding places
places-at a zero k h = absurd (omega arith)
places-at a (suc n) zero h = omega arith
places-at a (suc n) (suc k) h = omega (arith, places-at (a + 1) n k (omega arith))

-- an empty queue waits for nothing
pub none-waits : waiting empty ≡ []
unfolding places
none-waits = refl

-- the frame that joins is the last
pub joins : (q : Queue) (n : ℕ) → q.many < 16 → waiting (join q n) ≡ waiting q ++ (free q ∷ [])
joins q n h = rw (lt-leb 16 q.many h, add-one) (places-more q.first q.many (free q) (omega arith))

-- the frame that leaves is the first
leave-one : (first many : ℕ) → 0 < many → places first many ≡ first % 16 ∷ places ((first % 16 + 1) % 16) (many - 1)
unfolding places
leave-one first zero h = absurd (omega arith)
leave-one first (suc m) h =
    let e : suc m - 1 ≡ m = omega arith in
    rw (e, places_same (first + 1) ((first % 16 + 1) % 16) m (omega arith))

pub leaves : (q : Queue) → 0 < q.many → waiting q ≡ front q ∷ waiting (leave q)
leaves q h = rw (ne_eqb q.many 0 (omega arith)) (leave-one q.first q.many h)

-- a full queue drops the frame
pub drops : (q : Queue) (n : ℕ) → 16 ≤ q.many → join q n ≡ q
drops q n h = rw (le-leb 16 q.many h)

-- the length of the frame that joins is kept with its place, and no other length changes
pub joined_length : (q : Queue) (n : ℕ) → q.many < 16 → length q.lengths ≡ 16 → get_or (join q n).lengths (free q) 0 ≡ n
joined_length q n h l = rw (lt-leb 16 q.many h, get_or-set_same q.lengths (free q) n 0 (omega arith))

pub other_length : (q : Queue) (n p : ℕ) → q.many < 16 → (p ≡ free q → ⊥) → get_or (join q n).lengths p 0 ≡ get_or q.lengths p 0
other_length q n p h e = rw (lt-leb 16 q.many h, get_or-set_other q.lengths (free q) p n 0 e)

-- the free place is none of those whose frames wait
pub free-apart : (q : Queue) (k : ℕ) → q.many < 16 → k < q.many → get_or (waiting q) k 0 ≡ free q → ⊥
free-apart q k h l e = omega (arith, places-at q.first q.many k l)

-- a frame that was put into the free place is stored
pub stored_there : (q : Queue) (frame : List ℕ) (places : List (List ℕ)) (at : ℕ) (place : List ℕ) → is_full q ≡ false → at ≡ free q → place ≡ put frame 0 (get_or places at [])
    → set places at place ≡ stored q frame places
stored_there q frame places at place h e p = rw (h, ← e, p)

-- ---- a frame f that an end sent: none, or one
module _ (q : Queue) (f frame : List ℕ) (places : List (List ℕ)) (e : f ≡ frame) where
  pub sent-none : length f ≡ 0 → (q ≡ sent q frame) × (places ≡ keeps q frame places)
  sent-none h = rw (← e, eq-eqb (length f) 0 h) (refl, refl)

  pub sent-some : (length f ≡ 0 → ⊥) → {r : Queue} {places' : List (List ℕ)} → (r ≡ join q (length f)) × (places' ≡ stored q f places)
      → (r ≡ sent q frame) × (places' ≡ keeps q frame places)
  sent-some h a = rw (← e, ne_eqb (length f) 0 h) a
