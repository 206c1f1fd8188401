-- The walk over the directory, between two turns: what is known so far, with the entries still to come, gives what all entries give.
use Prim.Native.Nat.{ℕ, zero, suc, ◌+◌, ◌-◌, ◌≤◌, ◌<◌}
use mathlib.Core.Bool.{Bool, true, false, cond as pick}
use mathlib.Core.Path.{◌≡◌, refl, sym, ◌∙◌}
use mathlib.Core.List.{List, ◌∷◌}
use native.Mathlib.Nat.{zero-add, sub-zero}
use native.Mathlib.Omega.{arith}
use lib.ListN.{length}
use lib.Dec.{leb, ltb}
use borrow.Author.Tests.{ltb-true, ltb-false, leb-true, leb-false, lt-ltb, le-ltb, le-leb, lt-leb, eq-eqb, ne_eqb}
use Rattle.octets.specs.TestLaws.{by_cases}
use Rattle.directory.specs.Directory.{addresses, entry_at, entries, ending, demand, entry_refusal, entries_refusal}
use Rattle.image.specs.Image.{parts, cut, many, segment}
use Rattle.std.specs.Prelude.{Ok}
use Rattle.refusal.specs.Refusal.{Answers}
use Rattle.directory.specs.Laws.{fit, entries_cons}
use Rattle.image.specs.Laws.{segment-here, segment-beyond}
use Rattle.image.specs.Walk.{Reached, region, reaching, part_of}
use Rattle.directory.specs.declared.Region.{Region}
use Rattle.image.specs.declared.Reach.{Reach}

-- `end` is the end of the last region passed, m the number of segments passed, and x tells segment i if i is below m
pub record Rest (file : List ℕ) (directory S i end m : ℕ) (x : Reach) (rest all : List Region) : Type 0 where
  pub refusal : entries_refusal directory end rest ≡ entries_refusal directory 0 all
  pub count : m + many S rest ≡ many S all
  pub reach : pick (ltb i m) (cut S (region file x) (i - x.first)) (segment S rest (i - m)) ≡ segment S all i
  pub known : i < m → Reached file S i x

-- past the region whose entry is at a place, and whose segments have the indices from m up to n
module _ (file : List ℕ) (S i m n at : ℕ) (x : Reach) (k : n ≡ m + parts S (entry_at file at)) where
  abbrev next : Reach
  next = reaching x at m i

  past : (rest : List Region)
      → pick (ltb i n) (cut S (region file next) (i - next.first)) (segment S rest (i - n))
      ≡ pick (ltb i m) (cut S (region file x) (i - x.first)) (segment S (entry_at file at ∷ rest) (i - m))
  past rest = go (ltb i m) (ltb i n) refl refl
    where
      go : (a b : Bool) → ltb i m ≡ a → ltb i n ≡ b
          → pick (ltb i n) (cut S (region file next) (i - next.first)) (segment S rest (i - n))
          ≡ pick (ltb i m) (cut S (region file x) (i - x.first)) (segment S (entry_at file at ∷ rest) (i - m))
      go true b e f =
          let l = ltb-true i m e in
          simp (e, lt-leb m i l, lt-ltb i n (omega arith))
      go false true e f =
          let l = ltb-false i m e in
          simp (e, f, le-leb m i l, segment-here S (entry_at file at) rest (i - m) (omega (arith, ltb-true i n f)))
      go false false e f =
          let l = ltb-false i n f in
          let d : i - m - parts S (entry_at file at) ≡ i - n = omega arith in
          simp (e, f, segment-beyond S (entry_at file at) rest (i - m) (omega arith), d)

  known_past : (i < m → Reached file S i x) → at + 12 ≤ length file → (entry_at file at).place + (entry_at file at).length ≤ addresses
      → ending (entry_at file at) ≤ addresses → i < n → Reached file S i next
  known_past before entry within below l =
      by_cases (Reached file S i) (leb m i)
      (λ b. record { entry = entry; begun = leb-true m i b; inside = omega arith; within = within; below = below })
      (λ b. before (leb-false m i b))

pub start : (file : List ℕ) (directory S i : ℕ) (x : Reach) (all : List Region) → Rest file directory S i 0 0 x all all
start file directory S i x all =
    record { refusal = refl; count = zero-add _; reach = simp (le-ltb i 0 (omega arith), sub-zero); known = λ l. absurd (omega arith) }

-- the next entry
module _ (file : List ℕ) (directory S i end m at left : ℕ) (x : Reach) (all : List Region)
    (l : 0 < left) (k : Rest file directory S i end m x (entries file at left) all) where
  later : List Region
  later = entries file (at + 12) (left - 1)

  apart : Rest file directory S i end m x (entry_at file at ∷ later) all
  unfolding later
  apart = rw (← entries_cons file at left l) k

  -- it is accepted
  pub turn : (r : Region) → r ≡ entry_at file at → (n : ℕ) → entry_refusal directory end r ≡ 0 → at + 12 ≤ length file → directory ≤ addresses
      → n ≡ m + parts S r → (y : Reach) → y ≡ reaching x at m i
      → Rest file directory S i (ending r) n y (entries file (at + 12) (left - 1)) all
  unfolding later demand entries_refusal many
  turn r e n f entry short g y s =
      let good : entry_refusal directory end (entry_at file at) ≡ 0 = rw e at f in
      let counts : n ≡ m + parts S (entry_at file at) = rw e at g in
      let fits = fit directory end (entry_at file at) good in
      rw e
      (record {
        refusal = rw (eq-eqb (entry_refusal directory end (entry_at file at)) 0 good) at apart.refusal;
        count = omega (arith, apart.count, counts);
        reach = rw s (past file S i m n at x counts later ∙ apart.reach);
        known = rw s (known_past file S i m n at x counts k.known entry (omega (arith, fits.within)) fits.below);
      })

  -- it is refused
  pub stop : (r : Region) → r ≡ entry_at file at → (entry_refusal directory end r ≡ 0 → ⊥)
      → entry_refusal directory end r ≡ entries_refusal directory 0 all
  unfolding demand entries_refusal
  stop r e f =
      let wrong : entry_refusal directory end (entry_at file at) ≡ 0 → ⊥ = rw e at f in
      rw e (rw (ne_eqb (entry_refusal directory end (entry_at file at)) 0 wrong) at apart.refusal)

-- no entry is left
pub done : (file : List ℕ) (directory S i end m at left : ℕ) (x : Reach) (all : List Region) (p : Region)
    → left ≤ 0 → Rest file directory S i end m x (entries file at left) all → p ≡ part_of file S x m i
    → Answers {T = ℕ × Region} (Ok (m, p)) (entries_refusal directory 0 all) (many S all, segment S all i)
unfolding entries entries_refusal many segment
done file directory S i end m at zero x all p l k e =
    let count : many S all ≡ m = omega (arith, k.count) in
    let reach : p ≡ segment S all i = e ∙ k.reach in
    (sym k.refusal, rw (count, reach))
done file directory S i end m at (suc left) x all p l k e = absurd (omega arith)
