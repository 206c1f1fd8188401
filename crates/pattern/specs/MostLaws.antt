-- How long a filled row can be.
use Prim.Native.Nat.{ℕ, zero, suc, ◌+◌, ◌-◌, ◌≤◌}
use Rattle.std.specs.Prelude.{◌≡◌, Bool, true, false, ◌&&◌, cond as pick, length, get_or, take, drop, eqb, leb}
use mathlib.Core.List.{List, [], ◌∷◌}
use native.Mathlib.Omega.{arith}
use Rattle.std.proofs.Math.ListN.{length-append}
use Rattle.std.proofs.Common.{length-take, length-drop}
use borrow.Author.Tests.{leb-true}
use Rattle.text.specs.Find.{index_of}
use Rattle.octets.specs.TestLaws.{by_cases, both}
use Rattle.digits.specs.Laws.{length_digits}
use Rattle.decimal.specs.Decimal.{decimal}
use Rattle.decimal.specs.Laws.{decimal-most}
use Rattle.hexadecimal.specs.Hexadecimal.{address}
use Rattle.hexadecimal.specs.Laws.{length_pairs}
use Rattle.pattern.specs.Pattern.{behind, skip, row, bytes, is_mark, piece, after, filled, filling}

-- the most that a character adds, behind a mark or behind none: 20 digits of a number, 8 of an address, 2 for each of 1,500 bytes,
-- a row of 130 characters
abbrev heavy : ℕ → ℕ
heavy mark = pick (eqb mark 0) 1 (pick (eqb mark 35) 20 (pick (eqb mark 64) 8 (pick (eqb mark 37) 3000 130)))

unfoldable pub weigh : ℕ → List ℕ → ℕ
weigh mark [] = 0
weigh mark (c ∷ rest) = heavy mark + weigh (after mark c) rest

-- a test of all rows of a table: each has at most so much of something
unfoldable pub every : (List ℕ → ℕ) → ℕ → List ℕ → Bool
every f m [] = leb (f []) m
every f m (c ∷ rest) = leb (f (row (c ∷ rest))) m && every f m rest

module _ (f : List ℕ → ℕ) (m : ℕ) where
  every_drop : (t : List ℕ) (i : ℕ) → every f m t ≡ true → every f m (drop i t) ≡ true
  unfolding every
  every_drop t zero e = e
  every_drop [] (suc i) e = e
  every_drop (c ∷ rest) (suc i) e = every_drop rest i (both (leb (f (row (c ∷ rest))) m) (every f m rest) e).1

  every-skip : (k : ℕ) (t : List ℕ) → every f m t ≡ true → every f m (skip k t) ≡ true
  unfolding skip
  every-skip zero t e = e
  every-skip (suc k) t e = every-skip k (behind t) (every_drop t (index_of 10 t + 1) e)

  every_first : (t : List ℕ) → every f m t ≡ true → f (row t) ≤ m
  unfolding every index_of
  every_first [] e = leb-true (f []) m e
  every_first (c ∷ rest) e = leb-true (f (row (c ∷ rest))) m (both (leb (f (row (c ∷ rest))) m) (every f m rest) e).0

  pub every-row : (t : List ℕ) → every f m t ≡ true → (k : ℕ) → f (row (skip k t)) ≤ m
  every-row t e k = every_first (skip k t) (every-skip k t e)

-- a text of at most so many characters; of two the one that a test chooses
record AtMost (x : List ℕ) (n : ℕ) : Type 0 where
  most : length x ≤ n

at_most : (x : List ℕ) (n : ℕ) → length x ≤ n → AtMost x n
at_most x n h = record { most = h }

choose : (b : Bool) {x y : List ℕ} {m n : ℕ} → AtMost x m → AtMost y n → AtMost (pick b x y) (pick b m n)
choose true h l = h
choose false h l = l

bytes_most : (s : List ℕ) → length s ≤ 1500 → length (bytes s) ≤ 3000
bytes_most [] h = omega arith
bytes_most (b ∷ rest) h = omega (arith, length_pairs (b ∷ rest))

module _ (table s v : List ℕ) (rows : (k : ℕ) → length (row (skip k table)) ≤ 130) (short : length s ≤ 1500) where
  part-most : (from n : ℕ) → length (take n (drop from s)) ≤ 1500
  part-most from n = simp (length-take, length-drop) (omega arith)

  piece-most : (mark c : ℕ) → AtMost (piece table s v mark c) (heavy mark)
  piece-most mark c =
      let k = c - 97 in
      let n = get_or v k 0 in
      let part = take (get_or v (k + 1) 0) (drop n s) in
      choose (eqb mark 0) (at_most (pick (is_mark c) [] (c ∷ [])) 1 (by_cases (λ (l : List ℕ). length l ≤ 1) (is_mark c) (λ e. omega arith) (λ e. omega arith)))
      (choose (eqb mark 35) (at_most (decimal n) 20 (decimal-most n))
      (choose (eqb mark 64) (at_most (address n) 8 (omega (arith, length_digits 16 8 n)))
      (choose (eqb mark 37) (at_most (bytes part) 3000 (bytes_most part (part-most n (get_or v (k + 1) 0)))) (at_most (row (skip n table)) 130 (rows n)))))

  pub filled-most : (mark : ℕ) (p : List ℕ) → length (filled table s v mark p) ≤ weigh mark p
  unfolding filled weigh
  filled-most mark [] = omega arith
  filled-most mark (c ∷ rest) = rw length-append (omega (arith, (piece-most mark c).most, filled-most (after mark c) rest))

-- a table whose rows were tested
pub filling-most : (table : List ℕ) (m : ℕ) → every length 130 table ≡ true → every (weigh 0) m table ≡ true
    → (k : ℕ) (v s : List ℕ) → length s ≤ 1500 → length (filling table k v s) ≤ m
filling-most table m rows light k v s h =
    omega (arith, filled-most table s v (every-row length 130 table rows) h 0 (row (skip k table)), every-row (weigh 0) m table light k)
