-- The refusal by a code's row is the one by its entry.
use Prim.Native.Nat.{ℕ, ◌+◌, ◌-◌, ◌%◌, ◌<◌}
use mathlib.Core.Path.{◌≡◌, refl}
use mathlib.Core.Bool.{Bool, true, false, cond}
use mathlib.Core.Option.{Option, some}
use native.Mathlib.Omega.{arith}
use lib.Dec.{eqb, ltb}
use borrow.Author.Tests.{lt-ltb, le-ltb}
use Rattle.message.specs.Read.{Row, rows, find}
use Rattle.message.specs.Laws.{Each, by_find}
use Rattle.codes.specs.Table.{marked, limit, refusal}

-- the refusal of a frame of n bytes, as the code tests for it
abbrev pub judged : ℕ → ℕ → ℕ
judged n entry = cond (ltb entry 256) 3 (cond (ltb n (entry % 256)) 1 (cond (ltb (limit entry) n) 2 0))

-- a row's longest frame is its shortest, or has 1,500 bytes
abbrev Long : Row → Type 0
Long row = (row.shortest < 256) × (row.longest ≡ cond (eqb row.longest row.shortest) row.shortest 1500)

row-judged : (n : ℕ) (row : Row) → Long row → refusal n (some row) ≡ judged n (marked (some row))
row-judged n row h = by_bool (eqb row.longest row.shortest) h.1
  where
    k : ℕ
    k = row.shortest

    by_bool : (only : Bool) → row.longest ≡ cond only k 1500 → refusal n (some row) ≡ judged n (cond only 512 256 + k)
    by_bool true e =
        let low : (512 + k) % 256 ≡ k = omega (arith, h.0) in
        let top : 512 + k - 512 ≡ k = omega arith in
        rw (e, le-ltb (512 + k) 256 (omega arith), low, le-ltb (512 + k) 512 (omega arith), top)
    by_bool false e =
        let low : (256 + k) % 256 ≡ k = omega (arith, h.0) in
        rw (e, le-ltb (256 + k) 256 (omega arith), low, lt-ltb (256 + k) 512 (omega (arith, h.0)))

pub by_entry : (n code entry : ℕ) → entry ≡ marked (find rows code) → refusal n (find rows code) ≡ judged n entry
unfolding Each
by_entry n code entry e =
    rw e (by_find {R = Long} (λ (o : Option Row). refusal n o ≡ judged n (marked o)) rows code (omega arith) refl (λ row _ h. row-judged n row h))
