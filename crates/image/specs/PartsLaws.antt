-- Laws of the parts of one region: how many there are, and that they are the region, end to end.
use Rattle.std.specs.Prelude.{ℕ, zero, suc, ◌+◌, ◌-◌, ◌*◌, ◌/◌, ◌≤◌, ◌<◌, min, ◌≡◌, List, [], ◌∷◌, length, take, drop}
use Rattle.std.proofs.Common.{zero-mul, suc-mul, div-lt_iff_lt-mul, le-div_iff_mul-le, mul-le-mul_left, arith, length-take, length-drop, take-add, take_all, drop-drop}
use Rattle.std.proofs.Math.Nat.{zero-min, min-zero, suc-min-suc, sub-zero, zero-sub, suc-sub-suc, add-div_right, lt-div-mul-add}
use Rattle.std.proofs.Math.Seq.{take-nil}
use Rattle.directory.specs.Directory.{bytes}
use Rattle.image.specs.Image.{parts, cut, joined}
use Rattle.directory.specs.declared.Region.{Region}

-- the number of parts without a sum above the length
pub parts-down : (S : ℕ) (r : Region) → 1 ≤ S → 1 ≤ r.length → (r.length - 1) / S + 1 ≡ parts S r
parts-down S r s l =
    let e : r.length + (S - 1) ≡ (r.length - 1) + S = omega arith in
    rw (e, add-div_right (r.length - 1) s)

pub parts-some : (S : ℕ) (r : Region) → 1 ≤ S → 1 ≤ r.length → 1 ≤ parts S r
parts-some S r s l = omega (arith, parts-down S r s l)

pub parts-bound : (S : ℕ) (r : Region) → 1 ≤ S → parts S r ≤ r.length
parts-bound S r s =
    let below : parts S r < r.length + 1 = (div-lt_iff_lt-mul s).1 (omega (arith, mul-le-mul_left r.length s)) in
    omega arith

-- part j begins within the region, and the parts reach its end
pub part-begins : (S : ℕ) (r : Region) (j : ℕ) → 1 ≤ S → j < parts S r → j * S < r.length
part-begins S r j s l = omega (arith, (le-div_iff_mul-le s).0 l)

pub parts_cover : (S : ℕ) (r : Region) → 1 ≤ S → r.length ≤ parts S r * S
parts_cover S r s = omega (arith, lt-div-mul-add {a = r.length + (S - 1)} s)

take_min : (n m : ℕ) (l : List ℕ) → take n (take m l) ≡ take (min n m) l
take_min zero m l = rw zero-min
take_min (suc n) zero l = rw min-zero
take_min (suc n) (suc m) [] = rw suc-min-suc
take_min (suc n) (suc m) (x ∷ l) = rw (suc-min-suc, take_min n m l)

drop-take : (n m : ℕ) (l : List ℕ) → drop n (take m l) ≡ take (m - n) (drop n l)
drop-take zero m l = rw sub-zero
drop-take (suc n) zero l = rw zero-sub
drop-take (suc n) (suc m) [] = rw take-nil
drop-take (suc n) (suc m) (x ∷ l) = rw (suc-sub-suc, drop-take n m l)

pub joined-take : (file : List ℕ) (S : ℕ) (r : Region) (j : ℕ) → joined file S r j ≡ take (j * S) (bytes file r)
unfolding joined
joined-take file S r zero = rw zero-mul
joined-take file S r (suc j) =
    rw (
      joined-take file S r j,
      suc-mul,
      take-add (j * S) S (bytes file r),
      drop-take,
      take_min S (r.length - j * S) (drop (j * S) (drop r.place file)),
      drop-drop,
    )

-- all parts, end to end, are the region
pub joined-whole : (file : List ℕ) (S : ℕ) (r : Region) → 1 ≤ S → joined file S r (parts S r) ≡ bytes file r
joined-whole file S r s =
    let all : length (bytes file r) ≤ parts S r * S =
    omega (arith, parts_cover S r s, length-take r.length (drop r.place file)) in
    rw (joined-take file S r (parts S r)) (take_all (parts S r * S) (bytes file r) all)

pub length-bytes : (file : List ℕ) (r : Region) → r.place + r.length ≤ length file → length (bytes file r) ≡ r.length
length-bytes file r h = simp (length-take, length-drop) (omega arith)

-- a part stands right behind those before it
pub cut-address : (file : List ℕ) (S : ℕ) (r : Region) (j : ℕ)
    → 1 ≤ S → r.place + r.length ≤ length file → j < parts S r → (cut S r j).address ≡ r.address + length (joined file S r j)
cut-address file S r j s h l =
    rw (joined-take file S r j, length-take, length-bytes file r h)
    (omega (arith, part-begins S r j s l))
