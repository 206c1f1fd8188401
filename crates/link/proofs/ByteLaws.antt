-- Bytes of a list, with nothing beyond its end.
use Rattle.std.specs.Prelude.{ℕ, zero, suc, ◌<◌, ◌≡◌, refl, Bool, true, ◌&&◌, List, [], ◌∷◌, length, get_or, ltb}
use Rattle.std.proofs.Math.Option.{some}
use Rattle.std.proofs.Common.{arith, ltb-true}
use Rattle.std.proofs.Math.ListN.{get_elem?}
use Rattle.octets.specs.Number.{Octets}
use Rattle.octets.specs.TestLaws.{both}

-- element k, if it is there
pub is-there : {A : Type 0} (d : A) (xs : List A) (k : ℕ) → k < length xs → get_elem? xs k ≡ some (get_or xs k d)
is-there d [] k l = absurd (omega (arith, l))
is-there d (x ∷ xs) zero l = refl
is-there d (x ∷ xs) (suc k) l = is-there d xs k (omega (arith, l))

-- a byte that is the same by default is the same, in lists of one length
pub same_byte : (xs ys : List ℕ) (a : ℕ) → length xs ≡ length ys → get_or xs a 0 ≡ get_or ys a 0 → get_elem? xs a ≡ get_elem? ys a
same_byte [] [] a n e = refl
same_byte [] (y ∷ ys) a n e = absurd (omega (arith, n))
same_byte (x ∷ xs) [] a n e = absurd (omega (arith, n))
same_byte (x ∷ xs) (y ∷ ys) zero n e = rw e
same_byte (x ∷ xs) (y ∷ ys) (suc a) n e = same_byte xs ys a (omega (arith, n)) e

-- a list whose elements are found to be bytes
unfoldable pub checked : List ℕ → Bool
checked [] = true
checked (x ∷ xs) = ltb x 256 && checked xs

pub are_bytes : (xs : List ℕ) → checked xs ≡ true → Octets xs
unfolding checked
are_bytes [] e k l = absurd (omega (arith, l))
are_bytes (x ∷ xs) e zero l = ltb-true x 256 (both (ltb x 256) (checked xs) e).0
are_bytes (x ∷ xs) e (suc k) l = are_bytes xs (both (ltb x 256) (checked xs) e).1 k (omega (arith, l))
