-- Numbers of several bytes: laws that hold at every width.
use Rattle.std.specs.Prelude.{ℕ, zero, suc, ◌+◌, ◌-◌, ◌*◌, ◌/◌, ◌%◌, ◌^◌, ◌<◌, ◌≤◌, min, ◌≡◌, refl, List, [], ◌∷◌, length, get_or, take, drop}
use Rattle.std.specs.Int.{byte_at, bytes_low_first}
use Rattle.std.proofs.Math.Nat.{div-div-eq-div-mul}
use Rattle.std.proofs.Common.{ap, sym, ◌∙◌, arith, lt_of_lt_of_le, add-zero, add_assoc, length-take, length-drop, get_or-take, get_or-drop, drop-drop}
use Rattle.std.proofs.Math.Nat.{pow-suc, pow-succ', pow-le-pow_right}
use Rattle.std.proofs.Math.Seq.{take-nil}
use Rattle.octets.specs.Number.{number, low, Octets}

pub octets_tail : (x : ℕ) (xs : List ℕ) → Octets (x ∷ xs) → Octets xs
octets_tail x xs h k l = h (suc k) (omega arith)

pub length-low : (n x : ℕ) → length (low n x) ≡ n
unfolding low
length-low zero x = refl
length-low (suc n) x = ap suc (length-low n (x / 256))

-- the bytes of a part are bytes
pub octets-part : (n at : ℕ) (xs : List ℕ) → Octets xs → Octets (take n (drop at xs))
octets-part n at xs h k l =
    let b : k < min n (length xs - at) = simp (length-take, length-drop) at l in
    rw (get_or-take n (drop at xs) k 0 (omega arith), get_or-drop) (h (at + k) (omega arith))

-- n bytes make a number below 256 ^ n
pub number_bound : (xs : List ℕ) → Octets xs → number xs < 256 ^ length xs
unfolding number
number_bound [] h = omega arith
number_bound (x ∷ xs) h =
    rw (pow-succ' 256 (length xs)) (omega (arith, number_bound xs (octets_tail x xs h), h 0 (omega arith)))

-- the number of at most n bytes at a place
pub part-bound : (n at : ℕ) (xs : List ℕ) → Octets xs → number (take n (drop at xs)) < 256 ^ n
part-bound n at xs h =
    let size : length (take n (drop at xs)) ≤ n = simp (length-take, length-drop) (omega arith) in
    lt_of_lt_of_le (number_bound (take n (drop at xs)) (octets-part n at xs h)) (pow-le-pow_right (omega arith) size)

-- reading the low bytes of a number yields the number, where it has no further ones
pub number-low : (n x : ℕ) → x < 256 ^ n → number (low n x) ≡ x
unfolding number low
number-low zero x h = omega arith
number-low (suc n) x h =
    let below : x < 256 * 256 ^ n = rw pow-succ' at h in
    let rest : number (low n (x / 256)) ≡ x / 256 = number-low n (x / 256) (omega arith) in
    omega arith

-- the low bytes of the number that bytes make are those bytes
pub low-number : (xs : List ℕ) → Octets xs → low (length xs) (number xs) ≡ xs
unfolding number low
low-number [] h = refl
low-number (x ∷ xs) h =
    let b : x < 256 = h 0 (omega arith) in
    let first : (x + 256 * number xs) % 256 ≡ x = omega arith in
    let rest : (x + 256 * number xs) / 256 ≡ number xs = omega arith in
    rw (first, rest, low-number xs (octets_tail x xs h))

-- the number of the first n + 1 bytes, from the first byte on; a byte past the end counts as 0
pub number-take : (n : ℕ) (xs : List ℕ) → number (take (suc n) xs) ≡ get_or xs 0 0 + 256 * number (take n (drop 1 xs))
unfolding number
number-take n [] = rw take-nil
number-take n (x ∷ xs) = refl

-- the number of n + 1 bytes at a place: the byte there, then the number of the n after it
pub number_at : (n at : ℕ) (xs : List ℕ) → number (take (suc n) (drop at xs)) ≡ get_or xs at 0 + 256 * number (take n (drop (at + 1) xs))
number_at n at xs = rw (number-take, get_or-drop, drop-drop, add-zero)

-- the same, k bytes further on
pub number_on : (n k at : ℕ) (xs : List ℕ)
    → number (take (suc n) (drop (at + k) xs)) ≡ get_or xs (at + k) 0 + 256 * number (take n (drop (at + (k + 1)) xs))
number_on n k at xs = rw (number_at n (at + k) xs, add_assoc at k 1)

-- the numbers of two and of four bytes at a place
pub number-two : (at : ℕ) (xs : List ℕ) → number (take 2 (drop at xs)) ≡ get_or xs at 0 + 256 * get_or xs (at + 1) 0
unfolding number
number-two at xs = omega (arith, number_at 1 at xs, number_on 0 1 at xs)

pub number-four : (at : ℕ) (xs : List ℕ)
    → number (take 4 (drop at xs)) ≡ get_or xs at 0 + 256 * (get_or xs (at + 1) 0 + 256 * (get_or xs (at + 2) 0 + 256 * get_or xs (at + 3) 0))
unfolding number
number-four at xs = omega (arith, number_at 3 at xs, number_on 2 1 at xs, number_on 1 2 at xs, number_on 0 3 at xs)

-- ---- the low bytes of a number as std writes them, from byte i on
byte-at : (i x : ℕ) → byte_at i x ≡ x / 256 ^ i % 256
byte-at zero x = omega arith
byte-at (suc i) x = refl

pub low_std_from : (i n x : ℕ) → bytes_low_first i n x ≡ low n (x / 256 ^ i)
unfolding low
low_std_from i zero x = refl
low_std_from i (suc n) x =
    let rest : x / 256 ^ suc i ≡ x / 256 ^ i / 256 = rw (pow-suc 256 i) (sym (div-div-eq-div-mul x (256 ^ i) 256)) in
    rw (byte-at i x, low_std_from (suc i) n x, rest)

pub low_std : (n x : ℕ) → bytes_low_first 0 n x ≡ low n x
low_std n x = let one : x / 256 ^ 0 ≡ x = omega arith in low_std_from 0 n x ∙ ap (low n) one
