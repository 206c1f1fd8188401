-- Bytes written one by one.
use Rattle.std.specs.Prelude.{ℕ, ◌+◌, ◌*◌, ◌/◌, ◌%◌, ◌<◌, ◌≤◌, ◌≡◌, refl, List, [], ◌∷◌, ◌++◌, length, get_or, drop}
use Rattle.std.proofs.Common.{arith, add-one, length-append, drop_of_length-le, drop-cons, lt-ltb}
use Rattle.octets.specs.Number.{Octets}
use Rattle.octets.specs.NumberLaws.{octets_tail}
use Rattle.buffer.specs.Lay.{refused, written, Came}
use Rattle.digits.specs.Digits.{digits}
use Rattle.digits.specs.Laws.{length_digits, nibble-digit}
use Rattle.text.specs.Text.{placed, Added}
use Rattle.text.specs.Laws.{adds, adds_append, adds-placed, placed-short}
use Rattle.hexadecimal.specs.Hexadecimal.{pairs, spelled, hexadecimal}

pub length_pairs : (s : List ℕ) → length (pairs s) ≡ 2 * length s
unfolding pairs
length_pairs [] = refl
length_pairs (b ∷ rest) = rw (length-append, length_digits 16 2 b, length_pairs rest) (omega arith)

pub pairs-at : (s : List ℕ) (i : ℕ) → i < length s → pairs (drop i s) ≡ digits 16 2 (get_or s i 0) ++ pairs (drop (i + 1) s)
unfolding pairs
pairs-at s i h = rw (add-one, drop-cons s i 0 h)

pub pairs-none : (s : List ℕ) (i : ℕ) → length s ≤ i → pairs (drop i s) ≡ []
unfolding pairs
pairs-none s i h = rw (drop_of_length-le s {i = i} h)

-- a text, bytes and a text, added from the start on
pub printed : (head s tail out : List ℕ) → length head + (2 * length s + length tail) ≤ length out
    → {a : ℕ} {one : List ℕ} → Added head 0 out a one → {b : ℕ} {two : List ℕ} → Added (pairs s) a one b two
    → {end : ℕ} {three : List ℕ} → Added tail b two end three → Came (placed (head ++ (pairs s ++ tail)) out) (written end) three
printed head s tail out h {a} {one} x {b} {two} y {end} {three} z =
    let rest = adds_append (pairs s) tail a one b two end three (adds (pairs s) a one b two y) (adds tail b two end three z) in
    let whole = adds_append head (pairs s ++ tail) 0 out a one end three (adds head 0 out a one x) rest in
    adds-placed (head ++ (pairs s ++ tail)) out end three whole (simp length-append (omega (arith, length_pairs s)))

pub not-printed : (head s tail out : List ℕ) → length out < length head + (2 * length s + length tail)
    → Came (placed (head ++ (pairs s ++ tail)) out) (refused 9) out
not-printed head s tail out h = placed-short (head ++ (pairs s ++ tail)) out (simp length-append (omega (arith, length_pairs s)))

-- THE LAW: what is written reads back
pub pairs-read : (s : List ℕ) → Octets s → hexadecimal (pairs s) ≡ spelled s
unfolding pairs hexadecimal digits
pairs-read [] h = refl
pairs-read (b ∷ rest) h =
    let octet : b < 256 = h 0 (omega arith) in
    let high = nibble-digit (b / 16 % 16) (omega arith) in
    let low = nibble-digit (b % 16) (omega arith) in
    let whole : (b / 16 % 16) * 16 + b % 16 ≡ b = omega arith in
    rw (high, low, lt-ltb (b / 16 % 16) 16 (omega arith), lt-ltb (b % 16) 16 (omega arith), pairs-read rest (octets_tail b rest h), whole)
