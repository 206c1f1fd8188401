-- How many digits there are, and how they come one by one from the last on.
use Rattle.std.specs.Prelude.{ℕ, zero, suc, ◌+◌, ◌-◌, ◌/◌, ◌%◌, ◌<◌, ◌≤◌, ◌≡◌, refl, Option, Some, None, MatchOption, List, ◌∷◌, ◌++◌, length, take, drop, set, leb, ltb}
use Rattle.std.specs.Option.{unwrap_or}
use Rattle.std.proofs.Common.{sym, ap, ◌∙◌, append_assoc, append-nil, arith, length-append, drop_at, length-take-le, leb-true, ltb-true, ltb-false, le-leb}
use Rattle.std.proofs.Math.Seq.{drop-length}
use Rattle.std.proofs.lemmas.List.{set_split}
use Rattle.std.proofs.lemmas.Bool.{lt-leb}
use Rattle.octets.specs.TestLaws.{by_cases, both}
use Rattle.digits.specs.Digits.{digit, within, nibble, digits}

pub length_digits : (base k n : ℕ) → length (digits base k n) ≡ k
unfolding digits
length_digits base zero n = refl
length_digits base (suc k) n = rw (length-append, length_digits base k (n / base)) (omega arith)

pub nibble-most : (c : ℕ) → nibble c ≤ 16
unfolding nibble
nibble-most c =
    by_cases (λ (n : ℕ). n ≤ 16) (within 48 57 c) (λ e. omega (arith, leb-true c 57 (both (leb 48 c) (leb c 57) e).1))
    (λ e. by_cases (λ (n : ℕ). n ≤ 16) (within 65 70 c) (λ f. omega (arith, leb-true c 70 (both (leb 65 c) (leb c 70) f).1)) (λ f. omega arith))

-- a digit's value, and 16 for none
pub nibble_or : (c : ℕ) (r : Option ℕ) → MatchOption r (nibble c ≡ 16) (λ v. (nibble c ≡ v) × (v < 16)) → unwrap_or r 16 ≡ nibble c
nibble_or c None e = sym e
nibble_or c (Some v) e = sym e.0

-- reading a digit's character gives its value
pub nibble-digit : (d : ℕ) → d < 16 → nibble (digit d) ≡ d
unfolding nibble
nibble-digit d h =
    by_cases (λ (c : ℕ). nibble c ≡ d) (ltb d 10)
    (λ e. let l = ltb-true d 10 e in rw (le-leb 48 (48 + d) (omega arith), le-leb (48 + d) 57 (omega arith)) (omega arith))
    (λ e.
    let l = ltb-false d 10 e in
    rw (le-leb 48 (55 + d) (omega arith), lt-leb (55 + d) 57 (omega arith), le-leb 65 (55 + d) (omega arith), le-leb (55 + d) 70 (omega arith)) (omega arith))

-- all digits are to come
pub spelled_none : (ds out : List ℕ) → ds ++ drop (length out) out ≡ ds
spelled_none ds out = rw drop-length (append-nil ds)

-- one digit is written, the others are to come
pub spelled_on : (base i n : ℕ) (out : List ℕ) → 0 < i → i ≤ length out
    → digits base (i - 1) (n / base) ++ drop (i - 1) (set out (i - 1) (digit (n % base))) ≡ digits base i n ++ drop i out
unfolding digits
spelled_on base zero n out z h = absurd (omega arith)
spelled_on base (suc j) n out z h =
    let d = digit (n % base) in
    let e : suc j - 1 ≡ j = omega arith in
    let s : drop j (set out j d) ≡ d ∷ drop (suc j) out =
    ap (drop j) (set_split out j d (omega arith)) ∙ drop_at (take j out) (d ∷ drop (suc j) out) j (length-take-le j out (omega arith)) in
    rw (e, s, append_assoc)

-- all are written
pub spelled-all : (base i n : ℕ) (out : List ℕ) → i ≤ 0 → out ≡ digits base i n ++ drop i out
unfolding digits
spelled-all base zero n out h = refl
spelled-all base (suc i) n out h = absurd (omega arith)
