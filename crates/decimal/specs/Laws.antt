-- Digit by digit.
use Rattle.std.specs.Prelude.{ℕ, suc, ◌+◌, ◌-◌, ◌*◌, ◌<◌, ◌≤◌, true, ◌≡◌, refl, List, [], ◌∷◌, length, get_or, take, drop, eqb, ltb}
use Rattle.std.proofs.Common.{ap, ◌∙◌, arith, add-one, length-drop, drop_of_length-le, drop-cons, take_all, lt-ltb, le-ltb, ltb-true, ltb-false}
use Rattle.std.specs.Prelude.{Option, not, cond, Some, None}
use Rattle.std.specs.List.{position, position_or_len}
use Rattle.std.specs.Option.{unwrap_or}
use Rattle.octets.specs.TestLaws.{by_cases}
use Rattle.text.specs.Laws.{by_test}
use Rattle.digits.specs.Digits.{nibble, digits}
use Rattle.digits.specs.Laws.{length_digits}
use Rattle.decimal.specs.Decimal.{trimmed, decimal, value}

-- ---- the zeros in front
-- the first digit that is no zero
abbrev pub first : List ℕ → Option ℕ
first d = position (λ c. not (eqb c 48)) d

-- how many zeros go: up to that digit, and else all but the last
abbrev pub kept_from : List ℕ → ℕ
kept_from d = unwrap_or (first d) (length d - 1)

zeros : List ℕ → ℕ
zeros d = position_or_len (λ c. not (eqb c 48)) d

cut_at : ℕ → ℕ → ℕ
cut_at n m = unwrap_or (cond (ltb n m) (Some n) None) (m - 1)

one-more : (n m : ℕ) → cut_at (1 + n) (suc (suc m)) ≡ suc (cut_at n (suc m))
unfolding cut_at
one-more n m = by_test (ltb n (suc m)) _ (λ e. rw (e, lt-ltb (1 + n) (suc (suc m)) (omega (arith, ltb-true n (suc m) e))) (omega arith)) (λ e. rw (e, le-ltb (1 + n) (suc (suc m)) (omega (arith, ltb-false n (suc m) e))) (omega arith))

kept-more : (a b : ℕ) (rest : List ℕ) → eqb a 48 ≡ true → kept_from (a ∷ b ∷ rest) ≡ suc (kept_from (b ∷ rest))
unfolding cut_at zeros
kept-more a b rest e =
    let s : zeros (a ∷ b ∷ rest) ≡ 1 + zeros (b ∷ rest) = rw e refl in
    ap (λ n. cut_at n (suc (suc (length rest)))) s ∙ one-more (zeros (b ∷ rest)) (length rest)

pub trimmed-from : (d : List ℕ) → drop (kept_from d) d ≡ trimmed d
unfolding trimmed
trimmed-from [] = refl
trimmed-from (a ∷ []) = by_test (eqb a 48) _ (λ e. rw e refl) (λ e. rw e refl)
trimmed-from (a ∷ b ∷ rest) =
    by_test (eqb a 48) _ (λ e. ap (λ n. drop n (a ∷ b ∷ rest)) (kept-more a b rest e) ∙ (rw e (trimmed-from (b ∷ rest)))) (λ e. rw (e, lt-ltb 0 (suc (suc (length rest))) (omega arith)) refl)

pub kept_from-within : (d : List ℕ) → kept_from d ≤ length d
kept_from-within d = grind arith

-- the twenty digits from the first that stays on
pub decimal-cut : (n r : ℕ) (d : List ℕ) → d ≡ digits 10 20 n → drop r d ≡ trimmed d → take (20 - r) (drop r d) ≡ decimal n
decimal-cut n r d e t =
    let l : length d ≡ 20 = ap length e ∙ length_digits 10 20 n in
    take_all (20 - r) (drop r d) (simp length-drop (omega arith)) ∙ t ∙ ap trimmed e

trimmed-most : (d : List ℕ) → length (trimmed d) ≤ length d
unfolding trimmed
trimmed-most [] = omega arith
trimmed-most (a ∷ []) = omega arith
trimmed-most (a ∷ b ∷ rest) =
    by_cases (λ (l : List ℕ). length l ≤ length (a ∷ b ∷ rest)) (eqb a 48) (λ e. omega (arith, trimmed-most (b ∷ rest))) (λ e. omega arith)

pub decimal-most : (n : ℕ) → length (decimal n) ≤ 20
decimal-most n = omega (arith, trimmed-most (digits 10 20 n), length_digits 10 20 n)

-- ---- digits that are read
pub value_on : (n : ℕ) (s : List ℕ) (i : ℕ) → i < length s → value n (drop i s) ≡ value (n * 10 + nibble (get_or s i 0)) (drop (i + 1) s)
unfolding value
value_on n s i h = rw (drop-cons s i 0 h, add-one i)

pub value-end : (n : ℕ) (s : List ℕ) (i : ℕ) → length s ≤ i → value n (drop i s) ≡ n
unfolding value
value-end n s i h = rw (drop_of_length-le s {i = i} h)

-- further digits never make a value less
pub value-least : (n : ℕ) (s : List ℕ) → n ≤ value n s
unfolding value
value-least n [] = omega arith
value-least n (d ∷ rest) = omega (arith, value-least (n * 10 + nibble d) rest)
