-- Laws of the last value of a type: over bytes passed by, at a place in the entries, and at their end.
use Prim.Native.Nat.{ℕ, zero, suc, ◌+◌, ◌-◌, ◌≤◌, ◌<◌, min}
use Rattle.std.specs.Prelude.{◌≡◌, Bool, true, false, cond as pick, get_or, take, drop, replicate, eqb, leb}
use Rattle.std.proofs.Math.Path.{refl}
use Rattle.std.proofs.Common.{ap, sym, ◌∙◌, arith, add-one, length-take, drop_of_length-le, take_all, take-take, drop-cons, drop-drop, drop_at, length-take-le, leb-true, leb-false}
use mathlib.Core.List.{List, [], ◌∷◌, ◌++◌}
use Rattle.std.proofs.Math.ListN.{length, length-drop}
use Rattle.std.proofs.lemmas.List.{length-replicate, replicate-append-replicate}
use Rattle.std.proofs.Math.Seq.{take-length}
use Rattle.parameters.specs.declared.Value.{Value}
use Rattle.parameters.specs.Parameters.{latest, value}

module _ (kind : ℕ) where
  passed : (before : List ℕ) (skip : ℕ) (xs : List ℕ) → latest kind before skip xs ≡ latest kind before 0 (drop skip xs)
  unfolding latest
  passed before zero xs = refl
  passed before (suc skip) [] = refl
  passed before (suc skip) (x ∷ xs) = passed before skip xs

  -- one entry, and those behind it
  pub latest_cons : (before : List ℕ) (other n : ℕ) (xs : List ℕ)
      → latest kind before 0 (other ∷ n ∷ xs) ≡ latest kind (pick (eqb other kind) (take n xs) before) 0 (drop n xs)
  unfolding latest
  latest_cons before other n xs = passed (pick (eqb other kind) (take n xs) before) n xs

  -- a stretch that ends with the entries
  clipped : (n : ℕ) (xs : List ℕ) (within : Bool) → leb n (length xs) ≡ within
      → (take n xs ≡ take (min n (length xs)) xs) × (drop n xs ≡ drop (min n (length xs)) xs)
  clipped n xs true e = let z : min n (length xs) ≡ n = omega (arith, leb-true n (length xs) e) in (rw z, rw z)
  clipped n xs false e =
      let l = leb-false n (length xs) e in
      let z : min n (length xs) ≡ length xs = omega arith in (
        rw z (take_all n xs (omega arith) ∙ sym (take_all (length xs) xs (omega arith))),
        rw z (drop_of_length-le xs {i = n} (omega arith) ∙ sym (drop_of_length-le xs {i = length xs} (omega arith))),
      )

  -- the same by places in the entries
  pub latest-at : (before s : List ℕ) (i n : ℕ) → i + 1 < length s → n ≡ min (get_or s (i + 1) 0) (length s - (i + 2))
      → latest kind before 0 (drop i s) ≡ latest kind (pick (eqb (get_or s i 0) kind) (take n (drop (i + 2) s)) before) 0 (drop (i + 2 + n) s)
  latest-at before s i n l e =
      let size = get_or s (i + 1) 0 in
      let after = drop (i + 2) s in
      let two : suc (i + 1) ≡ i + 2 = omega arith in
      let head : drop i s ≡ get_or s i 0 ∷ size ∷ after = rw (drop-cons s i 0 (omega arith), ← add-one i, drop-cons s (i + 1) 0 (omega arith), two) in
      let c = clipped size after (leb size (length after)) refl in
      let same : min size (length after) ≡ n = omega (arith, length-drop (i + 2) s) in
      rw (head, latest_cons before (get_or s i 0) size after, c.0, c.1, same, drop-drop n (i + 2) s)

  -- no entry is left
  pub latest-end : (before s : List ℕ) (i : ℕ) → length s ≤ i + 1 → latest kind before 0 (drop i s) ≡ before
  unfolding latest
  latest-end before s i l = short (drop i s) (omega (arith, length-drop i s))
    where
      short : (xs : List ℕ) → length xs ≤ 1 → latest kind before 0 xs ≡ before
      short [] h = refl
      short (x ∷ []) h = refl
      short (x ∷ (y ∷ xs)) h = absurd (omega arith)

-- what is left of n zeros
zeros-behind : (k n : ℕ) → k ≤ n → drop k (replicate {A = ℕ} n 0) ≡ replicate (n - k) 0
zeros-behind k n h =
    let size : k + (n - k) ≡ n = omega arith in
    let split : replicate {A = ℕ} k 0 ++ replicate (n - k) 0 ≡ replicate n 0 = replicate-append-replicate k (n - k) 0 ∙ ap (λ (i : ℕ). replicate i 0) size in
    rw (← split) (drop_at (replicate k 0) (replicate (n - k) 0) k (length-replicate k 0))

-- the first k bytes of a value of n, copied over 16 zeros
module _ (s : List ℕ) (at n k : ℕ) (h : at + n ≤ length s) (e : k ≡ min 16 n) where
  abbrev part : List ℕ
  part = take (at + k - at) (drop at s)

  first : take 16 (take n (drop at s)) ≡ take k (drop at s)
  first = go (leb n 16) refl
    where
      go : (b : Bool) → leb n 16 ≡ b → take 16 (take n (drop at s)) ≡ take k (drop at s)
      go true q =
          let z : k ≡ n = omega (arith, leb-true n 16 q) in
          rw z (take_all 16 (take n (drop at s)) (rw length-take (omega (arith, leb-true n 16 q))))
      go false q = let z : k ≡ 16 = omega (arith, leb-false n 16 q) in rw z (take-take 16 n (drop at s) (omega (arith, leb-false n 16 q)))

  pub copied : (bytes : List ℕ) → bytes ≡ take (length part) part ++ drop (length part) (replicate 16 0)
      → ◌≡◌ {A = Value} (record { length = k; bytes = bytes }) (value (take n (drop at s)))
  copied bytes q =
      let same : at + k - at ≡ k = omega arith in
      let size : length (take k (drop at s)) ≡ k = length-take-le k (drop at s) (omega (arith, length-drop at s)) in
      let whole : length (take n (drop at s)) ≡ n = length-take-le n (drop at s) (omega (arith, length-drop at s)) in
      let rest : 16 - k ≡ 16 - n = omega arith in
      rw (q, same, size, take-take k k (drop at s) (omega arith), zeros-behind k 16 (omega arith), whole, rest, first, ← e)

-- the bytes that are copied, with what is behind them, in the form that `copied` takes
pub laid_first : (new part rest : List ℕ) (n : ℕ) → new ≡ part → length part ≡ n → new ++ drop n rest ≡ take (length part) part ++ drop (length part) rest
laid_first new part rest n e z = rw (take-length part, z, e)

-- ---- the same by slices
-- an entry in front, with its value cut at the entries' end
pub latest-in : (kind : ℕ) (before s : List ℕ) (n : ℕ) → 2 ≤ length s → n ≡ min (get_or s 1 0) (length (drop 2 s))
    → latest kind (pick (eqb (get_or s 0 0) kind) (take n (drop 2 s)) before) 0 (drop n (drop 2 s)) ≡ latest kind before 0 s
latest-in kind before [] n l e = absurd (omega arith)
latest-in kind before (x ∷ []) n l e = absurd (omega arith)
latest-in kind before (other ∷ size ∷ after) n l e =
    let c = clipped kind size after (leb size (length after)) refl in
    rw (latest_cons kind before other size after, c.0, c.1, e)

pub latest-short : (kind : ℕ) (before s : List ℕ) → length s < 2 → latest kind before 0 s ≡ before
unfolding latest
latest-short kind before [] h = refl
latest-short kind before (x ∷ []) h = refl
latest-short kind before (x ∷ (y ∷ xs)) h = absurd (omega arith)
