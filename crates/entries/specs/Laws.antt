-- Laws of the walk: over a string in parts, over a whole value, and what an accepted string is made of.
use Rattle.std.specs.Prelude.{ℕ, suc, ◌+◌, ◌-◌, ◌<◌, ◌≤◌, ◌⊎◌, ◌≡◌, eqb, leb, length, get_or, take, drop}
use mathlib.Core.List.{List, [], ◌∷◌, ◌++◌}
use Rattle.std.proofs.Math.Logic.{inl, inr, ⊎_elim}
use Rattle.std.proofs.Math.Path.{refl, ap}
use Rattle.std.proofs.Common.{◌∙◌, add-one, length-append, take-append-drop, length-take-le, take_at}
use native.Mathlib.Omega.{arith}
use borrow.Author.Tests.{eqb-true, eqb-false, ne_eqb}
use Rattle.std.proofs.Math.Dec.{eqb-suc-zero}
use Rattle.std.proofs.Math.Seq.{drop-cons, drop-append-add}
use Rattle.octets.specs.TestLaws.{by_cases}
use Rattle.entries_next.specs.declared.Place.{Place}
use Rattle.entries_next.specs.declared.Place.TheVariants.{Kind, Size, Value, Time, Transfer, Outside, Excess}
use Rattle.host_time.specs.HostTime.{field}
use Rattle.entries_next.specs.Next.{last_kind, listed, more, next}
use Rattle.entries.specs.Grammar.{Marked}
use Rattle.entries.specs.Entries.{walk}

-- under a version
module _ (version : ℕ) where
  -- ---- in parts
  pub walk_append : (p : Place) (a b : List ℕ) → walk version p (a ++ b) ≡ walk version (walk version p a) b
  unfolding walk
  walk_append p [] b = refl
  walk_append p (x ∷ a) b = walk_append (next version p x) a b

  -- the byte at a place, and those behind it
  pub walk_at : (p : Place) (s : List ℕ) (i : ℕ) → i < length s → walk version p (drop i s) ≡ walk version (next version p (get_or s i 0)) (drop (i + 1) s)
  unfolding walk
  walk_at p s i h = rw (add-one, drop-cons s i 0)

  -- ---- refusals stay
  walk-still : (p : Place) → ((b : ℕ) → next version p b ≡ p) → (xs : List ℕ) → walk version p xs ≡ p
  unfolding walk
  walk-still p still [] = refl
  walk-still p still (x ∷ xs) = rw (still x) (walk-still p still xs)

  pub walk_outside : (xs : List ℕ) → walk version Outside xs ≡ Outside
  unfolding next
  walk_outside = walk-still Outside (λ b. refl)

  pub walk_excess : (xs : List ℕ) → walk version Excess xs ≡ Excess
  unfolding next
  walk_excess = walk-still Excess (λ b. refl)

  -- ---- a value, and a transfer address, as a whole
  one_less : (n : ℕ) → suc n - 1 ≡ n
  one_less n = omega arith

  pub walk-value : (value rest : List ℕ) → walk version (more (length value)) (value ++ rest) ≡ walk version Kind rest
  unfolding walk next
  walk-value [] rest = refl
  walk-value (x ∷ value) rest =
      rw
      (eqb-suc-zero (length value))
      (ap (λ (n : ℕ). walk version (more n) (value ++ rest)) (one_less (length value)) ∙ walk-value value rest)

  pub skip : (n : ℕ) (xs : List ℕ) → 1 ≤ n → n ≤ length xs → walk version (Value n) xs ≡ walk version Kind (drop n xs)
  skip n xs some fits =
      let nonzero : n ≡ 0 → ⊥ = omega arith in
      let cut = walk-value (take n xs) (drop n xs) in
      rw (take-append-drop, length-take-le n xs, ne_eqb n 0) at cut

  -- bytes of the transfer address, as far as n are to come
  pub walk-within : (n : ℕ) (t : List ℕ) → length t ≤ n → walk version (Transfer n) t ≡ Transfer (n - length t)
  unfolding walk next
  walk-within n [] h = ap Transfer (omega arith)
  walk-within n (x ∷ t) h =
      let some : n ≡ 0 → ⊥ = omega arith in
      rw (ne_eqb n 0 some) (walk-within (n - 1) t (omega arith) ∙ ap Transfer (omega arith))

  -- more bytes than that
  pub walk-beyond : (n : ℕ) (t : List ℕ) → n < length t → walk version (Transfer n) t ≡ Excess
  unfolding walk next
  walk-beyond n [] h = absurd (omega arith)
  walk-beyond n (x ∷ t) h =
      by_cases (λ (p : Place). walk version p t ≡ Excess) (eqb n 0) (λ _. walk_excess t) (λ e. walk-beyond (n - 1) t (omega (arith, eqb-false n 0 e)))

  walk-transfer : (t : List ℕ) → walk version (Transfer (length t)) t ≡ Transfer 0
  walk-transfer t = walk-within (length t) t (omega arith) ∙ ap Transfer (omega arith)

  -- ---- for a writer: entries, the end mark and four bytes are accepted
  pub walk-ended : (e t : List ℕ) → walk version Kind e ≡ Kind → length t ≡ 4 → walk version Kind (e ++ (0 ∷ t)) ≡ Transfer 0
  unfolding walk next
  walk-ended e t h four = rw (walk_append Kind e (0 ∷ t), h, ← four) (walk-transfer t)

  -- ---- what a byte leads to
  -- what the place after a byte tells: of a value there is a byte to come; the count of the transfer address fell by one, or began at the end mark
  abbrev Led : Place → ℕ → Place → Type 0
  Led p b Kind = Unit {0}
  Led p b (Size kind) = Unit {0}
  Led p b (Value n) = 1 ≤ n
  Led p b (Time k before) = Unit {0}
  Led p b (Transfer n) = (p ≡ Transfer (n + 1)) ⊎ ((p ≡ Kind) × (b ≡ 0) × (n ≡ 4))
  Led p b Outside = Unit {0}
  Led p b Excess = Unit {0}

  led-more : (p : Place) (b n : ℕ) → Led p b (more n)
  led-more p b n = by_cases (Led p b) (eqb n 0) (λ _. tt) (λ e. omega (arith, eqb-false n 0 e))

  led : (p : Place) (b : ℕ) → Led p b (next version p b)
  unfolding next
  led Kind b =
      let P = Led Kind b in
      by_cases P (eqb b 0) (λ e. inr (refl, eqb-true b 0 e, refl)) (λ _. by_cases P (leb b (last_kind version)) (λ _. tt) (λ _. tt))
  led (Size kind) n =
      let P = Led (Size kind) n in
      by_cases P (listed version kind n) (λ _. by_cases P (eqb kind 5) (λ _. tt) (λ _. led-more (Size kind) n n)) (λ _. tt)
  led (Value n) b = led-more (Value n) b (n - 1)
  led (Time k before) b =
      let P = Led (Time k before) b in
      by_cases P (field k before b) (λ _. by_cases P (eqb k 9) (λ _. tt) (λ _. tt)) (λ _. tt)
  led (Transfer n) b =
      by_cases (Led (Transfer n) b) (eqb n 0) (λ _. tt) (λ e. inl (ap Transfer (omega (arith, eqb-false n 0 e))))
  led Outside b = tt
  led Excess b = tt

  pub value-some : (p : Place) (b n : ℕ) → next version p b ≡ Value n → 1 ≤ n
  value-some p b n e = rw e at (led p b)

  -- ---- for a reader: what is accepted ends in the end mark and four bytes, and before them stand entries
  -- it is walked from a place to the entries' end
  abbrev pub Walked : Place → List ℕ → Type 0
  Walked p xs = walk version p xs ≡ Kind

  -- what leads from a place to the end of the transfer address: bytes of that address, or a string with the mark
  abbrev Ended : Place → List ℕ → Type 0
  Ended p xs = ((n : ℕ) × (p ≡ Transfer n) × (length xs ≡ n)) ⊎ Marked (Walked p) xs

  ended : (p : Place) (xs : List ℕ) → walk version p xs ≡ Transfer 0 → Ended p xs
  unfolding walk
  ended p [] e = inl (0, e, refl)
  ended p (x ∷ xs) e = ⊎_elim counted (λ m. inr (longer m)) (ended (next version p x) xs e)
    where
      longer : Marked (Walked (next version p x)) xs → Marked (Walked p) (x ∷ xs)
      longer m =
          record { front = x ∷ m.front; transfer = m.transfer; whole = ap (λ (l : List ℕ). x ∷ l) m.whole; so = m.so; four = m.four }

      begun : (p ≡ Kind) × (x ≡ 0) × (length xs ≡ 4) → Marked (Walked p) (x ∷ xs)
      begun m = record { front = []; transfer = xs; whole = ap (λ (b : ℕ). b ∷ xs) m.1; so = m.0; four = m.2 }

      counted : (n : ℕ) × (next version p x ≡ Transfer n) × (length xs ≡ n) → Ended p (x ∷ xs)
      counted r =
          ⊎_elim
          (λ before. inl (r.0 + 1, before, omega arith))
          (λ mark. inr (begun (mark.0, mark.1, r.2 ∙ mark.2)))
          (rw r.1 at (led p x))

  pub marked : (xs : List ℕ) → walk version Kind xs ≡ Transfer 0 → Marked (Walked Kind) xs
  marked xs e =
      ⊎_elim (λ r. let z : ◌≡◌ {A = ℕ} 0 1 = cc in absurd (omega arith)) (λ m. m) (ended Kind xs e)

  -- The same by places in the string.
  pub record Accepted (xs : List ℕ) : Type 0 where
    pub long : 5 ≤ length xs
    pub entries : walk version Kind (take (length xs - 5) xs) ≡ Kind
    pub whole : xs ≡ take (length xs - 5) xs ++ (0 ∷ drop (length xs - 4) xs)

  laid : (front transfer : List ℕ) → walk version Kind front ≡ Kind → length transfer ≡ 4 → Accepted (front ++ (0 ∷ transfer))
  laid front transfer e four =
      let xs = front ++ (0 ∷ transfer) in
      let long : length xs ≡ length front + 5 = omega (arith, length-append front (0 ∷ transfer)) in
      let before : take (length xs - 5) xs ≡ front = take_at front (0 ∷ transfer) (length xs - 5) (omega arith) in
      let place : length xs - 4 ≡ length front + 1 = omega arith in
      let after : drop (length xs - 4) xs ≡ transfer = rw place (drop-append-add front (0 ∷ transfer) 1) in
      record { long = omega arith; entries = rw before e; whole = rw (before, after) }

  by_places : {xs : List ℕ} → Marked (Walked Kind) xs → Accepted xs
  by_places m = rw m.whole (laid m.front m.transfer m.so m.four)

  pub accepted : (xs : List ℕ) → walk version Kind xs ≡ Transfer 0 → Accepted xs
  accepted xs e = by_places (marked xs e)
