-- What a reset leaves of memory: its length and the bytes of the ROM window; and everything else may be anything.
use Prim.Native.Nat.{ℕ, zero, suc, ◌+◌}
use Rattle.std.proofs.Math.Path.{◌≡◌, refl, ap}
use Rattle.std.proofs.Common.{sym}
use Rattle.std.specs.Prelude.{Bool, true, false, cond as pick, length}
use mathlib.Core.List.{List, [], ◌∷◌}
use Rattle.std.proofs.Math.Option.{Option, some}
use native.Mathlib.Omega.{arith}
use Rattle.std.proofs.Math.ListN.{get_elem?}
use Rattle.window.specs.declared.Window.{Window}
use Rattle.window.specs.Window.{touches, InWindow}
use Rattle.window.specs.Laws.{both_touch, touch_both}
use Rattle.memory.specs.Memory.{WindowKept}
use Rattle.link.specs.Reset.{anew}

module _ (window : Window) where
  pub length-anew : (i : ℕ) (bytes memory : List ℕ) → length (anew window i bytes memory) ≡ length memory
  unfolding anew
  length-anew i bytes [] = refl
  length-anew i [] (m ∷ memory) = refl
  length-anew i (b ∷ bytes) (m ∷ memory) = ap suc (length-anew (i + 1) bytes memory)

  -- memory's first byte is at address i
  clear : (i : ℕ) (bytes memory : List ℕ) (a : ℕ) → InWindow window (i + a) → get_elem? (anew window i bytes memory) a ≡ get_elem? memory a
  unfolding anew
  clear i bytes [] a x = refl
  clear i [] (m ∷ memory) a x = refl
  clear i (b ∷ bytes) (m ∷ memory) zero x =
      rw (both_touch window i 1 (i + 0) x (omega arith, omega arith))
  clear i (b ∷ bytes) (m ∷ memory) (suc a) x = clear (i + 1) bytes memory a (omega (arith, x), omega (arith, x))

  pub anew-keeps : (bytes memory : List ℕ) → WindowKept window memory (anew window 0 bytes memory)
  anew-keeps bytes memory a x = clear 0 bytes memory a (omega (arith, x), omega (arith, x))

  reached : (i : ℕ) (y m : List ℕ) → length y ≡ length m → ((a : ℕ) → InWindow window (i + a) → get_elem? y a ≡ get_elem? m a) → anew window i y m ≡ y
  unfolding anew
  reached i [] [] e s = refl
  reached i [] (b ∷ m) e s = absurd (omega (arith, e))
  reached i (x ∷ y) [] e s = absurd (omega (arith, e))
  reached i (x ∷ y) (b ∷ m) e s =
      let rest : anew window (i + 1) y m ≡ y = reached (i + 1) y m (omega (arith, e)) (λ a w. s (suc a) (omega (arith, w), omega (arith, w))) in
      rw rest (ap (λ (z : ℕ). z ∷ y) (first (touches window i 1) refl))
    where
      same : (x b : ℕ) → ◌≡◌ {A = Option ℕ} (some x) (some b) → x ≡ b
      same x b e = cc

      first : (d : Bool) → touches window i 1 ≡ d → pick d b x ≡ x
      first true t =
          let z = touch_both window i 1 t in
          sym (same x b (s 0 (omega (arith, z.1, z.2), omega (arith, z.1, z.2))))
      first false t = refl

  -- every memory of the same length whose window has the old bytes is one that a reset may leave
  pub anew-any : (memory other : List ℕ) → length other ≡ length memory → WindowKept window memory other → anew window 0 other memory ≡ other
  anew-any memory other e k = reached 0 other memory e (λ a x. k a (omega (arith, x), omega (arith, x)))
