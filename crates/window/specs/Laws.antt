-- What 'touches' means: some address lies in both.
use Rattle.std.specs.Prelude.{ℕ, ◌+◌, ◌≤◌, ◌<◌, min, max, ◌≡◌, true, false, ltb}
use Rattle.std.proofs.Common.{arith}
use Rattle.std.proofs.Math.Decide.{dec_lt}
use borrow.Author.Tests.{ltb-true, lt-ltb, le-ltb}
use Rattle.window.specs.declared.Window.{Window}
use Rattle.window.specs.Window.{Lies, InWindow, touches}

-- Where the window touches a range, some address lies in both; where one does, it touches.
pub touch_both : (w : Window) (address n : ℕ) → touches w address n ≡ true → (a : ℕ) × InWindow w a × Lies address n a
unfolding touches
touch_both w address n e =
    let z : max w.start address < min (w.start + w.length) (address + n) = ltb-true _ _ e in
    (max w.start address, (omega arith, omega arith), (omega arith, omega arith))

pub both_touch : (w : Window) (address n a : ℕ) → InWindow w a → Lies address n a → touches w address n ≡ true
unfolding touches
both_touch w address n a x y = lt-ltb (max w.start address) (min (w.start + w.length) (address + n)) (omega arith)

-- ---- for the code: ranges that do not touch, and a test of like meaning
module _ (w : Window) (address n : ℕ) where
  pub untouched : min (w.start + w.length) (address + n) ≤ max w.start address → touches w address n ≡ false
  unfolding touches
  untouched h = le-ltb (max w.start address) (min (w.start + w.length) (address + n)) h

  pub tested : (a b : ℕ) → (a < b → max w.start address < min (w.start + w.length) (address + n))
      → (b ≤ a → min (w.start + w.length) (address + n) ≤ max w.start address) → ltb a b ≡ touches w address n
  unfolding touches
  tested a b f g =
      elim (dec_lt a b) [
        | yes l ↦ rw (lt-ltb a b l, lt-ltb (max w.start address) (min (w.start + w.length) (address + n)) (f l))
        | no l ↦ rw (le-ltb a b (omega arith), untouched (g (omega arith)))
      ]
