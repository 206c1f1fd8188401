-- What a function says that adds a text by parts.
use Rattle.std.specs.Prelude.{ℕ, ◌+◌, ◌≤◌, ◌≡◌, List, length}
use Rattle.buffer.specs.Lay.{over}
use Rattle.text.specs.Text.{behind}

-- where the whole fits, it stands there at the end; the place behind it is right in any case
pub record Adds (xs : List ℕ) (at : ℕ) (out : List ℕ) (r : ℕ) (out' : List ℕ) : Type 0 where
  pub behind_it : r ≡ behind xs at out
  pub long : length out' ≡ length out
  pub stands : at + length xs ≤ length out → out' ≡ over xs at out
