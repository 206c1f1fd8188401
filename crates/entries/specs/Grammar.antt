-- Code 20's entries as PROTOCOL 2, 'Messages', lists them.
use Rattle.std.specs.Prelude.{ℕ, ◌+◌, true, List, [], ◌∷◌, ◌++◌, ◌≡◌, length}
use Rattle.host_time.specs.HostTime.{field}
use Rattle.entries_next.specs.Next.{listed}

-- bytes of a host time from field k on, each one that its field may be, after the byte before it
abbrev pub Fields : ℕ → ℕ → List ℕ → Type 0
Fields k before [] = Unit {0}
Fields k before (b ∷ bs) = (field k before b ≡ true) × Fields (k + 1) b bs

-- Entries of a version in a row, each a type, a length and a value. Type and length are listed; a host time's value is its ten fields.
pub data Entries (version : ℕ) : List ℕ → Type 0 where
  none : Entries version []
  entry :
      (kind : ℕ) (value rest : List ℕ)
      → listed version kind (length value) ≡ true
      → (kind ≡ 5 → Fields 0 0 value)
      → Entries version rest
      → Entries version (kind ∷ length value ∷ (value ++ rest))

-- A string that is so up to the end mark, with four bytes after the mark.
pub record Marked (So : List ℕ → Type 0) (xs : List ℕ) : Type 0 where
  pub front : List ℕ
  pub transfer : List ℕ
  pub whole : xs ≡ front ++ (0 ∷ transfer)
  pub so : So front
  pub four : length transfer ≡ 4
