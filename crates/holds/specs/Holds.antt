-- What it means that a record holds what a string of entries says, by the entries as PROTOCOL 2, 'Messages', lists them.
use Rattle.std.specs.Prelude.{ℕ, ◌-◌, ◌≤◌, ◌≡◌, true, cond as pick, List, [], ◌∷◌, ◌++◌, ◌⊎◌, length, take, drop, replicate, eqb}
use Rattle.entries_next.specs.Next.{listed}
use Rattle.entries.specs.Grammar.{Entries}
use Rattle.parameters.specs.declared.Value.{Value}
use Rattle.parameters.specs.declared.Parameters.{Parameters}

-- Entries without one of this type.
pub data Absent (kind : ℕ) : List ℕ → Type 0 where
  none : Absent kind []
  entry : (other : ℕ) (value rest : List ℕ) → (other ≡ kind → ⊥) → Absent kind rest → Absent kind (other ∷ length value ∷ (value ++ rest))

-- Entries of a version whose last one of this type has this value.
pub record Last (version kind : ℕ) (value : List ℕ) (string : List ℕ) : Type 0 where
  pub before : List ℕ
  pub behind : List ℕ
  pub whole : string ≡ before ++ (kind ∷ length value ∷ (value ++ behind))
  pub entries : Entries version before
  pub fits : listed version kind (length value) ≡ true
  pub absent : Absent kind behind

-- a kept value is these bytes: their length, the bytes, and zeros behind them
pub record Is (x : Value) (bytes : List ℕ) : Type 0 where
  pub size : x.length ≡ length bytes
  pub bytes_are : take (length bytes) x.bytes ≡ bytes
  pub zeros : drop (length bytes) x.bytes ≡ replicate (16 - length bytes) 0

-- the value of a type, 1 to 5
abbrev pub of : ℕ → Parameters → Value
of kind p =
    pick (eqb kind 1) p.target_name
    (pick (eqb kind 2) p.target_address
    (pick (eqb kind 3) p.host_name
    (pick (eqb kind 4) p.host_address
    p.host_time)))

-- The record holds what the string, entries of a version, says: of each type the value of the string's last entry, and nothing of a type that is absent; and each
-- type is absent, or has a last entry.
pub record Holds (version : ℕ) (p : Parameters) (string : List ℕ) : Type 0 where
  pub last : (kind : ℕ) → 1 ≤ kind → kind ≤ 5 → (value : List ℕ) → Last version kind value string → Is (of kind p) value
  pub absent : (kind : ℕ) → 1 ≤ kind → kind ≤ 5 → Absent kind string → Is (of kind p) []
  pub either : (kind : ℕ) → Absent kind string ⊎ ((value : List ℕ) × Last version kind value string)
