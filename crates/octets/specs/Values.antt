-- The values of a rule as a list.
use Rattle.std.specs.Prelude.{ℕ, zero, suc, List, [], ◌∷◌}

-- a rule's n values from i on
abbrev pub values : {A : Type 0} → (ℕ → A) → ℕ → ℕ → List A
values rule i zero = []
values rule i (suc n) = rule i ∷ values rule (suc i) n
