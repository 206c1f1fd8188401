-- What the machine keeps of the entries of a code 20 frame (PROTOCOL 4, 'Machine end').
use Rattle.std.specs.Prelude.{ℕ, zero, suc, ◌-◌, min, cond as pick, List, [], ◌∷◌, ◌++◌, length, take, replicate, eqb}
use Rattle.parameters.specs.declared.Value.{Value}
use Rattle.parameters.specs.declared.Parameters.{Parameters}

-- The last value of a type in entries, `before` if there is none. An entry is a type, a length and a value; `skip` bytes are still to
-- be passed over.
unfoldable pub latest : ℕ → List ℕ → ℕ → List ℕ → List ℕ
latest kind before skip [] = before
latest kind before (suc skip) (b ∷ bs) = latest kind before skip bs
latest kind before zero (type ∷ []) = before
latest kind before zero (type ∷ n ∷ bs) = latest kind (pick (eqb type kind) (take n bs) before) n bs

-- a value as it is kept: its length and its bytes, zeros behind them up to 16
abbrev pub value : List ℕ → Value
value v = record { length = min 16 (length v); bytes = take 16 v ++ replicate (16 - length v) 0 }

-- of each type the last value; one that is absent has length 0
abbrev pub kept : List ℕ → Parameters
kept entries =
    record {
      target_name = value (latest 1 [] 0 entries);
      target_address = value (latest 2 [] 0 entries);
      host_name = value (latest 3 [] 0 entries);
      host_address = value (latest 4 [] 0 entries);
      host_time = value (latest 5 [] 0 entries);
    }

-- a fresh machine keeps what no entries say: nothing
abbrev pub none : Parameters
none = kept []
