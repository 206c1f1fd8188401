-- The lines of a transcript (PROTOCOL 8, 'Rehearsal').
use Rattle.std.specs.Prelude.{ℕ, Bool, cond as pick, List, [], ◌∷◌, ◌++◌, length, eqb}
use Rattle.text.specs.Text.{chars}
use Rattle.decimal.specs.Decimal.{decimal}
use Rattle.hexadecimal.specs.Hexadecimal.{pairs, address}

-- H for the host, T for the machine
abbrev pub initial : Bool → ℕ
initial host = pick host 72 84

-- a frame that the host sent, or the machine; no bytes are no frame, and no line
abbrev pub sent_line : Bool → List ℕ → List ℕ
sent_line host frame = pick (eqb (length frame) 0) [] (initial host ∷ chars " " ++ (pairs frame ++ chars "\n"))

-- the last line up to the memory: the verdict, the host's frames, the transfer address if the machine is Started
abbrev pub report : ℕ → ℕ → Bool → ℕ → List ℕ
report verdict sent started transfer =
    chars "END " ++ (decimal verdict ++ (chars " " ++ (decimal sent ++ (chars " " ++ (pick started (address transfer) (chars "-") ++ chars " ")))))

-- the last line
abbrev pub last_line : ℕ → ℕ → Bool → ℕ → List ℕ → List ℕ
last_line verdict sent started transfer memory = report verdict sent started transfer ++ (pairs memory ++ chars "\n")

-- a refusal; 0 is none, and no line
abbrev pub bad_line : ℕ → List ℕ
bad_line refusal = pick (eqb refusal 0) [] (chars "BAD " ++ (decimal refusal ++ chars "\n"))
