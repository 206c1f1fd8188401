-- What is printed: a line for each line of the input, and what a character of the input does.
use Rattle.std.specs.Prelude.{ℕ, ◌≡◌, cond as pick, List, [], ◌∷◌, ◌++◌, eqb}
use Rattle.buffer.specs.Lay.{Came, written_of}
use Rattle.version.specs.Version.{v30}
use Rattle.message.specs.Read.{fields}
use Rattle.text.specs.Text.{chars, placed}
use Rattle.hexadecimal.specs.Hexadecimal.{Decoded, not_hexadecimal, spelled, hexadecimal}
use Rattle.hexadecimal.specs.Line.{Held, opened, stepped, ended}
use Rattle.listing.specs.declared.Fed.{Fed}
use Rattle.listing.specs.Frame.{text}

-- the line that is printed for a line
abbrev pub printed : Decoded → List ℕ
printed not_hexadecimal = chars "not hexadecimal\n"
printed (spelled s) = text s (fields v30 s) ++ chars "\n"

-- a character in front of the first of the lines that follow
abbrev pub onto : ℕ → List (List ℕ) → List (List ℕ)
onto c [] = (c ∷ []) ∷ []
onto c (line ∷ rest) = (c ∷ line) ∷ rest

-- a line ends at a line feed, the last one also at the end of the input
unfoldable pub lines : List ℕ → List (List ℕ)
lines [] = []
lines (c ∷ rest) = pick (eqb c 10) ([] ∷ lines rest) (onto c (lines rest))

unfoldable pub each : List (List ℕ) → List ℕ
each [] = []
each (line ∷ rest) = printed (hexadecimal line) ++ each rest

abbrev pub listing : List ℕ → List ℕ
listing input = each (lines input)

-- What one character of the input does, and what is printed then.
pub record Turn : Type 0 where
  pub held : Held
  pub prints : List ℕ

abbrev pub fed : Held → ℕ → Turn
fed h c = pick (eqb c 10) (record { held = opened h.buffer; prints = printed (ended h) }) (record { held = stepped h c; prints = [] })

-- what came out is that turn, its text laid into the buffer
abbrev pub Feeds : Turn → List ℕ → Fed → List ℕ → List ℕ → Type 0
Feeds t out r buffer' out' = (r.line ≡ t.held.line) × (buffer' ≡ t.held.buffer) × Came (placed t.prints out) (written_of r.written) out'

-- what is printed at the end of the input
abbrev pub closed : Held → List ℕ
closed h = pick h.line.begun (printed (ended h)) []

unfoldable pub fold : List ℕ → Held → List ℕ
fold [] h = closed h
fold (c ∷ rest) h = (fed h c).prints ++ fold rest (fed h c).held
