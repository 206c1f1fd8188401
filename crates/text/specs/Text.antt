-- Texts in lent buffers. A text is the list of its characters' codes.
use Rattle.std.specs.Prelude.{ℕ, ◌+◌, min, cond as pick, ◌≡◌, List, [], ◌∷◌, ◌++◌, length, drop, ltb}
use Prim.Native.Char.{code}
use Prim.Native.String.{String}
use Prim.Native.String as Quoted
use Rattle.buffer.specs.Lay.{Output, refuse, written, put}

abbrev pub chars : String → List ℕ
chars Quoted.[] = []
chars (Quoted.◌∷◌ c rest) = code c ∷ chars rest

-- a text laid into a buffer; 9 for a buffer that is too short
abbrev pub placed : List ℕ → List ℕ → Output
placed bytes out =
    pick (ltb (length out) (length bytes)) (refuse 9 out)
    (record { answer = written (length bytes); buffer = bytes ++ drop (length bytes) out })

-- the place behind a text in a buffer; one beyond the buffer's end if the text does not fit
abbrev pub behind : List ℕ → ℕ → List ℕ → ℕ
behind added at out = min (at + length added) (length out + 1)

-- what came out is the place behind the text, and the buffer with the text laid over it where it fits
abbrev pub Added : List ℕ → ℕ → List ℕ → ℕ → List ℕ → Type 0
Added added at out r out' = (r ≡ behind added at out) × (out' ≡ put added at out)
