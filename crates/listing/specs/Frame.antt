-- The text of a frame: its fields by name, or the reason of a refusal.
use Rattle.std.specs.Prelude.{ℕ, ◌+◌, cond as pick, List, [], ◌∷◌, eqb, ltb}
use Rattle.message.specs.declared.Fields.{Fields}
use Rattle.text.specs.Text.{chars}
use Rattle.pattern.specs.Pattern.{tabled, filling}

-- The rows, with the marks of crates/pattern/specs/Pattern.antt and the letters below.
abbrev pub patterns : List ℕ
patterns =
    tabled
    ( -- codes 0 to 26; empty where none is listed
    chars "0 memory load with transfer: number #n, address @a, data %d, transfer address @l" ∷
    chars "1 dump complete" ∷
    chars "2 memory load: number #n, address @a, data %d" ∷
    chars "3 assistance volunteer" ∷
    chars "4 request memory dump: address @a, count #c" ∷
    [] ∷
    [] ∷
    [] ∷
    chars "8 request program: device #s, format #f, program type #p&b, software form #h&g, software id %i, processor #o, info %d" ∷
    [] ∷
    chars "10 request memory load: number #n, error #q" ∷
    [] ∷
    chars "12 request dump service: device #s, format #f, memory size #m, compatibility #k, info %d" ∷
    [] ∷
    chars "14 memory dump data: address @a, data %d" ∷
    [] ∷
    [] ∷
    [] ∷
    [] ∷
    [] ∷
    chars "20 parameter load with transfer: number #n, entries %d, transfer address @l" ∷
    [] ∷
    [] ∷
    [] ∷
    chars "24 loop data: receipt #r, data %d" ∷
    [] ∷
    chars "26 looped data: receipt #r, data %d" ∷
    -- refusals, from row 27 on
    chars "refused" ∷
    chars "refused 1: empty, or ends too early" ∷
    chars "refused 2: bytes left over, or above 1,500" ∷
    chars "refused 3: code not listed" ∷
    chars "refused 4: a program type, software form, entry type, entry length or time field outside the list" ∷
    -- words behind a number, from row 32 on
    [] ∷
    chars " (secondary)" ∷
    chars " (tertiary)" ∷
    chars " (operating system)" ∷
    chars " (none)" ∷
    chars " (maintenance system)" ∷
    chars " (standard system)" ∷ [])

abbrev pub reason_row : ℕ → ℕ
reason_row refusal = pick (ltb refusal 5) (27 + refusal) 27

abbrev pub program_row : ℕ → ℕ
program_row program = pick (ltb program 3) (33 + program) 32

abbrev pub form_row : ℕ → ℕ
form_row form = pick (eqb form 0) 36 (pick (eqb form 254) 37 (pick (eqb form 255) 38 32))

-- the numbers by their letters
abbrev pub numbers : Fields → List ℕ
numbers f =
    f.address ∷  -- a
    program_row f.program ∷  -- b
    f.count ∷  -- c
    f.data_at ∷  -- d
    f.data_length ∷  -- e
    f.format ∷  -- f
    form_row f.form ∷  -- g
    f.form ∷  -- h
    f.id_at ∷  -- i
    f.id_length ∷  -- j
    f.compatibility ∷  -- k
    f.transfer ∷  -- l
    f.memory_size ∷  -- m
    f.number ∷  -- n
    f.processor ∷  -- o
    f.program ∷  -- p
    f.error ∷  -- q
    f.receipt ∷  -- r
    f.device ∷ []  -- s

-- the text of a frame with these numbers
unfoldable pub text : List ℕ → Fields → List ℕ
text s f =
    pick (eqb f.refusal 0) (filling patterns f.code (numbers f) s) (filling patterns (reason_row f.refusal) (numbers f) [])
