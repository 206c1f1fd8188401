-- Reading a frame: its fields in numbers, or a refusal (PROTOCOL 2, 'Messages', and 7, 'Refusals'), and the message
-- that the numbers state. The order: empty, code, least length, excess, then the bytes in turn.
use Rattle.std.specs.Prelude.{ℕ, ◌+◌, ◌-◌, Bool, false, ◌||◌, cond as pick, ◌≡◌, Result, Ok, Err, length, get_or, take, drop, eqb, ltb}
use mathlib.Core.List.{List, [], ◌∷◌, foldr}
use Rattle.std.proofs.Math.Option.{Option, none, some}
use Rattle.refusal.specs.declared.Refusal.{Refusal}
use Rattle.refusal.specs.Refusal.{number}
use Rattle.octets.specs.Number.{word}
use Rattle.entries_next.specs.declared.Place.{Place}
use Rattle.entries_next.specs.declared.Place.TheVariants.{Kind, Size, Value, Time, Transfer, Outside, Excess}
use Rattle.entries.specs.Entries.{walk}
use Rattle.message.specs.Message.{Message, memory_load_transfer, memory_load, request_program, request_load, request_dump, request_dump_service, dump_data, dump_complete, volunteer, parameters, loop_data, looped_data, program_listed, form_listed, id_length}
use Rattle.message.specs.declared.Fields.{Fields}

-- the byte at a place
abbrev pub byte : List ℕ → ℕ → ℕ
byte s at = get_or s at 0

-- the transfer address of codes 0 and 20: the last four bytes
abbrev pub last_word : List ℕ → ℕ
last_word s = word 4 s (length s - 4)

-- ---- a frame's numbers
-- a code is one of these
abbrev pub among : List ℕ → ℕ → Bool
among codes code = foldr (λ one rest. eqb code one || rest) false codes

-- The numbers of a frame of this code: each stands at its place in the frames of the codes beside it, and is 0 in all others.
-- The variable part begins at `at`, 0 if there is none, and has all but the `fixed` bytes; the software id of code 8 comes before it.
abbrev pub numbers : ℕ → ℕ → ℕ → ℕ → List ℕ → Fields
numbers refusal code at fixed s =
    let id = pick (eqb code 8) (id_length (byte s 4)) 0 in
    record {
      refusal = refusal;
      code = code;
      number = pick (among (0 ∷ 2 ∷ 10 ∷ 20 ∷ []) code) (byte s 1) 0;
      error = pick (eqb code 10) (byte s 2) 0;
      device = pick (among (8 ∷ 12 ∷ []) code) (byte s 1) 0;
      format = pick (among (8 ∷ 12 ∷ []) code) (byte s 2) 0;
      program = pick (eqb code 8) (byte s 3) 0;
      form = pick (eqb code 8) (byte s 4) 0;
      processor = pick (eqb code 8) (byte s (5 + id)) 0;
      compatibility = pick (eqb code 12) (byte s 7) 0;
      count = pick (eqb code 4) (word 2 s 5) 0;
      receipt = pick (among (24 ∷ 26 ∷ []) code) (word 2 s 1) 0;
      address = pick (among (0 ∷ 2 ∷ []) code) (word 4 s 2) (pick (among (4 ∷ 14 ∷ []) code) (word 4 s 1) 0);
      transfer = pick (among (0 ∷ 20 ∷ []) code) (last_word s) 0;
      memory_size = pick (eqb code 12) (word 4 s 3) 0;
      data_at = at + id;
      data_length = pick (eqb at 0) 0 (length s - (fixed + id));
      id_at = pick (eqb code 8) 5 0;
      id_length = id;
    }

-- a refused frame has code 255, which no frame has
abbrev pub refused_fields : ℕ → Fields
refused_fields refusal = numbers refusal 255 0 0 []

-- reading answers these numbers: their refusal, or if it is 0, them
abbrev pub Reads : Result Fields Refusal → Fields → Type 0
Reads (Ok f) g = (g.refusal ≡ 0) × (f ≡ g)
Reads (Err r) g = refused_fields (number r) ≡ g

-- ---- the bytes in turn; 0 is no refusal
-- code 8: the program type is judged first, then the form, then where the id ends
abbrev pub program_refusal : List ℕ → ℕ
program_refusal s =
    pick (program_listed (byte s 3)) (pick (form_listed (byte s 4)) (pick (ltb (length s) (6 + id_length (byte s 4))) 1 0) 4) 4

-- what it means that the walk over entries, end mark and transfer address ended at a place
abbrev pub ended : Place → ℕ
ended Kind = 1
ended (Size kind) = 1
ended (Value n) = 1
ended (Time k before) = 1
ended (Transfer n) = pick (eqb n 0) 0 1
ended Outside = 4
ended Excess = 2

-- of a frame of this code whose length is right; the version matters to code 20 alone
abbrev pub in_turn : ℕ → ℕ → List ℕ → ℕ
in_turn version code s = pick (eqb code 8) (program_refusal s) (pick (eqb code 20) (ended (walk version Kind (drop 2 s))) 0)

-- the variable part, and the software id
abbrev pub part : List ℕ → Fields → List ℕ
part s f = take f.data_length (drop f.data_at s)

abbrev pub id_part : List ℕ → Fields → List ℕ
id_part s f = take f.id_length (drop f.id_at s)

-- ---- the table of codes
-- A row: a code, the least and the most bytes of its frame, where the variable part begins (0 if there is none), and the message that
-- the frame's numbers state. Least is all but the variable part and the software id.
pub record Row : Type 0 where
  pub code : ℕ
  pub shortest : ℕ
  pub longest : ℕ
  pub data_at : ℕ
  pub stated : List ℕ → Fields → Message

abbrev pub row : ℕ → ℕ → ℕ → ℕ → (List ℕ → Fields → Message) → Row
row code shortest longest data_at stated =
    record { code = code; shortest = shortest; longest = longest; data_at = data_at; stated = stated }

abbrev pub rows : List Row
rows =
    row 0 10 1500 6 (λ s f. memory_load_transfer f.number f.address (part s f) f.transfer) ∷
    row 2 6 1500 6 (λ s f. memory_load f.number f.address (part s f)) ∷
    row 8 6 1500 6 (λ s f. request_program f.device f.format f.program f.form (id_part s f) f.processor (part s f)) ∷
    row 10 3 3 0 (λ s f. request_load f.number f.error) ∷
    row 4 7 7 0 (λ s f. request_dump f.address f.count) ∷
    row 12 8 1500 8 (λ s f. request_dump_service f.device f.format f.memory_size f.compatibility (part s f)) ∷
    row 14 5 1500 5 (λ s f. dump_data f.address (part s f)) ∷
    row 1 1 1 0 (λ s f. dump_complete) ∷
    row 3 1 1 0 (λ s f. volunteer) ∷
    row 20 7 1500 2 (λ s f. parameters f.number (part s f) f.transfer) ∷
    row 24 3 1500 3 (λ s f. loop_data f.receipt (part s f)) ∷
    row 26 3 1500 3 (λ s f. looped_data f.receipt (part s f)) ∷ []

-- the row of a code
unfoldable pub find : List Row → ℕ → Option Row
find [] code = none
find (row ∷ rest) code = pick (eqb code row.code) (some row) (find rest code)

-- ---- reading to numbers
-- of a frame whose length is right
abbrev pub judged : ℕ → ℕ → ℕ → ℕ → List ℕ → Fields
judged version code at fixed s =
    pick (eqb (in_turn version code s) 0) (numbers 0 code at fixed s) (refused_fields (in_turn version code s))

-- by the row of its code: 3 for a code that is not listed, then the least length, then the excess, then the bytes in turn
abbrev pub frame : ℕ → List ℕ → Option Row → Fields
frame version s none = refused_fields 3
frame version s (some row) =
    pick (ltb (length s) row.shortest) (refused_fields 1)
    (pick (ltb row.longest (length s)) (refused_fields 2)
    (judged version row.code row.data_at row.shortest s))

-- the numbers of any bytes, read under a version
unfoldable pub fields : ℕ → List ℕ → Fields
fields version s = pick (eqb (length s) 0) (refused_fields 1) (frame version s (find rows (byte s 0)))

-- ---- the message that they state
-- What reading gives: a refusal's number, or the message.
pub data Reading : Type 0 where
  refused : ℕ → Reading
  message : Message → Reading

abbrev pub stated : List ℕ → Fields → Option Row → Reading
stated s f none = refused 3
stated s f (some row) = message (row.stated s f)

abbrev pub said : List ℕ → Fields → Reading
said s f = pick (eqb f.refusal 0) (stated s f (find rows f.code)) (refused f.refusal)

unfoldable pub read : ℕ → List ℕ → Reading
unfolding fields
read version s = said s (fields version s)
