-- Writing a frame from its fields (PROTOCOL 2, 'Messages', and 7, 'Refusals').
use Rattle.std.specs.Prelude.{ℕ, ◌^◌, ◌≡◌, Bool, true, ◌&&◌, cond as pick, length, drop, eqb, ltb}
use mathlib.Core.List.{List, [], ◌∷◌, ◌++◌, foldr}
use Rattle.octets.specs.Number.{low}
use Rattle.buffer.specs.Lay.{Output, written, refuse, laid}
use Rattle.entries_next.specs.declared.Place.TheVariants.{Kind}
use Rattle.entries.specs.Entries.{walk}
use Rattle.message.specs.Message.{Message, memory_load_transfer, memory_load, request_program, request_load, request_dump, request_dump_service, dump_data, dump_complete, volunteer, parameters, loop_data, looped_data, program_listed, form_listed, id_length}
use Rattle.message.specs.Read.{ended}

-- ---- the parts of a frame
-- A part of a frame: its bytes, whether its value is listed under a version, and whether it fits its size.
pub record Part : Type 0 where
  pub bytes : List ℕ
  pub listed : ℕ → Bool
  pub sized : Bool

-- a byte
abbrev pub byte : ℕ → Part
byte b = record { bytes = b ∷ []; listed = λ version. true; sized = true }

-- a number of n bytes, low byte first
abbrev pub word : ℕ → ℕ → Part
word n x = record { bytes = low n x; listed = λ version. true; sized = ltb x (256 ^ n) }

-- data
abbrev pub bytes : List ℕ → Part
bytes xs = record { bytes = xs; listed = λ version. true; sized = true }

abbrev pub program_type : ℕ → Part
program_type program = record { bytes = program ∷ []; listed = λ version. program_listed program; sized = true }

-- a form byte, then the id, which has the length that the form says
abbrev pub software_id : ℕ → List ℕ → Part
software_id form id = record { bytes = form ∷ id; listed = λ version. form_listed form && eqb (length id) (id_length form); sized = true }

-- entries without their end mark: with the mark and a transfer address behind them a reader accepts them
abbrev pub entry_list : List ℕ → Part
entry_list entries =
    record { bytes = entries; listed = λ version. eqb (ended (walk version Kind (entries ++ (0 ∷ 0 ∷ 0 ∷ 0 ∷ 0 ∷ [])))) 0; sized = true }

-- a message's code, and the parts that follow it in the frame
abbrev pub parts : Message → ℕ × List Part
parts (memory_load_transfer number address contents transfer) =
    (0, byte number ∷ word 4 address ∷ bytes contents ∷ word 4 transfer ∷ [])
parts (memory_load number address contents) = (2, byte number ∷ word 4 address ∷ bytes contents ∷ [])
parts (request_program device format program form id processor info) =
    (8, byte device ∷ byte format ∷ program_type program ∷ software_id form id ∷ byte processor ∷ bytes info ∷ [])
parts (request_load number error) = (10, byte number ∷ byte error ∷ [])
parts (request_dump address count) = (4, word 4 address ∷ word 2 count ∷ [])
parts (request_dump_service device format size compatibility info) =
    (12, byte device ∷ byte format ∷ word 4 size ∷ byte compatibility ∷ bytes info ∷ [])
parts (dump_data address contents) = (14, word 4 address ∷ bytes contents ∷ [])
parts dump_complete = (1, [])
parts volunteer = (3, [])
parts (parameters number entries transfer) = (20, byte number ∷ entry_list entries ∷ byte 0 ∷ word 4 transfer ∷ [])
parts (loop_data receipt contents) = (24, word 2 receipt ∷ bytes contents ∷ [])
parts (looped_data receipt contents) = (26, word 2 receipt ∷ bytes contents ∷ [])

-- bytes, and the parts that follow them, laid end to end
unfoldable pub joined : List ℕ → List Part → List ℕ
joined xs [] = xs
joined xs (part ∷ rest) = xs ++ joined part.bytes rest

-- the bytes of a message
unfoldable pub layout : Message → List ℕ
unfolding joined
layout m = joined ((parts m).0 ∷ []) (parts m).1

-- its program type, software form and entries are listed under a version, and its id fits its form
abbrev pub listed : ℕ → Message → Bool
listed version m = foldr (λ part rest. part.listed version && rest) true (parts m).1

-- its numbers of several bytes fit their sizes
abbrev pub Sized : Message → Type 0
Sized m = foldr (λ part rest. part.sized && rest) true (parts m).1 ≡ true

-- ---- the writers
-- a writer's answer and its buffer at exit: 4, then 2, then 9; else the frame, then what stood behind it
unfoldable pub write : ℕ → Message → List ℕ → Output
unfolding layout
write version m out = pick (listed version m) (laid (layout m) out) (refuse 4 out)

-- an end's frame in its reply buffer, which always has room for one: the frame, then what stood behind it
abbrev pub sent : Message → List ℕ → Output
sent m reply =
    record { answer = written (length (layout m)); buffer = layout m ++ drop (length (layout m)) reply }
