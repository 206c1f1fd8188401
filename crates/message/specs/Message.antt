-- The messages (PROTOCOL 2, 'Messages'): a case for each code, with its fields in the frame's order, as numbers and lists of bytes.
use Rattle.std.specs.Prelude.{ℕ, Bool, ◌||◌, cond as pick, List, leb}

pub data Message : Type 0 where
  -- 0: number, address, data, transfer address
  memory_load_transfer : ℕ → ℕ → List ℕ → ℕ → Message
  -- 2: number, address, data
  memory_load : ℕ → ℕ → List ℕ → Message
  -- 8: device, format, program type, software form, software id, processor, info
  request_program : ℕ → ℕ → ℕ → ℕ → List ℕ → ℕ → List ℕ → Message
  -- 10: number, error
  request_load : ℕ → ℕ → Message
  -- 4: address, count
  request_dump : ℕ → ℕ → Message
  -- 12: device, format, memory size, compatibility, info
  request_dump_service : ℕ → ℕ → ℕ → ℕ → List ℕ → Message
  -- 14: address, data
  dump_data : ℕ → List ℕ → Message
  -- 1
  dump_complete : Message
  -- 3
  volunteer : Message
  -- 20: number, entries without their end mark, transfer address
  parameters : ℕ → List ℕ → ℕ → Message
  -- 24: receipt, data
  loop_data : ℕ → List ℕ → Message
  -- 26: receipt, data
  looped_data : ℕ → List ℕ → Message

-- program types: 0 secondary, 1 tertiary, 2 operating system
abbrev pub program_listed : ℕ → Bool
program_listed program = leb program 2

-- software forms: 0 none; 1 to 16, that many bytes follow; 255 standard system; 254 maintenance system
abbrev pub form_listed : ℕ → Bool
form_listed form = leb form 16 || leb 254 form

-- how many bytes of software id follow a form byte
abbrev pub id_length : ℕ → ℕ
id_length form = pick (leb form 16) form 0
