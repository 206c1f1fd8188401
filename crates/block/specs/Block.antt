-- The parameter block (PROTOCOL 4, 'Machine end'): 14 bytes of memory in which a machine of version 2.1 stores what a code 20 says.
use Rattle.std.specs.Prelude.{ℕ, ◌+◌, ◌-◌, ◌%◌, Bool, not, ◌||◌, cond as pick, List, length, get_or, eqb, leb, ltb, Option, Some, None}
use Rattle.std.specs.Option.{unwrap_or}
use Rattle.octets.specs.Values.{values}
use Rattle.version.specs.Version.{older}
use Rattle.parameters.specs.declared.Value.{Value}
use Rattle.parameters.specs.declared.Parameters.{Parameters}

-- ---- where it stands
-- the top of a memory of this size: the first even address beyond it
abbrev pub top : ℕ → ℕ
top size = size + size % 2

-- the block begins 64 below the top
abbrev pub place : ℕ → ℕ
place size = top size - 64

-- a memory of this size has room for the block, if the version has one
abbrev pub roomy : ℕ → ℕ → Bool
roomy version size = not (older version) || leb 64 size

-- ---- what it says
-- byte i of a value, `fill` beyond its end
abbrev pub padded : ℕ → Value → ℕ → ℕ
padded fill v i = pick (ltb i v.length) (get_or v.bytes i 0) fill

-- What the block makes of a byte: another, or none if it stays.
-- byte i of a name's part: padded with spaces; of an absent or empty name the first two are 0, and the others stay
abbrev pub name_cell : Value → ℕ → Option ℕ
name_cell v i = pick (eqb v.length 0) (pick (ltb i 2) (Some 0) None) (Some (padded 32 v i))

-- byte x of the block: the node number, which is the target address, padded with zeros; the target name; the host name
unfoldable pub cell : Parameters → ℕ → Option ℕ
cell p x =
    pick (ltb x 2) (Some (padded 0 p.target_address x))
    (pick (ltb x 8) (name_cell p.target_name (x - 2))
    (pick (ltb x 14) (name_cell p.host_name (x - 8))
    None))

-- byte x of the block for a memory
abbrev pub block_byte : Parameters → List ℕ → ℕ → ℕ
block_byte p memory x = unwrap_or (cell p x) (get_or memory (place (length memory) + x) 0)

-- the block's 14 bytes for a memory, which keep those that stay
unfoldable pub block : Parameters → List ℕ → List ℕ
block p memory = values (block_byte p memory) 0 14
