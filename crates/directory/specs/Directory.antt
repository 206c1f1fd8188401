-- The trailer and the directory of an image file (PROTOCOL 3, 'Image files'): their fields, the regions, and refusals 5 to 8 in
-- their order. A `Trailer` and a `Region` are the code's own types.
use Rattle.std.specs.Prelude.{ℕ, zero, suc, ◌+◌, ◌-◌, ◌*◌, Bool, true, false, List, [], ◌∷◌, length, take, drop, eqb, leb}
use Rattle.octets.specs.Number.{word}
use Rattle.directory.specs.declared.Trailer.{Trailer}
use Rattle.directory.specs.declared.Region.{Region}

-- the number of addresses
abbrev pub addresses : ℕ
addresses = 4294967296

-- the most entries of a directory
abbrev pub most_entries : ℕ
most_entries = 100000

-- ---- fields
-- directory offset 4, entry count 4, transfer address 4, file length 4
unfoldable pub trailer_of : List ℕ → Trailer
trailer_of s =
    record {
      directory = word 4 s 0;
      count = word 4 s 4;
      transfer = word 4 s 8;
      length = word 4 s 12;
    }

-- the trailer is the file's last 16 bytes
abbrev pub trailer : List ℕ → Trailer
trailer file = trailer_of (drop (length file - 16) file)

-- a directory entry: memory address 4, offset of its bytes in the file 4, length 4
unfoldable pub entry_of : List ℕ → Region
entry_of s = record { address = word 4 s 0; place = word 4 s 4; length = word 4 s 8 }

-- the entry of 12 bytes at a place
abbrev pub entry_at : List ℕ → ℕ → Region
entry_at file at = entry_of (take 12 (drop at file))

-- n entries from a place on
unfoldable pub entries : List ℕ → ℕ → ℕ → List Region
entries file at zero = []
entries file at (suc n) = entry_at file at ∷ entries file (at + 12) n

-- the regions, in directory order
abbrev pub regions : List ℕ → List Region
regions file = entries file (trailer file).directory (trailer file).count

-- the address just past a region
abbrev pub ending : Region → ℕ
ending r = r.address + r.length

-- a region's bytes
abbrev pub bytes : List ℕ → Region → List ℕ
bytes file r = take r.length (drop r.place file)

-- no region, where there is none
abbrev pub nowhere : Region
nowhere = record { address = 0; place = 0; length = 0 }

-- ---- refusals, by the numbers of PROTOCOL 7, 'Refusals'; 0 is none
-- the refusal if something does not hold, else what is asked next
unfoldable pub demand : Bool → ℕ → ℕ → ℕ
demand true n next = next
demand false n next = n

-- the first of two refusals
abbrev pub first : ℕ → ℕ → ℕ
first n next = demand (eqb n 0) n next

-- 5 and 6, of a file of n bytes with this trailer; a file has at most 16,777,216 bytes
abbrev pub trailer_refusal : ℕ → Trailer → ℕ
trailer_refusal n t =
    demand (leb 16 n) 5
    (demand (leb n 16777216) 5
    (demand (eqb t.length n) 5
    (demand (leb 1 t.count) 6
    (demand (leb t.count most_entries) 6
    (demand (eqb (t.directory + 12 * t.count + 16) n) 6 0)))))

-- 7 and 8, of an entry, with the directory's start and the end of the region before
abbrev pub entry_refusal : ℕ → ℕ → Region → ℕ
entry_refusal directory end r =
    demand (leb 1 r.length) 7
    (demand (leb (r.place + r.length) directory) 7
    (demand (leb (ending r) addresses) 7
    (demand (leb end r.address) 8 0)))

-- of the entries in turn
unfoldable pub entries_refusal : ℕ → ℕ → List Region → ℕ
entries_refusal directory end [] = 0
entries_refusal directory end (r ∷ rs) = first (entry_refusal directory end r) (entries_refusal directory (ending r) rs)

-- of a file; before its first region nothing ends
abbrev pub refusal : List ℕ → ℕ
refusal file =
    first (trailer_refusal (length file) (trailer file)) (entries_refusal (trailer file).directory 0 (regions file))
