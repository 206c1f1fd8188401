-- Image files as they were checked before, when the entry count had 2 bytes and then 2 that had to be zero (PROTOCOL 3, 'Files made
-- earlier'). Kept for the statements of proofs/Theorem.antt: nothing else rests on it.
use Rattle.std.specs.Prelude.{ℕ, ◌+◌, ◌-◌, ◌*◌, ◌≡◌, List, length, drop, eqb, leb}
use Rattle.octets.specs.Number.{word}
use Rattle.directory.specs.declared.Trailer.{Trailer}
use Rattle.directory.specs.declared.Region.{Region}
use Rattle.directory.specs.Directory.{trailer, entries, regions, demand, first, entries_refusal}
use Rattle.image.specs.Image.{widest, cut_refusal, many, segment}

-- the most entries of a directory
abbrev pub most_before : ℕ
most_before = 64

-- directory offset 4, entry count 2, zero 2, transfer address 4, file length 4
abbrev pub trailer_before : List ℕ → Trailer
trailer_before file =
    let s = drop (length file - 16) file in
    record { directory = word 4 s 0; count = word 2 s 4; transfer = word 4 s 8; length = word 4 s 12 }

abbrev pub zero_before : List ℕ → ℕ
zero_before file = word 2 (drop (length file - 16) file) 6

-- the regions, in directory order
abbrev pub regions_before : List ℕ → List Region
regions_before file = entries file (trailer_before file).directory (trailer_before file).count

-- 5 and 6, of a file of n bytes with this trailer and zero field
abbrev pub trailer_refusal_before : ℕ → Trailer → ℕ → ℕ
trailer_refusal_before n t z =
    demand (leb 16 n) 5
    (demand (leb n 16777216) 5
    (demand (eqb t.length n) 5
    (demand (eqb z 0) 5
    (demand (leb 1 t.count) 6
    (demand (leb t.count most_before) 6
    (demand (eqb (t.directory + 12 * t.count + 16) n) 6 0))))))

-- of a file; the entries' own refusals, 7 and 8, were what they are
abbrev pub refusal_before : List ℕ → ℕ
refusal_before file =
    first (trailer_refusal_before (length file) (trailer_before file) (zero_before file))
    (entries_refusal (trailer_before file).directory 0 (regions_before file))

abbrev pub cut_refusal_before : List ℕ → ℕ → ℕ
cut_refusal_before file S = demand (leb 1 S) 10 (demand (leb S widest) 10 (refusal_before file))

-- a file that was accepted is accepted, and read to the same regions, transfer address and segments
pub record Unchanged (file : List ℕ) (S : ℕ) : Type 0 where
  pub accepted : cut_refusal file S ≡ 0
  pub regions_are : regions file ≡ regions_before file
  pub transfer-is : (trailer file).transfer ≡ (trailer_before file).transfer
  pub number_is : many S (regions file) ≡ many S (regions_before file)
  pub segments_are : (i : ℕ) → segment S (regions file) i ≡ segment S (regions_before file) i
