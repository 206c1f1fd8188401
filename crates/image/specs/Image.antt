-- Image files cut into segments (PROTOCOL 3, 'Image files'): the segments, and what a walk over the directory finds.
-- A `Region` and a `Tally` are the code's own types.
use Rattle.std.specs.Prelude.{ℕ, zero, suc, ◌+◌, ◌-◌, ◌*◌, ◌/◌, min, cond as pick, List, [], ◌∷◌, ◌++◌, leb, ltb}
use Rattle.directory.specs.declared.Trailer.{Trailer}
use Rattle.directory.specs.declared.Region.{Region}
use Rattle.directory.specs.Directory.{regions, bytes, nowhere, demand, refusal}
use Rattle.image.specs.declared.Tally.{Tally}

-- the most bytes of a segment
abbrev pub widest : ℕ
widest = 1490

-- the refusal of a file to be cut into segments of S bytes: 10 for S comes first
abbrev pub cut_refusal : List ℕ → ℕ → ℕ
cut_refusal file S = demand (leb 1 S) 10 (demand (leb S widest) 10 (refusal file))

-- ---- segments of S bytes
-- the number of a region's parts, the last perhaps shorter
abbrev pub parts : ℕ → Region → ℕ
parts S r = (r.length + (S - 1)) / S

-- part j of a region
abbrev pub cut : ℕ → Region → ℕ → Region
cut S r j =
    record {
      address = r.address + j * S;
      place = r.place + j * S;
      length = min S (r.length - j * S);
    }

-- the bytes of parts 0 to j - 1, end to end
unfoldable pub joined : List ℕ → ℕ → Region → ℕ → List ℕ
joined file S r zero = []
joined file S r (suc j) = joined file S r j ++ bytes file (cut S r j)

-- N, the number of segments
unfoldable pub many : ℕ → List Region → ℕ
many S [] = 0
many S (r ∷ rs) = parts S r + many S rs

-- segment i, counted from 0
unfoldable pub segment : ℕ → List Region → ℕ → Region
segment S [] i = nowhere
segment S (r ∷ rs) i = pick (ltb i (parts S r)) (cut S r i) (segment S rs (i - parts S r))

-- What a segment lays into memory.
pub record Piece : Type 0 where
  pub address : ℕ
  pub bytes : List ℕ

abbrev pub segment_of : List ℕ → ℕ → ℕ → Piece
segment_of file S i =
    record { address = (segment S (regions file) i).address; bytes = bytes file (segment S (regions file) i) }

-- what `survey` finds: what the trailer says, the number of segments of S bytes, and segment i, nowhere if there is none
abbrev pub tally : Trailer → ℕ → ℕ → List Region → Tally
tally t S i rs = record { regions = t.count; transfer = t.transfer; segments = many S rs; segment = segment S rs i }
