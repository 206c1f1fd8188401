-- What is answered of an image file and of one of its segments (PROTOCOL 3, 'Image files'). The answers are the code's own types.
use Rattle.std.specs.Prelude.{ℕ, ◌+◌, cond as pick, List, Result, Ok, Err, eqb, ltb}
use Rattle.directory.specs.declared.Region.{Region}
use Rattle.directory.specs.Directory.{trailer, regions}
use Rattle.image.specs.Image.{cut_refusal, many, segment}
use Rattle.image.specs.declared.Tally.{Tally}
use Rattle.refusal.specs.declared.Refusal.{Refusal}
use Rattle.refusal.specs.Refusal.{number}
use Rattle.segments.specs.declared.Found.{Found}
use Rattle.segments.specs.declared.Image.{Image}
use Rattle.segments.specs.declared.Segment.{Segment}

abbrev pub no_segment : ℕ → Segment
no_segment n = record { at = 0; length = 0; address = 0; last = 0; refusal = n }

-- the answers in numbers, as C sees them
abbrev pub image_of : Result Tally Refusal → Image
image_of (Ok a) = record { segments = a.segments; transfer = a.transfer; regions = a.regions; refusal = 0 }
image_of (Err r) = record { segments = 0; transfer = 0; regions = 0; refusal = number r }

abbrev pub segment_of : Result Found Refusal → Segment
segment_of (Ok s) = record { at = s.at; length = s.length; address = s.address; last = pick s.last 1 0; refusal = 0 }
segment_of (Err r) = no_segment (number r)

-- what `check` answers
abbrev pub checked : List ℕ → ℕ → Image
checked file S =
    pick (eqb (cut_refusal file S) 0)
    (record { segments = many S (regions file); transfer = (trailer file).transfer; regions = (trailer file).count; refusal = 0 })
    (record { segments = 0; transfer = 0; regions = 0; refusal = cut_refusal file S })

-- segment i of n: the last is the one before n
abbrev pub found_as : ℕ → ℕ → Region → Segment
found_as n i r =
    record { at = r.place; length = r.length; address = r.address; last = pick (eqb (i + 1) n) 1 0; refusal = 0 }

-- what `find` answers: 10 for an index that is not below N comes last
abbrev pub found : List ℕ → ℕ → ℕ → Segment
found file S i =
    pick (eqb (cut_refusal file S) 0)
    (pick (ltb i (many S (regions file)))
    (found_as (many S (regions file)) i (segment S (regions file) i))
    (no_segment 10))
    (no_segment (cut_refusal file S))
