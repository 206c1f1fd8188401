-- The walk over the directory: what it answers, and how it keeps the place of the segment looked for.
use Rattle.std.specs.Prelude.{ℕ, ◌+◌, ◌-◌, ◌≤◌, ◌<◌, cond as pick, List, Result, length, leb, ltb}
use Rattle.directory.specs.declared.Trailer.{Trailer}
use Rattle.directory.specs.declared.Region.{Region}
use Rattle.directory.specs.Directory.{addresses, entry_at, entries, entries_refusal, ending, nowhere}
use Rattle.image.specs.Image.{parts, cut, many, segment}
use Rattle.refusal.specs.declared.Refusal.{Refusal}
use Rattle.refusal.specs.Refusal.{Answers}
use Rattle.image.specs.declared.Reach.{Reach}

-- the entries that a trailer points at
abbrev pub Walked : List ℕ → Trailer → ℕ → ℕ → Result (ℕ × Region) Refusal → Type 0
Walked file t S i answer =
    let rs = entries file t.directory t.count in
    Answers answer (entries_refusal t.directory 0 rs) (many S rs, segment S rs i)

-- once a region is passed whose entry is at a place and whose first segment has the index m, i being looked for
abbrev pub reaching : Reach → ℕ → ℕ → ℕ → Reach
reaching x at m i = pick (leb m i) (record { at = at; first = m }) x

-- the region reached, and the segment looked for, of n
abbrev pub region : List ℕ → Reach → Region
region file x = entry_at file x.at

abbrev pub part_of : List ℕ → ℕ → Reach → ℕ → ℕ → Region
part_of file S x n i = pick (ltb i n) (cut S (region file x) (i - x.first)) nowhere

-- segment i is a part of the region reached, whose entry stands in the file, and whose bytes and addresses are in range
pub record Reached (file : List ℕ) (S i : ℕ) (x : Reach) : Type 0 where
  pub entry : x.at + 12 ≤ length file
  pub begun : x.first ≤ i
  pub inside : i < x.first + parts S (region file x)
  pub within : (region file x).place + (region file x).length ≤ addresses
  pub below : ending (region file x) ≤ addresses
