-- What the frames came to that the host of a load or of a dump was handed (PROTOCOL 5, 'Host end', counts).
use Rattle.std.specs.Prelude.{ℕ, ◌+◌, Bool, ◌&&◌, ◌||◌, cond as pick, eqb, ltb}
use Rattle.counts.specs.declared.Counts.{Counts}
use Rattle.counts.specs.declared.Standing.{Standing}

-- no frame yet
abbrev pub zero : Counts
zero = record { starts = 0; advances = 0; ignored = 0; rejections = 0 }

-- all frames that were counted
abbrev pub sum : Counts → ℕ
sum c = c.starts + c.advances + c.ignored + c.rejections

-- 2^64 - 1: a record with a count as high is bad
abbrev pub top : ℕ
top = 18446744073709551615

abbrev pub below : Counts → Bool
below c = ltb c.starts top && ltb c.advances top && ltb c.ignored top && ltb c.rejections top

-- frames were ignored, if any came
abbrev pub only_ignored : Counts → Bool
only_ignored c = eqb c.starts 0 && eqb c.advances 0 && eqb c.rejections 0

-- one more of a kind
abbrev pub start : Counts → Counts
start c = record { starts = c.starts + 1; advances = c.advances; ignored = c.ignored; rejections = c.rejections }

abbrev pub advance : Counts → Counts
advance c = record { starts = c.starts; advances = c.advances + 1; ignored = c.ignored; rejections = c.rejections }

abbrev pub ignore : Counts → Counts
ignore c = record { starts = c.starts; advances = c.advances; ignored = c.ignored + 1; rejections = c.rejections }

abbrev pub reject : Counts → Counts
reject c = record { starts = c.starts; advances = c.advances; ignored = c.ignored; rejections = c.rejections + 1 }

-- the waiting is over, or the load begins again
abbrev pub begins : Standing → Standing → Bool
begins before after = ltb before.restarts after.restarts || (eqb before.waiting 1 && eqb after.waiting 0)

-- Which count a frame raises, seen from where the session stood before it and stands after it: starts if it ended the waiting or began the
-- load again; advances if more is reached; rejections if the verdict became 2; otherwise ignored. After the verdict none.
abbrev pub tally : Standing → Standing → Counts → Counts
tally before after c =
    pick (eqb before.verdict 0)
    (pick (begins before after) (start c)
    (pick (ltb before.reached after.reached) (advance c)
    (pick (eqb after.verdict 2) (reject c)
    (ignore c))))
    c

-- what a frame leaves that moves nothing: one more ignored frame, while the verdict is 0
abbrev pub passed : ℕ → Counts → Counts
passed verdict c = pick (eqb verdict 0) (ignore c) c
