-- A queue's places (PROTOCOL 8, 'Rehearsal'): 16 places in a ring. The definitions hold for any record.
use Rattle.std.specs.Prelude.{ℕ, ◌+◌, ◌-◌, ◌%◌, Bool, cond as pick, List, [], length, get_or, set, take, replicate, eqb, leb}
use Rattle.buffer.specs.Lay.{put}
use Rattle.queue.specs.declared.Queue.{Queue}

-- no frame waits
abbrev pub empty : Queue
empty = record { first = 0; many = 0; lengths = replicate 16 0 }

abbrev pub is_full : Queue → Bool
is_full q = leb 16 q.many

-- the place in front
abbrev pub front : Queue → ℕ
front q = q.first % 16

-- the place behind the last frame
abbrev pub free : Queue → ℕ
free q = (q.first % 16 + q.many % 16) % 16

-- the length of the frame in front; 0 if none waits
abbrev pub length_of : Queue → ℕ
length_of q = pick (eqb q.many 0) 0 (get_or q.lengths (front q) 0)

-- the frame in the free place joins; a full queue drops the newest frame
abbrev pub join : Queue → ℕ → Queue
join q n = pick (is_full q) q (record { first = q.first; many = q.many + 1; lengths = set q.lengths (free q) n })

-- the frame in front leaves
abbrev pub leave : Queue → Queue
leave q = pick (eqb q.many 0) q (record { first = (q.first % 16 + 1) % 16; many = q.many - 1; lengths = q.lengths })

-- the frame in front; no bytes if none waits
abbrev pub first : Queue → List (List ℕ) → List ℕ
first q places = take (length_of q) (get_or places (front q) [])

-- the places with a frame in the free one; a full queue keeps them as they are
abbrev pub stored : Queue → List ℕ → List (List ℕ) → List (List ℕ)
stored q frame places = pick (is_full q) places (set places (free q) (put frame 0 (get_or places (free q) [])))

-- ---- a frame that an end sent joins; no bytes are no frame
abbrev pub sent : Queue → List ℕ → Queue
sent q frame = pick (eqb (length frame) 0) q (join q (length frame))

abbrev pub keeps : Queue → List ℕ → List (List ℕ) → List (List ℕ)
keeps q frame places = pick (eqb (length frame) 0) places (stored q frame places)
