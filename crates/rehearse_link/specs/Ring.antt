-- The frames that wait in a queue of 16 places, as the link has them: a list, the front first.
use Rattle.std.specs.Prelude.{ℕ, zero, suc, ◌+◌, ◌%◌, ◌≤◌, ◌<◌, ◌≡◌, List, [], ◌∷◌, length, get_or, take}
use Rattle.queue.specs.declared.Queue.{Queue}

-- n frames from a place of the ring on
unfoldable pub frames_from : List ℕ → List (List ℕ) → ℕ → ℕ → List (List ℕ)
frames_from lengths places at zero = []
frames_from lengths places at (suc n) =
    take (get_or lengths (at % 16) 0) (get_or places (at % 16) []) ∷ frames_from lengths places (at + 1) n

abbrev pub frames : Queue → List (List ℕ) → List (List ℕ)
frames q places = frames_from q.lengths places q.first q.many

-- A ring: 16 places of 1,500 bytes, 16 lengths, at most 16 frames.
pub record Ring (q : Queue) (places : List (List ℕ)) : Type 0 where
  pub few : q.many ≤ 16
  pub all_lengths : length q.lengths ≡ 16
  pub all-places : length places ≡ 16
  pub wide : (p : ℕ) → p < 16 → length (get_or places p []) ≡ 1500
