-- A line whose queues hold at most n frames each. It takes the link's own steps; a frame that finds its queue full is lost, though the line
-- has taken it.
use Rattle.std.specs.Prelude.{ℕ, ◌≡◌, List, [], ◌∷◌, take}
use Rattle.link.specs.Link.{World, Ends, Event, step, with_to_machine, with_to_host}

module _ {H M : Type 0} where
  -- of each queue the first n frames
  abbrev pub within : ℕ → World H M → World H M
  within n w = with_to_host (with_to_machine w (take n w.to_machine)) (take n w.to_host)

  -- one event
  abbrev pub step_within : {X : Type 0} → ℕ → Ends H M X → World H M → Event X → World H M
  step_within n ends w e = within n (step ends w e)

  -- a whole list of events, in turn
  unfoldable pub run_within : {X : Type 0} → ℕ → Ends H M X → World H M → List (Event X) → World H M
  run_within n ends w [] = w
  run_within n ends w (e ∷ es) = run_within n ends (step_within n ends w e) es

  -- the ends and what the link counts are the same; of the queues nothing is said
  abbrev pub Alike : World H M → World H M → Type 0
  Alike w v = (w.host ≡ v.host) × (w.machine ≡ v.machine) × (w.taken ≡ v.taken) × (w.heard ≡ v.heard)
