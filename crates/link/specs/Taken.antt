-- Every frame that the link takes from its ends, in the order in which it takes them: what a list of events does, as seen on the line. It is a
-- function of the run and no part of the world.
use Rattle.std.specs.Prelude.{ℕ, ◌≡◌, List, [], ◌∷◌, ◌++◌, map, ◌⊎◌, drop}
use Rattle.link.specs.Link.{Frame, Turn, refuses, acts, World, Ends, Own, Event, own, further, hand_to_machine, keep_to_machine, drop_to_machine, hand_to_host, keep_to_host, drop_to_host, host_timer, machine_timer, step, run}
use Rattle.link.specs.Bounded.{step_within, run_within}

-- A frame that the link took, and the end that sent it.
pub data Taken : Type 0 where
  from_host : Frame → Taken
  from_machine : Frame → Taken

-- what a call returns; a refused one returns nothing
abbrev pub returned : {E : Type 0} → (Frame → Taken) → Turn E → List Taken
returned from refuses = []
returned from (acts e out) = map from out

-- what an end returns on the first frame of a queue; on an empty queue there is no call
abbrev pub on_queue : List Frame → (Frame → List Taken) → List Taken
on_queue [] call = []
on_queue (f ∷ q) call = call f

-- the frames of each end among them
unfoldable pub host_frames : List Taken → List Frame
host_frames [] = []
host_frames (from_host f ∷ rest) = f ∷ host_frames rest
host_frames (from_machine f ∷ rest) = host_frames rest

unfoldable pub machine_frames : List Taken → List Frame
machine_frames [] = []
machine_frames (from_host f ∷ rest) = machine_frames rest
machine_frames (from_machine f ∷ rest) = f ∷ machine_frames rest

-- What an event makes of a queue: frames join it at its back, or none does and its first frame leaves it.
abbrev pub Changed : List Frame → List Frame → List Frame → Type 0
Changed queue joining after = (after ≡ queue ++ joining) ⊎ ((joining ≡ []) × (after ≡ drop 1 queue))

-- Just these frames joined the queues from one world to another: the host's the one to the machine, the machine's the one to the host.
pub record Joined {H M : Type 0} (all : List Taken) (w v : World H M) : Type 0 where
  pub to_machine : Changed w.to_machine (host_frames all) v.to_machine
  pub to_host : Changed w.to_host (machine_frames all) v.to_host

-- `more` is what the link takes in a further event
module _ {H M X : Type 0} (ends : Ends H M X) (more : World H M → X → List Taken) where
  abbrev pub own_takes : World H M → Own → List Taken
  own_takes w (hand_to_machine b) = on_queue w.to_machine (λ f. returned from_machine (ends.machine_frame w.machine f b))
  own_takes w (keep_to_machine b) = on_queue w.to_machine (λ f. returned from_machine (ends.machine_frame w.machine f b))
  own_takes w drop_to_machine = []
  own_takes w (hand_to_host b) = on_queue w.to_host (λ f. returned from_host (ends.host_frame w.host f b))
  own_takes w (keep_to_host b) = on_queue w.to_host (λ f. returned from_host (ends.host_frame w.host f b))
  own_takes w drop_to_host = []
  own_takes w (host_timer b) = returned from_host (ends.host_timer w.host b)
  own_takes w (machine_timer b) = returned from_machine (ends.machine_timer w.machine b)

  abbrev pub takes : World H M → Event X → List Taken
  takes w (own e) = own_takes w e
  takes w (further x) = more w x

  -- in a whole list of events; `go` is what one event makes of the world
  unfoldable pub all_taken : (World H M → Event X → World H M) → World H M → List (Event X) → List Taken
  all_taken go w [] = []
  all_taken go w (e ∷ es) = takes w e ++ all_taken go (go w e) es

-- Two runs of one list come to the same: the same world, and the same frames taken, in the same order.
module _ {H M X : Type 0} (ends other : Ends H M X) (more : World H M → X → List Taken) (w : World H M) (es : List (Event X)) where
  abbrev pub SameRun : Type 0
  SameRun = (run ends w es ≡ run other w es) × (all_taken ends more (step ends) w es ≡ all_taken other more (step other) w es)

  -- on a line whose queues hold at most n frames
  abbrev pub SameWithin : ℕ → Type 0
  SameWithin n =
      (run_within n ends w es ≡ run_within n other w es) × (all_taken ends more (step_within n ends) w es ≡ all_taken other more (step_within n other) w es)
