-- The frames taken, against the world: `taken` is the number of the host's, and the frames on their way are among them.
use Rattle.std.specs.Prelude.{ℕ, ◌+◌, ◌≡◌, refl, ◌⊎◌, drop}
use Rattle.std.proofs.Math.Path.{ap}
use Rattle.std.proofs.Common.{sym, inr}
use mathlib.Core.List.{List, [], ◌∷◌, ◌++◌, map, append-nil}
use Rattle.std.proofs.Math.Logic.{inl}
use native.Mathlib.Omega.{arith}
use Rattle.std.proofs.Math.ListN.{length, length-append}
use Rattle.link.specs.Link.{Frame, Turn, refuses, acts, World, Ends, Own, Event, own, further, hand_to_machine, keep_to_machine, drop_to_machine, hand_to_host, keep_to_host, drop_to_host, host_timer, machine_timer, machine_turn, host_turn, on_first, counts, step, run}
use Rattle.link.specs.Taken.{Taken, from_host, from_machine, returned, on_queue, host_frames, machine_frames, Changed, Joined, takes, all_taken}

-- ---- the frames of one end: of two lists, and of those that one end sent
pub host-joined : (a b : List Taken) → host_frames (a ++ b) ≡ host_frames a ++ host_frames b
unfolding host_frames
host-joined [] b = refl
host-joined (from_host f ∷ a) b = ap (λ (q : List Frame). f ∷ q) (host-joined a b)
host-joined (from_machine f ∷ a) b = host-joined a b

machine-joined : (a b : List Taken) → machine_frames (a ++ b) ≡ machine_frames a ++ machine_frames b
unfolding machine_frames
machine-joined [] b = refl
machine-joined (from_host f ∷ a) b = machine-joined a b
machine-joined (from_machine f ∷ a) b = ap (λ (q : List Frame). f ∷ q) (machine-joined a b)

host-all : (out : List Frame) → (host_frames (map from_host out) ≡ out) × (machine_frames (map from_host out) ≡ [])
unfolding host_frames machine_frames
host-all [] = (refl, refl)
host-all (f ∷ out) = let x = host-all out in (ap (λ (q : List Frame). f ∷ q) x.0, x.1)

pub machine-all : (out : List Frame) → (machine_frames (map from_machine out) ≡ out) × (host_frames (map from_machine out) ≡ [])
unfolding host_frames machine_frames
machine-all [] = (refl, refl)
machine-all (f ∷ out) = let x = machine-all out in (ap (λ (q : List Frame). f ∷ q) x.0, x.1)

-- ---- how many there are of the host, with further events that take as many of them as they count
module _ {H M X : Type 0} (ends : Ends H M X) (more : World H M → X → List Taken)
    (counted : (w : World H M) (x : X) → (ends.further w x).taken ≡ w.taken + length (host_frames (more w x))) where
  abbrev Counts : World H M → World H M → List Taken → Type 0
  Counts w v t = v.taken ≡ w.taken + length (host_frames t)

  host-counts : (w : World H M) (n : ℕ) (q : List Frame) (t : Turn H) → Counts w (host_turn w n q t) (returned from_host t)
  unfolding host_frames
  host-counts w n q refuses = omega arith
  host-counts w n q (acts h out) = omega (arith, ap length (host-all out).0)

  machine-counts : (w : World H M) (q : List Frame) (t : Turn M) → Counts w (machine_turn w q t) (returned from_machine t)
  unfolding host_frames
  machine-counts w q refuses = omega arith
  machine-counts w q (acts m out) = omega (arith, ap length (machine-all out).1)

  first-counts : (w : World H M) (q : List Frame) (event : Frame → List Frame → World H M) (call : Frame → List Taken)
      → ((f : Frame) (r : List Frame) → Counts w (event f r) (call f)) → Counts w (on_first w q event) (on_queue q call)
  unfolding host_frames
  first-counts w [] event call e = omega arith
  first-counts w (f ∷ q) event call e = e f q

  dropped-counts : (w : World H M) (q : List Frame) (event : Frame → List Frame → World H M) → ((f : Frame) (r : List Frame) → (event f r).taken ≡ w.taken)
      → Counts w (on_first w q event) []
  unfolding host_frames
  dropped-counts w [] event e = omega arith
  dropped-counts w (f ∷ q) event e = omega (arith, e f q)

  one-event : (w : World H M) (e : Event X) → Counts w (step ends w e) (takes ends more w e)
  one-event w (own (hand_to_machine b)) = first-counts w w.to_machine _ _ (λ f q. machine-counts w q (ends.machine_frame w.machine f b))
  one-event w (own (keep_to_machine b)) = first-counts w w.to_machine _ _ (λ f q. machine-counts w (f ∷ q) (ends.machine_frame w.machine f b))
  one-event w (own drop_to_machine) = dropped-counts w w.to_machine _ (λ f q. refl)
  one-event w (own (hand_to_host b)) = first-counts w w.to_host _ _ (λ f q. host-counts w (counts ends w.host f) q (ends.host_frame w.host f b))
  one-event w (own (keep_to_host b)) = first-counts w w.to_host _ _ (λ f q. host-counts w (counts ends w.host f) (f ∷ q) (ends.host_frame w.host f b))
  one-event w (own drop_to_host) = dropped-counts w w.to_host _ (λ f q. refl)
  one-event w (own (host_timer b)) = host-counts w 0 w.to_host (ends.host_timer w.host b)
  one-event w (own (machine_timer b)) = machine-counts w w.to_machine (ends.machine_timer w.machine b)
  one-event w (further x) = counted w x

  pub as_many : (w : World H M) (es : List (Event X)) → Counts w (run ends w es) (all_taken ends more (step ends) w es)
  unfolding run all_taken host_frames
  as_many w [] = omega arith
  as_many w (e ∷ es) =
      let rest = all_taken ends more (step ends) (step ends w e) es in
      rw (host-joined (takes ends more w e) rest, length-append (host_frames (takes ends more w e)) (host_frames rest)) (omega (arith, one-event w e, as_many (step ends w e) es))

-- ---- each of the link's own events lists just what joins the queues
-- what is left of a queue: all of it, or all but the first
abbrev Rest : List Frame → List Frame → Type 0
Rest q rest = (rest ≡ q) ⊎ (rest ≡ drop 1 q)

rest-left : (q : List Frame) (f : Frame) (r : List Frame) → q ≡ f ∷ r → Rest q r
rest-left q f r e = inr (rw e)

none-joins : (q joining rest : List Frame) → joining ≡ [] → Rest q rest → Changed q joining rest
none-joins q joining rest e (inl same) = inl (rw (e, append-nil) same)
none-joins q joining rest e (inr less) = inr (e, less)

module _ {H M : Type 0} where
  unchanged : (w : World H M) → Joined [] w w
  unfolding host_frames machine_frames
  unchanged w = record { to_machine = inl (sym (append-nil w.to_machine)); to_host = inl (sym (append-nil w.to_host)) }

  -- a turn, with what is left of the queue that it is handed a frame of
  host-joins : (w : World H M) (n : ℕ) (rest : List Frame) (t : Turn H) → Rest w.to_host rest → Joined (returned from_host t) w (host_turn w n rest t)
  host-joins w n rest refuses l = unchanged w
  host-joins w n rest (acts h out) l =
      record { to_machine = inl (rw (host-all out).0); to_host = none-joins w.to_host (machine_frames (map from_host out)) rest (host-all out).1 l }

  machine-joins : (w : World H M) (rest : List Frame) (t : Turn M) → Rest w.to_machine rest → Joined (returned from_machine t) w (machine_turn w rest t)
  machine-joins w rest refuses l = unchanged w
  machine-joins w rest (acts m out) l =
      record { to_machine = none-joins w.to_machine (host_frames (map from_machine out)) rest (machine-all out).1 l; to_host = inl (rw (machine-all out).0) }

  -- an event on a queue: there is none on an empty one
  first-joins : (w : World H M) (q : List Frame) (event : Frame → List Frame → World H M) (call : Frame → List Taken)
      → ((f : Frame) (r : List Frame) → q ≡ f ∷ r → Joined (call f) w (event f r)) → Joined (on_queue q call) w (on_first w q event)
  first-joins w [] event call e = unchanged w
  first-joins w (f ∷ q) event call e = e f q refl

  -- a dropped frame is no call
  dropped-joins : (w : World H M) (q : List Frame) (event : Frame → List Frame → World H M) → ((f : Frame) (r : List Frame) → q ≡ f ∷ r → Joined [] w (event f r))
      → Joined [] w (on_first w q event)
  dropped-joins w [] event e = unchanged w
  dropped-joins w (f ∷ q) event e = e f q refl

pub own-joins : {H M X : Type 0} (ends : Ends H M X) (more : World H M → X → List Taken) (w : World H M) (e : Own) → Joined (takes ends more w (own e)) w (step ends w (own e))
unfolding host_frames machine_frames
own-joins ends more w (hand_to_machine b) =
    first-joins w w.to_machine _ _ (λ f q e. machine-joins w q (ends.machine_frame w.machine f b) (rest-left w.to_machine f q e))
own-joins ends more w (keep_to_machine b) =
    first-joins w w.to_machine _ _ (λ f q e. machine-joins w (f ∷ q) (ends.machine_frame w.machine f b) (inl (sym e)))
own-joins ends more w drop_to_machine =
    dropped-joins w w.to_machine _ (λ f q e. record { to_machine = inr (refl, rw e); to_host = (unchanged w).to_host })
own-joins ends more w (hand_to_host b) =
    first-joins w w.to_host _ _ (λ f q e. host-joins w (counts ends w.host f) q (ends.host_frame w.host f b) (rest-left w.to_host f q e))
own-joins ends more w (keep_to_host b) =
    first-joins w w.to_host _ _ (λ f q e. host-joins w (counts ends w.host f) (f ∷ q) (ends.host_frame w.host f b) (inl (sym e)))
own-joins ends more w drop_to_host =
    dropped-joins w w.to_host _ (λ f q e. record { to_machine = (unchanged w).to_machine; to_host = inr (refl, rw e) })
own-joins ends more w (host_timer b) = host-joins w 0 w.to_host (ends.host_timer w.host b) (inl refl)
own-joins ends more w (machine_timer b) = machine-joins w w.to_machine (ends.machine_timer w.machine b) (inl refl)
