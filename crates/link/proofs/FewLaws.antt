-- No more frames are heard than there are events.
use Rattle.std.specs.Prelude.{ℕ, ◌+◌, ◌≤◌, length}
use mathlib.Core.List.{List, [], ◌∷◌}
use native.Mathlib.Omega.{arith}
use Rattle.octets.specs.TestLaws.{by_cases}
use Rattle.link.specs.Link.{Frame, Turn, refuses, acts, World, Ends, Event, own, further, hand_to_machine, keep_to_machine, drop_to_machine, hand_to_host, keep_to_host, drop_to_host, host_timer, machine_timer, machine_turn, host_turn, on_first, counts, step, run}
use Rattle.link.specs.Bounded.{step_within, run_within}

-- with further events that hand over no more than one either
module _ {H M X : Type 0} (ends : Ends H M X) (more : (w : World H M) (x : X) → (ends.further w x).heard ≤ w.heard + 1) where
  at_most_one : (h : H) (f : Frame) → counts ends h f ≤ 1
  at_most_one h f = by_cases (λ (n : ℕ). n ≤ 1) (ends.hears h f) (λ _. omega arith) (λ _. omega arith)

  host-turn : (w : World H M) (n : ℕ) (q : List Frame) (t : Turn H) → n ≤ 1 → (host_turn w n q t).heard ≤ w.heard + 1
  host-turn w n q refuses l = omega arith
  host-turn w n q (acts h out) l = omega arith

  machine-turn : (w : World H M) (q : List Frame) (t : Turn M) → (machine_turn w q t).heard ≤ w.heard + 1
  machine-turn w q refuses = omega arith
  machine-turn w q (acts m out) = omega arith

  on_first_lem : (w : World H M) (q : List Frame) (event : Frame → List Frame → World H M) → ((f : Frame) (r : List Frame) → (event f r).heard ≤ w.heard + 1)
      → (on_first w q event).heard ≤ w.heard + 1
  on_first_lem w [] event l = omega arith
  on_first_lem w (f ∷ q) event l = l f q

  one-event : (w : World H M) (e : Event X) → (step ends w e).heard ≤ w.heard + 1
  one-event w (own (hand_to_machine b)) = on_first_lem w w.to_machine _ (λ f q. machine-turn w q (ends.machine_frame w.machine f b))
  one-event w (own (keep_to_machine b)) = on_first_lem w w.to_machine _ (λ f q. machine-turn w (f ∷ q) (ends.machine_frame w.machine f b))
  one-event w (own drop_to_machine) = on_first_lem w w.to_machine _ (λ f q. omega arith)
  one-event w (own (hand_to_host b)) = on_first_lem w w.to_host _ (λ f q. host-turn w _ q (ends.host_frame w.host f b) (at_most_one w.host f))
  one-event w (own (keep_to_host b)) = on_first_lem w w.to_host _ (λ f q. host-turn w _ (f ∷ q) (ends.host_frame w.host f b) (at_most_one w.host f))
  one-event w (own drop_to_host) = on_first_lem w w.to_host _ (λ f q. omega arith)
  one-event w (own (host_timer b)) = host-turn w 0 w.to_host (ends.host_timer w.host b) (omega arith)
  one-event w (own (machine_timer b)) = machine-turn w w.to_machine (ends.machine_timer w.machine b)
  one-event w (further x) = more w x

  -- of a list of events each hands over one at most
  pub few : (w : World H M) (es : List (Event X)) → (run ends w es).heard ≤ w.heard + length es
  unfolding run
  few w [] = omega arith
  few w (e ∷ es) = omega (arith, one-event w e, few (step ends w e) es)

  pub few-within : (n : ℕ) (w : World H M) (es : List (Event X)) → (run_within n ends w es).heard ≤ w.heard + length es
  unfolding run_within
  few-within n w [] = omega arith
  few-within n w (e ∷ es) = omega (arith, one-event w e, few-within n (step_within n ends w e) es)
