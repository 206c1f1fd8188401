-- What 'never refused' says of a world (PROTOCOL 7, 'Refusals').
use Rattle.std.specs.Prelude.{ℕ, ◌≤◌, ◌≡◌, List, ◌∷◌, length}
use Rattle.link.specs.Link.{Frame, refuses, World, Ends}

-- With a reply buffer of at least 1,500 bytes no call of either end is refused: on the first frame of its queue, or on a timer.
pub record Unrefused {H M X : Type 0} (ends : Ends H M X) (w : World H M) : Type 0 where
  pub host_frame : (f : Frame) (q : List Frame) (b : List ℕ) → w.to_host ≡ f ∷ q → 1500 ≤ length b → ends.host_frame w.host f b ≡ refuses → ⊥
  pub host_timer : (b : List ℕ) → 1500 ≤ length b → ends.host_timer w.host b ≡ refuses → ⊥
  pub machine_frame : (f : Frame) (q : List Frame) (b : List ℕ) → w.to_machine ≡ f ∷ q → 1500 ≤ length b → ends.machine_frame w.machine f b ≡ refuses → ⊥
  pub machine_timer : (b : List ℕ) → 1500 ≤ length b → ends.machine_timer w.machine b ≡ refuses → ⊥
