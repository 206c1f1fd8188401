-- Raising the repeats (PROTOCOL 6, 'Link'): what follows of the theorem `raised` of Repeats.antt.
--     raised-before   so it was after every beginning of the list
--     raised_load     in the paper's words: if the load with the smaller R ends finished or rejected
use Rattle.std.specs.Prelude.{ℕ, ◌≤◌, ◌≡◌, refl, List, ◌++◌, ◌⊎◌}
use Rattle.std.proofs.Common.{inl, inr, arith}
use Rattle.machine_record.specs.declared.Settings.{Settings as MachineSettings}
use Rattle.load_record.specs.declared.Settings.{Settings as LoadSettings}
use Rattle.link.specs.Link.{Event}
use Rattle.link.specs.MachineEnd.{frame_turn, timer_turn}
use Rattle.link_load.specs.Model.{Reset, on_reset, on_reset_takes, fresh_world, GivenUp, GaveUp}
use Rattle.link_load.proofs.Repeats.{raised, reached, Same, stays-given-up, reset-unmoved}

module _ (s : LoadSettings) (ms : MachineSettings) (file string old : List ℕ) (R R' : ℕ) (larger : R ≤ R') (most : R' ≤ 255) where
  -- And so it was after every beginning of the list: es is the beginning, fs the rest.
  pub raised-before : (es fs : List (Event (Reset s))) → (GaveUp (reached s ms file string old R R' larger most R (es ++ fs)).host → ⊥) → Same s ms file string old R R' larger most es
  raised-before es fs not-given-up =
      raised s ms file string old R R' larger most es (λ o. not-given-up (stays-given-up s file string (frame_turn ms) (timer_turn ms) (on_reset ms) (reset-unmoved ms) (on_reset_takes ms) R R' (omega (arith, larger)) (omega (arith, most)) (fresh_world ms old) refl es fs o))

  -- In particular where the load with R ended finished or rejected.
  pub raised_load : (es : List (Event (Reset s))) → ((reached s ms file string old R R' larger most R es).host.verdict ≡ 1) ⊎ ((reached s ms file string old R R' larger most R es).host.verdict ≡ 2) → Same s ms file string old R R' larger most es
  raised_load es ended = raised s ms file string old R R' larger most es (neither (reached s ms file string old R R' larger most R es).host.verdict ended)
    where
      neither : (v : ℕ) → (v ≡ 1) ⊎ (v ≡ 2) → GivenUp v → ⊥
      neither v (inl e) (inl u) = omega arith
      neither v (inl e) (inr u) = omega arith
      neither v (inr e) (inl u) = omega arith
      neither v (inr e) (inr u) = omega arith
