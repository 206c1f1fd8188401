-- The turns of an event, and the frame that leaves, are its step.
use Rattle.std.specs.Prelude.{ℕ, ◌≡◌, refl, List, Bool, true, false, eqb}
use Rattle.std.proofs.Common.{ap, sym, subst, ◌∙◌, eqb-true, ne_eqb}
use Rattle.std.proofs.lemmas.Bool.{eqb-false}
use Rattle.job.specs.declared.Setup.{Setup}
use Rattle.job.specs.declared.Moved.{Moved}
use Rattle.job.specs.Run.{Run, Step, run, fresh_ends, host_sends, Left}
use Rattle.host_turns.specs.Turns.{host_turn}
use Rattle.machine_turns.specs.Turns.{machine_turn}
use Rattle.rehearse.specs.Inner.{machine_sends, turn, leaving, afterwards}
use Rattle.rehearse.specs.Rehearse.{with, still, event, begin}

-- a number that is one, or is not
either_by : (P : ℕ → Type 0) (n k : ℕ) (b : Bool) → eqb n k ≡ b → P k → ((n ≡ k → ⊥) → P n) → P n
either_by P n k true e f g = subst P (sym (eqb-true n k e)) f
either_by P n k false e f g = g (eqb-false n k e)

either : (P : ℕ → Type 0) (n k : ℕ) → P k → ((n ≡ k → ⊥) → P n) → P n
either P n k = either_by P n k (eqb n k) refl

-- the turn, then the frame that leaves: the event
pub is-event : (s : Setup) (file : List ℕ) (w : Run) (letter : ℕ)
    → with (turn s file w letter) (leaving letter (turn s file w letter).run.ends) ≡ event s file w letter
is-event s file w letter =
    let P : ℕ → Type 0 = λ n. with (turn s file w n) (leaving n (turn s file w n).run.ends) ≡ event s file w n in
    either P letter 104 refl (λ h. either P letter 107 refl (λ k. either P letter 120 refl (λ x. either P letter 116 refl
    (λ t. either P letter 117 refl (λ u. either P letter 121 refl (λ y. either P letter 109 refl (λ m. either P letter 110 refl
    (λ n. rw (ne_eqb letter 104 h, ne_eqb letter 107 k, ne_eqb letter 120 x, ne_eqb letter 116 t, ne_eqb letter 117 u, ne_eqb letter 121 y, ne_eqb letter 109 m, ne_eqb letter 110 n)))))))))

-- the ways through an event: a turn of the machine, of the host, of none; and the frame that leaves
module _ (s : Setup) (file : List ℕ) (w : Run) (letter : ℕ) where
  ended : (m r : Moved) {memory : List ℕ} {hosts machines : List (List ℕ)} {reply : List ℕ}
      → Left (turn s file w letter) m.ends m.sent memory hosts machines reply → r ≡ afterwards letter m
      → Left (event s file w letter) r.ends r.sent memory hosts machines reply
  ended m r {memory} {hosts} {machines} {reply} l e =
      subst (λ (t : Step). Left t r.ends r.sent memory hosts machines reply) (is-event s file w letter)
      (ap (λ (x : Moved). x.ends) e ∙ ap (leaving letter) l.0, ap (λ (x : Moved). x.sent) e ∙ l.1, l.2, l.3, l.4, l.5)

  module _ (m r : Moved) {memory : List ℕ} {hosts machines : List (List ℕ)} {reply : List ℕ} {a : Bool} (e : a ≡ machine_sends letter) where
    pub machine-event : a ≡ true → Left (machine_turn s.machine w (eqb letter 110)) m.ends m.sent memory hosts machines reply → r ≡ afterwards letter m
        → Left (event s file w letter) r.ends r.sent memory hosts machines reply
    machine-event h l = ended m r (rw (← e, h) l)

    module _ (n : a ≡ false) {b : Bool} (g : b ≡ host_sends letter) where
      pub host-event : b ≡ true → Left (host_turn s.host file w (eqb letter 109)) m.ends m.sent memory hosts machines reply → r ≡ afterwards letter m
          → Left (event s file w letter) r.ends r.sent memory hosts machines reply
      host-event h l = ended m r (rw (← e, n, ← g, h) l)

      pub no_turn : b ≡ false → Left (still w) m.ends m.sent memory hosts machines reply → r ≡ afterwards letter m
          → Left (event s file w letter) r.ends r.sent memory hosts machines reply
      no_turn h l = ended m r (rw (← e, n, ← g, h) l)

-- the first step is the machine's timer, n, on the fresh ends
pub begins : (s : Setup) (file memory : List ℕ) (hosts machines : List (List ℕ)) (reply : List ℕ)
    → begin s (run fresh_ends memory hosts machines reply) ≡ event s file (run fresh_ends memory hosts machines reply) 110
begins s file memory hosts machines reply = refl
