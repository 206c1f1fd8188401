-- What an end of the host does on a timer (PROTOCOL 5, 'Host end'): R repeats, then a verdict, then nothing.
use Rattle.std.specs.Prelude.{ℕ, zero, suc, ◌+◌, Bool, false, cond as pick, ltb, ◌≡◌}
use Rattle.retransmission.specs.declared.Tick.{Tick}
use Rattle.retransmission.specs.declared.Tick.TheVariants.{Nothing, Again, Over}

-- while it runs and its frame is on its way: the frame again if fewer than R repeats are used, else it is over
abbrev pub timed : {A : Type 0} → Bool → Bool → ℕ → ℕ → A → A → A → A
timed running sending repeats R again over idle = pick running (pick sending (pick (ltb repeats R) again over) idle) idle

abbrev pub ticked : Bool → Bool → ℕ → ℕ → Tick
ticked running sending repeats R = timed running sending repeats R Again Over Nothing

-- what an end with records E and next steps N promises, of which `left` is the record
pub record Retransmission {E N : Type 0} (running sending : E → Bool) (repeats sent : E → ℕ) (again over idle : E → N) (left : N → E) : Type 0 where
  pub again-repeats : (e : E) → repeats (left (again e)) ≡ repeats e + 1
  pub again-runs : (e : E) → running (left (again e)) ≡ running e
  pub again-sending : (e : E) → sending (left (again e)) ≡ sending e
  pub again-sent : (e : E) → sent (left (again e)) ≡ sent e
  pub over-ends : (e : E) → running (left (over e)) ≡ false
  pub over-sent : (e : E) → sent (left (over e)) ≡ sent e
  pub idle-stays : (e : E) → left (idle e) ≡ e

-- so many timers, one after the other
unfoldable pub timers : {E : Type 0} → (E → E) → ℕ → E → E
timers f zero e = e
timers f (suc k) e = timers f k (f e)
