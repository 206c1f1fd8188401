-- Laws of a loop test's decision on a timer: those of every end that retransmits.
use Rattle.std.specs.Prelude.{ℕ, suc, ◌+◌, ◌≡◌, refl, true, false, eqb}
use Rattle.looptest_record.specs.declared.Settings.{Settings}
use Rattle.looptest_record.specs.declared.Session.{Session}
use Rattle.looptest_record.specs.Record.{ended, repeated}
use Rattle.looptest_timer.specs.declared.Next.{Next}
use Rattle.looptest_timer.specs.Timer.{waits, again, on_timer}
use Rattle.retransmission.specs.Retransmission.{Retransmission, timers}
use Rattle.retransmission.specs.Laws.{keeps-sent, spent}

-- a loop test's frame is always on its way
kept : Retransmission (λ (h : Session). eqb h.verdict 0) (λ _. true) (λ h. h.repeats) (λ h. h.sent) (λ h. again (repeated h)) (λ h. waits (ended h 3)) waits (λ (n : Next). n.session)
kept =
    record {
      again-repeats = λ e. refl;
      again-runs = λ e. refl;
      again-sending = λ e. refl;
      again-sent = λ e. refl;
      over-ends = λ e. refl;
      over-sent = λ e. refl;
      idle-stays = λ e. refl;
    }

-- a timer leaves the count of frames
pub timer_sent : (s : Settings) (h : Session) → (on_timer s h).session.sent ≡ h.sent
timer_sent s = keeps-sent kept s.repeats

-- with k repeats left it has a verdict k + 1 timers later
pub timer_spent : (s : Settings) (k : ℕ) (h : Session) → eqb h.verdict 0 ≡ true → h.repeats + k ≡ s.repeats
    → eqb (timers (λ (x : Session). (on_timer s x).session) (suc k) h).verdict 0 ≡ false
timer_spent s k h v e = spent kept s.repeats k h v refl e
