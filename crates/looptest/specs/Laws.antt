-- Laws of a loop test's calls: what an accepted call has, and the ways through a timer.
use Rattle.std.specs.Prelude.{ℕ, ◌+◌, ◌≤◌, ◌≡◌, refl, true, false, ◌&&◌, List, [], ◌∷◌, length, leb}
use Rattle.std.proofs.Common.{arith, leb-true}
use Rattle.buffer.specs.declared.Written.{Written}
use Rattle.octets.specs.TestLaws.{both}
use Rattle.buffer.specs.Lay.{written}
use Rattle.version.specs.Version.{known}
use Rattle.step.specs.Step.{unless, gives, Leaves}
use Rattle.step.specs.Laws.{met, none, call-accepted}
use Rattle.looptest_record.specs.declared.Settings.{Settings}
use Rattle.looptest_record.specs.declared.Session.{Session}
use Rattle.looptest_timer.specs.declared.Next.{Next}
use Rattle.looptest_timer.specs.Timer.{on_timer}
use Rattle.looptest.specs.Loop.{settled, sound, refusal, counted, goes_out, does, loop_timer}

-- What an accepted call has, so that its frame fits and its count does not overflow.
pub record Accepted (h : Session) (size free : ℕ) : Type 0 where
  pub short : size ≤ 1497
  pub sent : h.sent ≤ 256
  pub room : 1500 ≤ free

pub accepted : (s : Settings) (h : Session) (size room : ℕ) → refusal s h size room ≡ 0 → Accepted h size room
accepted s h size room e =
    let first = none (unless (settled s size) 10) (unless (sound s h) 10 ∷ unless (leb 1500 room) 9 ∷ []) e in
    let second = none (unless (sound s h) 10) (unless (leb 1500 room) 9 ∷ []) first.1 in
    let third = none (unless (leb 1500 room) 9) [] second.1 in
    let ranges = both (leb s.repeats 255) (leb size 1497) (both _ (known s.version) (met (settled s size) 10 (omega arith) first.0)).0 in
    let counts = both (leb h.verdict 3 && leb h.repeats s.repeats) (leb h.sent (s.repeats + 1)) (met (sound s h) 10 (omega arith) second.0) in
    let few = leb-true s.repeats 255 ranges.0 in
    let most = leb-true h.sent (s.repeats + 1) counts.1 in
    record {
      short = leb-true size 1497 ranges.1;
      sent = omega arith;
      room = leb-true 1500 room (met (leb 1500 room) 9 (omega arith) third.0);
    }

-- a timer that is not refused: nothing goes out, or the test's frame does
module _ (s : Settings) (h : Session) (bytes reply : List ℕ) (n : Next) (z : refusal s h (length bytes) (length reply) ≡ 0) (e : n ≡ on_timer s h) where
  timed : {end : Session} {answer : Written} {reply' : List ℕ} → Leaves (gives (does s n bytes) reply) end answer tt reply'
      → Leaves (loop_timer s h bytes reply) end answer tt reply'
  timed l = call-accepted _ h tt reply (does s (on_timer s h) bytes) z (rw e at l)

  pub timer_waits : n.sends ≡ false → Leaves (loop_timer s h bytes reply) n.session (written 0) tt reply
  timer_waits f = timed (rw f (refl, refl, refl, refl))

  pub timer_again : {end : Session} {answer : Written} {reply' : List ℕ} → n.sends ≡ true
      → Leaves (gives (goes_out s (counted n.session) bytes) reply) end answer tt reply' → Leaves (loop_timer s h bytes reply) end answer tt reply'
  timer_again t l = timed (rw t l)
