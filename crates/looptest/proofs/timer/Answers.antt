use mathlib.Core.Path.{sym}
use lib.ListN.{length}
use native.Mathlib.Omega.{arith}
use Rattle.looptest_timer.specs.Laws.{timer_sent}
use Rattle.looptest.specs.Laws.{accepted}
use Rattle.looptest.proofs.timer.Goals as goal

pub overflow_add-session : goal.overflow_add-session
overflow_add-session c = let a = c.args in
    let allowed = accepted a.settings a.session.now (length a.bytes.now) (length a.reply.now) (sym c.in_ok-refusal.ensures) in
    let sent = rw (← c.on_timer-next.ensures) at (timer_sent a.settings a.session.now) in
    omega (arith, allowed)

pub goes_out-requires : goal.goes_out-requires
goes_out-requires c = let a = c.args in
    let allowed = accepted a.settings a.session.now (length a.bytes.now) (length a.reply.now) (sym c.in_ok-refusal.ensures) in
    (allowed.short, allowed.room)
