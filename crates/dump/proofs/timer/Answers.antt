use mathlib.Core.Path.{sym}
use lib.ListN.{length}
use Rattle.step.specs.Laws.{call-accepted}
use Rattle.dump_timer.specs.Timer.{on_timer}
use Rattle.dump.specs.Dump.{does}
use Rattle.dump_checks.proofs.Laws.{accepted}
use Rattle.dump.specs.Laws.{ready_timer}
use Rattle.dump.proofs.timer.Goals as goal

pub tell-requires : goal.tell-requires
tell-requires c = let a = c.args in
    let none = sym c.in_ok-refusal.ensures in
    let allowed = accepted a.settings a.session.now (length a.buffer.now) (length a.reply.now) none in
    rw c.on_timer-next.ensures (ready_timer a.settings a.session.now _ _ allowed)

pub returns : goal.returns
returns c = let a = c.args in
    let none = sym c.in_ok-refusal.ensures in
    call-accepted _ a.session.now a.buffer.now a.reply.now (does a.settings (on_timer a.settings a.session.now) a.buffer.now) none
    (rw c.on_timer-next.ensures at c.tell.ensures a.buffer.now)
