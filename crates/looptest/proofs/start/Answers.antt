use mathlib.Core.Path.{sym}
use lib.ListN.{length}
use Rattle.looptest.specs.Loop.{begun}
use Rattle.looptest.specs.Laws.{accepted}
use Rattle.looptest.proofs.start.Goals as goal

pub goes_out-requires : goal.goes_out-requires
goes_out-requires c = let a = c.args in
    let allowed = accepted a.settings begun (length a.bytes.now) (length a.reply.now) (sym (rw c.begun.ensures at c.in_ok-refusal.ensures)) in
    (allowed.short, allowed.room)
