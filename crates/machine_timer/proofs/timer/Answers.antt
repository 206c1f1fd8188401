use Rattle.std.proofs.Common.{sym, length}
use Rattle.machine_checks.specs.Laws.{in_range}
use Rattle.machine_timer.proofs.timer.Goals as goal

pub on_timer-requires-clause-size_bound : goal.on_timer-requires-clause-size_bound
on_timer-requires-clause-size_bound c = let a = c.args in
    (in_range a.settings a.machine (length a.memory.now) (length a.reply.now) (sym c.in_ok-refusal.ensures)).0

pub on_timer-requires-clause-in_bounds : goal.on_timer-requires-clause-in_bounds
on_timer-requires-clause-in_bounds c = let a = c.args in
    (in_range a.settings a.machine (length a.memory.now) (length a.reply.now) (sym c.in_ok-refusal.ensures)).2
