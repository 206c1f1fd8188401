use Rattle.machine_turns.proofs.act.Goals as goal

pub returns-then-timer : goal.returns-then-timer
returns-then-timer c = rw c.if-timer.true (c.on_timer.ensures c.args.host_places.now)
