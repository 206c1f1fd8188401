use Rattle.host_turns.proofs.act.Goals as goal

pub returns-then-timer : goal.returns-then-timer
returns-then-timer c = λ memory. rw c.if-timer.true (c.on_timer.ensures memory c.args.machine_places.now)

pub returns : goal.returns
returns c = λ memory. rw c.if-timer.false (c.on_frame.ensures memory)
