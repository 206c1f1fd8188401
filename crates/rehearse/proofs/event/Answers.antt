use Rattle.job.specs.Run.{run}
use Rattle.rehearse.specs.Laws.{host-event}
use Rattle.rehearse.proofs.event.Goals as goal

pub returns-then-host_sends : goal.returns-then-host_sends
returns-then-host_sends c = let a = c.args in
    host-event a.setup a.file.now (run a.ends a.memory.now a.host_places.now a.machine_places.now a.reply.now) a.letter c.act-moved-then-host_sends.result c.left-then-host_sends.result c.machine_sends.ensures c.if-machine_sends.false c.host_sends.ensures c.if-host_sends.true (c.act-moved-then-host_sends.ensures a.memory.now) c.left-then-host_sends.ensures
