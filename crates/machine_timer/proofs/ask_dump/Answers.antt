use mathlib.Core.Path.{refl}
use mathlib.Core.List.{[]}
use native.Mathlib.Omega.{arith}
use Rattle.octets.specs.Number.{low}
use Rattle.message.specs.Message.{request_dump_service}
use Rattle.message.specs.Write.{layout}
use Rattle.step.specs.Laws.{sent_by}
use Rattle.machine_timer.proofs.ask_dump.Goals as goal

pub returns : goal.returns
unfolding layout low
returns c = let a = c.args in
    sent_by 0 (request_dump_service a.settings.device 1 a.size 0 []) a.reply.now refl (omega arith) c.requires (c.request_dump_service.ensures 0)
