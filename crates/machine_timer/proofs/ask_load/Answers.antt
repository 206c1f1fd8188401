use mathlib.Core.Path.{refl}
use mathlib.Core.List.{[]}
use native.Mathlib.Omega.{arith}
use Rattle.message.specs.Message.{request_program}
use Rattle.message.specs.Write.{layout}
use Rattle.step.specs.Laws.{sent_by}
use Rattle.machine_timer.proofs.ask_load.Goals as goal

pub returns : goal.returns
unfolding layout
returns c = let a = c.args in
    sent_by 0 (request_program a.settings.device 1 2 255 [] a.settings.processor []) a.reply.now refl (omega arith) c.requires (c.request_program.ensures 0)
