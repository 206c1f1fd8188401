use mathlib.Core.Path.{refl}
use native.Mathlib.Omega.{arith}
use Rattle.octets.specs.Number.{low}
use Rattle.message.specs.Message.{loop_data}
use Rattle.message.specs.Write.{layout}
use Rattle.step.specs.Laws.{sent_by}
use Rattle.looptest.proofs.goes_out.Goals as goal

pub returns : goal.returns
unfolding layout low
returns c = let a = c.args in
    sent_by 0 (loop_data a.s.receipt a.bytes.now) a.reply.now refl (omega arith) (omega arith) (c.loop_data.ensures 0)
