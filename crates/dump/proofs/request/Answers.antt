use mathlib.Core.Path.{refl}
use native.Mathlib.Omega.{arith}
use Rattle.octets.specs.Number.{low}
use Rattle.message.specs.Message.{request_dump}
use Rattle.message.specs.Write.{layout}
use Rattle.step.specs.Laws.{sent_by}
use Rattle.dump_record.specs.Record.{place, asked}
use Rattle.dump.proofs.request.Goals as goal

pub returns : goal.returns
unfolding layout low
returns c = let a = c.args in
    let asks = request_dump (place a.s a.h) (asked a.s a.h) in
    sent_by 0 asks a.reply.now refl (omega arith) (omega arith) (rw (c.from.ensures, c.asked-count.ensures) at (c.request_dump.ensures 0))
