use mathlib.Core.Path.{refl}
use native.Mathlib.Omega.{arith}
use Rattle.message.specs.Message.{dump_complete}
use Rattle.message.specs.Write.{layout}
use Rattle.step.specs.Laws.{sent_by}
use Rattle.dump.specs.Laws.{tells-complete}
use Rattle.dump.proofs.tell.Goals as goal

pub returns-in-Complete : goal.returns-in-Complete
unfolding layout
returns-in-Complete c = let a = c.args in
    let room = c.requires.room in
    let told = c.in-Complete.is in
    let came = sent_by 0 dump_complete a.reply.now refl (omega arith) room (c.dump_complete.ensures 0) in
    λ buffer. rw c.counted.ensures (tells-complete a.s a.n buffer a.reply.now told came)
