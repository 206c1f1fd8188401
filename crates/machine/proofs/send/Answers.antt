use Rattle.std.proofs.Common.{ap}
use Rattle.message.specs.Message.{request_load, dump_data, looped_data}
use Rattle.machine_next.specs.declared.Sends.{Sends}
use Rattle.machine_next.specs.Next.{sending}
use Rattle.machine.specs.Laws.{goes-out}
use Rattle.machine.proofs.send.Goals as goal

pub returns-in-Load : goal.returns-in-Load
returns-in-Load c = let a = c.args in
    let out = ap (λ (x : Sends). sending a.heard.f a.heard.frame.now a.memory.now x) c.in-Load.is in
    λ m. goes-out m a.memory.now a.reply.now _ (request_load _ _) out c.requires.short c.requires.in_bounds c.request_load.ensures

pub returns-in-Data : goal.returns-in-Data
returns-in-Data c = let a = c.args in
    let out = ap (λ (x : Sends). sending a.heard.f a.heard.frame.now a.memory.now x) c.in-Data.is in
    λ m. goes-out m a.memory.now a.reply.now _ (dump_data _ _) out c.requires.short c.requires.in_bounds c.dump_data.ensures

pub returns-in-Looped : goal.returns-in-Looped
returns-in-Looped c = let a = c.args in
    let out = ap (λ (x : Sends). sending a.heard.f a.heard.frame.now a.memory.now x) c.in-Looped.is in
    λ m. goes-out m a.memory.now a.reply.now _ (looped_data _ _) out c.requires.short c.requires.in_bounds c.looped.ensures
