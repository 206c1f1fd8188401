use Rattle.std.proofs.Common.{sym, ◌∙◌, arith, length, ap}
use Rattle.std.proofs.lemmas.Result.{err_from_is_err_and}
use Rattle.octets.specs.Number.{Octets}
use Rattle.message.specs.declared.Fields.{Fields}
use Rattle.step.specs.Laws.{frame-call-denied, frame_denied, frame-accepted}
use Rattle.machine_next.specs.Next.{react}
use Rattle.machine_checks.specs.Checks.{refusal}
use Rattle.machine_checks.specs.Laws.{in_range}
use Rattle.machine.specs.Laws.{decided-short, decided-leaves}
use Rattle.machine.proofs.frame.Goals as goal

pub returns-in_err-refusal : goal.returns-in_err-refusal
returns-in_err-refusal c = let a = c.args in
    let p = err_from_is_err_and c.from_residual.result c.from_residual.ensures.1 in
    rw (p.1, p.2) (frame-call-denied a.settings.version (refusal a.settings a.machine.now (length a.memory.now) (length a.reply.now)) a.frame.now a.machine.now a.memory.now a.reply.now
    (λ (f : Fields). react a.settings a.machine.now f a.frame.now a.memory.now) c.in_err-refusal.field-0.0 c.in_err-refusal.ensures)

pub returns-in_err-heard : goal.returns-in_err-heard
returns-in_err-heard c = let a = c.args in
    let p = err_from_is_err_and c.from_residual-in_err-heard.result c.from_residual-in_err-heard.ensures.1 in
    rw (p.1, p.2) (frame_denied a.settings.version (refusal a.settings a.machine.now (length a.memory.now) (length a.reply.now)) a.frame.now a.machine.now a.memory.now a.reply.now
    (λ (f : Fields). react a.settings a.machine.now f a.frame.now a.memory.now) (sym c.in_ok-refusal.ensures) c.in_err-heard.field-0.0 c.in_err-heard.ensures)

pub send-sent-requires-clause-short : goal.send-sent-requires-clause-short
send-sent-requires-clause-short c = let a = c.args in
    let h = c.in_ok-heard.ensures in
    let range = in_range a.settings a.machine.now (length a.memory.now) (length a.reply.now) (sym c.in_ok-refusal.ensures) in
    let octets : Octets a.frame.now = λ i l. omega (arith, c.shared_slice_known-1.given i) in
    rw h.0 (decided-short a.settings.version a.settings a.machine.now a.frame.now a.memory.now a.reply.now c.in_ok-heard.heard.f c.react-next.result h.1 c.react-next.ensures octets (ap (λ (f : Fields). f.refusal) h.1 ∙ h.2) range.1)

pub send-sent-requires-clause-in_bounds : goal.send-sent-requires-clause-in_bounds
send-sent-requires-clause-in_bounds c = let a = c.args in
    (in_range a.settings a.machine.now (length a.memory.now) (length a.reply.now) (sym c.in_ok-refusal.ensures)).2

pub returns : goal.returns
returns c = let a = c.args in
    let h = c.in_ok-heard.ensures in
    let next = c.react-next in
    let l = decided-leaves a.settings.version a.settings a.machine.now a.frame.now a.memory.now a.reply.now c.in_ok-heard.heard.f next.result h.1 next.ensures
    (rw h.0 at c.fill.ensures.record) ((rw h.0 at c.send-sent.ensures) _) (rw h.0 at c.fill.ensures.memory) in
    frame-accepted a.settings.version (refusal a.settings a.machine.now (length a.memory.now) (length a.reply.now)) a.frame.now a.machine.now a.memory.now a.reply.now
    (λ (f : Fields). react a.settings a.machine.now f a.frame.now a.memory.now) (sym c.in_ok-refusal.ensures) h.2 l
