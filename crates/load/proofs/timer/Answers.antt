use Prim.Native.Nat.{ℕ}
use mathlib.Core.Path.{◌≡◌}
use mathlib.Core.List.{List}
use Rattle.buffer.specs.declared.Written.{Written}
use Rattle.buffer.specs.Lay.{refused}
use Rattle.step.specs.Step.{gives, Leaves}
use Rattle.step.specs.Laws.{call-refused, call-accepted}
use Rattle.load_record.specs.declared.Settings.{Settings}
use Rattle.load_record.specs.declared.Session.{Session}
use Rattle.load_record.specs.declared.Next.{Next}
use Rattle.load_timer.specs.Timer.{on_timer}
use Rattle.load_record.specs.Laws.{Bound}
use Rattle.load_timer.specs.Laws.{timer_bound}
use Rattle.load_checks.specs.declared.Ruling.{Ruling}
use Rattle.load_checks.specs.Checks.{frames, refusal, accepts}
use Rattle.load.specs.Load.{does, load_timer}
use Rattle.load.specs.Inner.{acting}
use Rattle.load.proofs.Calls.{goes, ready, given}
use mathlib.Core.Path.{ap}
use native.Mathlib.Omega.{arith}
use Rattle.std.proofs.lemmas.Result.{err_from_is_err_and}
use Rattle.refusal.specs.declared.Refusal.{Refusal}
use Rattle.refusal.specs.Refusal.{number}
use Rattle.refusal.specs.Laws.{some}
use Rattle.load.proofs.timer.Goals as goal

module _ (s : Settings) (h : Session) (file string reply : List ℕ) where
  abbrev next : Next
  next = on_timer (frames s file) s.repeats h

  denied : (r : Refusal) → refusal s h file string reply ≡ number r → Leaves (load_timer s h file string reply) h (refused (number r)) tt reply
  denied r e = rw (← e) (call-refused (refusal s h file string reply) h tt reply (does s file string next) (λ z. omega (arith, some r)))

  module _ {k : Ruling} (e : k ≡ accepts s file h.position) (z : refusal s h file string reply ≡ 0) {n : Next} (d : n ≡ on_timer k.many s.repeats h) where
    bound : Bound k.many h.position h n
    bound = rw d (timer_bound k.many h (goes s h file string reply h.position e z) s.repeats)

    does-next : {session : Session} {answer : Written} {out : List ℕ} → Leaves (gives (acting s file string k n) reply) session answer tt out
        → Leaves (load_timer s h file string reply) session answer tt out
    does-next l =
        call-accepted (refusal s h file string reply) h tt reply (does s file string next) z
        (given s h file string reply h.position e z n bound (rw (ap (λ (r : Ruling). r.many) e) at d) l)

pub returns-in_err-k : goal.returns-in_err-k
returns-in_err-k c = let a = c.args in
    let p = err_from_is_err_and c.from_residual.result c.from_residual.ensures.1 in
    rw (p.1, p.2) (denied a.settings a.session.now a.file.now a.parameters.now a.reply.now c.in_err-k.field-0.0 c.in_err-k.ensures)

pub give-requires : goal.give-requires
give-requires c = let a = c.args in
    let z = c.in_ok-k.ensures in
    ready a.settings a.session.now a.file.now a.parameters.now a.reply.now a.session.now.position z.1 z.0 c.on_timer-next.result
    (bound a.settings a.session.now a.file.now a.parameters.now a.reply.now z.1 z.0 c.on_timer-next.ensures)

pub returns : goal.returns
returns c = let a = c.args in
    let z = c.in_ok-k.ensures in
    does-next a.settings a.session.now a.file.now a.parameters.now a.reply.now z.1 z.0 c.on_timer-next.ensures c.give.ensures
