use Prim.Native.Nat.{ℕ, ◌+◌, ◌≤◌}
use mathlib.Core.Path.{◌≡◌, sym, ap, ◌∙◌}
use mathlib.Core.Bool.{true}
use mathlib.Core.List.{List}
use native.Mathlib.Omega.{arith}
use Rattle.buffer.specs.declared.Written.{Written}
use Rattle.buffer.specs.Lay.{refused}
use Rattle.message.specs.declared.Fields.{Fields}
use Rattle.message.specs.Read.{fields, refused_fields}
use Rattle.directory.specs.Directory.{addresses}
use Rattle.step.specs.Step.{Act, gives, Leaves}
use Rattle.step.specs.Laws.{frame-call-refused, frame_refused, frame-accepted}
use Rattle.counts.specs.Counts.{below}
use Rattle.load_record.specs.declared.Settings.{Settings}
use Rattle.load_record.specs.declared.Session.{Session}
use Rattle.load_record.specs.declared.Next.{Next}
use Rattle.load_next.specs.Next.{react}
use Rattle.load_record.specs.Record.{tallied}
use Rattle.load_record.specs.Laws.{Bound, tallied-bound}
use Rattle.load_next.specs.Laws.{react-bound}
use Rattle.load_next.specs.Inner.{ahead}
use Rattle.load_checks.specs.declared.Ruling.{Ruling}
use Rattle.load_checks.specs.Checks.{frames, refusal, accepts}
use Rattle.load.specs.Load.{does, load_frame}
use Rattle.load.specs.Inner.{acting}
use Rattle.load.proofs.Calls.{facts, goes, ready, given}
use Rattle.std.proofs.lemmas.Result.{err_from_is_err_and}
use Rattle.refusal.specs.declared.Refusal.{Refusal}
use Rattle.refusal.specs.Refusal.{number}
use Rattle.refusal.specs.Laws.{some}
use Rattle.load.proofs.frame.Goals as goal

module _ (s : Settings) (h : Session) (file string frame reply : List ℕ) where
  abbrev reacts : Fields → Act Session Unit
  reacts f = does s file string (tallied h (react (frames s file) s.restart h f))

  denied : (r : Refusal) → refusal s h file string reply ≡ number r → Leaves (load_frame s h file string frame reply) h (refused (number r)) tt reply
  denied r e = rw (← e) (frame-call-refused s.version (refusal s h file string reply) frame h tt reply reacts (λ z. omega (arith, some r)))

  module _ (i : ℕ) {k : Ruling} (e : k ≡ accepts s file i) (z : refusal s h file string reply ≡ 0) where
    unread : (r : Refusal) → refused_fields (number r) ≡ fields s.version frame → Leaves (load_frame s h file string frame reply) h (refused (number r)) tt reply
    unread r g =
        let n : (fields s.version frame).refusal ≡ number r = sym (ap (λ (f : Fields). f.refusal) g) in
        rw (← n) (frame_refused s.version (refusal s h file string reply) frame h tt reply reacts z (λ w. omega (arith, some r)))

    -- the segment found is the one that may go out, and the frame is counted
    module _ {f : Fields} (r : f ≡ fields s.version frame) (at : h.position ≤ addresses + 1 → i ≡ ahead h f) {n t : Next} (d : n ≡ react k.many s.restart h f) (c : below h.counts ≡ true → t ≡ tallied h n) where
      counted : t ≡ tallied h (react k.many s.restart h f)
      counted = c (facts s h file string reply i e z).sound.below_top ∙ ap (tallied h) d

      bound : Bound k.many i h t
      bound =
          let a = facts s h file string reply i e z in
          let b = react-bound k.many s.restart h (goes s h file string reply i e z) f in
          rw (at (omega (arith, a.fits.reached, a.few)), counted) (tallied-bound k.many h (ahead h f) (react k.many s.restart h f) b)

      does-next : (fields s.version frame).refusal ≡ 0 → {session : Session} {answer : Written} {out : List ℕ} → Leaves (gives (acting s file string k t) reply) session answer tt out
          → Leaves (load_frame s h file string frame reply) session answer tt out
      does-next w l =
          frame-accepted s.version (refusal s h file string reply) frame h tt reply reacts z w
          (given s h file string reply i e z t bound (rw (ap (λ (r : Ruling). r.many) e, r) at counted) l)

pub returns-in_err-k : goal.returns-in_err-k
returns-in_err-k c = let a = c.args in
    let p = err_from_is_err_and c.from_residual.result c.from_residual.ensures.1 in
    rw (p.1, p.2) (denied a.settings a.session.now a.file.now a.parameters.now a.frame.now a.reply.now c.in_err-k.field-0.0 c.in_err-k.ensures)

pub returns-in_err-f : goal.returns-in_err-f
returns-in_err-f c = let a = c.args in
    let k = c.in_ok-k.ensures in
    let p = err_from_is_err_and c.from_residual-in_err-f.result c.from_residual-in_err-f.ensures.1 in
    rw (p.1, p.2) (unread a.settings a.session.now a.file.now a.parameters.now a.frame.now a.reply.now c.ahead-index.result k.1 k.0 c.in_err-f.field-0.0 c.in_err-f.ensures)

pub give-requires : goal.give-requires
give-requires c = let a = c.args in
    let k = c.in_ok-k.ensures in
    ready a.settings a.session.now a.file.now a.parameters.now a.reply.now _ k.1 k.0 c.tallied-next.result
    (bound a.settings a.session.now a.file.now a.parameters.now a.frame.now a.reply.now _ k.1 k.0 c.in_ok-f.ensures.1 (rw c.in_ok-f.was at c.ahead-index.ensures)
    c.react-next.ensures c.tallied-next.ensures.0)

pub returns : goal.returns
returns c = let a = c.args in
    let k = c.in_ok-k.ensures in
    does-next a.settings a.session.now a.file.now a.parameters.now a.frame.now a.reply.now _ k.1 k.0 c.in_ok-f.ensures.1 (rw c.in_ok-f.was at c.ahead-index.ensures)
    c.react-next.ensures c.tallied-next.ensures.0 c.in_ok-f.ensures.0 c.give.ensures
