use Prim.Native.Nat.{◌+◌, ◌-◌, ◌≤◌}
use mathlib.Core.Path.{◌≡◌, sym, ap, ◌∙◌}
use lib.ListN.{length, length-take, length-drop}
use native.Mathlib.Omega.{arith}
use Rattle.message.specs.Read.{part}
use Rattle.dump_checks.proofs.Laws.{accepted}
use Rattle.dump.specs.Laws.{ready-frame, stepped}
use Rattle.dump.proofs.frame.Goals as goal

pub fill-requires : goal.fill-requires
fill-requires c = let a = c.args in
    let allowed = accepted a.settings a.session.now (length a.buffer.now) (length a.reply.now) (sym c.in_ok-refusal.ensures) in
    let heard = c.in_ok-heard.heard in
    let f = heard.f in
    let inside : f.data_at + f.data_length ≤ length heard.frame.now = heard.inside in
    let count : length (part heard.frame.now f) ≡ f.data_length = simp (length-take, length-drop) (omega (arith, inside)) in
    rw (c.data.ensures, count, c.react-next.ensures) (ready-frame a.settings a.session.now _ _ allowed f).1

pub tell-requires : goal.tell-requires
tell-requires c = let a = c.args in
    let allowed = accepted a.settings a.session.now (length a.buffer.now) (length a.reply.now) (sym c.in_ok-refusal.ensures) in
    rw (c.tallied-next.ensures.0 allowed.numbers.below_top, c.react-next.ensures) (ready-frame a.settings a.session.now _ _ allowed c.in_ok-heard.heard.f).0

pub returns : goal.returns
returns c = let a = c.args in
    let none = sym c.in_ok-refusal.ensures in
    let allowed = accepted a.settings a.session.now (length a.buffer.now) (length a.reply.now) none in
    let counted = c.tallied-next.ensures.0 allowed.numbers.below_top in
    let heard = c.in_ok-heard in
    let fill = c.fill in
    stepped a.settings a.session.now a.frame.now a.buffer.now a.reply.now heard.heard.f c.react-next.result c.tallied-next.result fill.new.buffer none heard.ensures.1
    (ap (λ f. f.refusal) heard.ensures.1 ∙ heard.ensures.2) c.react-next.ensures counted (rw (c.data.ensures, heard.ensures.0) at fill.ensures) (c.tell.ensures fill.new.buffer)
