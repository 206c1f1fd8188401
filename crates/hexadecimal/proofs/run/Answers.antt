use Prim.Native.Nat.{◌+◌}
use mathlib.Core.Path.{◌≡◌, sym, ap, ◌∙◌}
use native.Mathlib.Omega.{arith}
use lib.ListN.{get_or, drop}
use Rattle.hexadecimal.specs.Line.{Held, held, stepped, run}
use Rattle.hexadecimal.specs.RunLaws.{run_at, run-done}
use Rattle.hexadecimal.proofs.run.Goals as goal

pub loop-c-preserved : goal.loop-c-preserved
loop-c-preserved c = let l = c.loop-c in
    let e : held c.step-line.result c.step-line.new.buffer ≡ stepped (held l.line l.buffer) (get_or c.args.s.now l.c-index 0) =
    rw (c.step-line.ensures.0, c.step-line.ensures.1) in
    (omega arith, ap (run (drop (l.c-index + 1) c.args.s.now)) e ∙ sym (run_at c.args.s.now l.c-index (held l.line l.buffer) c.loop-c-test.true) ∙ l.invariant.1)

pub returns : goal.returns
returns c = let l = c.loop-c in
    let e = sym (run-done c.args.s.now l.c-index (held l.line l.buffer) c.loop-c-test.false) ∙ l.invariant.1 in
    (ap (λ (h : Held). h.line) e, ap (λ (h : Held). h.buffer) e)
