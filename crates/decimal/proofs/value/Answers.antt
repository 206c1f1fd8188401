use Prim.Native.Nat.{◌+◌, ◌*◌}
use mathlib.Core.Path.{◌≡◌, sym, ◌∙◌}
use native.Mathlib.Omega.{arith}
use lib.ListN.{get_or, drop}
use Rattle.digits.specs.Digits.{nibble}
use Rattle.digits.specs.Laws.{nibble_or}
use Rattle.decimal.specs.Laws.{value_on, value-end, value-least}
use Rattle.decimal.proofs.value.Goals as goal

pub returns-then-n-gt9999 : goal.returns-then-n-gt9999
returns-then-n-gt9999 c =
    let s = c.args.s.now in
    let l = c.loop-d in
    let d : c.from.result ≡ nibble (get_or s l.d-index 0) = c.from.ensures ∙ c.unwrap_or.ensures ∙ nibble_or _ _ c.nibble.ensures in
    let n = l.n * 10 + nibble (get_or s l.d-index 0) in
    omega (arith, d, value_on l.n s l.d-index (omega arith), value-least n (drop (l.d-index + 1) s))

pub loop-d-preserved : goal.loop-d-preserved
loop-d-preserved c =
    let s = c.args.s.now in
    let l = c.loop-d in
    let d : c.from.result ≡ nibble (get_or s l.d-index 0) = c.from.ensures ∙ c.unwrap_or.ensures ∙ nibble_or _ _ c.nibble.ensures in
    (omega arith, rw d (sym (value_on l.n s l.d-index (omega arith)) ∙ l.invariant.1))

pub returns : goal.returns
returns c = let l = c.loop-d in omega (arith, value-end l.n c.args.s.now l.d-index c.loop-d-test.false)
