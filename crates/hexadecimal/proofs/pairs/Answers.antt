use Prim.Native.Nat.{◌+◌}
use native.Mathlib.Omega.{arith}
use lib.ListN.{drop, get_or}
use Rattle.digits.specs.Digits.{digits}
use Rattle.text.specs.Laws.{adds, pending_next, pending_none, added_whole, added_not}
use Rattle.hexadecimal.specs.Hexadecimal.{pairs}
use Rattle.hexadecimal.specs.Laws.{length_pairs, pairs-at, pairs-none}
use Rattle.hexadecimal.proofs.pairs.Goals as goal

pub returns-then-out-at-2 : goal.returns-then-out-at-2
returns-then-out-at-2 c = added_not (pairs c.args.s.now) c.args.at c.args.out.now (omega (arith, length_pairs c.args.s.now))

pub loop-b-preserved : goal.loop-b-preserved
loop-b-preserved c = let s = c.args.s.now in
    let l = c.loop-b in
    let a = rw c.pair-two.ensures at c.add-to.ensures in
    let p = pairs-at s l.b-index c.loop-b-test.true in
    let d = digits 16 2 (get_or s l.b-index 0) in (
      omega (arith, a.0, (adds d l.to l.out _ _ a).long),
      omega (arith, (adds d l.to l.out _ _ a).long),
      pending_next l.invariant.2 d (pairs (drop (l.b-index + 1) s)) p a,
    )

pub returns : goal.returns
returns c = let a = c.args in
    let l = c.loop-b in
    added_whole (pairs a.s.now) a.at a.out.now l.to l.out (omega (arith, length_pairs a.s.now))
    (pending_none l.invariant.2 (pairs-none a.s.now l.b-index c.loop-b-test.false) l.invariant.0)
