use Rattle.std.proofs.Common.{arith, ◌∙◌, length-set}
use Rattle.digits.specs.Laws.{spelled_on, spelled-all}
use Rattle.digits.proofs.spell.Goals as goal

pub loop-i-preserved : goal.loop-i-preserved
loop-i-preserved g c =
    let l = c.loop-i in (
      simp length-set l.invariant.0,
      rw c.digit.ensures (spelled_on c.args.base l.i l.rest l.out c.loop-i-test.true (omega (arith, l.invariant.0)) ∙ l.invariant.1),
    )

pub returns : goal.returns
returns g c = let l = c.loop-i in spelled-all c.args.base l.i l.rest l.out c.loop-i-test.false ∙ l.invariant.1
