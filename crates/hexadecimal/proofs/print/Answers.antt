use mathlib.Core.Path.{sym, ◌∙◌}
use borrow.Author.Tests.{ltb-true, ltb-false}
use Rattle.hexadecimal.specs.Laws.{printed, not-printed}
use Rattle.hexadecimal.proofs.print.Goals as goal

pub returns-then-lacks : goal.returns-then-lacks
returns-then-lacks c = let a = c.args in
    not-printed a.head.now a.s.now a.tail.now a.out.now (ltb-true _ _ (sym c.lacks.ensures ∙ c.if-lacks.true))

pub returns : goal.returns
returns c = let a = c.args in
    printed a.head.now a.s.now a.tail.now a.out.now (ltb-false _ _ (sym c.lacks.ensures ∙ c.if-lacks.false)) c.add-a.ensures c.pairs-b.ensures c.add-end.ensures
