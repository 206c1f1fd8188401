use Rattle.std.proofs.Common.{sym, ◌∙◌, eqb-true}
use Rattle.remarks.specs.Laws.{remark-silent}
use Rattle.remarks.proofs.remark.Goals as goal

pub returns-then-is_empty : goal.returns-then-is_empty
returns-then-is_empty c = let a = c.args in remark-silent a.letter a.before a.after a.frame.now a.out.now (eqb-true _ 0 (sym c.is_empty.ensures ∙ c.if-is_empty.true)) c.silent_row.ensures c.noted.ensures
