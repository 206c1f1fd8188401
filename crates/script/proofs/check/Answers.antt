use Rattle.std.proofs.Common.{◌∙◌}
use Rattle.refusal.specs.declared.Refusal.TheVariants.{Setting}
use Rattle.script.specs.Script.{well_formed, said}
use Rattle.script.specs.AnswerLaws.{or_refused}
use Rattle.script.proofs.check.Goals as goal

pub returns : goal.returns
returns c = let s = c.args.input.now in c.ok_or.ensures.value ∙ (rw c.parts.ensures (or_refused (well_formed s) (said s) Setting))
