use Rattle.std.proofs.Common.{◌∙◌}
use Rattle.script.specs.Laws.{contained}
use Rattle.script.proofs.is_letter.Goals as goal

pub returns : goal.returns
returns c = c.contains.ensures.value ∙ contained c.args.letters.now c.args.c
