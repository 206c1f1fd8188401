use mathlib.Core.Bool.{not}
use mathlib.Core.List.{[]}
use mathlib.Core.Path.{ap, ◌∙◌}
use Rattle.hexadecimal.specs.Line.{is_foul}
use Rattle.hexadecimal.specs.RunLaws.{run_is}
use Rattle.hexadecimal.proofs.is_hexadecimal.Goals as goal

pub returns : goal.returns
returns c = ap not (c.is_foul.ensures ∙ ap is_foul c.run-line.ensures.0) ∙ run_is c.args.s.now []
