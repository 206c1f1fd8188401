use mathlib.Core.Path.{ap, sym, ◌∙◌}
use Rattle.writer_listed.specs.Inner.{whole}
use Rattle.writer_listed.proofs.ByWalk.{listed_as}
use Rattle.writer_listed.proofs.listed.Goals as goal

pub returns : goal.returns
returns c = c.whole.ensures ∙ ap whole c.walk.ensures ∙ sym (listed_as c.args.version c.args.entries.now)
