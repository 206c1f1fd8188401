use Rattle.std.proofs.Common.{◌∙◌}
use Rattle.octets.specs.NumberLaws.{low_std}
use Rattle.octets.proofs.low32.Goals as goal

pub returns : goal.returns
returns c = c.to_le_bytes.ensures ∙ low_std 4 c.args.x
