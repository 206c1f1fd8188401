use Rattle.message.specs.Laws.{fields-inside}
use Rattle.heard.proofs.hear.Goals as goal

pub invariant_of-result : goal.invariant_of-result
invariant_of-result c = record { inside = rw c.in_ok-f.ensures.1 (fields-inside c.args.version c.args.frame.now) }
