use mathlib.Core.Path.{◌≡◌}
use lib.ListN.{drop, length}
use Rattle.entries_next.specs.declared.Place.TheVariants.{Kind}
use Rattle.entries.specs.Entries.{walk}
use Rattle.entries.proofs.walk.Given as goal

abbrev pub invariant-loop-left : goal.invariant-loop-left
invariant-loop-left l = walk l.version Kind l.left ≡ walk l.version Kind (drop l.from l.s)

abbrev pub decreases-loop-left : goal.decreases-loop-left
decreases-loop-left l = length l.left
