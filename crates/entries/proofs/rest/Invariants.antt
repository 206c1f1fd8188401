use mathlib.Core.Path.{◌≡◌}
use lib.ListN.{drop}
use Rattle.entries_next.specs.declared.Place.TheVariants.{Kind}
use Rattle.entries.specs.Entries.{walk}
use Rattle.entries.proofs.rest.Given as goal

abbrev pub invariant-loop-b : goal.invariant-loop-b
invariant-loop-b l = walk l.version l.p (drop l.b-index l.s) ≡ walk l.version Kind l.s
