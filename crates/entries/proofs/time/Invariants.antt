use lib.ListN.{drop}
use Rattle.entries.specs.Grammar.{Fields}
use Rattle.entries.proofs.time.Given as goal

abbrev pub invariant-loop-k : goal.invariant-loop-k
invariant-loop-k l = Fields l.k l.before (drop l.k l.s) → Fields 0 0 l.s
