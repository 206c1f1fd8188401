use mathlib.Core.Path.{◌≡◌}
use lib.ListN.{length, drop}
use Rattle.hexadecimal.specs.Line.{held, opened, run}
use Rattle.hexadecimal.proofs.run.Given as goal

abbrev pub invariant-loop-c : goal.invariant-loop-c
invariant-loop-c l = (length l.buffer ≡ length l.initial.buffer) × (run (drop l.c-index l.s) (held l.line l.buffer) ≡ run l.s (opened l.initial.buffer))
