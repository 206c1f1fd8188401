use Rattle.std.proofs.Common.{◌≡◌, ◌≤◌, length, drop, ◌+◌}
use Rattle.text.specs.Laws.{Pending}
use Rattle.pattern.specs.Pattern.{filled}
use Rattle.pattern.specs.Marks.{code_of}
use Rattle.pattern.proofs.Source.fill.Given as goal

abbrev pub invariant-loop-c : goal.invariant-loop-c
invariant-loop-c l =
    (l.at ≤ length l.out + 1) × (length l.out ≡ length l.initial.out)
    × Pending (filled l.self.table.now l.self.bytes.now l.self.numbers.now (code_of l.before) (drop l.c-index l.pattern)) l.at l.out
    (filled l.self.table.now l.self.bytes.now l.self.numbers.now 0 l.pattern) 0 l.initial.out
