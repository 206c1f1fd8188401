use Prim.Native.Nat.{◌+◌, ◌-◌, ◌*◌, ◌≤◌}
use Rattle.directory.specs.Directory.{addresses, entries}
use Rattle.image.proofs.Turns.{Rest}
use Rattle.image.proofs.walk.Given as goal

abbrev pub invariant-loop-k : goal.invariant-loop-k
invariant-loop-k l =
    (l.segments ≤ l.end) ×
    (l.end ≤ addresses) ×
    Rest l.file l.t.directory l.size l.index l.end l.segments l.reach (entries l.file (l.t.directory + 12 * l.k) (l.t.count - l.k)) (entries l.file l.t.directory l.t.count)
