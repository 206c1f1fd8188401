use Rattle.std.proofs.Common.{◌≡◌, length, drop, ◌++◌}
use Rattle.digits.specs.Digits.{digits}
use Rattle.digits.proofs.spell.Given as goal

-- the digits still to come, and those written so far, are the digits of the number
abbrev pub invariant-loop-i : goal.invariant-loop-i
invariant-loop-i g l = (length l.out ≡ g.row.N) × (digits l.base l.i l.rest ++ drop l.i l.out ≡ digits l.base g.row.N l.n)
