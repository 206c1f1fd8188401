-- The entry types by their numbers (PROTOCOL 2, 'Messages').
use Rattle.std.specs.Prelude.{ℕ}
use Rattle.entries_next.specs.declared.Kind.{Kind}
use Rattle.entries_next.specs.declared.Kind.TheVariants.{TargetName, TargetAddress, HostName, HostAddress, HostTime}

abbrev pub number : Kind → ℕ
number TargetName = 1
number TargetAddress = 2
number HostName = 3
number HostAddress = 4
number HostTime = 5
