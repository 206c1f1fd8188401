use Prim.Native.Nat.{ℕ}
use native.Mathlib.Omega.{arith}
use Rattle.message.specs.Read.{rows, find}
use Rattle.codes.specs.Table.{marked}
use Rattle.octets.specs.ValuesLaws.{entry as table-entry}
use Rattle.codes.proofs.Table.{none_above}
use Rattle.codes.proofs.entry.Goals as goal

pub returns-then-code-gt26 : goal.returns-then-code-gt26
returns-then-code-gt26 c = rw (none_above rows 26 c.args.code tt c.if-code-gt26.true)

pub returns : goal.returns
unfolding find
returns c = rw c.from.ensures (table-entry (λ (code : ℕ). marked (find rows code)) 0 27 c.args.code (omega arith))
