use Rattle.message.specs.Read.{fields}
use Rattle.reader.proofs.Ways.{refuses, right}
use mathlib.Core.Path.{refl}
use native.Mathlib.Omega.{arith}
use Rattle.refusal.specs.Laws.{some}
use Rattle.reader.proofs.answer.Goals as goal

pub returns-then-is_empty : goal.returns-then-is_empty
unfolding fields
returns-then-is_empty c = rw (← c.if-is_empty.ensures) c.from.ensures

pub returns-in-Err : goal.returns-in-Err
returns-in-Err c = let a = c.args in
    rw (← refuses a.version a.s.now _ c.in-Err.ensures c.if-is_empty.ensures (λ z. omega (arith, some c.in-Err.r))) c.from-in-Err.ensures

pub returns : goal.returns
returns c = let a = c.args in
    rw (← right a.version a.s.now _ c.in_default.ensures c.if-is_empty.ensures refl) c.by_code.ensures
