-- No two answers are the same in numbers, so that an equation for the numbers is one for the answer.
use Rattle.std.specs.Prelude.{ℕ, ◌≡◌, Result, Ok, Err}
use Rattle.std.proofs.Common.{ap, arith}
use Rattle.refusal.specs.declared.Refusal.{Refusal}
use Rattle.refusal.specs.Refusal.{number}
use Rattle.refusal.specs.Laws.{some, own}
use Rattle.buffer.specs.declared.Written.{Written}
use Rattle.buffer.specs.Lay.{written_of}

pub written-one : (a b : Result ℕ Refusal) → written_of a ≡ written_of b → a ≡ b
written-one (Ok m) (Ok n) e = ap Ok (ap (λ (w : Written). w.length) e)
written-one (Ok m) (Err r) e = let z : 0 ≡ number r = ap (λ (w : Written). w.refusal) e in let s = some r in absurd (omega arith)
written-one (Err r) (Ok n) e = let z : number r ≡ 0 = ap (λ (w : Written). w.refusal) e in let s = some r in absurd (omega arith)
written-one (Err r) (Err s) e = ap Err (own r s (ap (λ (w : Written). w.refusal) e))
