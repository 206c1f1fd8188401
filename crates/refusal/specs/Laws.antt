-- No refusal has the number 0, and each has its own; so an answer is one and no other.
use Rattle.std.specs.Prelude.{ℕ, ◌≡◌, ◌≤◌, refl, Result, Ok, Err}
use Rattle.std.proofs.Common.{sym, ◌∙◌, ap, arith, ne_eqb}
use Rattle.refusal.specs.declared.Refusal.{Refusal}
use Rattle.refusal.specs.declared.Refusal.TheVariants.{Short, Long, Code, Field, File, Directory, Entry, Overlap, Buffer, Setting, Memory, Frames}
use Rattle.refusal.specs.Refusal.{number, number_of, Answers, named, outcome}

pub some : (r : Refusal) → 1 ≤ number r
some Short = omega arith
some Long = omega arith
some Code = omega arith
some Field = omega arith
some File = omega arith
some Directory = omega arith
some Entry = omega arith
some Overlap = omega arith
some Buffer = omega arith
some Setting = omega arith
some Memory = omega arith
some Frames = omega arith

named-number : (r : Refusal) → named (number r) ≡ r
named-number Short = refl
named-number Long = refl
named-number Code = refl
named-number Field = refl
named-number File = refl
named-number Directory = refl
named-number Entry = refl
named-number Overlap = refl
named-number Buffer = refl
named-number Setting = refl
named-number Memory = refl
named-number Frames = refl

pub own : (r s : Refusal) → number r ≡ number s → r ≡ s
own r s e = sym (named-number r) ∙ ap named e ∙ named-number s

pub one : {T : Type 0} (a b : Result T Refusal) (n : ℕ) (v : T) → Answers a n v → Answers b n v → a ≡ b
one (Ok x) (Ok y) n v p q = ap Ok (p.1 ∙ sym q.1)
one (Ok x) (Err r) n v p q = absurd (omega (arith, some r))
one (Err r) (Ok x) n v p q = absurd (omega (arith, some r))
one (Err r) (Err s) n v p q = ap Err (own r s (sym p ∙ q))

pub is : {T : Type 0} (a : Result T Refusal) (n : ℕ) (v : T) → Answers a n v → a ≡ outcome n v
is (Ok x) n v p = rw (p.0, p.1) refl
is (Err r) n v p = let s = some r in rw (p, ne_eqb (number r) 0 (λ z. omega arith)) (ap Err (sym (named-number r)))

-- an answer to a number says it
pub number_is : {T : Type 0} (a : Result T Refusal) (n : ℕ) (v : T) → Answers a n v → number_of a ≡ n
number_is (Ok x) n v p = sym p.0
number_is (Err r) n v p = sym p

-- an answer without a value is one and no other by its number alone
pub number_one : (a b : Result (Unit {0}) Refusal) → number_of a ≡ number_of b → a ≡ b
number_one (Ok x) (Ok y) e = refl
number_one (Ok x) (Err r) e = absurd (omega (arith, e, some r))
number_one (Err r) (Ok x) e = absurd (omega (arith, e, some r))
number_one (Err r) (Err s) e = ap Err (own r s e)
