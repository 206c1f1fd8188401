use Rattle.std.proofs.Common.{◌≡◌, ℕ, true, sym, ◌∙◌, arith}
use mathlib.Core.Bool.{false≢true}
use Rattle.host_time.specs.HostTime.{field}
use Rattle.entries_next.proofs.after_time.Goals as goal

no_field : (k before b : ℕ) → field k before b ≡ true → k ≡ 255 → ⊥
unfolding field
no_field k before b known e = false≢true (rw e at known)

pub overflow_add-result : goal.overflow_add-result
overflow_add-result c = let known = sym c.field.ensures ∙ c.if-not-field.false in
    let none : c.args.k ≡ 255 → ⊥ = no_field _ _ _ known in
    omega arith
