use Prim.Native.Nat.{ℕ, suc, ◌+◌, ◌≤◌}
use Rattle.std.proofs.Common.{subst}
use native.Mathlib.Omega.{arith}
use mathlib.Core.Path.{◌≡◌, sym, ◌∙◌}
use lib.ListN.{length, get_or, drop, drop_of_length-le}
use lib.Seq.{drop-cons}
use Rattle.entries.specs.Grammar.{Fields}
use Rattle.entries.proofs.time.Goals as goal

pub loop-k-preserved : goal.loop-k-preserved
loop-k-preserved c = let k = c.loop-k.k in
    let s = c.args.s.now in
    let good = sym c.field.ensures ∙ c.if-not-field.false in
    let b = get_or s k 0 in
    let on : k + 1 ≡ suc k = omega arith in
    let P : ℕ → Type 0 = λ n. Fields (k + 1) b (drop n s) in
    λ f. c.loop-k.invariant (rw (drop-cons s k 0 (omega arith)) (good, subst P on f))

pub returns : goal.returns
returns c =
    let past : length c.args.s.now ≤ c.loop-k.k = omega arith in
    λ _. c.loop-k.invariant (rw (drop_of_length-le c.args.s.now past) tt)
