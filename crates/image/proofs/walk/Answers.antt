use Prim.Native.Nat.{◌+◌, ◌-◌, ◌*◌, ◌≤◌}
use mathlib.Core.Path.{◌≡◌, sym, ◌∙◌}
use native.Mathlib.Omega.{arith}
use Rattle.directory.specs.Laws.{fit}
use Rattle.image.specs.PartsLaws.{parts-bound}
use Rattle.image.proofs.Turns.{turn, stop, done}
use Rattle.std.proofs.lemmas.Result.{err_from_is_err_and}
use Rattle.refusal.specs.Laws.{some}
use Rattle.image.proofs.walk.Goals as goal

pub returns-in_err-entry_refusal : goal.returns-in_err-entry_refusal
returns-in_err-entry_refusal c = let loop = c.loop-k in
    let t = c.args.t in
    let wrong = c.in_err-entry_refusal.ensures in
    let found = stop _ _ _ _ _ _ (t.directory + 12 * loop.k) (t.count - loop.k) _ _ (omega arith) loop.invariant.2 _ c.read_entry-r.ensures in
    let p = err_from_is_err_and c.from_residual.result c.from_residual.ensures.1 in
    rw (p.1, p.2) (sym (wrong ∙ found (λ z. omega (arith, some c.in_err-entry_refusal.field-0.0))))

pub parts-requires : goal.parts-requires
parts-requires c =
    let f = fit _ _ _ (sym c.in_ok-entry_refusal.ensures) in
    (c.requires.1, f.some)

pub loop-k-preserved : goal.loop-k-preserved
loop-k-preserved c =
    let loop = c.loop-k in
    let t = c.args.t in
    let at = t.directory + 12 * loop.k in
    let accepted = sym c.in_ok-entry_refusal.ensures in
    let f = fit _ _ _ accepted in
    let few : c.parts.result ≤ c.read_entry-r.result.length = rw c.parts.ensures (parts-bound c.args.size c.read_entry-r.result c.requires.1) in
    let on : t.directory + 12 * (loop.k + 1) ≡ at + 12 = omega arith in
    let less : t.count - (loop.k + 1) ≡ t.count - loop.k - 1 = omega arith in (
      omega arith,
      f.below,
      rw (on, less)
          (turn _ _ _ _ _ _ at (t.count - loop.k) _ _ (omega arith) loop.invariant.2 _ c.read_entry-r.ensures _
          accepted (omega arith) (omega arith) (omega (arith, c.parts.ensures)) _
          c.reached-reach.ensures),
    )

pub returns : goal.returns
returns c = done _ _ _ _ _ _ _ _ _ _ _ (omega arith) c.loop-k.invariant.2 c.part.ensures
