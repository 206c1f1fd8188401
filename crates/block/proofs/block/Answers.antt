use Prim.Native.Nat.{ℕ, ◌+◌, ◌<◌}
use native.Mathlib.Omega.{arith}
use native.Mathlib.Decide.{dec_lt}
use mathlib.Core.Path.{◌≡◌, sym, ◌∙◌}
use mathlib.Core.List.{List}
use lib.ListN.{length, set}
use lib.Seq.{get_or-set_same, get_or-set_other, ext_get_or}
use Rattle.parameters.specs.declared.Parameters.{Parameters}
use Rattle.block.specs.Block.{block_byte, block}
use Rattle.block.specs.Laws.{length-block, get_or-block}
use Rattle.block.proofs.block.Invariants.{Done}
use Rattle.block.proofs.block.Goals as goal

further : (p : Parameters) (memory bytes : List ℕ) (x b : ℕ) → x < length bytes → b ≡ block_byte p memory x → Done p memory bytes x → Done p memory (set bytes x b) (x + 1)
further p memory bytes x b l e d i h =
    elim (dec_lt i x) [
      | yes before ↦ get_or-set_other bytes x i b 0 (λ q. omega arith) ∙ d i before
      | no last ↦ let same : i ≡ x = omega arith in rw same (get_or-set_same bytes x b 0 l ∙ e)
    ]

pub returns : goal.returns
returns c = let l = c.loop-x in
    let a = c.args in
    let p = a.parameters in
    let memory = a.memory.now in
    ext_get_or 0 l.b-items (block p memory) (omega (arith, l.invariant.0, length-block p memory)) (λ i h.
    l.invariant.1 i (omega (arith, l.invariant.0, c.loop-x-test.false)) ∙ sym (get_or-block p memory i (omega (arith, l.invariant.0))))
