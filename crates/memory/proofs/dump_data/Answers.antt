use Prim.Native.Nat.{ℕ}
use mathlib.Core.Path.{◌≡◌, refl}
use mathlib.Core.List.{List, ◌∷◌}
use lib.ListN.{get_or}
use Rattle.octets.specs.Number.{low}
use Rattle.message.specs.Message.{dump_data}
use Rattle.message.specs.Write.{layout}
use Rattle.message.specs.Laws.{wrote}
use Rattle.memory.specs.Memory.{bytes_from}
use Rattle.memory.proofs.dump_data.Goals as goal

pub returns : goal.returns
unfolding layout low
returns c = let a = c.args in
    let p = c.low32-a.result in
    let bytes = bytes_from a.memory.now a.address a.n in
    let f : List ℕ = 14 ∷ get_or p 0 0 ∷ get_or p 1 0 ∷ get_or p 2 0 ∷ get_or p 3 0 ∷ bytes in
    let e : f ≡ layout (dump_data a.address bytes) = rw c.low32-a.ensures in
    λ version. wrote version (dump_data a.address bytes) a.out.now f c.lay.ensures e refl
