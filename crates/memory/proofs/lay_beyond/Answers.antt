use native.Mathlib.Omega.{arith}
use Rattle.memory.specs.Laws.{bytes_from-beyond}
use Rattle.memory.proofs.lay_beyond.Goals as goal

pub returns : goal.returns
returns c = let a = c.args in
    let joined = bytes_from-beyond a.memory.now a.address a.n c.min-at.result 1500 c.zeros-zeros.result c.min-at.ensures c.zeros-zeros.ensures c.requires.n_bound (omega arith) in
    rw joined at c.lay_three.ensures
