use Prim.Native.Nat.{◌+◌}
use mathlib.Core.Path.{sym, ◌∙◌}
use lib.ListN.{length}
use borrow.Author.Tests.{le-leb}
use Rattle.memory.specs.Laws.{fits-inside}
use Rattle.memory.proofs.deposit.Goals as goal

pub returns : goal.returns
returns c = let a = c.args in
    let fit = sym c.fitting.ensures ∙ c.if-not-fitting.false in
    let room = le-leb (a.address + length a.bytes.now) (length a.memory.now) (fits-inside a.window a.address (length a.bytes.now) (length a.memory.now) fit) in
    let put = rw room at c.put.ensures in
    rw fit put
