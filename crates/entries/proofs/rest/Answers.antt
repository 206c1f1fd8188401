use Prim.Native.Nat.{◌+◌}
use mathlib.Core.Path.{◌≡◌, sym, ap, ◌∙◌}
use lib.ListN.{drop, drop_of_length-le}
use Rattle.entries_next.specs.declared.Place.TheVariants.{Kind}
use Rattle.entries.specs.Entries.{walk}
use Rattle.entries.specs.Laws.{walk_at, walk_outside}
use Rattle.entries.proofs.rest.Goals as goal

pub returns-in-Outside : goal.returns-in-Outside
returns-in-Outside c = let a = c.args in
    let turned : walk a.version c.next-p.result (drop (c.loop-b.b-index + 1) a.s.now) ≡ walk a.version Kind a.s.now = rw c.next-p.ensures (sym (walk_at _ _ _ _ c.loop-b-test.true) ∙ c.loop-b.invariant) in
    sym (walk_outside _ _) ∙ (rw c.in-Outside.is at (turned))

pub loop-b-preserved : goal.loop-b-preserved
loop-b-preserved c = rw c.next-p.ensures (sym (walk_at _ _ _ _ c.loop-b-test.true) ∙ c.loop-b.invariant)

pub returns : goal.returns
unfolding walk
returns c = ap (walk _ c.loop-b.p) (sym (drop_of_length-le _ c.loop-b-test.false)) ∙ c.loop-b.invariant
