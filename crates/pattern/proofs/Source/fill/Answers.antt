use Rattle.std.proofs.Common.{arith, ◌+◌, get_or, drop}
use Rattle.text.specs.Laws.{adds, pending_next, pending_none}
use Rattle.pattern.specs.Pattern.{piece, after, filled}
use Rattle.pattern.specs.Laws.{filled_at, filled_none}
use Rattle.pattern.specs.Marks.{code_of}
use Rattle.pattern.proofs.Source.fill.Goals as goal

pub loop-c-preserved : goal.loop-c-preserved
loop-c-preserved c =
    let a = c.args in
    let t = a.self.table.now in
    let s = a.self.bytes.now in
    let v = a.self.numbers.now in
    let l = c.loop-c in
    let m = code_of l.before in
    let b = get_or a.pattern.now l.c-index 0 in
    let added = c.piece-at.ensures in
    let n = (adds (piece t s v m b) l.at l.out c.piece-at.result c.piece-at.new.out added).long in (
      omega (arith, added.0, n),
      omega (arith, n),
      rw c.after-before.ensures (pending_next l.invariant.2 (piece t s v m b) (filled t s v (after m b) (drop (l.c-index + 1) a.pattern.now)) (filled_at t s v a.pattern.now l.c-index m c.loop-c-test.true) added),
    )

pub returns : goal.returns
returns c =
    let a = c.args in
    let l = c.loop-c in
    pending_none l.invariant.2 (filled_none a.self.table.now a.self.bytes.now a.self.numbers.now a.pattern.now l.c-index (code_of l.before) c.loop-c-test.false) l.invariant.0
