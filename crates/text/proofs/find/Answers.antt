use Rattle.std.proofs.Common.{◌≡◌, arith, sym, length, drop, ◌-◌, length-drop, take_all}
use Rattle.text.specs.FindLaws.{index_end, index-Some, index-None, slice_on}
use Rattle.text.proofs.find.Goals as goal

pub returns-then-s-from : goal.returns-then-s-from
returns-then-s-from c =
    let a = c.args in
    rw (slice_on a.s.now a.from) (omega (arith, index_end a.b a.s.now a.from c.if-s-from.true), λ h. h)

pub returns-in-Some : goal.returns-in-Some
returns-in-Some c =
    let a = c.args in
    let t = drop a.from a.s.now in
    let n : length t ≡ length a.s.now - a.from = length-drop a.from a.s.now in
    let e = rw (take_all (length a.s.now - a.from) t (omega arith)) at c.in-Some.ensures in
    let f = index-Some a.b t c.in-Some.i (sym e) in
    rw (slice_on a.s.now a.from) (omega (arith, f.0), λ h. omega (arith, f.1))

pub returns-in-None : goal.returns-in-None
returns-in-None c =
    let a = c.args in
    let t = drop a.from a.s.now in
    let n : length t ≡ length a.s.now - a.from = length-drop a.from a.s.now in
    let e = rw (take_all (length a.s.now - a.from) t (omega arith)) at c.in-None.ensures in
    rw (slice_on a.s.now a.from) (omega (arith, index-None a.b t (sym e), c.if-s-from.false), λ h. omega arith)
