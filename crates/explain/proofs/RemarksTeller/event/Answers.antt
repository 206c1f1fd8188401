use Rattle.std.proofs.Common.{◌≡◌, ℕ, ◌≤◌, length, replicate, arith}
use Rattle.std.proofs.lemmas.List.{length-replicate}
use Rattle.std.proofs.lemmas.Result.{on_ok_weaker}
use Rattle.remarks.specs.Remarks.{remark, lost}
use Rattle.player.specs.Laws.{both-appended, placed-line}
use Rattle.explain.specs.Laws.{remark-most, lost-most}
use Rattle.explain.proofs.RemarksTeller.event.Goals as goal

pub returns : goal.returns
returns g c short =
    let a = c.args in
    let contents = g.W.Write.contents in
    let one = remark a.letter a.before a.after a.frame.now in
    let two = lost a.letter a.before a.frame.now in
    let n : length (replicate {A = ℕ} 3400 0) ≡ 3400 = length-replicate {A = ℕ} 3400 0 in
    let m : length one ≤ 3400 = remark-most a.letter a.before a.frame.now a.after short in
    let k : length two ≤ 3400 = lost-most a.letter a.before a.frame.now in
    let room : length one ≤ length (replicate {A = ℕ} 3400 0) = omega (arith, n, m) in
    let more : length two ≤ length c.remark-remark.new.out = omega (arith, n, k) in
    let first = rw (placed-line one (replicate 3400 0) room c.remark-remark.result c.remark-remark.ensures) at c.in_ok-print.ensures in
    let second = rw (placed-line two c.remark-remark.new.out more c.lost-lost.result c.lost-lost.ensures) at c.print-2.ensures in
    on_ok_weaker c.print-2.result (both-appended (contents a.out.now) (contents c.print.new.out) (contents c.print-2.new.out) one two first) second
