use Rattle.std.proofs.Common.{◌≡◌, ℕ, ◌≤◌, length, replicate, arith}
use Rattle.std.proofs.lemmas.List.{length-replicate}
use Rattle.std.proofs.lemmas.Result.{on_ok_weaker}
use Rattle.job.specs.Run.{end_line}
use Rattle.remarks.specs.Remarks.{meaning}
use Rattle.player.specs.Laws.{both-appended, placed-line, end_line-most}
use Rattle.explain.specs.Laws.{meaning-most}
use Rattle.explain.proofs.RemarksTeller.end.Goals as goal

pub returns : goal.returns
returns g c short =
    let a = c.args in
    let contents = g.W.Write.contents in
    let one = end_line a.ends a.memory.now in
    let two = meaning a.ends a.self.now.segments in
    let n : length (replicate {A = ℕ} 8400 0) ≡ 8400 = length-replicate {A = ℕ} 8400 0 in
    let m : length one ≤ 8400 = end_line-most a.ends a.memory.now short in
    let k : length two ≤ 8400 = meaning-most a.ends a.self.now.segments in
    let room : length one ≤ length (replicate {A = ℕ} 8400 0) = omega (arith, n, m) in
    let more : length two ≤ length c.end-last.new.line = omega (arith, n, k) in
    let first = rw (placed-line one (replicate 8400 0) room c.end-last.result c.end-last.ensures) at c.in_ok-print.ensures in
    let second = rw (placed-line two c.end-last.new.line more c.meaning-meaning.result c.meaning-meaning.ensures) at c.print-2.ensures in
    on_ok_weaker c.print-2.result (both-appended (contents a.out.now) (contents c.print.new.out) (contents c.print-2.new.out) one two first) second
