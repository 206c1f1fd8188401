use Rattle.std.proofs.Common.{ℕ, ◌≤◌, length, replicate, arith}
use Rattle.std.proofs.lemmas.List.{length-replicate}
use Rattle.job.specs.Run.{end_line}
use Rattle.player.specs.Laws.{placed-line, end_line-most}
use Rattle.rehearsal.proofs.TranscriptTeller.end.Goals as goal

pub returns : goal.returns
returns g c short =
    let a = c.args in
    let line = end_line a.ends a.memory.now in
    let room : length line ≤ length (replicate {A = ℕ} 8400 0) = omega (arith, end_line-most a.ends a.memory.now short, length-replicate {A = ℕ} 8400 0) in
    rw (placed-line line (replicate 8400 0) room c.end-written.result c.end-written.ensures) at c.print.ensures
