use Rattle.std.proofs.Common.{ℕ, ◌≤◌, length, replicate, arith}
use Rattle.std.proofs.lemmas.List.{length-replicate}
use Rattle.job.specs.Run.{frame_line}
use Rattle.player.specs.Laws.{placed-line, frame_line-most}
use Rattle.rehearsal.proofs.TranscriptTeller.event.Goals as goal

pub returns : goal.returns
returns g c short =
    let a = c.args in
    let line = frame_line a.letter a.frame.now in
    let room : length line ≤ length (replicate {A = ℕ} 3003 0) = omega (arith, frame_line-most a.letter a.frame.now short, length-replicate {A = ℕ} 3003 0) in
    rw (placed-line line (replicate 3003 0) room c.line-written.result c.line-written.ensures) at c.print.ensures
