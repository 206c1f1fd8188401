use Rattle.std.proofs.Common.{◌≡◌, length, drop}
use Rattle.rehearse.specs.Rehearse.{after}
use Rattle.player.specs.Play.{run_of, start, all, printed}
use Rattle.player.specs.Laws.{Coming}
use Rattle.player.proofs.play.Given as goal

abbrev pub invariant-loop-letter : goal.invariant-loop-letter
invariant-loop-letter g l =
    let w = run_of l.rehearsal l.memory in
    let rest = drop l.letter-index l.letters in
    let told = g.T.Teller.told l.teller in
    let last = g.T.Teller.last l.teller in
    (after l.setup l.file w rest ≡ after l.setup l.file (start l.fn.memory) (all l.letters))
    × Coming (g.W.Write.contents l.out) (printed l.setup l.file told last w rest) (g.W.Write.contents l.fn.out) (printed l.setup l.file told last (start l.fn.memory) (all l.letters))
    × (length l.rehearsal.reply ≡ 1500) × (length l.memory ≡ length l.fn.memory)
