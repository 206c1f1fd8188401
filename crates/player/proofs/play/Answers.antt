use Rattle.std.proofs.Common.{◌≡◌, ◌+◌, ◌++◌, get_or, drop, sym, ap, ◌∙◌, arith}
use Rattle.std.proofs.lemmas.Result.{on_ok_weaker}
use Rattle.job.specs.Run.{Run}
use Rattle.rehearse.specs.Rehearse.{event, after}
use Rattle.player.specs.Play.{run_of, start, all, told_of, printed}
use Rattle.player.specs.Laws.{coming-next, on_ok, starts, after-first, after-next, after-all, printed-first, printed-next, printed-all}
use Rattle.player.proofs.play.Goals as goal

pub loop-letter-init : goal.loop-letter-init
loop-letter-init g c =
    let a = c.args in
    let s = a.setup in
    let f = a.file.now in
    let xs = a.letters.now in
    let told = g.T.Teller.told a.teller.now in
    let last = g.T.Teller.last a.teller.now in
    let contents = g.W.Write.contents in
    let w = start a.memory.now in
    let next = run_of c.event.new.self c.event.new.memory in
    let begun = starts c.fresh.result a.memory.now c.fresh.ensures in
    let moved : next ≡ (event s f w 110).run = c.event.ensures.run ∙ ap (λ (v : Run). (event s f v 110).run) begun in (
      ap (λ (v : Run). after s f v xs) moved ∙ sym (after-first s f w xs),
      coming-next (contents a.out.now) (contents c.event.new.out) (contents a.out.now) (told_of s f told w 110) (printed s f told last next xs)
          (printed s f told last w (all xs)) (printed s f told last w (all xs))
          (printed-first s f told last w xs ∙ ap (λ (v : Run). told_of s f told w 110 ++ printed s f told last v xs) (sym moved)) (λ new x. x)
          (rw begun at (c.in_ok-event.ensures.bytes (omega arith))),
      omega arith,
      omega arith,
    )

pub loop-letter-preserved : goal.loop-letter-preserved
loop-letter-preserved g c =
    let a = c.args in
    let s = a.setup in
    let f = a.file.now in
    let xs = a.letters.now in
    let told = g.T.Teller.told a.teller.now in
    let last = g.T.Teller.last a.teller.now in
    let contents = g.W.Write.contents in
    let l = c.loop-letter in
    let i = l.letter-index in
    let x = get_or xs i 0 in
    let w = run_of l.rehearsal l.memory in
    let e = c.event-in-loop-letter in
    let next = run_of e.new.self e.new.memory in
    let moved : next ≡ (event s f w x).run = e.ensures.run in (
      ap (λ (v : Run). after s f v (drop (i + 1) xs)) moved ∙ sym (after-next s f w xs i c.loop-letter-test.true) ∙ l.invariant.0,
      coming-next (contents l.out) (contents e.new.out) (contents a.out.now) (told_of s f told w x) (printed s f told last next (drop (i + 1) xs))
          (printed s f told last w (drop i xs)) (printed s f told last (start a.memory.now) (all xs))
          (printed-next s f told last w xs i c.loop-letter-test.true ∙ ap (λ (v : Run). told_of s f told w x ++ printed s f told last v (drop (i + 1) xs)) (sym moved))
          l.invariant.1 (c.in_ok-event-2.ensures.bytes (omega arith)),
      omega arith,
      omega arith,
    )

pub returns-clause-memory : goal.returns-clause-memory
returns-clause-memory g c =
    let a = c.args in
    let l = c.loop-letter in
    let w = run_of l.rehearsal l.memory in
    on_ok c.end.result
    (ap (λ (v : Run). v.memory) (sym (after-all a.setup a.file.now w a.letters.now l.letter-index c.loop-letter-test.false) ∙ l.invariant.0))

pub returns-clause-bytes : goal.returns-clause-bytes
returns-clause-bytes g c short =
    let a = c.args in
    let l = c.loop-letter in
    let w = run_of l.rehearsal l.memory in
    let told = g.T.Teller.told a.teller.now in
    let last = g.T.Teller.last a.teller.now in
    on_ok_weaker c.end.result
    (λ x. l.invariant.1 (g.W.Write.contents c.end.new.out) (rw (printed-all a.setup a.file.now told last w a.letters.now l.letter-index c.loop-letter-test.false) x))
    (c.end.ensures (omega arith))
