use Rattle.std.proofs.Common.{arith, ◌+◌}
use Rattle.decimal.specs.Decimal.{value}
use Rattle.script.specs.Script.{ranges, memory, size, repeats}
use Rattle.script.specs.Laws.{index_within}
use Rattle.script.specs.AnswerLaws.{given, not-given, memory_is, size_is, repeats_is, two_spaces}
use Rattle.script.proofs.settings.Goals as goal

pub overflow_add-second_at : goal.overflow_add-second_at
overflow_add-second_at c = omega (arith, index_within 32 c.args.line.now 0)

pub overflow_add-third_at : goal.overflow_add-third_at
overflow_add-third_at c = omega (arith, index_within 32 c.args.line.now 0, index_within 32 c.args.line.now (c.find-first.result + 1))

pub returns-in_err-memory : goal.returns-in_err-memory
returns-in_err-memory c =
    let l = c.args.line.now in
    let f = c.find-first.ensures in
    let g = c.find-second.ensures in
    let m = rw (memory_is l _ _ f g) at c.in_err-memory.ensures in
    rw (c.from_residual.ensures, two_spaces l _ _ f g (omega arith), not-given (ranges 1 4096 (memory l)) _ m)

pub returns-in_err-size : goal.returns-in_err-size
returns-in_err-size c =
    let l = c.args.line.now in
    let f = c.find-first.ensures in
    let g = c.find-second.ensures in
    let m = given (ranges 1 4096 (memory l)) (value 0 (memory l)) _ (rw (memory_is l _ _ f g) at c.in_ok-memory.ensures) in
    let z = rw (size_is l _ _ f g) at c.in_err-size.ensures in
    rw (c.from_residual-in_err-size.ensures, two_spaces l _ _ f g (omega arith), m.0, not-given (ranges 1 1490 (size l)) _ z)

pub returns-in_err-repeats : goal.returns-in_err-repeats
returns-in_err-repeats c =
    let l = c.args.line.now in
    let f = c.find-first.ensures in
    let g = c.find-second.ensures in
    let m = given (ranges 1 4096 (memory l)) (value 0 (memory l)) _ (rw (memory_is l _ _ f g) at c.in_ok-memory.ensures) in
    let z = given (ranges 1 1490 (size l)) (value 0 (size l)) _ (rw (size_is l _ _ f g) at c.in_ok-size.ensures) in
    let r = rw (repeats_is l _ _ f g) at c.in_err-repeats.ensures in
    rw (c.from_residual-in_err-repeats.ensures, two_spaces l _ _ f g (omega arith), m.0, z.0, not-given (ranges 0 255 (repeats l)) _ r)

pub returns : goal.returns
returns c =
    let l = c.args.line.now in
    let f = c.find-first.ensures in
    let g = c.find-second.ensures in
    let m = given (ranges 1 4096 (memory l)) (value 0 (memory l)) _ (rw (memory_is l _ _ f g) at c.in_ok-memory.ensures) in
    let z = given (ranges 1 1490 (size l)) (value 0 (size l)) _ (rw (size_is l _ _ f g) at c.in_ok-size.ensures) in
    let r = given (ranges 0 255 (repeats l)) (value 0 (repeats l)) _ (rw (repeats_is l _ _ f g) at c.in_ok-repeats.ensures) in
    rw (two_spaces l _ _ f g (omega arith), m.0, z.0, r.0, m.1, z.1, r.1)
