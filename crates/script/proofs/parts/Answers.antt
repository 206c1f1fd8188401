use Rattle.std.proofs.Common.{arith, ◌+◌, length, le-leb}
use Rattle.script.specs.Script.{is_settings, settings_line}
use Rattle.script.specs.Inner.{numbers}
use Rattle.script.specs.Laws.{index_within}
use Rattle.script.specs.AnswerLaws.{given, not-given, image_cut, events_cut, settings_is, image_from, three_lines}
use Rattle.script.proofs.parts.Goals as goal

pub overflow_add-image_at : goal.overflow_add-image_at
overflow_add-image_at c = omega (arith, index_within 10 c.args.input.now 0)

pub overflow_add-events_at : goal.overflow_add-events_at
overflow_add-events_at c = let s = c.args.input.now in omega (arith, index_within 10 s 0, index_within 10 s (c.find-first.result + 1))

pub overflow_add-third : goal.overflow_add-third
overflow_add-third c =
    let s = c.args.input.now in
    omega (arith, index_within 10 s 0, index_within 10 s (c.find-first.result + 1), index_within 10 s (c.find-second.result + 1))

pub returns-in_err-line : goal.returns-in_err-line
returns-in_err-line c =
    let s = c.args.input.now in
    let f = c.find-first.ensures in
    let g = c.find-second.ensures in
    let h = c.find-third.ensures in
    let t = not-given (is_settings (settings_line s)) (numbers (settings_line s)) (rw (settings_is s _ _ _ f g h) at c.in_err-line.ensures) in
    rw (c.from_residual.ensures, le-leb (length s) 8192 (omega arith), three_lines s _ _ _ f g h (omega arith), t)

pub returns-then-not-is_hexadecimal : goal.returns-then-not-is_hexadecimal
returns-then-not-is_hexadecimal c =
    let s = c.args.input.now in
    let f = c.find-first.ensures in
    let g = c.find-second.ensures in
    let h = c.find-third.ensures in
    let t = given (is_settings (settings_line s)) (numbers (settings_line s)) _ (rw (settings_is s _ _ _ f g h) at c.in_ok-line.ensures) in
    let i = rw (image_cut s _ _ _ f g h).part at c.is_hexadecimal.ensures in
    rw (le-leb (length s) 8192 (omega arith), three_lines s _ _ _ f g h (omega arith), t.0, ← i, c.if-not-is_hexadecimal.true)

pub returns-then-not-only : goal.returns-then-not-only
returns-then-not-only c =
    let s = c.args.input.now in
    let f = c.find-first.ensures in
    let g = c.find-second.ensures in
    let h = c.find-third.ensures in
    let t = given (is_settings (settings_line s)) (numbers (settings_line s)) _ (rw (settings_is s _ _ _ f g h) at c.in_ok-line.ensures) in
    let i = rw (image_cut s _ _ _ f g h).part at c.is_hexadecimal.ensures in
    let o = rw (events_cut s _ _ _ f g h).part at c.only.ensures in
    rw (le-leb (length s) 8192 (omega arith), three_lines s _ _ _ f g h (omega arith), t.0, ← i, c.if-not-is_hexadecimal.false, ← o, c.if-not-only.true)

pub returns : goal.returns
returns c =
    let s = c.args.input.now in
    let f = c.find-first.ensures in
    let g = c.find-second.ensures in
    let h = c.find-third.ensures in
    let t = given (is_settings (settings_line s)) (numbers (settings_line s)) _ (rw (settings_is s _ _ _ f g h) at c.in_ok-line.ensures) in
    let i = image_cut s _ _ _ f g h in
    let e = events_cut s _ _ _ f g h in
    let j = rw i.part at c.is_hexadecimal.ensures in
    let o = rw e.part at c.only.ensures in
    rw (le-leb (length s) 8192 (omega arith), three_lines s _ _ _ f g h (omega arith), t.0, ← j, c.if-not-is_hexadecimal.false, ← o, c.if-not-only.false, t.1, i.size, e.size, i.next, image_from s _ _ _ f g h)
