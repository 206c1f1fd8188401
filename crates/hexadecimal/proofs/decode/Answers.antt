use mathlib.Core.Path.{sym, ap, ◌∙◌}
use Rattle.buffer.specs.Lay.{written}
use Rattle.hexadecimal.specs.declared.Line.{Line}
use Rattle.hexadecimal.specs.RunLaws.{decoded-short, decoded-whole}
use Rattle.hexadecimal.proofs.decode.Goals as goal

pub returns-then-out-s : goal.returns-then-out-s
returns-then-out-s c = decoded-short c.args.s.now c.args.out.now (sym c.is_hexadecimal.ensures ∙ c.if-not-is_hexadecimal.false) c.if-out-s.true

pub returns : goal.returns
returns c = let d = decoded-whole c.args.s.now c.args.out.now (sym c.is_hexadecimal.ensures ∙ c.if-not-is_hexadecimal.false) c.if-out-s.false in
    (ap (λ (l : Line). written l.length) c.run-line.ensures.0 ∙ d.0, c.run-line.ensures.1 ∙ d.1)
