use mathlib.Core.Path.{sym, ◌∙◌, ap}
use native.Mathlib.Omega.{arith}
use Rattle.message.specs.declared.Fields.{Fields}
use Rattle.message.specs.Read.{refused_fields}
use Rattle.reader.proofs.Refused.{Alone, fields-alone}
use Rattle.reader.proofs.read.Goals as goal

pub named-requires : goal.named-requires
named-requires c =
    let alone : Alone c.answer-f.result = rw c.answer-f.ensures (fields-alone c.args.version c.args.s.now) in
    let few = alone c.if-f-eq0.false in
    (omega (arith, c.if-f-eq0.false), few.1)

pub returns : goal.returns
returns c =
    let alone : Alone c.answer-f.result = rw c.answer-f.ensures (fields-alone c.args.version c.args.s.now) in
    ap refused_fields c.named.ensures ∙ (alone c.if-f-eq0.false).0 ∙ c.answer-f.ensures
