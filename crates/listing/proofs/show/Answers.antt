use Rattle.std.proofs.Common.{ap, ◌∙◌, arith, refl}
use Rattle.refusal.specs.Refusal.{number}
use Rattle.refusal.specs.Laws.{some}
use Rattle.version.specs.Version.{v30}
use Rattle.message.specs.declared.Fields.{Fields}
use Rattle.message.specs.Read.{refused_fields}
use Rattle.message.specs.Laws.{fields-short}
use Rattle.listing.specs.Frame.{numbers, reason_row}
use Rattle.listing.specs.Laws.{refused-line, read-line, reason_plain}
use Rattle.listing.proofs.show.Goals as goal

pub line-requires : goal.line-requires
line-requires c = fields-short v30 c.args.s.now c.in-Ok.ensures.0

pub returns-in-Ok : goal.returns-in-Ok
returns-in-Ok c =
    let e = c.in-Ok.ensures in
    read-line c.args.s.now c.args.out.now e.1 (ap (λ (f : Fields). f.refusal) e.1 ∙ e.0) c.numbers.result c.numbers.ensures (rw c.from.ensures at c.line.ensures)

pub returns-in-Err : goal.returns-in-Err
returns-in-Err c =
    let r = c.in-Err.refusal in
    let f = refused_fields (number r) in
    refused-line c.args.s.now c.args.out.now {f = f} c.in-Err.ensures (λ z. let p = some r in omega arith) (numbers f) refl (reason_row (number r)) refl
    (rw (c.reason_row.ensures, reason_plain r (numbers f)) at c.line-in-Err.ensures)
