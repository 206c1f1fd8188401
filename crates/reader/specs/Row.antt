-- What the row of a code says of a frame whose length is right.
use Rattle.std.specs.Prelude.{ℕ, List}
use Rattle.std.proofs.Math.Option.{Option, none, some}
use Rattle.message.specs.declared.Fields.{Fields}
use Rattle.message.specs.Read.{refused_fields, Row, judged}

-- its least length, and its numbers
abbrev pub at_least : Option Row → ℕ
at_least none = 0
at_least (some row) = row.shortest

abbrev pub by_row : ℕ → List ℕ → Option Row → Fields
by_row version s none = refused_fields 3
by_row version s (some row) = judged version row.code row.data_at row.shortest s
