use mathlib.Core.Path.{◌≡◌}
use Rattle.decimal.specs.Laws.{kept_from, trimmed-from, kept_from-within}
use borrow.Author.Rules.{rules}
use Rattle.decimal.proofs.zeros.Goals as goal

pub returns : goal.returns
returns c =
    let e : c.unwrap_or.result ≡ kept_from c.args.d.now = search rules in
    rw e (kept_from-within c.args.d.now, trimmed-from c.args.d.now)
