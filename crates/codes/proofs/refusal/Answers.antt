use borrow.Author.Tests.{lt-ltb, le-ltb}
use Rattle.codes.proofs.Ways.{by_entry}
use Rattle.codes.proofs.refusal.Goals as goal

pub returns-then-longest-length : goal.returns-then-longest-length
returns-then-longest-length c = let a = c.args in
    rw (by_entry a.length a.code _ c.entry-entry.ensures, le-ltb _ _ c.if-entry-lt-LEAST.false, le-ltb _ _ (rw c.from.ensures at c.if-length-from.false), ← c.longest.ensures, lt-ltb _ _ c.if-longest-length.true)

pub returns : goal.returns
returns c = let a = c.args in
    rw (by_entry a.length a.code _ c.entry-entry.ensures, le-ltb _ _ c.if-entry-lt-LEAST.false, le-ltb _ _ (rw c.from.ensures at c.if-length-from.false), ← c.longest.ensures, le-ltb _ _ c.if-longest-length.false)
