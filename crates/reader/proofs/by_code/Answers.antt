use borrow.Author.Tests.{le-ltb}
use Rattle.message.specs.Read.{find}
use Rattle.reader.proofs.by_code.Goals as goal

pub returns-in-8 : goal.returns-in-8
unfolding find
returns-in-8 c = let long = rw c.in-8.is at c.requires in
    rw c.in-8.is (rw (le-ltb _ 6 long) at (c.request_program.ensures c.args.version))
