use Rattle.remarks.specs.Laws.{noted-phrase}
use Rattle.remarks.proofs.noted.Goals as goal

pub returns : goal.returns
returns c = let a = c.args in noted-phrase a.letter a.row a.out.now c.phrase.result c.phrase.ensures c.beside.ensures
