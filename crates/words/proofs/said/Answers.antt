use Rattle.words.specs.Words.{phrases}
use Rattle.words.specs.Laws.{spoken-filled}
use Rattle.words.proofs.said.Goals as goal

pub returns : goal.returns
unfolding phrases
returns c = spoken-filled c.args.w c.args.out.now c.sentence.ensures
