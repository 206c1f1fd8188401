-- A phrase with its numbers is short.
use Rattle.std.specs.Prelude.{ℕ, ◌≤◌, ◌≡◌, refl, true, List, [], length}
use Rattle.std.proofs.Common.{arith, length-append, le-ltb}
use Rattle.text.specs.Find.{index_of}
use Rattle.buffer.specs.declared.Written.{Written}
use Rattle.buffer.specs.Lay.{Came}
use Rattle.text.specs.Text.{chars, placed}
use Rattle.hexadecimal.specs.Hexadecimal.{pairs}
use Rattle.pattern.specs.Pattern.{filling, sentenced}
use Rattle.pattern.specs.MostLaws.{weigh, every, filling-most}
use Rattle.words.specs.declared.Words.{Words}
use Rattle.words.specs.Words.{phrases, spoken}

rows_short : every length 130 phrases ≡ true
unfolding every index_of phrases
rows_short = refl

rows_light : every (weigh 0) 300 phrases ≡ true
unfolding every index_of weigh phrases
rows_light = refl

filling-short : (w : Words) → length (filling phrases w.row w.v []) ≤ 300
filling-short w = filling-most phrases 300 rows_short rows_light w.row w.v [] (omega arith)

pub spoken-most : (w : Words) → length (spoken w) ≤ 301
unfolding spoken
spoken-most w = rw length-append (omega (arith, filling-short w))

-- so it is never refused for its length
pub spoken-filled : (w : Words) (out : List ℕ) {r : Written} {out' : List ℕ}
    → Came (sentenced phrases w.row w.v [] [] (chars "\n") out) r out' → Came (placed (spoken w) out) r out'
unfolding pairs spoken
spoken-filled w out came = rw (le-ltb 6600 (length (filling phrases w.row w.v [])) (omega (arith, filling-short w))) at came
