-- Where a byte stands in a text.
use Rattle.std.specs.Prelude.{ℕ, suc, Bool, true, false, List, [], ◌∷◌, take, drop, eqb}

-- the place one further on, but for a byte that is the one sought
abbrev pub index_after : Bool → ℕ → ℕ
index_after true n = 0
index_after false n = suc n

-- the place of the first b in a text, or the text's length
unfoldable pub index_of : ℕ → List ℕ → ℕ
index_of b [] = 0
index_of b (c ∷ rest) = index_after (eqb c b) (index_of b rest)

-- the part of a text from a place on up to another
unfoldable pub slice : ℕ → ℕ → List ℕ → List ℕ
slice from to text = drop from (take to text)
