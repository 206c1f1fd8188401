-- Texts from tables. A table is one text, each row ended by a line feed; a row is a text with marks. A mark stands in front of a
-- letter, a for the first of some numbers: # is that number, @ that number as an address, % the bytes from there on, as many as
-- the next number says, and & the row of that number, as it stands.
use Rattle.std.specs.Prelude.{ℕ, zero, suc, ◌+◌, ◌-◌, Bool, ◌||◌, cond as pick, List, [], ◌∷◌, ◌++◌, length, get_or, take, drop, eqb, ltb}
use Rattle.text.specs.Find.{index_of}
use Rattle.buffer.specs.Lay.{Output, refuse}
use Rattle.text.specs.Text.{chars, placed}
use Rattle.decimal.specs.Decimal.{decimal}
use Rattle.hexadecimal.specs.Hexadecimal.{pairs, address}

-- a table of rows
abbrev pub tabled : List (List ℕ) → List ℕ
tabled [] = []
tabled (first ∷ rest) = first ++ (10 ∷ tabled rest)

-- the first row of a table, and the table behind it
abbrev pub row : List ℕ → List ℕ
row table = take (index_of 10 table) table

abbrev pub behind : List ℕ → List ℕ
behind table = drop (index_of 10 table + 1) table

-- a table without its first k rows
unfoldable pub skip : ℕ → List ℕ → List ℕ
skip zero table = table
skip (suc k) table = skip k (behind table)

-- bytes, two digits each; a hyphen if there are none
abbrev pub bytes : List ℕ → List ℕ
bytes [] = chars "-"
bytes (b ∷ rest) = pairs (b ∷ rest)

-- what a mark stands for in front of number k
abbrev pub value : List ℕ → List ℕ → List ℕ → ℕ → ℕ → List ℕ
value table s v mark k =
    pick (eqb mark 35) (decimal (get_or v k 0))
    (pick (eqb mark 64) (address (get_or v k 0))
    (pick (eqb mark 37) (bytes (take (get_or v (k + 1) 0) (drop (get_or v k 0) s)))
    (row (skip (get_or v k 0) table))))

abbrev pub is_mark : ℕ → Bool
is_mark c = eqb c 35 || (eqb c 64 || (eqb c 37 || eqb c 38))

-- the text of a character, behind a mark or behind none (0), and the mark that the next one stands behind
abbrev pub piece : List ℕ → List ℕ → List ℕ → ℕ → ℕ → List ℕ
piece table s v mark c = pick (eqb mark 0) (pick (is_mark c) [] (c ∷ [])) (value table s v mark (c - 97))

abbrev pub after : ℕ → ℕ → ℕ
after mark c = pick (eqb mark 0) (pick (is_mark c) c 0) 0

unfoldable pub filled : List ℕ → List ℕ → List ℕ → ℕ → List ℕ → List ℕ
filled table s v mark [] = []
filled table s v mark (c ∷ rest) = piece table s v mark c ++ filled table s v (after mark c) rest

-- row k of a table, filled with numbers and with bytes of s
abbrev pub filling : List ℕ → ℕ → List ℕ → List ℕ → List ℕ
filling table k v s = filled table s v 0 (row (skip k table))

-- the same, then bytes in hexadecimal, then a text, laid into a buffer; 9 also for a filled row above 6,600 characters
abbrev pub sentenced : List ℕ → ℕ → List ℕ → List ℕ → List ℕ → List ℕ → List ℕ → Output
sentenced table k v s bytes tail out =
    pick (ltb 6600 (length (filling table k v s))) (refuse 9 out)
    (placed (filling table k v s ++ (pairs bytes ++ tail)) out)
