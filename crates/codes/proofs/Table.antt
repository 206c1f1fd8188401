-- No code above the table's end has a row.
use Prim.Native.Nat.{ℕ, ◌<◌}
use mathlib.Core.Path.{◌≡◌, refl}
use mathlib.Core.Bool.{Bool, true, false, ◌&&◌}
use mathlib.Core.List.{List, [], ◌∷◌}
use mathlib.Core.Option.{none}
use native.Mathlib.Omega.{arith}
use lib.Dec.{T, leb, leb→le}
use borrow.Author.Tests.{ne_eqb}
use Rattle.message.specs.Read.{Row, find}

-- every code of the rows is at most n
abbrev pub at_most : ℕ → List Row → Bool
at_most n [] = true
at_most n (row ∷ rest) = leb row.code n && at_most n rest

both : (a b : Bool) → T (a && b) → T a × T b
both true true t = (t, t)
both true false t = absurd t
both false b t = absurd t

-- no code above n has a row then
pub none_above : (rows : List Row) (n code : ℕ) → T (at_most n rows) → n < code → find rows code ≡ none
unfolding find
none_above [] n code t h = refl
none_above (row ∷ rest) n code t h =
    let p = both (leb row.code n) (at_most n rest) t in
    let l = leb→le row.code n p.0 in
    rw (ne_eqb code row.code (omega arith)) (none_above rest n code p.1 h)
