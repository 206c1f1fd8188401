-- Code 20's entries, end mark and transfer address, byte by byte over a whole string.
use Rattle.std.specs.Prelude.{ℕ, List, [], ◌∷◌}
use Rattle.entries_next.specs.declared.Place.{Place}
use Rattle.entries_next.specs.Next.{next}

-- the place after all the bytes, under a version
unfoldable pub walk : ℕ → Place → List ℕ → Place
walk version p [] = p
walk version p (b ∷ bs) = walk version (next version p b) bs
