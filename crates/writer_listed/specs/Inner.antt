-- Where the walk over entries may end.
use Rattle.std.specs.Prelude.{Bool, true, false}
use Rattle.entries_next.specs.declared.Place.{Place}
use Rattle.entries_next.specs.declared.Place.TheVariants.{Kind, Size, Value, Time, Transfer, Outside, Excess}

-- entries may end where an entry's type would stand next
abbrev pub whole : Place → Bool
whole Kind = true
whole (Size kind) = false
whole (Value n) = false
whole (Time k before) = false
whole (Transfer n) = false
whole Outside = false
whole Excess = false
