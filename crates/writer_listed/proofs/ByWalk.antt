-- Entries are listed where the walk over them ends as entries may.
use Prim.Native.Nat.{ℕ}
use mathlib.Core.Path.{◌≡◌, refl, sym}
use mathlib.Core.Bool.{Bool, true, false, true≢false}
use mathlib.Core.List.{List}
use Rattle.entries_next.specs.declared.Place.{Place}
use Rattle.entries_next.specs.declared.Place.TheVariants.{Kind, Size, Value, Time, Transfer, Outside, Excess}
use Rattle.entries.specs.Entries.{walk}
use Rattle.message.specs.Write.{entry_list}
use Rattle.message.specs.Laws.{whole-listed, listed-whole}
use Rattle.writer_listed.specs.Inner.{whole}

elsewhere : (p : Place) → (p ≡ Kind → ⊥) → false ≡ whole p
elsewhere Kind h = absurd (h refl)
elsewhere (Size kind) h = refl
elsewhere (Value n) h = refl
elsewhere (Time k before) h = refl
elsewhere (Transfer n) h = refl
elsewhere Outside h = refl
elsewhere Excess h = refl

by_bool : (p : Place) (b : Bool) → (b ≡ true → p ≡ Kind) → (p ≡ Kind → b ≡ true) → b ≡ whole p
by_bool p true f g = rw (f refl)
by_bool p false f g = elsewhere p (λ k. true≢false (sym (g k)))

pub listed_as : (version : ℕ) (e : List ℕ) → (entry_list e).listed version ≡ whole (walk version Kind e)
listed_as version e = by_bool (walk version Kind e) ((entry_list e).listed version) (listed-whole version e) (whole-listed version e)
