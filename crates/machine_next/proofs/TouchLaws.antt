-- What the machine does with a load, or under 2.1 with a code 20, that touches the ROM window, and with the same frame again (PROTOCOL 4,
-- 'Machine end').
use Rattle.std.specs.Prelude.{ℕ, ◌≡◌, refl, true, List, ◌⊎◌, length}
use Rattle.std.proofs.Common.{◌∙◌, inl, inr, arith, eq-eqb, ne_eqb}
use Rattle.std.proofs.Math.Decide.{dec_lt}
use Rattle.window.specs.Window.{Lies, InWindow}
use Rattle.version.specs.Version.{older}
use Rattle.block.specs.Block.{place}
use Rattle.memory.specs.Laws.{touching_unfit}
use Rattle.message.specs.declared.Fields.{Fields}
use Rattle.message.specs.Read.{part}
use Rattle.parameters.specs.declared.Parameters.{Parameters}
use Rattle.machine_record.specs.declared.Settings.{Settings}
use Rattle.machine_record.specs.declared.Machine.{Machine}
use Rattle.machine_record.specs.Record.{loading, started}
use Rattle.machine_number.specs.Number.{after, heed}
use Rattle.machine_next.specs.Next.{by_number, unfit, on_load, on_parameters, react}

-- ---- a frame with a number
-- one that is taken and does not fit: memory stays as it is, all of it; the answer has the next number and error 1; the machine is Loading
answered : (m : Machine) (number : ℕ) (memory : List ℕ) → heed m number ≡ 1
    → by_number m number (unfit m.parameters number memory) memory ≡ unfit m.parameters number memory
unfolding by_number
answered m number memory h = rw (eq-eqb (heed m number) 1 h)

-- The same frame again, to the machine as it was left: it and all of memory stay, and the same answer goes out, its error included. Number 0
-- is taken anew, any other number is a repeat.
again : (p : Parameters) (number : ℕ) (memory : List ℕ) → by_number (loading p (after number) 1) number (unfit p number memory) memory ≡ unfit p number memory
unfolding by_number
again p number memory =
    elim (dec_lt 0 number) [
      | yes n ↦ let some : number ≡ 0 → ⊥ = omega arith in
          rw (ne_eqb number 0 some, ne_eqb number (after number) (omega arith), eq-eqb (after number) (after number) refl)
      | no n ↦ answered (loading p (after number) 1) number memory (rw (eq-eqb number 0 (omega arith)))
    ]

-- ---- a load
-- codes 0 and 2 are loads, which differ in the machine after one that fits
loads : (s : Settings) (m : Machine) (f : Fields) (frame memory : List ℕ) → (f.code ≡ 0) ⊎ (f.code ≡ 2)
    → (fitted : Machine) × (react s m f frame memory ≡ on_load s m f.number f.address (part frame f) fitted memory)
loads s m f frame memory (inl c) = (started m.parameters f.transfer, rw (eq-eqb f.code 0 c))
loads s m f frame memory (inr c) = (loading m.parameters (after f.number) 0, rw (ne_eqb f.code 0 (omega arith), eq-eqb f.code 2 c))

-- A load (code 0 or 2) that the machine takes by its number, and of which some address lies in the window, does not fit: the machine is not
-- Started, not even after a code 0.
pub touching_answered : (s : Settings) (m : Machine) (f : Fields) (frame memory : List ℕ) → (f.code ≡ 0) ⊎ (f.code ≡ 2) → heed m f.number ≡ 1
    → (a : ℕ) → InWindow s.window a → Lies f.address (length (part frame f)) a
    → react s m f frame memory ≡ unfit m.parameters f.number memory
unfolding on_load
touching_answered s m f frame memory c h a x y =
    (loads s m f frame memory c).1
    ∙ (rw (touching_unfit s.window f.address (length (part frame f)) (length memory) a x y) (answered m f.number memory h))

pub touching_again : (s : Settings) (p : Parameters) (f : Fields) (frame memory : List ℕ) → (f.code ≡ 0) ⊎ (f.code ≡ 2)
    → (a : ℕ) → InWindow s.window a → Lies f.address (length (part frame f)) a
    → react s (loading p (after f.number) 1) f frame memory ≡ unfit p f.number memory
unfolding on_load
touching_again s p f frame memory c a x y =
    (loads s (loading p (after f.number) 1) f frame memory c).1
    ∙ (rw (touching_unfit s.window f.address (length (part frame f)) (length memory) a x y) (again p f.number memory))

-- ---- a code 20 under 2.1
-- one of whose block some address lies in the window does not fit
block-unfit : (s : Settings) (m : Machine) (f : Fields) (frame memory : List ℕ) → f.code ≡ 20 → older s.version ≡ true
    → (a : ℕ) → InWindow s.window a → Lies (place (length memory)) 14 a
    → react s m f frame memory ≡ by_number m f.number (unfit m.parameters f.number memory) memory
unfolding on_parameters
block-unfit s m f frame memory c v a x y =
    rw
    (ne_eqb f.code 0 (omega arith), ne_eqb f.code 2 (omega arith), eq-eqb f.code 20 c, v, touching_unfit s.window (place (length memory)) 14 (length memory) a x y)

-- So if the machine takes it by its number, nothing is written or kept, all 14 bytes counting: also those that the block would leave.
pub block-answered : (s : Settings) (m : Machine) (f : Fields) (frame memory : List ℕ) → f.code ≡ 20 → older s.version ≡ true → heed m f.number ≡ 1
    → (a : ℕ) → InWindow s.window a → Lies (place (length memory)) 14 a → react s m f frame memory ≡ unfit m.parameters f.number memory
block-answered s m f frame memory c v h a x y =
    block-unfit s m f frame memory c v a x y ∙ answered m f.number memory h

pub block-again : (s : Settings) (p : Parameters) (f : Fields) (frame memory : List ℕ) → f.code ≡ 20 → older s.version ≡ true
    → (a : ℕ) → InWindow s.window a → Lies (place (length memory)) 14 a
    → react s (loading p (after f.number) 1) f frame memory ≡ unfit p f.number memory
block-again s p f frame memory c v a x y =
    block-unfit s (loading p (after f.number) 1) f frame memory c v a x y ∙ again p f.number memory
