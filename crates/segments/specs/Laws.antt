-- The ways through the answers.
use Rattle.std.specs.Prelude.{ℕ, ◌≤◌, ◌<◌, ◌≡◌, refl, List, Result, Ok, Err}
use Rattle.std.proofs.Common.{arith, lt-ltb, le-ltb, eq-eqb, ne_eqb}
use Rattle.directory.specs.Directory.{trailer, regions}
use Rattle.image.specs.Image.{cut_refusal, many, segment, tally}
use Rattle.image.specs.declared.Tally.{Tally}
use Rattle.refusal.specs.declared.Refusal.{Refusal}
use Rattle.refusal.specs.Refusal.{number, Answers}
use Rattle.refusal.specs.Laws.{some}
use Rattle.segments.specs.Segments.{image_of, checked, no_segment, found_as, found}

-- ---- an image
-- what is answered of it is any survey's, whatever segment that looks for
pub checked_survey : (file : List ℕ) (S i : ℕ) (a : Result Tally Refusal)
    → Answers a (cut_refusal file S) (tally (trailer file) S i (regions file)) → image_of a ≡ checked file S
checked_survey file S i (Ok x) p = simp (p.1, eq-eqb _ _ p.0)
checked_survey file S i (Err r) p = rw (p, ne_eqb (number r) 0 (λ z. omega (arith, some r))) refl

-- ---- a segment
pub found-refused : (file : List ℕ) (S i : ℕ) → (cut_refusal file S ≡ 0 → ⊥) → found file S i ≡ no_segment (cut_refusal file S)
found-refused file S i h = simp (ne_eqb _ _ h)

module _ (file : List ℕ) (S : ℕ) (h : cut_refusal file S ≡ 0) where
  pub found_inside : (i : ℕ) → i < many S (regions file) → found file S i ≡ found_as (many S (regions file)) i (segment S (regions file) i)
  found_inside i l = simp (eq-eqb _ _ h, lt-ltb _ _ l)

  pub found_outside : (i : ℕ) → many S (regions file) ≤ i → found file S i ≡ no_segment 10
  found_outside i l = simp (eq-eqb _ _ h, le-ltb _ _ l)
