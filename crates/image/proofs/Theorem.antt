-- Image files made before the entry count was widened (PROTOCOL 3, 'Files made earlier'), whatever their bytes.
use Rattle.std.specs.Prelude.{ℕ, ◌≤◌, ◌<◌, ◌≡◌, List}
use Rattle.directory.specs.Directory.{trailer, regions, refusal}
use Rattle.image.specs.Before.{trailer_before, regions_before, refusal_before, cut_refusal_before, Unchanged}
use Rattle.image.proofs.BeforeLaws as laws

-- with a count of at most 64 nothing changed, accepted or refused: all that is read of a file is its trailer, its regions with
-- their bytes, and its refusal
pub few-entries : (file : List ℕ) → (trailer file).count ≤ 64
    → (trailer file ≡ trailer_before file) × (regions file ≡ regions_before file) × (refusal file ≡ refusal_before file)
few-entries = laws.few-entries

-- with a greater count it was refused, with 5 or 6
pub many-entries : (file : List ℕ) → 64 < (trailer file).count → (5 ≤ refusal_before file) × (refusal_before file ≤ 6)
many-entries = laws.many-entries

-- so a file that was accepted is unchanged
pub accepted-before : (file : List ℕ) (S : ℕ) → cut_refusal_before file S ≡ 0 → Unchanged file S
accepted-before = laws.accepted-before
