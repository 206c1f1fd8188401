-- Laws of a trailer and a directory: what their acceptance says, and what an accepted directory's regions are.
use Rattle.std.specs.Prelude.{ℕ, zero, suc, ◌+◌, ◌-◌, ◌*◌, ◌≤◌, ◌<◌, Bool, true, false, ◌≡◌, refl, List, [], ◌∷◌, eqb, length, get_or}
use Rattle.std.proofs.Common.{ap, arith, drop-drop, leb-true, eqb-true}
use Rattle.std.proofs.lemmas.Bool.{eqb-false}
use Rattle.octets.specs.Number.{Octets}
use Rattle.octets.specs.NumberLaws.{part-bound}
use Rattle.directory.specs.Directory.{addresses, most_entries, trailer_of, trailer, entry_at, entries, ending, nowhere}
use Rattle.directory.specs.Directory.{demand, first, trailer_refusal, entry_refusal, entries_refusal}
use Rattle.directory.specs.declared.Trailer.{Trailer}
use Rattle.directory.specs.declared.Region.{Region}

-- ---- refusal 0: every demand is met
pub met : (b : Bool) (n after : ℕ) → demand b n after ≡ 0 → 0 < n → (b ≡ true) × (after ≡ 0)
unfolding demand
met true n after h p = (refl, h)
met false n after h p = absurd (omega arith)

pub first-none : (n after : ℕ) → first n after ≡ 0 → (n ≡ 0) × (after ≡ 0)
unfolding demand
first-none n after h = go (eqb n 0) refl h
  where
    go : (b : Bool) → eqb n 0 ≡ b → demand b n after ≡ 0 → (n ≡ 0) × (after ≡ 0)
    go true e g = (eqb-true n 0 e, g)
    go false e g = absurd (eqb-false n 0 e g)

-- what an entry's acceptance says: it has bytes, all before the directory, and its addresses exist, none below `end`
pub record Fit (directory end : ℕ) (r : Region) : Type 0 where
  pub some : 1 ≤ r.length
  pub within : r.place + r.length ≤ directory
  pub below : ending r ≤ addresses
  pub after : end ≤ r.address

pub fit : (directory end : ℕ) (r : Region) → entry_refusal directory end r ≡ 0 → Fit directory end r
fit directory end r h =
    let a = met _ _ _ h (omega arith) in
    let b = met _ _ _ a.1 (omega arith) in
    let c = met _ _ _ b.1 (omega arith) in
    let d = met _ _ _ c.1 (omega arith) in
    record {
      some = leb-true _ _ a.0;
      within = leb-true _ _ b.0;
      below = leb-true _ _ c.0;
      after = leb-true _ _ d.0;
    }

-- ---- an accepted directory: `entries_refusal directory end rs ≡ 0`
pub accepted_cons : (directory end : ℕ) (r : Region) (rs : List Region)
    → entries_refusal directory end (r ∷ rs) ≡ 0 → Fit directory end r × (entries_refusal directory (ending r) rs ≡ 0)
unfolding entries_refusal
accepted_cons directory end r rs h =
    let both = first-none (entry_refusal directory end r) (entries_refusal directory (ending r) rs) h in
    (fit directory end r both.0, both.1)

-- every region fits
pub region-fit : (directory end : ℕ) (rs : List Region) (k : ℕ)
    → entries_refusal directory end rs ≡ 0 → k < length rs → Fit directory end (get_or rs k nowhere)
region-fit directory end [] k h l = absurd (omega arith)
region-fit directory end (r ∷ rs) zero h l = (accepted_cons directory end r rs h).0
region-fit directory end (r ∷ rs) (suc k) h l =
    let both = accepted_cons directory end r rs h in
    let later = region-fit directory (ending r) rs k both.1 (omega arith) in
    record { some = later.some; within = later.within; below = later.below; after = omega arith }

-- a region begins at the end of any before it, or later: no two share an address
pub ascending : (directory end : ℕ) (rs : List Region) (j k : ℕ)
    → entries_refusal directory end rs ≡ 0 → j < k → k < length rs → ending (get_or rs j nowhere) ≤ (get_or rs k nowhere).address
ascending directory end [] j k h l m = absurd (omega arith)
ascending directory end (r ∷ rs) j zero h l m = absurd (omega arith)
ascending directory end (r ∷ rs) zero (suc k) h l m =
    (region-fit directory (ending r) rs k (accepted_cons directory end r rs h).1 (omega arith)).after
ascending directory end (r ∷ rs) (suc j) (suc k) h l m =
    ascending directory (ending r) rs j k (accepted_cons directory end r rs h).1 (omega arith) (omega arith)

pub length-entries : (file : List ℕ) (at n : ℕ) → length (entries file at n) ≡ n
unfolding entries
length-entries file at zero = refl
length-entries file at (suc n) = ap suc (length-entries file (at + 12) n)

pub entries_cons : (file : List ℕ) (at n : ℕ) → 0 < n → entries file at n ≡ entry_at file at ∷ entries file (at + 12) (n - 1)
unfolding entries
entries_cons file at zero h = absurd (omega arith)
entries_cons file at (suc n) h =
    let e : suc n - 1 ≡ n = omega arith in
    rw e

-- ---- a whole file
-- what the acceptance of a trailer says, in a file of n bytes
pub record Placed (n : ℕ) (t : Trailer) : Type 0 where
  pub long : 16 ≤ n
  pub short : n ≤ 16777216
  pub some : 1 ≤ t.count
  pub few : t.count ≤ most_entries
  pub placed : t.directory + 12 * t.count + 16 ≡ n

pub placed : (n : ℕ) (t : Trailer) → trailer_refusal n t ≡ 0 → Placed n t
placed n t h =
    let a = met _ _ _ h (omega arith) in
    let b = met _ _ _ a.1 (omega arith) in
    let c = met _ _ _ b.1 (omega arith) in
    let d = met _ _ _ c.1 (omega arith) in
    let e = met _ _ _ d.1 (omega arith) in
    let f = met _ _ _ e.1 (omega arith) in
    record {
      long = leb-true _ _ a.0;
      short = leb-true _ _ b.0;
      some = leb-true _ _ d.0;
      few = leb-true _ _ e.0;
      placed = eqb-true _ _ f.0;
    }

-- ---- a file of bytes
pub transfer-bound : (file : List ℕ) → Octets file → (trailer file).transfer < addresses
unfolding trailer_of
transfer-bound file o = rw drop-drop (part-bound 4 (length file - 16 + 8) file o)
