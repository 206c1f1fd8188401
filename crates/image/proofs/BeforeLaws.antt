-- Laws of the wider entry count: the trailer, the refusal and the answers, beside what they were.
use Rattle.std.specs.Prelude.{ℕ, ◌+◌, ◌-◌, ◌*◌, ◌≤◌, ◌<◌, Bool, true, false, ◌≡◌, refl, List, eqb, leb, length, drop}
use Rattle.std.proofs.Common.{ap, arith}
use borrow.Author.Tests.{leb-true, leb-false, le-leb, lt-leb, eq-eqb, ne_eqb, eqb-true}
use Rattle.octets.specs.NumberLaws.{number-two, number-four}
use Rattle.directory.specs.declared.Trailer.{Trailer}
use Rattle.directory.specs.declared.Region.{Region}
use Rattle.directory.specs.Directory.{most_entries, trailer_of, trailer, entries, regions, demand, first, trailer_refusal, entries_refusal, refusal}
use Rattle.directory.specs.Laws.{met}
use Rattle.image.specs.Image.{many, segment}
use Rattle.image.specs.Before.{most_before, trailer_before, zero_before, regions_before, trailer_refusal_before, refusal_before}
use Rattle.image.specs.Before.{cut_refusal_before, Unchanged}

-- the wider count, low half first
counted : (file : List ℕ) → (trailer file).count ≡ (trailer_before file).count + 65536 * zero_before file
unfolding trailer_of
counted file =
    let s = drop (length file - 16) file in
    omega (arith, number-four 4 s, number-two 4 s, number-two 6 s)

-- with the count that it was, the trailer is what it was
same-trailer : (file : List ℕ) → zero_before file ≡ 0 → trailer file ≡ trailer_before file
unfolding trailer_of
same-trailer file z =
    let same : (trailer file).count ≡ (trailer_before file).count = omega (arith, counted file) in
    ap (λ (n : ℕ). record { directory = (trailer file).directory; count = n; transfer = (trailer file).transfer; length = (trailer file).length }) same

-- ---- a count of at most 64
module _ (file : List ℕ) (few : (trailer file).count ≤ 64) where
  zero_field : zero_before file ≡ 0
  zero_field = omega (arith, counted file, few)

  same-refusal : (n : ℕ) → trailer_refusal n (trailer file) ≡ trailer_refusal_before n (trailer file) (zero_before file)
  unfolding demand
  same-refusal n =
      rw (
        le-leb (trailer file).count most_entries (omega (arith, few)),
        le-leb (trailer file).count most_before (omega (arith, few)),
        eq-eqb (zero_before file) 0 zero_field,
      )

  pub few-entries : (trailer file ≡ trailer_before file) × (regions file ≡ regions_before file) × (refusal file ≡ refusal_before file)
  few-entries =
      let same = same-trailer file zero_field in
      (same, ap (λ (t : Trailer). entries file t.directory t.count) same, go (trailer_before file) same)
    where
      go : (b : Trailer) → trailer file ≡ b
          → refusal file ≡ first (trailer_refusal_before (length file) b (zero_before file)) (entries_refusal b.directory 0 (entries file b.directory b.count))
      go b e = rw (← e, same-refusal (length file))

-- ---- a count above 64: the file was refused, with 5 or 6
abbrev Early : ℕ → Type 0
Early n = (5 ≤ n) × (n ≤ 6)

asked : (b : Bool) (n next : ℕ) → Early n → Early next → Early (demand b n next)
unfolding demand
asked true n next h k = k
asked false n next h k = h

five : Early 5
five = omega arith

six : Early 6
six = omega arith

-- from the zero field on
late : (c z last : ℕ) → (z ≡ 0 → 64 < c) → Early (demand (eqb z 0) 5 (demand (leb 1 c) 6 (demand (leb c most_before) 6 last)))
unfolding demand
late c z last more = go (eqb z 0) refl
  where
    above : 64 < c → Early (demand (leb c most_before) 6 last)
    above m = rw (lt-leb c most_before (omega (arith, m))) six

    go : (b : Bool) → eqb z 0 ≡ b → Early (demand b 5 (demand (leb 1 c) 6 (demand (leb c most_before) 6 last)))
    go true e = asked (leb 1 c) 6 (demand (leb c most_before) 6 last) six (above (more (eqb-true z 0 e)))
    go false e = five

early : (n : ℕ) (t : Trailer) (z : ℕ) → (z ≡ 0 → 64 < t.count) → Early (trailer_refusal_before n t z)
early n t z more = asked _ 5 _ five (asked _ 5 _ five (asked _ 5 _ five (late t.count z _ more)))

-- the first of two that is there is the answer
early-first : (n next : ℕ) → Early n → Early (first n next)
unfolding demand
early-first n next h = rw (ne_eqb n 0 (λ z. omega arith)) h

pub many-entries : (file : List ℕ) → 64 < (trailer file).count → (5 ≤ refusal_before file) × (refusal_before file ≤ 6)
many-entries file more =
    early-first _ _ (early (length file) (trailer_before file) (zero_before file) (λ z. omega (arith, counted file, more)))

-- ---- a file that was accepted
pub accepted-before : (file : List ℕ) (S : ℕ) → cut_refusal_before file S ≡ 0 → Unchanged file S
accepted-before file S h = go (leb (trailer file).count 64) refl
  where
    none : refusal_before file ≡ 0
    none = (met _ _ _ (met _ _ _ h (omega arith)).1 (omega arith)).1

    go : (b : Bool) → leb (trailer file).count 64 ≡ b → Unchanged file S
    go false e = absurd (omega (arith, many-entries file (leb-false _ _ e), none))
    go true e =
        let same = few-entries file (leb-true _ _ e) in
        record {
          accepted = rw same.2 h;
          regions_are = same.1;
          transfer-is = ap (λ (t : Trailer). t.transfer) same.0;
          number_is = ap (many S) same.1;
          segments_are = λ i. ap (λ (rs : List Region). segment S rs i) same.1;
        }
