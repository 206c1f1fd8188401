-- What is kept of a string of entries holds what the string says: of each type the last entry's value.
use Rattle.std.specs.Prelude.{ℕ, zero, suc, ◌+◌, ◌-◌, ◌≤◌, ◌≡◌, Bool, true, false, cond as pick, List, [], ◌∷◌, ◌++◌, ◌⊎◌, length, replicate, eqb, leb}
use Rattle.std.proofs.Math.Path.{refl}
use Rattle.std.proofs.Common.{◌∙◌, append_assoc, inl, inr, arith, take_at, drop_at, take_all}
use Rattle.std.proofs.lemmas.Bool.{false≢true}
use borrow.Author.Tests.{eqb-true, eqb-false, eq-eqb, ne_eqb, leb-true}
use Rattle.octets.specs.TestLaws.{by_cases, both}
use Rattle.version.specs.Version.{older}
use Rattle.entries_next.specs.declared.Place.TheVariants.{Kind}
use Rattle.entries_next.specs.Next.{longest_name, longest_address, last_kind, listed}
use Rattle.entries.specs.Entries.{walk}
use Rattle.entries.specs.Grammar.{Entries, none, entry}
use Rattle.entries.specs.GrammarLaws.{grammar}
use Rattle.parameters.specs.Parameters.{latest, value, kept}
use Rattle.holds.specs.Holds as says
use Rattle.holds.specs.Holds.{Absent, Last, Is, of, Holds}
use Rattle.parameters.specs.Laws.{latest_cons}

-- ---- the last value of a type
module _ (version kind : ℕ) where
  -- over one entry
  latest-entry : (before : List ℕ) (other : ℕ) (bytes rest : List ℕ)
      → latest kind before 0 (other ∷ length bytes ∷ (bytes ++ rest)) ≡ latest kind (pick (eqb other kind) bytes before) 0 rest
  latest-entry before other bytes rest =
      latest_cons kind before other (length bytes) (bytes ++ rest) ∙ (rw (take_at bytes rest (length bytes) refl, drop_at bytes rest (length bytes) refl))

  -- over entries, then over what stands behind them
  latest_append : (before : List ℕ) {xs : List ℕ} → Entries version xs → (ys : List ℕ) → latest kind before 0 (xs ++ ys) ≡ latest kind (latest kind before 0 xs) 0 ys
  unfolding latest
  latest_append before none ys = refl
  latest_append before (entry other bytes rest l f e) ys =
      rw (append_assoc bytes rest ys, latest-entry before other bytes (rest ++ ys), latest-entry before other bytes rest)
      (latest_append (pick (eqb other kind) bytes before) e ys)

  -- over entries of other types
  latest-absent : (before : List ℕ) {xs : List ℕ} → Absent kind xs → latest kind before 0 xs ≡ before
  unfolding latest
  latest-absent before says.none = refl
  latest-absent before (says.entry other bytes rest ne a) =
      rw (latest-entry before other bytes rest, ne_eqb other kind ne) (latest-absent before a)

  latest-last : {bytes xs : List ℕ} → Last version kind bytes xs → latest kind [] 0 xs ≡ bytes
  latest-last {bytes} l =
      rw (l.whole, latest_append [] l.entries (kind ∷ length bytes ∷ (bytes ++ l.behind)), latest-entry (latest kind [] 0 l.before) kind bytes l.behind, eq-eqb kind kind refl)
      (latest-absent bytes l.absent)

  -- each type is absent, or has a last entry
  either : {xs : List ℕ} → Entries version xs → Absent kind xs ⊎ ((bytes : List ℕ) × Last version kind bytes xs)
  either none = inl says.none
  either (entry other bytes rest l f e) = go (either e) (eqb other kind) refl
    where
      go : Absent kind rest ⊎ ((v : List ℕ) × Last version kind v rest) → (b : Bool) → eqb other kind ≡ b
          → Absent kind (other ∷ length bytes ∷ (bytes ++ rest)) ⊎ ((v : List ℕ) × Last version kind v (other ∷ length bytes ∷ (bytes ++ rest)))
      go (inr x) b q =
          inr (
            x.0,
            record {
              before = other ∷ length bytes ∷ (bytes ++ x.1.before);
              behind = x.1.behind;
              whole = rw (x.1.whole, append_assoc bytes x.1.before (kind ∷ length x.0 ∷ (x.0 ++ x.1.behind)));
              entries = entry other bytes x.1.before l f x.1.entries;
              fits = x.1.fits;
              absent = x.1.absent;
            },
          )
      go (inl a) true q =
          let same : other ≡ kind = eqb-true other kind q in
          inr (bytes, record { before = []; behind = rest; whole = rw same; entries = none; fits = rw (← same) l; absent = a })
      go (inl a) false q = inl (says.entry other bytes rest (eqb-false other kind q) a)

-- ---- a value of the list has at most 16 bytes
few : (version kind n : ℕ) → listed version kind n ≡ true → n ≤ 16
few version kind n l =
    let P : Bool → Type 0 = λ b. b ≡ true → n ≤ 16 in
    let name : leb n (longest_name version) ≡ true → n ≤ 16 = λ e. omega (arith, leb-true n (longest_name version) e, most 6 16 (omega arith) (omega arith)) in
    let address : leb n (longest_address version) ≡ true → n ≤ 16 = λ e. omega (arith, leb-true n (longest_address version) e, most 2 6 (omega arith) (omega arith)) in
    by_cases P (eqb kind 1) (λ _. name) (λ _.
    by_cases P (eqb kind 2) (λ _. address) (λ _.
    by_cases P (eqb kind 3) (λ _. name) (λ _.
    by_cases P (eqb kind 4) (λ _. address) (λ _.
    by_cases P (eqb kind 5) (λ _ e. omega (arith, eqb-true n 10 e)) (λ _ no. absurd (false≢true no))))))
    (both (leb kind (last_kind version)) _ l).1
  where
    most : (a b : ℕ) → a ≤ 16 → b ≤ 16 → pick (older version) a b ≤ 16
    most a b x y = by_cases (λ (k : ℕ). k ≤ 16) (older version) (λ _. x) (λ _. y)

-- kept, it is these bytes
is : (bytes : List ℕ) → length bytes ≤ 16 → Is (value bytes) bytes
is bytes h =
    let all = take_all 16 bytes h in
    record {
      size = omega arith;
      bytes_are = rw all (take_at bytes (replicate (16 - length bytes) 0) (length bytes) refl);
      zeros = rw all (drop_at bytes (replicate (16 - length bytes) 0) (length bytes) refl);
    }

-- the value of a type, of all that is kept
of-kept : (kind : ℕ) → 1 ≤ kind → kind ≤ 5 → (string : List ℕ) → of kind (kept string) ≡ value (latest kind [] 0 string)
of-kept zero l h string = absurd (omega arith)
of-kept (suc zero) l h string = refl
of-kept (suc (suc zero)) l h string = refl
of-kept (suc (suc (suc zero))) l h string = refl
of-kept (suc (suc (suc (suc zero)))) l h string = refl
of-kept (suc (suc (suc (suc (suc zero))))) l h string = refl
of-kept (suc (suc (suc (suc (suc (suc k)))))) l h string = absurd (omega arith)

-- of a string that the walk takes for entries of a version, what is kept holds what it says
pub holds : (version : ℕ) (string : List ℕ) → walk version Kind string ≡ Kind → Holds version (kept string) string
holds version string w =
    record {
      last = λ kind l h bytes e. rw (of-kept kind l h string, latest-last version kind e) (is bytes (few version kind (length bytes) e.fits));
      absent = λ kind l h a. rw (of-kept kind l h string, latest-absent version kind [] a) (is [] (omega arith));
      either = λ kind. either version kind ((grammar version string).0 w);
    }
