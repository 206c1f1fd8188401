-- The walk accepts the strings that PROTOCOL 2, 'Messages', lists, and no others.
use Rattle.std.specs.Prelude.{ℕ, zero, suc, ◌+◌, ◌-◌, ◌≤◌, true, false, cond as pick, ◌↔◌, ◌≡◌, eqb, leb, length}
use Rattle.std.proofs.lemmas.Bool.{false≢true}
use mathlib.Core.List.{List, [], ◌∷◌, ◌++◌}
use Rattle.std.proofs.Math.Path.{refl}
use Rattle.std.proofs.Common.{ap, sym, ◌∙◌}
use native.Mathlib.Omega.{arith}
use borrow.Author.Tests.{eqb-true, eqb-false, eq-eqb, ne_eqb, le-leb, leb-true}
use Rattle.octets.specs.TestLaws.{by_cases, both}
use Rattle.host_time.specs.HostTime.{field}
use Rattle.entries_next.specs.declared.Place.{Place}
use Rattle.entries_next.specs.declared.Place.TheVariants.{Kind, Size, Value, Time, Transfer, Outside, Excess}
use Rattle.entries_next.specs.Next.{last_kind, listed, more, next}
use Rattle.entries.specs.Entries.{walk}
use Rattle.entries.specs.Grammar.{Fields, Entries, none, entry, Marked}
use Rattle.entries.specs.Laws.{walk-value, walk-ended, marked}

-- under a version
module _ (version : ℕ) where
  -- ---- a type and a length that are listed
  known : (kind n : ℕ) → listed version kind n ≡ true → (1 ≤ kind) × (kind ≤ last_kind version)
  known zero n l = absurd (false≢true (both (leb zero (last_kind version)) false l).1)
  known (suc kind) n l = (omega arith, leb-true (suc kind) (last_kind version) (both (leb (suc kind) (last_kind version)) _ l).0)

  pub ten : (kind n : ℕ) → listed version kind n ≡ true → kind ≡ 5 → n ≡ 10
  ten kind n l is5 = eqb-true n 10 (rw is5 at (both (leb kind (last_kind version)) _ l).1)

  -- ---- entries are walked to their end
  walk_cons : (p : Place) (x : ℕ) (xs : List ℕ) → walk version p (x ∷ xs) ≡ walk version (next version p x) xs
  unfolding walk
  walk_cons p x xs = refl

  next_kind : (kind n : ℕ) → listed version kind n ≡ true → next version Kind kind ≡ Size kind
  unfolding next
  next_kind kind n l =
      let k = known kind n l in
      let some : kind ≡ 0 → ⊥ = omega arith in
      rw (ne_eqb kind 0 some, le-leb kind (last_kind version) k.1)

  next-size : (kind n : ℕ) → listed version kind n ≡ true → next version (Size kind) n ≡ pick (eqb kind 5) (Time 0 0) (more n)
  unfolding next
  next-size kind n l = rw l

  next_time : (k before b : ℕ) → field k before b ≡ true → next version (Time k before) b ≡ pick (eqb k 9) Kind (Time (k + 1) b)
  unfolding next
  next_time k before b f = rw f

  walk_time : (k before : ℕ) (value rest : List ℕ) → k ≤ 9 → k + length value ≡ 10 → Fields k before value → walk version (Time k before) (value ++ rest) ≡ walk version Kind rest
  walk_time k before [] rest low full f = absurd (omega arith)
  walk_time k before (x ∷ []) rest low full f =
      let last : k ≡ 9 = omega arith in
      rw (walk_cons, next_time k before x f.0, eq-eqb k 9 last)
  walk_time k before (x ∷ (y ∷ value)) rest low full f =
      let early : k ≡ 9 → ⊥ = omega arith in
      rw
      (walk_cons, next_time k before x f.0, ne_eqb k 9 early)
      (walk_time (k + 1) x (y ∷ value) rest (omega arith) (omega arith) f.1)

  walk_content : (kind : ℕ) (value rest : List ℕ) → listed version kind (length value) ≡ true → (kind ≡ 5 → Fields 0 0 value) → walk version (pick (eqb kind 5) (Time 0 0) (more (length value))) (value ++ rest) ≡ walk version Kind rest
  walk_content kind value rest l f =
      by_cases
      (λ (p : Place). walk version p (value ++ rest) ≡ walk version Kind rest)
      (eqb kind 5)
      (λ e.
      let is5 = eqb-true kind 5 e in
      walk_time 0 0 value rest (omega arith) (omega (arith, ten kind (length value) l is5)) (f is5))
      (λ _. walk-value version value rest)

  -- one entry, and what stands behind it
  pub walk-entry : (kind : ℕ) (value rest : List ℕ) → listed version kind (length value) ≡ true → (kind ≡ 5 → Fields 0 0 value) → walk version Kind (kind ∷ length value ∷ (value ++ rest)) ≡ walk version Kind rest
  walk-entry kind value rest l f =
      rw
      (walk_cons, next_kind kind (length value) l, walk_cons, next-size kind (length value) l)
      (walk_content kind value rest l f)

  pub walk-entries : {xs : List ℕ} → Entries version xs → walk version Kind xs ≡ Kind
  unfolding walk
  walk-entries none = refl
  walk-entries (entry kind value rest l f r) = walk-entry kind value rest l f ∙ walk-entries r

  -- ---- what is walked to the entries' end is entries
  -- A string in two parts, a value that is so and entries.
  record Cut (So : List ℕ → Type 0) (xs : List ℕ) : Type 0 where
    value : List ℕ
    rest : List ℕ
    whole : xs ≡ value ++ rest
    so : So value
    entries : Entries version rest

  -- one byte more in front of the value
  longer : {So To : List ℕ → Type 0} {x : ℕ} {xs : List ℕ} (c : Cut So xs) → To (x ∷ c.value) → Cut To (x ∷ xs)
  longer {x = x} c h =
      record { value = x ∷ c.value; rest = c.rest; whole = ap (λ (l : List ℕ). x ∷ l) c.whole; so = h; entries = c.entries }

  -- a type and a length in front of the value
  headed : {So : List ℕ → Type 0} {xs : List ℕ} (kind n : ℕ) (c : Cut So xs) → length c.value ≡ n → listed version kind n ≡ true → (kind ≡ 5 → Fields 0 0 c.value) → Entries version (kind ∷ n ∷ xs)
  headed kind n c e l f = rw (c.whole, ← e) (entry kind c.value c.rest (rw e l) f c.entries)

  -- what leads from a place to the entries' end
  abbrev Rest : Place → List ℕ → Type 0
  Rest Kind xs = Entries version xs
  Rest (Size kind) xs = Entries version (kind ∷ xs)
  Rest (Value n) xs = 1 ≤ n → Cut (λ (v : List ℕ). length v ≡ n) xs
  Rest (Time k before) xs = Cut (λ (v : List ℕ). (k + length v ≡ 10) × Fields k before v) xs
  Rest (Transfer n) xs = ⊥
  Rest Outside xs = ⊥
  Rest Excess xs = ⊥

  rest_more : (n : ℕ) (xs : List ℕ) → Rest (more n) xs → Cut (λ (v : List ℕ). length v ≡ n) xs
  rest_more n xs =
      by_cases
      (λ (p : Place). Rest p xs → Cut (λ (v : List ℕ). length v ≡ n) xs)
      (eqb n 0)
      (λ e r. record { value = []; rest = xs; whole = refl; so = sym (eqb-true n 0 e); entries = r })
      (λ e r. r (omega (arith, eqb-false n 0 e)))

  -- the same with one byte more in front, which leads from p to q
  abbrev Back : Place → ℕ → List ℕ → Place → Type 0
  Back p x xs q = Rest q xs → Rest p (x ∷ xs)

  back-size : (kind n : ℕ) (xs : List ℕ) → listed version kind n ≡ true → Back (Size kind) n xs (pick (eqb kind 5) (Time 0 0) (more n))
  back-size kind n xs l =
      by_cases
      (Back (Size kind) n xs)
      (eqb kind 5)
      (λ e r. headed kind n r (omega (arith, ten kind n l (eqb-true kind 5 e))) l (λ _. r.so.1))
      (λ e r. let c = rest_more n xs r in headed kind n c c.so l (λ is5. absurd (eqb-false kind 5 e is5)))

  back_time : (k before x : ℕ) (xs : List ℕ) → field k before x ≡ true → Back (Time k before) x xs (pick (eqb k 9) Kind (Time (k + 1) x))
  back_time k before x xs f =
      by_cases
      (Back (Time k before) x xs)
      (eqb k 9)
      (λ e r. record { value = x ∷ []; rest = xs; whole = refl; so = (omega (arith, eqb-true k 9 e), (f, tt)); entries = r })
      (λ _ r. longer r (omega (arith, r.so.0), (f, r.so.1)))

  back : (p : Place) (x : ℕ) (xs : List ℕ) → Back p x xs (next version p x)
  unfolding next
  back Kind x xs =
      let P = Back Kind x xs in
      by_cases P (eqb x 0) (λ _ r. absurd r) (λ _. by_cases P (leb x (last_kind version)) (λ _ r. r) (λ _ r. absurd r))
  back (Size kind) n xs = by_cases (Back (Size kind) n xs) (listed version kind n) (back-size kind n xs) (λ _ r. absurd r)
  back (Value n) x xs = λ r some. let c = rest_more (n - 1) xs r in longer c (omega (arith, c.so))
  back (Time k before) x xs = by_cases (Back (Time k before) x xs) (field k before x) (back_time k before x xs) (λ _ r. absurd r)
  back (Transfer n) x xs = by_cases (Back (Transfer n) x xs) (eqb n 0) (λ _ r. r) (λ _ r. r)
  back Outside x xs = λ r. r
  back Excess x xs = λ r. r

  rest : (p : Place) (xs : List ℕ) → walk version p xs ≡ Kind → Rest p xs
  unfolding walk
  rest p [] e = rw e none
  rest p (x ∷ xs) e = back p x xs (rest (next version p x) xs e)

-- ---- both ways
-- the strings that the walk takes for entries, under each version
pub grammar : (version : ℕ) (xs : List ℕ) → (walk version Kind xs ≡ Kind) ↔ Entries version xs
grammar version xs = (rest version Kind xs, walk-entries version)

-- the strings that the walk accepts: entries, the end mark and a transfer address
pub body : (version : ℕ) (xs : List ℕ) → (walk version Kind xs ≡ Transfer 0) ↔ Marked (Entries version) xs
body version xs = (parted, λ m. rw m.whole (walk-ended version m.front m.transfer (walk-entries version m.so) m.four))
  where
    parted : walk version Kind xs ≡ Transfer 0 → Marked (Entries version) xs
    parted e =
        let m = marked version xs e in
        record { front = m.front; transfer = m.transfer; whole = m.whole; so = rest version Kind m.front m.so; four = m.four }
