-- What the loops of the check lean on.
use Rattle.std.specs.Prelude.{ℕ, suc, ◌+◌, ◌-◌, ◌<◌, ◌≤◌, Bool, true, false, ◌≡◌, refl, List, [], ◌∷◌, length, get_or, take, drop, eqb, ltb}
use Rattle.std.specs.List.{list_any}
use Rattle.std.proofs.Common.{sym, ◌∙◌, ltb-true, ltb-false, arith, add-one, drop_of_length-le, length-drop, drop-cons, lt-ltb, le-ltb}
use Rattle.text.specs.Laws.{by_test}
use Rattle.text.specs.Find.{index_after, index_of}
use Rattle.script.specs.Script.{up_to, behind, only}

-- ---- letters
-- a letter is one of some where the place of the first such is before their end
pub contained : (letters : List ℕ) (c : ℕ) → list_any (λ y. eqb y c) letters ≡ ltb (index_of c letters) (length letters)
unfolding index_of
contained [] c = refl
contained (d ∷ rest) c =
    let n = index_of c rest in
    let m = length rest in
    by_test (eqb d c) _ (λ e. rw e (sym (lt-ltb 0 (suc m) (omega arith))))
    (λ e.
    rw (e, contained rest c)
    (by_test (ltb n m) _ (λ f. f ∙ sym (lt-ltb (suc n) (suc m) (omega (arith, ltb-true n m f)))) (λ f. f ∙ sym (le-ltb (suc n) (suc m) (omega (arith, ltb-false n m f))))))

pub only_on : (letters s : List ℕ) (i : ℕ) → i < length s → index_of (get_or s i 0) letters < length letters → only letters (drop i s) ≡ only letters (drop (i + 1) s)
unfolding only
only_on letters s i h l = rw (drop-cons s i 0 h, lt-ltb (index_of (get_or s i 0) letters) (length letters) l, add-one i)

pub only-not : (letters s : List ℕ) (i : ℕ) → i < length s → length letters ≤ index_of (get_or s i 0) letters → only letters (drop i s) ≡ false
unfolding only
only-not letters s i h l = rw (drop-cons s i 0 h, le-ltb (index_of (get_or s i 0) letters) (length letters) l)

pub only_end : (letters s : List ℕ) (i : ℕ) → length s ≤ i → only letters (drop i s) ≡ true
unfolding only
only_end letters s i h = rw (drop_of_length-le s {i = i} h)

-- ---- what `find` answers from a place on: the part up to there, the place behind it, and the part's length
pub record Cut (b : ℕ) (s : List ℕ) (from at r : ℕ) : Type 0 where
  pub part : take (r - at) (drop at s) ≡ up_to b s from
  pub next : r + 1 ≡ behind b s from
  pub size : r - at ≡ index_of b (drop from s)

pub cut : (b : ℕ) (s : List ℕ) (from at r : ℕ) → at ≡ from → r ≡ at + index_of b (drop at s) → Cut b s from at r
cut b s from at r e f =
    let p = index_of b (drop from s) in
    let g : r ≡ from + p = rw e at f in
    let size : r - at ≡ p = omega arith in
    record { part = rw (size, e); next = omega arith; size = size }

pub cut-first : (b : ℕ) (s : List ℕ) (r : ℕ) → r ≡ 0 + index_of b s → take r s ≡ up_to b s 0
cut-first b s r e = let f : r ≡ index_of b s = omega arith in rw f

index_most : (b : ℕ) (s : List ℕ) → index_of b s ≤ length s
unfolding index_of
index_most b [] = omega arith
index_most b (c ∷ rest) = go (eqb c b) (index_most b rest)
  where
    go : (t : Bool) → index_of b rest ≤ length rest → index_after t (index_of b rest) ≤ length (c ∷ rest)
    go true h = omega arith
    go false h = omega arith

pub index_within : (b : ℕ) (s : List ℕ) (from : ℕ) → index_of b (drop from s) ≤ length s
index_within b s from = omega (arith, index_most b (drop from s), length-drop from s)

-- `text::find` up to the end, and a place behind the end
pub found_none : (b : ℕ) (s : List ℕ) (from : ℕ) → length s < from → from ≡ from + index_of b (drop from s)
unfolding index_of
found_none b s from h = rw (drop_of_length-le s {i = from} (omega arith)) (omega arith)
