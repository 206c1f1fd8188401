-- Laws of the place of a byte in a text.
use Rattle.std.specs.Prelude.{ℕ, ◌+◌, ◌<◌, ◌≤◌, ◌≡◌, refl, Option, Some, None, List, [], ◌∷◌, length, drop, get_or, eqb, ltb, position}
use Rattle.std.proofs.Common.{sym, ◌∙◌, arith, add-one, add_comm, drop-cons, drop_of_length-le, eq-eqb, ne_eqb, ltb-false}
use Rattle.std.proofs.Math.Seq.{take-length}
use Rattle.std.specs.List.{position_or_len}
use Rattle.std.proofs.lemmas.List.Recursion.{is_position_or_len}
use Rattle.std.proofs.lemmas.List.Sums.{position_or_len_is}
use Rattle.std.proofs.lemmas.List.Quantifiers.{position-Some}
use Rattle.text.specs.Laws.{by_test}
use Rattle.text.specs.Find.{index_of, slice}

pub index_here : (b : ℕ) (s : List ℕ) (i : ℕ) → i < length s → get_or s i 0 ≡ b → index_of b (drop i s) ≡ 0
unfolding index_of
index_here b s i h e = rw (drop-cons s i 0 h, eq-eqb (get_or s i 0) b e)

pub index_on : (b : ℕ) (s : List ℕ) (i : ℕ) → i < length s → (get_or s i 0 ≡ b → ⊥) → index_of b (drop i s) ≡ index_of b (drop (i + 1) s) + 1
unfolding index_of
index_on b s i h n = rw (drop-cons s i 0 h, ne_eqb (get_or s i 0) b n, add-one i) (sym (add-one _))

pub index_end : (b : ℕ) (s : List ℕ) (i : ℕ) → length s ≤ i → index_of b (drop i s) ≡ 0
unfolding index_of
index_end b s i h = rw (drop_of_length-le s {i = i} h)

pub slice_on : (s : List ℕ) (from : ℕ) → slice from (length s) s ≡ drop from s
unfolding slice
slice_on s from = rw (take-length s)

-- what `position` answers
index-is : (b : ℕ) (t : List ℕ) → index_of b t ≡ position_or_len (λ x. eqb x b) t
unfolding index_of
index-is b t = is_position_or_len (index_of b) (λ x. eqb x b) refl (λ x xs. by_test (eqb x b) _ (λ e. rw e refl) (λ e. rw (e, add_comm 1 _, add-one) refl)) t

index-most : (b : ℕ) (t : List ℕ) → index_of b t ≤ length t
unfolding index_of
index-most b [] = omega arith
index-most b (c ∷ rest) = by_test (eqb c b) _ (λ e. rw e (omega arith)) (λ e. rw e (omega (arith, index-most b rest)))

pub index-Some : (b : ℕ) (t : List ℕ) (i : ℕ) → position (λ x. eqb x b) t ≡ Some i → (index_of b t ≡ i) × (i < length t)
index-Some b t i e =
    let p = position-Some (λ x. eqb x b) t i 0 e in
    (index-is b t ∙ position_or_len_is (λ x. eqb x b) t i 0 (omega (arith, p.0)) p.2 (λ h. p.1), p.0)

pub index-None : (b : ℕ) (t : List ℕ) → position (λ x. eqb x b) t ≡ None → index_of b t ≡ length t
index-None b t e =
    by_test (ltb (index_of b t) (length t)) _
    (λ f. let z : position (λ x. eqb x b) t ≡ Some (index_of b t) = rw (← index-is b t, f) refl in let w : ◌≡◌ {A = Option ℕ} (Some (index_of b t)) None = cc in let q : ◌≡◌ {A = ℕ} 0 1 = cc in absurd (omega arith))
    (λ f. omega (arith, ltb-false _ _ f, index-most b t))
