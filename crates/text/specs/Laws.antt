-- Texts added one behind the other.
use Rattle.std.specs.Prelude.{ℕ, ◌+◌, ◌-◌, ◌<◌, ◌≤◌, ◌≡◌, refl, Bool, true, false, List, [], ◌++◌, length, take, drop}
use Rattle.std.proofs.Common.{sym, ap, ◌∙◌, append_assoc, arith, add_assoc, add-zero, zero-add, length-append, length-take, length-drop, take-append-drop, drop_of_length-le, take_at, drop_at, drop-drop, take_all, lt-ltb, le-ltb, le-leb, leb-true, leb-false}
use Rattle.std.proofs.Math.Seq.{take-length, take-nil}
use Rattle.std.proofs.lemmas.Bool.{lt-leb}
use Rattle.text.specs.Find.{index_of, slice}
use Rattle.buffer.specs.declared.Written.{Written}
use Rattle.buffer.specs.Lay.{refuse, written, fits, over, put, Came}
use Rattle.octets.specs.TestLaws.{by_cases}
use Rattle.text.specs.Text.{placed, Added}
use Rattle.text.specs.Inner.{Adds}

-- by the two ways of a test
pub by_test : (test : Bool) (P : Type 0) → (test ≡ true → P) → (test ≡ false → P) → P
by_test true P f g = f refl
by_test false P f g = g refl

-- what `find` answers up to a text's end
pub found : (b : ℕ) (t : List ℕ) (at r : ℕ) → r ≡ at + index_of b (slice at (length t) t) → r ≡ at + index_of b (drop at t)
unfolding slice
found b t at r e = rw take-length at e

-- ---- parts
pub part_none : (s : List ℕ) (from n : ℕ) → length s < from → take 0 s ≡ take n (drop from s)
part_none s from n h = rw (drop_of_length-le s {i = from} (omega arith), take-nil n)

pub part-rest : (s : List ℕ) (from m n : ℕ) → m ≡ length s - from → m < n → take m (drop from s) ≡ take n (drop from s)
part-rest s from m n e h =
    take_all m (drop from s) (simp length-drop (omega arith)) ∙ sym (take_all n (drop from s) (simp length-drop (omega arith)))

-- ---- the two ways through `placed`
pub placed-short : (bytes out : List ℕ) → length out < length bytes → Came (placed bytes out) (refuse 9 out).answer out
placed-short bytes out h = rw (lt-ltb (length out) (length bytes) h) (refl, refl)

pub placed-whole : (bytes out : List ℕ) → length bytes ≤ length out → Came (placed bytes out) (written (length bytes)) (bytes ++ drop (length bytes) out)
placed-whole bytes out h = rw (le-ltb (length out) (length bytes) h) (refl, refl)

-- a text that was placed stands in its buffer
pub placed-there : (bytes out : List ℕ) → length bytes ≤ length out → {r : Written} {out' : List ℕ} → Came (placed bytes out) r out'
    → (r.length ≤ length out') × (take r.length out' ≡ bytes)
placed-there bytes out h {r} {out'} came =
    let w = placed-whole bytes out h in
    let n : r.length ≡ length bytes = ap (λ (x : Written). x.length) (came.0 ∙ sym w.0) in
    let e = came.1 ∙ sym w.1 in
    let l = ap length e ∙ length-append bytes _ in
    (omega (arith, n, l), rw (e, n) (take_at bytes _ (length bytes) refl))

-- ---- what `put` answered
module _ (xs : List ℕ) (at : ℕ) (out : List ℕ) {b : Bool} {out' : List ℕ} (p : (b ≡ fits xs at out) × (out' ≡ put xs at out)) where
  pub there-is-room : b ≡ true → at + length xs ≤ length out
  there-is-room t = leb-true (at + length xs) (length out) (sym p.0 ∙ t)

  pub no_room : b ≡ false → (length out < at + length xs) × (out' ≡ out)
  no_room t =
      let e : fits xs at out ≡ false = sym p.0 ∙ t in
      (leb-false (at + length xs) (length out) e, p.1 ∙ (rw e))

pub put_front : (xs out : List ℕ) {b : Bool} {out' : List ℕ} → (b ≡ fits xs 0 out) × (out' ≡ put xs 0 out) → b ≡ true → Came (placed xs out) (written (length xs)) out'
put_front xs out p t =
    let h = there-is-room xs 0 out p t in
    let w = placed-whole xs out (omega arith) in
    (w.0, p.1 ∙ (rw (sym p.0 ∙ t, zero-add)) ∙ w.1)

-- ---- texts laid over a buffer
pub length_over : (xs : List ℕ) (at : ℕ) (out : List ℕ) → at + length xs ≤ length out → length (over xs at out) ≡ length out
length_over xs at out h = simp (length-append, length-take, length-drop) (omega arith)

over_nil : (at : ℕ) (out : List ℕ) → over [] at out ≡ out
over_nil at out = rw add-zero (take-append-drop at out)

-- what follows goes behind what is there
pub over-append : (xs ys : List ℕ) (at : ℕ) (out : List ℕ) → at + length xs ≤ length out
    → over ys (at + length xs) (over xs at out) ≡ over (xs ++ ys) at out
over-append xs ys at out h =
    let P = take at out ++ xs in
    let R = drop (at + length xs) out in
    let n : length P ≡ at + length xs = simp (length-append, length-take) (omega arith) in
    let e₁ : over xs at out ≡ P ++ R = sym (append_assoc (take at out) xs R) in
    let e₂ : drop (at + length xs + length ys) (P ++ R) ≡ drop (length ys) R =
    sym (drop-drop (length ys) (at + length xs) (P ++ R)) ∙ ap (drop (length ys)) (drop_at P R (at + length xs) n) in
    rw (e₁, take_at P R (at + length xs) n, e₂, drop-drop (length ys) (at + length xs) out, length-append xs ys, ← add_assoc at (length xs) (length ys)) (simp append_assoc)

-- ---- adding by parts
pub adds : (xs : List ℕ) (at : ℕ) (out : List ℕ) (r : ℕ) (out' : List ℕ) → Added xs at out r out' → Adds xs at out r out'
adds xs at out r out' a =
    record {
      behind_it = a.0;
      long = ap length a.1 ∙ by_cases (λ (l : List ℕ). length l ≡ length out) (fits xs at out) (λ e. length_over xs at out (leb-true _ _ e)) (λ e. refl);
      stands = λ h. a.1 ∙ (rw (le-leb (at + length xs) (length out) h));
    }

-- nothing
pub adds_none : (at : ℕ) (out : List ℕ) → at ≤ length out + 1 → Adds [] at out at out
adds_none at out h =
    record {
      behind_it = omega arith;
      long = refl;
      stands = λ l. sym (over_nil at out);
    }

-- one text behind another
pub adds_append : (xs ys : List ℕ) (at : ℕ) (out : List ℕ) (m : ℕ) (out₁ : List ℕ) (r : ℕ) (out₂ : List ℕ)
    → Adds xs at out m out₁ → Adds ys m out₁ r out₂ → Adds (xs ++ ys) at out r out₂
adds_append xs ys at out m out₁ r out₂ a b =
    let n : length (xs ++ ys) ≡ length xs + length ys = length-append xs ys in
    record {
      behind_it = omega (arith, a.behind_it, b.behind_it, a.long);
      long = b.long ∙ a.long;
      stands = λ h.
          let p : m ≡ at + length xs = omega (arith, a.behind_it) in
          b.stands (omega (arith, a.long)) ∙ (rw (p, a.stands (omega arith)) (over-append xs ys at out (omega arith)));
    }

-- Of a text that is being added from a place on, the rest is still to come, from `at` on.
abbrev pub Pending : List ℕ → ℕ → List ℕ → List ℕ → ℕ → List ℕ → Type 0
Pending rest at out whole from out₀ = (r : ℕ) (out' : List ℕ) → Adds rest at out r out' → Adds whole from out₀ r out'

module _ {rest : List ℕ} {at : ℕ} {out whole : List ℕ} {from : ℕ} {out₀ : List ℕ} (p : Pending rest at out whole from out₀) where
  pub pending_next : (xs ys : List ℕ) → rest ≡ xs ++ ys → {m : ℕ} {out₁ : List ℕ} → Added xs at out m out₁ → Pending ys m out₁ whole from out₀
  pending_next xs ys e {m} {out₁} a r out' b = p r out' (rw e (adds_append xs ys at out m out₁ r out' (adds xs at out m out₁ a) b))

  pub pending_none : rest ≡ [] → at ≤ length out + 1 → Adds whole from out₀ at out
  pending_none e h = p at out (rw e (adds_none at out h))

-- a text that fits, or does not
pub added_whole : (xs : List ℕ) (at : ℕ) (out : List ℕ) (r : ℕ) (out' : List ℕ) → at + length xs ≤ length out → Adds xs at out r out' → Added xs at out r out'
added_whole xs at out r out' h a = (a.behind_it, a.stands h ∙ (rw (le-leb (at + length xs) (length out) h)))

pub added_not : (xs : List ℕ) (at : ℕ) (out : List ℕ) → length out < at + length xs → Added xs at out (length out + 1) out
added_not xs at out h = (omega arith, rw (lt-leb (at + length xs) (length out) h))

-- a text that was added from the start on stands there, or is too long
module _ (xs out : List ℕ) (r : ℕ) (out' : List ℕ) (a : Adds xs 0 out r out') where
  pub adds-placed : length xs ≤ length out → Came (placed xs out) (written r) out'
  adds-placed h =
      let w = placed-whole xs out h in
      let n : r ≡ length xs = omega (arith, a.behind_it) in
      (ap written n ∙ w.0, a.stands (omega arith) ∙ (rw zero-add) ∙ w.1)

  pub adds-there : r ≤ length out → (r ≤ length out') × (take r out' ≡ xs)
  adds-there h =
      let n : length xs ≡ r = omega (arith, a.behind_it) in
      (omega (arith, a.long), rw (a.stands (omega arith)) (take_at xs (drop (0 + length xs) out) r n))

  pub adds-long : length out < r → length out < length xs
  adds-long h = omega (arith, a.behind_it)
