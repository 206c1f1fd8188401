-- Rows found, and patterns filled character by character.
use Rattle.std.specs.Prelude.{ℕ, zero, suc, ◌+◌, ◌-◌, ◌<◌, ◌≤◌, ◌≡◌, refl, List, [], ◌∷◌, ◌++◌, length, get_or, take, drop}
use Rattle.std.proofs.Common.{sym, ◌∙◌, arith, add-one, drop_of_length-le, length-drop, drop-drop, le-ltb, lt-ltb}
use Rattle.std.proofs.Math.Seq.{drop-cons}
use Rattle.text.specs.Find.{index_of, slice}
use Rattle.buffer.specs.declared.Written.{Written}
use Rattle.buffer.specs.Lay.{refused, Came}
use Rattle.text.specs.Text.{chars, placed}
use Rattle.text.specs.Laws.{found, adds-there, adds-long}
use Rattle.text.specs.Inner.{Adds}
use Rattle.hexadecimal.specs.Hexadecimal.{pairs}
use Rattle.pattern.specs.Pattern.{behind, skip, row, bytes, piece, after, filled, filling, sentenced}

-- behind a row, at its line feed or at the table's end
pub behind_feed : (t : List ℕ) (at r : ℕ) → r ≡ at + index_of 10 (slice at (length t) t) → drop (r + 1) t ≡ behind (drop at t)
behind_feed t at r e =
    let n : r + 1 ≡ at + (index_of 10 (drop at t) + 1) = omega (arith, found 10 t at r e) in
    rw (n, ← drop-drop (index_of 10 (drop at t) + 1) at t)

pub behind-end : (t : List ℕ) (at r : ℕ) → r ≡ at + index_of 10 (slice at (length t) t) → length t ≤ r → drop r t ≡ behind (drop at t)
behind-end t at r e h =
    drop_of_length-le t {i = r} h
    ∙ sym (drop_of_length-le (drop at t) {i = index_of 10 (drop at t) + 1} (simp length-drop (omega (arith, found 10 t at r e))))

-- one row more is passed
pub skip_on : (left : ℕ) (t : List ℕ) → 0 < left → skip (left - 1) (behind t) ≡ skip left t
unfolding skip
skip_on zero t z = absurd (omega arith)
skip_on (suc left) t z = let e : suc left - 1 ≡ left = omega arith in rw e

pub skip-done : (left : ℕ) (t : List ℕ) → left ≤ 0 → t ≡ skip left t
unfolding skip
skip-done zero t h = refl
skip-done (suc left) t h = absurd (omega arith)

-- the row from there on
pub row-found : (t : List ℕ) (from r k : ℕ) → drop from t ≡ skip k t → r ≡ from + index_of 10 (slice from (length t) t)
    → take (r - from) (drop from t) ≡ row (skip k t)
row-found t from r k e f =
    let n : r - from ≡ index_of 10 (drop from t) = omega (arith, found 10 t from r f) in
    rw (n, e)

pub bytes-none : (s : List ℕ) → length s ≡ 0 → bytes s ≡ chars "-"
bytes-none [] h = refl
bytes-none (b ∷ rest) h = absurd (omega arith)

pub bytes-some : (s : List ℕ) → (length s ≡ 0 → ⊥) → bytes s ≡ pairs s
bytes-some [] h = absurd (h refl)
bytes-some (b ∷ rest) h = refl

module _ (table s v p : List ℕ) where
  pub filled_at : (i mark : ℕ) → i < length p
      → filled table s v mark (drop i p) ≡ piece table s v mark (get_or p i 0) ++ filled table s v (after mark (get_or p i 0)) (drop (i + 1) p)
  unfolding filled
  filled_at i mark h = rw (add-one i, drop-cons p i 0 h)

  pub filled_none : (i mark : ℕ) → length p ≤ i → filled table s v mark (drop i p) ≡ []
  unfolding filled
  filled_none i mark h = rw (drop_of_length-le p {i = i} h)

-- row k filled in a space of 6,600 characters: too long, or it stands there
module _ (table : List ℕ) (k : ℕ) (v s p zeros : List ℕ) (n : ℕ) (space : List ℕ) (is : p ≡ row (skip k table)) (size : length zeros ≡ 6600) (a : Adds (filled table s v 0 p) 0 zeros n space) where
  row-filled : Adds (filling table k v s) 0 zeros n space
  row-filled = rw is at a

  pub row-there : n ≤ 6600 → (n ≤ length space) × (take n space ≡ filling table k v s)
  row-there h = adds-there (filling table k v s) zeros n space row-filled (omega arith)

  module _ (data' tail out : List ℕ) where
    pub sentenced-long : 6600 < n → Came (sentenced table k v s data' tail out) (refused 9) out
    sentenced-long h =
        let l = adds-long (filling table k v s) zeros n space row-filled (omega arith) in
        rw (lt-ltb 6600 (length (filling table k v s)) (omega arith)) (refl, refl)

    pub sentenced-whole : n ≤ 6600 → {r : Written} {out' : List ℕ} → Came (placed (take n space ++ (pairs data' ++ tail)) out) r out'
        → Came (sentenced table k v s data' tail out) r out'
    sentenced-whole h came =
        let l : length (filling table k v s) ≤ 6600 = omega (arith, row-filled.behind_it) in
        rw (le-ltb 6600 (length (filling table k v s)) l) (rw (row-there h).1 at came)
