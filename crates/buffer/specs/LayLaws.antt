-- The ways through `laid` and `put`; parts put one behind the other.
use Rattle.std.specs.Prelude.{ℕ, ◌+◌, ◌-◌, ◌<◌, ◌≤◌, true, false, ◌≡◌, refl, List, [], ◌++◌, length, take, drop}
use Rattle.std.proofs.Common.{sym, ap, ◌∙◌, append-nil, append_assoc, length-append, length-drop, drop_of_length-le, take_all, drop-drop, arith, lt-ltb, le-ltb, le-leb}
use Rattle.std.proofs.Math.Seq.{take-length, take-append_seam, drop-append-add}
use Rattle.std.proofs.lemmas.Bool.{lt-leb}
use Rattle.buffer.specs.Lay.{fits, over, put, written, refused, laid, Came}

-- the three ways through `laid`
pub laid-over : (frame out : List ℕ) → 1500 < length frame → Came (laid frame out) (refused 2) out
laid-over frame out h = rw (lt-ltb 1500 (length frame) h) (refl, refl)

pub laid-short : (frame out : List ℕ) → length frame ≤ 1500 → length out < length frame → Came (laid frame out) (refused 9) out
laid-short frame out h l = rw (le-ltb 1500 (length frame) h, lt-ltb (length out) (length frame) l) (refl, refl)

pub laid-whole : (frame out : List ℕ) → length frame ≤ 1500 → length frame ≤ length out
    → Came (laid frame out) (written (length frame)) (frame ++ drop (length frame) out)
laid-whole frame out h l = rw (le-ltb 1500 (length frame) h, le-ltb (length out) (length frame) l) (refl, refl)

-- the two ways through `put`
pub put_refused : (bytes : List ℕ) (at : ℕ) (buffer : List ℕ) → length buffer < at + length bytes
    → (false ≡ fits bytes at buffer) × (buffer ≡ put bytes at buffer)
put_refused bytes at buffer h = rw (lt-leb (at + length bytes) (length buffer) h) (refl, refl)

pub put_whole : (bytes : List ℕ) (at : ℕ) (buffer : List ℕ) → at + length bytes ≤ length buffer
    → (true ≡ fits bytes at buffer) × (over bytes at buffer ≡ put bytes at buffer)
put_whole bytes at buffer h = rw (le-leb (at + length bytes) (length buffer) h) (refl, refl)

-- a copy to the front of the buffer's part from a place on is the bytes laid over from there
pub copied : (bytes : List ℕ) (at : ℕ) (buffer part : List ℕ) → at + length bytes ≤ length buffer
    → part ≡ take (length bytes) bytes ++ drop (length bytes) (take (length buffer - at) (drop at buffer))
    → take at buffer ++ (part ++ drop (length buffer - at) (drop at buffer)) ≡ over bytes at buffer
copied bytes at buffer part h e =
    let whole : length (drop at buffer) ≤ length buffer - at = simp length-drop (omega arith) in
    rw (e, take_all (length buffer - at) (drop at buffer) whole, drop_of_length-le (drop at buffer) whole, take-length bytes, append-nil, drop-drop)

-- a part put right behind what is there already
pub put_next : (done part rest : List ℕ) → length part ≤ length rest
    → put part (length done) (done ++ rest) ≡ (done ++ part) ++ drop (length part) rest
put_next done part rest h =
    let room : length done + length part ≤ length (done ++ rest) = simp length-append (omega arith) in
    sym (put_whole part (length done) (done ++ rest) room).1 ∙ rw (take-append_seam, drop-append-add, append_assoc)

-- four parts put one behind the other are the frame of the four
module _ (head body tail rest out : List ℕ) where
  pub length-joined : length (head ++ (body ++ (tail ++ rest))) ≡ length head + length body + length tail + length rest
  length-joined = simp length-append (omega arith)

  pub laid-four : (one two three four : List ℕ)
      → length head + length body + length tail + length rest ≤ 1500
      → length head + length body + length tail + length rest ≤ length out
      → one ≡ put head 0 out → two ≡ put body (length head) one → three ≡ put tail (length head + length body) two
      → four ≡ put rest (length head + length body + length tail) three
      → Came (laid (head ++ (body ++ (tail ++ rest))) out) (written (length head + length body + length tail + length rest)) four
  laid-four one two three four h l e₁ e₂ e₃ e₄ =
      let out₁ = drop (length head) out in
      let out₂ = drop (length body) out₁ in
      let out₃ = drop (length tail) out₂ in
      let p₁ : one ≡ head ++ out₁ = e₁ ∙ put_next [] head out (omega arith) in
      let p₂ : two ≡ (head ++ body) ++ out₂ = e₂ ∙ (rw (p₁, put_next head body out₁ (simp length-drop (omega arith)))) in
      let p₃ : three ≡ ((head ++ body) ++ tail) ++ out₃ =
      e₃ ∙ (rw (p₂, ← length-append head body, put_next (head ++ body) tail out₂ (simp length-drop (omega arith)))) in
      let p₄ : four ≡ (((head ++ body) ++ tail) ++ rest) ++ drop (length rest) out₃ =
      e₄ ∙ (rw (p₃, ← length-append head body, ← length-append (head ++ body) tail, put_next ((head ++ body) ++ tail) rest out₃ (simp length-drop (omega arith)))) in
      let n = length-joined in
      let w = laid-whole (head ++ (body ++ (tail ++ rest))) out (omega arith) (omega arith) in
      (ap written (sym n) ∙ w.0, p₄ ∙ (simp (drop-drop, append_assoc, n)) ∙ w.1)
