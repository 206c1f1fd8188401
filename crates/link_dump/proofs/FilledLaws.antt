-- A buffer that fills with the bytes of memory from an address on.
use Rattle.std.specs.Prelude.{ℕ, ◌+◌, ◌-◌, ◌<◌, ◌≤◌, ◌≡◌, List, ◌++◌, length, get_or, drop}
use Rattle.std.proofs.Common.{ap, sym, subst, ◌∙◌, append_assoc, append-nil, arith, length-append, drop_of_length-le, take_at, drop-drop, get_or-drop}
use Rattle.std.proofs.Math.Option.{some}
use Rattle.std.proofs.Math.ListN.{get_or-append, get_or-eq_default}
use Rattle.std.proofs.Math.Seq.{drop-append-add, get_or-append_right}
use Rattle.buffer.specs.Lay.{over}
use Rattle.memory.specs.Memory.{bytes_from}
use Rattle.memory.specs.Laws.{length-bytes_from, get_or-bytes_from, bytes_from-joined}
use Rattle.link.proofs.ByteLaws.{is-there}
use Rattle.link_dump.specs.Model.{Copied}

-- a buffer whose first n bytes are memory from an address on, 0 beyond memory's end, and whose rest is as it was
abbrev pub filled_with : List ℕ → ℕ → ℕ → List ℕ → List ℕ
filled_with memory a n buffer = bytes_from memory a n ++ drop n buffer

-- the next bytes of memory laid over a buffer from the reached place on
pub laid_next : (memory : List ℕ) (a m : ℕ) (bytes buffer : List ℕ) → bytes ≡ bytes_from memory (a + m) (length bytes)
    → over bytes m (filled_with memory a m buffer) ≡ filled_with memory a (m + length bytes) buffer
laid_next memory a m bytes buffer e =
    let front : List ℕ = bytes_from memory a m in
    let n : ℕ = length bytes in
    let size : length front ≡ m = length-bytes_from memory a m in
    let left : drop (m + n) (front ++ drop m buffer) ≡ drop (m + n) buffer =
    subst (λ (k : ℕ). drop (k + n) (front ++ drop m buffer) ≡ drop (m + n) buffer) size (drop-append-add front (drop m buffer) n ∙ drop-drop n m buffer) in
    rw (take_at front (drop m buffer) m size, left, ← append_assoc front bytes (drop (m + n) buffer), ← bytes_from-joined memory a m n, ← e)

-- a filled buffer byte by byte: memory's in the filled part, its own behind it
module _ (memory : List ℕ) (a n : ℕ) (buffer : List ℕ) where
  in_filled : (k : ℕ) → k < n → get_or (filled_with memory a n buffer) k 0 ≡ get_or memory (a + k) 0
  in_filled k h =
      let size = length-bytes_from memory a n in
      get_or-append (bytes_from memory a n) (drop n buffer) 0 k (omega arith) ∙ get_or-bytes_from memory a n k h

  pub past-filled : (k : ℕ) → n ≤ k → get_or (filled_with memory a n buffer) k 0 ≡ get_or buffer k 0
  past-filled k h =
      let w : List ℕ = bytes_from memory a n in
      let size = length-bytes_from memory a n in
      let at : n + (k - length w) ≡ k = omega arith in
      get_or-append_right w (drop n buffer) k 0 (omega arith) ∙ (get_or-drop n buffer (k - length w) 0 ∙ ap (λ (i : ℕ). get_or buffer i 0) at)

  pub copied : (k : ℕ) → k < n → Copied memory a (filled_with memory a n buffer) k
  copied k h =
      let size = length-bytes_from memory a n in
      let here = is-there 0 (filled_with memory a n buffer) k (simp length-append (omega arith)) in
      record {
        inside = λ l. here ∙ ap some (in_filled k h) ∙ sym (is-there 0 memory (a + k) (omega (arith, l)));
        beyond = λ l. here ∙ ap some (in_filled k h ∙ get_or-eq_default memory 0 (omega (arith, l)));
      }

  pub filled-whole : length buffer ≤ n → filled_with memory a n buffer ≡ bytes_from memory a n
  filled-whole h = rw (drop_of_length-le buffer h, append-nil)
