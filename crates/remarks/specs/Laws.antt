-- Words stand behind their spaces; the two ways of a remark.
use Rattle.std.specs.Prelude.{ℕ, ◌+◌, ◌-◌, ◌*◌, ◌≤◌, min, ◌≡◌, Bool, true, false, Result, Ok, Err, List, [], ◌∷◌, ◌++◌, length, take}
use Rattle.std.specs.Result.{result_unwrap_or}
use Rattle.std.proofs.Common.{sym, ap, subst, ◌∙◌, arith, length-append, take_at, length-take-le, eq-eqb, ne_eqb}
use Rattle.std.proofs.lemmas.List.{length-replicate, replicate-append-replicate, take-append-le}
use Rattle.std.proofs.Math.Seq.{take-append-add}
use borrow.Rule.Slice.PartMut.{mid_of, post_of, put_mid, mid_len}
use Rattle.buffer.specs.declared.Written.{Written}
use Rattle.buffer.specs.Lay.{Came, written, written_of}
use Rattle.refusal.specs.declared.Refusal.{Refusal}
use Rattle.text.specs.Text.{placed}
use Rattle.text.specs.Laws.{placed-there}
use Rattle.hexadecimal.specs.Hexadecimal.{pairs}
use Rattle.words.specs.declared.Words.{Words}
use Rattle.words.specs.Words.{phrase, spoken, full_row}
use Rattle.words.specs.Laws.{spoken-most}
use Rattle.transcript.specs.Laws.{nothing_placed}
use Rattle.transcript.specs.Transcript.{initial}
use Rattle.job.specs.declared.Ends.{Ends}
use Rattle.job.specs.Run.{host_sends}
use Rattle.remarks.specs.Remarks.{spaces, beside_line, noted_line, silent_row, sent_words, remark, full_before, lost}

-- words that were laid behind k of 330 spaces
spaced : (k : ℕ) → k ≤ 330 → take k (spaces 330) ≡ spaces k
spaced k h =
    let e : 330 ≡ k + (330 - k) = omega arith in
    ap (λ (n : ℕ). take k (spaces n)) e ∙ ap (take k) (sym (replicate-append-replicate k (330 - k) 32)) ∙ take_at (spaces k) (spaces (330 - k)) k (length-replicate k 32)

pub worded : (w : Words) (k : ℕ) → k ≤ 22 → {r : Written} {rest : List ℕ} → Came (placed (spoken w) (mid_of k (330 - k) (spaces 330))) r rest
    → (k + r.length ≤ 330)
    × (k + r.length ≤ length (put_mid k (330 - k) (spaces 330) rest))
    × (take (k + r.length) (put_mid k (330 - k) (spaces 330) rest) ≡ spaces k ++ spoken w)
worded w k h {r} {rest} came =
    let all : length (spaces 330) ≡ 330 = length-replicate {A = ℕ} 330 32 in
    let lent : length (mid_of k (330 - k) (spaces 330)) ≡ 330 - k = mid_len k 330 (spaces 330) (omega (arith, all)) in
    let there = placed-there (spoken w) (mid_of k (330 - k) (spaces 330)) (omega (arith, lent, spoken-most w)) came in
    let short : r.length ≤ 301 = omega (arith, spoken-most w, ap length there.1, length-take-le r.length rest there.0) in
    let n : length (spaces k) ≡ k = length-replicate {A = ℕ} k 32 in
    let post = post_of k (330 - k) (spaces 330) in
    let cut : take (k + r.length) (spaces k ++ (rest ++ post)) ≡ spaces k ++ spoken w =
    ap (λ (m : ℕ). take (m + r.length) (spaces k ++ (rest ++ post))) (sym n) ∙ take-append-add (spaces k) (rest ++ post) r.length
    ∙ ap (λ (x : List ℕ). spaces k ++ x) (take-append-le r.length rest post there.0 ∙ there.1) in
    (omega arith, rw (spaced k (omega arith), length-append, length-append) (omega (arith, n, there.0)), rw (spaced k (omega arith)) cut)

pub worded_by : (w : Words) (k : ℕ) → k ≤ 22 → (a : Result ℕ Refusal) (n : ℕ) → n ≡ result_unwrap_or a 0 → {rest : List ℕ}
    → Came (placed (spoken w) (mid_of k (330 - k) (spaces 330))) (written_of a) rest
    → (k + n ≤ 330) × (k + n ≤ length (put_mid k (330 - k) (spaces 330) rest)) × (take (k + n) (put_mid k (330 - k) (spaces 330) rest) ≡ spaces k ++ spoken w)
worded_by w k h (Ok m) n e {rest} came = rw e (worded w k h came)
worded_by w k h (Err r) n e {rest} came = rw e (worded w k h came)

pub beside-whole : (letter : ℕ) (bytes : List ℕ) (w : Words) (out : List ℕ) (n : ℕ) → n ≡ min (length bytes) 10 → (tail : List ℕ) → tail ≡ spaces (22 - 2 * n) ++ spoken w
    → {r : Written} {out' : List ℕ} → Came (placed (letter ∷ 32 ∷ [] ++ (pairs bytes ++ tail)) out) r out' → Came (placed (beside_line letter bytes w) out) r out'
beside-whole letter bytes w out n e tail f {r} {out'} =
    subst (λ (x : List ℕ). Came (placed (letter ∷ 32 ∷ [] ++ (pairs bytes ++ x)) out) r out') (f ∙ ap (λ (m : ℕ). spaces (22 - 2 * m) ++ spoken w) e)

-- a phrase that has no numbers
pub noted-phrase : (letter row : ℕ) (out : List ℕ) (w : Words) → w ≡ phrase row → {r : Written} {out' : List ℕ}
    → Came (placed (beside_line letter [] w) out) r out' → Came (placed (noted_line letter row) out) r out'
noted-phrase letter row out w e {r} {out'} = subst (λ (w : Words). Came (placed (beside_line letter [] w) out) r out') e

-- ---- an event
module _ (letter : ℕ) (before after : Ends) (frame out : List ℕ) where
  pub remark-silent : length frame ≡ 0 → {row : ℕ} → row ≡ silent_row letter before after → {r : Written} {out' : List ℕ}
      → Came (placed (noted_line letter row) out) r out' → Came (placed (remark letter before after frame) out) r out'
  remark-silent h {row} e {r} {out'} came =
      rw (eq-eqb (length frame) 0 h) (subst (λ (n : ℕ). Came (placed (noted_line letter n) out) r out') e came)

  pub remark-sent : (length frame ≡ 0 → ⊥) → {first : ℕ} → first ≡ initial (host_sends letter) → {w : Words} → w ≡ sent_words letter after frame → {r : Written} {out' : List ℕ}
      → Came (placed (beside_line first frame w) out) r out' → Came (placed (remark letter before after frame) out) r out'
  remark-sent h {first} e {w} f {r} {out'} came =
      rw (ne_eqb (length frame) 0 h)
      (subst (λ (x : Words). Came (placed (beside_line (initial (host_sends letter)) frame x) out) r out') f
      (subst (λ (n : ℕ). Came (placed (beside_line n frame w) out) r out') e came))

  -- a frame that is lost, or not
  pub none-lost : length frame ≡ 0 → Came (placed (lost letter before frame) out) (written 0) out
  none-lost h = nothing_placed (lost letter before frame) out (rw (eq-eqb (length frame) 0 h))

  pub not-lost : (length frame ≡ 0 → ⊥) → {full : Bool} → full ≡ full_before letter before → full ≡ false → Came (placed (lost letter before frame) out) (written 0) out
  not-lost h e f = nothing_placed (lost letter before frame) out (rw (ne_eqb (length frame) 0 h, sym e ∙ f))

  pub is_lost : (length frame ≡ 0 → ⊥) → {full : Bool} → full ≡ full_before letter before → full ≡ true → {r : Written} {out' : List ℕ}
      → Came (placed (noted_line letter full_row) out) r out' → Came (placed (lost letter before frame) out) r out'
  is_lost h e f came = rw (ne_eqb (length frame) 0 h, sym e ∙ f) came

pub spoken_by : (w v : Words) (out : List ℕ) → w ≡ v → {r : Written} {out' : List ℕ} → Came (placed (spoken w) out) r out' → Came (placed (spoken v) out) r out'
spoken_by w v out e {r} {out'} = subst (λ (x : Words). Came (placed (spoken x) out) r out') e
