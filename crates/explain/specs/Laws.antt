-- The words of an event and of the end fit into their buffers.
use Rattle.std.specs.Prelude.{ℕ, ◌≤◌, cond, List, [], length, eqb}
use Rattle.std.proofs.Common.{arith, length-append}
use Rattle.std.proofs.lemmas.List.{length-replicate}
use Rattle.octets.specs.TestLaws.{by_cases}
use Rattle.hexadecimal.specs.Laws.{length_pairs}
use Rattle.words.specs.declared.Words.{Words}
use Rattle.words.specs.Words.{phrase, full_row, report_words}
use Rattle.words.specs.Laws.{spoken-most}
use Rattle.transcript.specs.Transcript.{initial}
use Rattle.job.specs.declared.Ends.{Ends}
use Rattle.job.specs.Run.{host_sends}
use Rattle.remarks.specs.Remarks.{gap, beside_line, noted_line, silent_row, sent_words, remark, full_before, lost, meaning}

-- two characters, the bytes, at most 22 spaces, the words
beside-most : (letter : ℕ) (bytes : List ℕ) (w : Words) → length bytes ≤ 1500 → length (beside_line letter bytes w) ≤ 3400
beside-most letter bytes w h =
    simp length-append (omega (arith, length_pairs bytes, length-replicate {A = ℕ} (gap (length bytes)) 32, spoken-most w))

noted-most : (letter row : ℕ) → length (noted_line letter row) ≤ 3400
noted-most letter row = beside-most letter [] (phrase row) (omega arith)

module _ (letter : ℕ) (before : Ends) (frame : List ℕ) where
  pub remark-most : (after : Ends) → length frame ≤ 1500 → length (remark letter before after frame) ≤ 3400
  remark-most after h =
      by_cases (λ (l : List ℕ). length l ≤ 3400) (eqb (length frame) 0) {x = noted_line letter (silent_row letter before after)}
      {y = beside_line (initial (host_sends letter)) frame (sent_words letter after frame)} (λ _. noted-most letter (silent_row letter before after))
      (λ _. beside-most (initial (host_sends letter)) frame (sent_words letter after frame) h)

  pub lost-most : length (lost letter before frame) ≤ 3400
  lost-most =
      by_cases (λ (l : List ℕ). length l ≤ 3400) (eqb (length frame) 0) {x = []} {y = cond (full_before letter before) (noted_line letter full_row) []} (λ _. omega arith)
      (λ _. by_cases (λ (l : List ℕ). length l ≤ 3400) (full_before letter before) {x = noted_line letter full_row} {y = []} (λ _. noted-most letter full_row) (λ _. omega arith))

pub meaning-most : (e : Ends) (many : ℕ) → length (meaning e many) ≤ 8400
meaning-most e many =
    let n = spoken-most (report_words (eqb e.session.waiting 1) e.session.verdict e.session.position many e.session.sent e.machine.transfer) in omega (arith, n)
