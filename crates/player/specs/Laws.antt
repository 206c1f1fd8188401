-- Events that are played one behind the other print what is to be printed.
use Rattle.std.specs.Prelude.{ℕ, ◌+◌, ◌<◌, ◌≤◌, ◌≡◌, refl, Bool, Option, Some, None, Result, Ok, Err, OnOk, List, [], ◌∷◌, ◌++◌, length, get_or, take, drop, replicate, eqb}
use Rattle.std.specs.Result.{result_unwrap_or}
use Rattle.std.specs.Io.KnownBytes.{Appends}
use Rattle.std.proofs.Common.{ap, ◌∙◌, append_assoc, arith, add-one, length-append, drop-cons, drop_of_length-le}
use Rattle.refusal.specs.declared.Refusal.{Refusal}
use Rattle.buffer.specs.Lay.{Came, written_of}
use Rattle.octets.specs.TestLaws.{by_cases}
use Rattle.text.specs.Text.{chars, placed}
use Rattle.text.specs.Laws.{placed-there}
use Rattle.digits.specs.Laws.{length_digits}
use Rattle.decimal.specs.Laws.{decimal-most}
use Rattle.hexadecimal.specs.Hexadecimal.{pairs, address}
use Rattle.hexadecimal.specs.Laws.{length_pairs}
use Rattle.transcript.specs.Transcript.{initial, report}
use Rattle.machine_record.specs.Record.{is}
use Rattle.job.specs.declared.Setup.{Setup}
use Rattle.job.specs.declared.Ends.{Ends}
use Rattle.job.specs.Run.{Run, run, frame, fresh_ends, host_sends, frame_line, begin_line, end_line}
use Rattle.rehearse.specs.Rehearse.{event, begin, places, fresh, after, lines, begun}
use Rattle.player.specs.Play.{start, all, told_of, printed}

-- ---- bytes that are written
-- texts one behind the other
pub both-appended : (old mid new : Option (List ℕ)) (a b : List ℕ) → Appends old mid a → Appends mid new b → Appends old new (a ++ b)
both-appended None mid new a b x y = tt
both-appended (Some xs) None new a b x y = absurd x
both-appended (Some xs) (Some ys) None a b x y = y
both-appended (Some xs) (Some ys) (Some zs) a b x y = y ∙ ap (λ (t : List ℕ). t ++ b) x ∙ append_assoc xs a b

-- of a whole text the rest is still to come
abbrev pub Coming : Option (List ℕ) → List ℕ → Option (List ℕ) → List ℕ → Type 0
Coming now rest old whole = (new : Option (List ℕ)) → Appends now new rest → Appends old new whole

pub coming-next : (now next old : Option (List ℕ)) (a b rest whole : List ℕ) → rest ≡ a ++ b → Coming now rest old whole → Appends now next a → Coming next b old whole
coming-next now next old a b rest whole e p x new y = p new (rw e (both-appended now next new a b x y))

-- a line that was placed into a buffer with room for it
pub placed-line : (line out : List ℕ) → length line ≤ length out → (a : Result ℕ Refusal) {out' : List ℕ} → Came (placed line out) (written_of a) out'
    → take (result_unwrap_or a 0) out' ≡ line
placed-line line out h (Ok n) came = (placed-there line out h came).1
placed-line line out h (Err r) came = (placed-there line out h came).1

-- whatever a result is
pub on_ok : {A E P : Type 0} (r : Result A E) → P → OnOk r P
on_ok (Ok x) p = p
on_ok (Err e) p = tt

-- ---- the first event
pub starts : (e : Ends) (memory : List ℕ) → e ≡ fresh_ends → run e memory places places (replicate 1500 0) ≡ start memory
unfolding start
starts e memory h = rw h

-- ---- events in turn
module _ (s : Setup) (file : List ℕ) where
  pub after-first : (w : Run) (letters : List ℕ) → after s file w (all letters) ≡ after s file (event s file w 110).run letters
  unfolding after
  after-first w letters = refl

  pub after-next : (w : Run) (letters : List ℕ) (i : ℕ) → i < length letters
      → after s file w (drop i letters) ≡ after s file (event s file w (get_or letters i 0)).run (drop (i + 1) letters)
  unfolding after
  after-next w letters i h = rw (add-one i, drop-cons letters i 0 h)

  pub after-all : (w : Run) (letters : List ℕ) (i : ℕ) → length letters ≤ i → after s file w (drop i letters) ≡ w
  unfolding after
  after-all w letters i h = rw (drop_of_length-le letters {i = i} h)

  module _ (told : ℕ → Ends → Ends → List ℕ → List ℕ) (last : Ends → List ℕ → List ℕ) where
    pub printed-first : (w : Run) (letters : List ℕ)
        → printed s file told last w (all letters) ≡ told_of s file told w 110 ++ printed s file told last (event s file w 110).run letters
    unfolding printed
    printed-first w letters = refl

    pub printed-next : (w : Run) (letters : List ℕ) (i : ℕ) → i < length letters
        → printed s file told last w (drop i letters)
        ≡ told_of s file told w (get_or letters i 0) ++ printed s file told last (event s file w (get_or letters i 0)).run (drop (i + 1) letters)
    unfolding printed
    printed-next w letters i h = rw (add-one i, drop-cons letters i 0 h)

    pub printed-all : (w : Run) (letters : List ℕ) (i : ℕ) → length letters ≤ i → printed s file told last w (drop i letters) ≡ last w.ends w.memory
    unfolding printed
    printed-all w letters i h = rw (drop_of_length-le letters {i = i} h)

-- ---- the transcript
-- lines of a frame of at most 1,500 bytes and of a memory of at most 4,096 fit into their buffers
pub frame_line-most : (letter : ℕ) (bytes : List ℕ) → length bytes ≤ 1500 → length (frame_line letter bytes) ≤ 3003
frame_line-most letter bytes h =
    by_cases (λ (l : List ℕ). length l ≤ 3003) (eqb (length bytes) 0) {x = []} {y = initial (host_sends letter) ∷ chars " " ++ (pairs bytes ++ chars "\n")} (λ _. omega arith)
    (λ _. simp length-append (omega (arith, length_pairs bytes)))

report-most : (verdict sent : ℕ) (started : Bool) (transfer : ℕ) → length (report verdict sent started transfer) ≤ 64
report-most verdict sent started transfer =
    let entry = by_cases (λ (l : List ℕ). length l ≤ 8) started {x = address transfer} {y = chars "-"} (λ _. omega (arith, length_digits 16 8 transfer)) (λ _. omega arith) in
    simp length-append (omega (arith, decimal-most verdict, decimal-most sent, entry))

pub end_line-most : (e : Ends) (memory : List ℕ) → length memory ≤ 4096 → length (end_line e memory) ≤ 8400
end_line-most e memory h =
    let head = report e.session.verdict e.session.sent (is 4 e.machine) e.machine.transfer in
    let n : length head ≤ 64 = report-most e.session.verdict e.session.sent (is 4 e.machine) e.machine.transfer in
    let m : length (head ++ (pairs memory ++ chars "\n")) ≡ length head + (length (pairs memory) + 1) =
    length-append head (pairs memory ++ chars "\n") ∙ ap (λ (k : ℕ). length head + k) (length-append (pairs memory) (chars "\n")) in
    omega (arith, m, n, length_pairs memory)

-- a program that tells the lines of the frames, and the last line, prints the transcript
abbrev pub line : ℕ → Ends → Ends → List ℕ → List ℕ
line letter before after frame = frame_line letter frame

module _ (s : Setup) (file : List ℕ) where
  lines-printed : (w : Run) (letters : List ℕ) → printed s file line end_line w letters ≡ lines s file w letters
  unfolding printed lines
  lines-printed w [] = refl
  lines-printed w (letter ∷ rest) =
      ap (λ (x : List ℕ). frame_line letter (frame (event s file w letter)) ++ x) (lines-printed (event s file w letter).run rest)

  printed-lines : (memory : List ℕ) (hosts machines : List (List ℕ)) (reply : List ℕ) (letters : List ℕ)
      → printed s file line end_line (run fresh_ends memory hosts machines reply) (all letters)
      ≡ begun s file (begin s (run fresh_ends memory hosts machines reply)) letters
  unfolding printed
  printed-lines memory hosts machines reply letters =
      ap (λ (x : List ℕ). begin_line (begin s (run fresh_ends memory hosts machines reply)) ++ x)
      (lines-printed (begin s (run fresh_ends memory hosts machines reply)).run letters)

  pub transcript-printed : (size : ℕ) (letters : List ℕ)
      → printed s file line end_line (start (replicate size 0)) (all letters) ≡ begun s file (begin s (fresh size)) letters
  unfolding start
  transcript-printed size letters = printed-lines (replicate size 0) places places (replicate 1500 0) letters
