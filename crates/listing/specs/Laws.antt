-- Printing an input character by character prints its listing; and no line of a frame is too long for the space it is made in.
use Rattle.std.specs.Prelude.{ℕ, ◌<◌, ◌≤◌, ◌≡◌, refl, true, List, [], ◌∷◌, ◌++◌, length, take, eqb, ltb}
use Rattle.std.proofs.Common.{sym, ap, ap₂, ◌∙◌, append-nil, arith, length-set, length-take, take_all, get_or-take}
use Rattle.std.proofs.Math.Option.{Option, none, some}
use borrow.Author.Tests.{ne_eqb, lt-ltb, le-ltb, ltb-true, ltb-false}
use Rattle.text.specs.Find.{index_of}
use Rattle.octets.specs.TestLaws.{by_cases}
use Rattle.refusal.specs.declared.Refusal.{Refusal}
use Rattle.refusal.specs.declared.Refusal.TheVariants.{Short, Long, Code, Field, File, Directory, Entry, Overlap, Buffer, Setting, Memory, Frames}
use Rattle.refusal.specs.Refusal.{number}
use Rattle.buffer.specs.declared.Written.{Written}
use Rattle.buffer.specs.Lay.{Came}
use Rattle.version.specs.Version.{v30}
use Rattle.message.specs.declared.Fields.{Fields}
use Rattle.message.specs.Read.{byte, refused_fields, Row, rows, find, frame, fields}
use Rattle.message.specs.Laws.{Each, by_find}
use Rattle.text.specs.Text.{chars, placed}
use Rattle.text.specs.Laws.{by_test}
use Rattle.pattern.specs.Pattern.{skip, filled, filling, sentenced}
use Rattle.pattern.specs.MostLaws.{weigh, every, filling-most}
use Rattle.hexadecimal.specs.declared.Line.{Line}
use Rattle.hexadecimal.specs.Hexadecimal.{Decoded, not_hexadecimal, spelled, is_digit, pairs, hexadecimal}
use Rattle.hexadecimal.specs.Line.{waits, Held, stepped, run, opened, ended}
use Rattle.hexadecimal.specs.RunLaws.{capped, run-decoded}
use Rattle.listing.specs.Frame.{patterns, reason_row, numbers, text}
use Rattle.listing.specs.Listing.{printed, onto, lines, each, listing, closed, fold}

-- ---- a row that is filled gives its line
rows_short : every length 130 patterns ≡ true
unfolding every index_of
rows_short = refl

rows_light : every (weigh 0) 6600 patterns ≡ true
unfolding every weigh index_of
rows_light = refl

pub row_line : (k : ℕ) (v s out : List ℕ) → length s ≤ 1500 → {r : Written} {out' : List ℕ}
    → Came (sentenced patterns k v s [] (chars "\n") out) r out' → Came (placed (filling patterns k v s ++ chars "\n") out) r out'
unfolding pairs
row_line k v s out h came =
    let l = filling-most patterns 6600 rows_short rows_light k v s h in
    rw (le-ltb 6600 (length (filling patterns k v s)) l) at came

-- the line of a frame, read or refused
module _ (s out : List ℕ) {f : Fields} (e : f ≡ fields v30 s) {r : Written} {out' : List ℕ} where
  pub refused-line : (f.refusal ≡ 0 → ⊥) → (v : List ℕ) → v ≡ numbers f → (k : ℕ) → k ≡ reason_row f.refusal
      → Came (placed (filling patterns k v [] ++ chars "\n") out) r out' → Came (placed (printed (spelled s)) out) r out'
  unfolding text
  refused-line h v n k m came = rw (← e, ne_eqb f.refusal 0 h, ← n, ← m) came

  pub read-line : f.refusal ≡ 0 → (v : List ℕ) → v ≡ numbers f
      → Came (placed (filling patterns f.code v s ++ chars "\n") out) r out' → Came (placed (printed (spelled s)) out) r out'
  unfolding text
  read-line h v n came = rw (← e, h, ← n) came

-- the row of a refusal has no marks: no number and no byte is in its line
pub reason_plain : (r : Refusal) (v : List ℕ) → filling patterns (reason_row (number r)) [] [] ≡ filling patterns (reason_row (number r)) v []
unfolding filled skip index_of
reason_plain Short v = refl
reason_plain Long v = refl
reason_plain Code v = refl
reason_plain Field v = refl
reason_plain File v = refl
reason_plain Directory v = refl
reason_plain Entry v = refl
reason_plain Overlap v = refl
reason_plain Buffer v = refl
reason_plain Setting v = refl
reason_plain Memory v = refl
reason_plain Frames v = refl

-- A frame above 1,500 bytes is refused by its first byte and its length: 1,501 bytes decide.
beyond : Option Row → ℕ
beyond none = 3
beyond (some row) = 2

-- the numbers of such a frame
fields-long : (s : List ℕ) → 1500 < length s → fields v30 s ≡ refused_fields (beyond (find rows (byte s 0)))
unfolding fields Each beyond
fields-long s h =
    rw (ne_eqb (length s) 0 (omega arith)) (by_find {R = λ (row : Row). (row.shortest ≤ 1500) × (row.longest ≤ 1500)}
    (λ (o : Option Row). frame v30 s o ≡ refused_fields (beyond o)) rows (byte s 0) (omega arith) refl
    (λ row _ l. rw (le-ltb (length s) row.shortest (omega arith), lt-ltb row.longest (length s) (omega arith))))

-- the text of a refused frame has nothing of its bytes
text-refused : (s t : List ℕ) (f : Fields) → (f.refusal ≡ 0 → ⊥) → text s f ≡ text t f
unfolding text
text-refused s t f h = rw (ne_eqb f.refusal 0 h)

refusal-some : (o : Option Row) → (refused_fields (beyond o)).refusal ≡ 0 → ⊥
unfolding beyond
refusal-some none = λ e. omega arith
refusal-some (some row) = λ e. omega arith

text-first : (n : ℕ) (s : List ℕ) → 1500 < n → text (take n s) (fields v30 (take n s)) ≡ text s (fields v30 s)
text-first n s h =
    by_test (ltb n (length s)) _
    (λ l.
    let long = ltb-true n (length s) l in
    let size : length (take n s) ≡ n = simp length-take (omega arith) in
    let row = find rows (byte s 0) in
    let f : fields v30 (take n s) ≡ refused_fields (beyond row) =
    fields-long (take n s) (omega arith) ∙ ap (λ (code : ℕ). refused_fields (beyond (find rows code))) (get_or-take n s 0 0 (omega arith)) in
    rw (f, fields-long s (omega arith)) (text-refused (take n s) s (refused_fields (beyond row)) (refusal-some row)))
    (λ l. ap (λ (t : List ℕ). text t (fields v30 t)) (take_all n s (ltb-false n (length s) l)))

printed-capped : (n : ℕ) (d : Decoded) → 1500 < n → printed (capped n d) ≡ printed d
printed-capped n not_hexadecimal h = refl
printed-capped n (spelled s) h = ap (λ (t : List ℕ). t ++ chars "\n") (text-first n s h)

-- what is printed where a line ends is the line's
printed-run : (line buffer : List ℕ) → 1500 < length buffer → printed (ended (run line (opened buffer))) ≡ printed (hexadecimal line)
printed-run line buffer h = ap printed (run-decoded line buffer) ∙ printed-capped (length buffer) (hexadecimal line) h

-- characters in front of the first of the lines that follow
ahead : List ℕ → List (List ℕ) → List (List ℕ)
ahead [] ls = ls
ahead (c ∷ cs) ls = onto c (ahead cs ls)

ahead-ends : (line : List ℕ) (ls : List (List ℕ)) → ahead line ([] ∷ ls) ≡ line ∷ ls
unfolding ahead
ahead-ends [] ls = refl
ahead-ends (c ∷ cs) ls = ap (onto c) (ahead-ends cs ls)

ahead-last : (c : ℕ) (cs : List ℕ) → ahead (c ∷ cs) [] ≡ (c ∷ cs) ∷ []
unfolding ahead
ahead-last c [] = refl
ahead-last c (d ∷ cs) = ap (onto c) (ahead-last d cs)

ahead_more : (line : List ℕ) (c : ℕ) (ls : List (List ℕ)) → ahead (line ++ (c ∷ [])) ls ≡ ahead line (onto c ls)
unfolding ahead
ahead_more [] c ls = refl
ahead_more (d ∷ line) c ls = ap (onto d) (ahead_more line c ls)

run_more : (line : List ℕ) (c : ℕ) (h : Held) → run (line ++ (c ∷ [])) h ≡ stepped (run line h) c
unfolding run
run_more [] c h = refl
run_more (d ∷ line) c h = run_more line c (stepped h d)

run_length : (line : List ℕ) (h : Held) → length (run line h).buffer ≡ length h.buffer
unfolding run
run_length [] h = refl
run_length (c ∷ line) h =
    run_length line (stepped h c)
    ∙ by_cases same (is_digit c) (λ d. by_cases same (waits h.line.high) (λ w. simp length-set) (λ w. refl)) (λ d. refl)
  where
    same : List ℕ → Type 0
    same b = length b ≡ length h.buffer

stepped-begun : (h : Held) (c : ℕ) → (stepped h c).line.begun ≡ true
stepped-begun h c = by_cases begun (is_digit c) (λ d. by_cases begun (waits h.line.high) (λ w. refl) (λ w. refl)) (λ d. refl)
  where
    begun : Line → Type 0
    begun l = l.begun ≡ true

run-begun : (line : List ℕ) (h : Held) → h.line.begun ≡ true → (run line h).line.begun ≡ true
unfolding run
run-begun [] h e = e
run-begun (c ∷ line) h e = run-begun line (stepped h c) (stepped-begun h c)

fold_end : (line buffer : List ℕ) → 1500 < length buffer → closed (run line (opened buffer)) ≡ each (ahead line [])
unfolding run each ahead
fold_end [] buffer h = refl
fold_end (c ∷ cs) buffer h =
    let b : (run (c ∷ cs) (opened buffer)).line.begun ≡ true = run-begun cs (stepped (opened buffer) c) (stepped-begun (opened buffer) c) in
    rw b (printed-run (c ∷ cs) buffer h ∙ sym (append-nil (printed (hexadecimal (c ∷ cs)))) ∙ ap each (sym (ahead-last c cs)))

fold-from : (input line buffer : List ℕ) → 1500 < length buffer → fold input (run line (opened buffer)) ≡ each (ahead line (lines input))
unfolding fold lines each run ahead
fold-from [] line buffer h = fold_end line buffer h
fold-from (c ∷ rest) line buffer h =
    let held = run line (opened buffer) in
    by_test (eqb c 10) _
    (λ e.
    let l : 1500 < length held.buffer = rw (run_length line (opened buffer)) h in
    let after : fold rest (opened held.buffer) ≡ each (lines rest) = fold-from rest [] held.buffer l in
    rw e (ap₂ ◌++◌ (printed-run line buffer h) after ∙ ap each (sym (ahead-ends line (lines rest)))))
    (λ e. rw e (ap (fold rest) (sym (run_more line c (opened buffer))) ∙ fold-from rest (line ++ (c ∷ [])) buffer h ∙ ap each (ahead_more line c (lines rest))))

-- THE LAW: fed character by character, an input prints its listing
pub fold-listing : (input buffer : List ℕ) → 1500 < length buffer → fold input (opened buffer) ≡ listing input
unfolding run ahead
fold-listing input buffer h = fold-from input [] buffer h
