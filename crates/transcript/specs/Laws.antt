-- Texts added one behind the other are the lines.
use Rattle.std.specs.Prelude.{ℕ, ◌≤◌, ◌≡◌, Bool, List, [], ◌∷◌, ◌++◌, length, take, replicate}
use Rattle.std.proofs.Common.{◌∙◌, arith, length-append, eq-eqb, ne_eqb}
use Rattle.std.proofs.lemmas.List.{length-replicate}
use Rattle.buffer.specs.declared.Written.{Written}
use Rattle.buffer.specs.Lay.{Came, written}
use Rattle.octets.specs.TestLaws.{by_cases}
use Rattle.text.specs.Text.{chars, placed, Added}
use Rattle.text.specs.Laws.{adds, adds_append, adds-there, placed-whole}
use Rattle.text.specs.Inner.{Adds}
use Rattle.digits.specs.Laws.{length_digits}
use Rattle.decimal.specs.Decimal.{decimal}
use Rattle.decimal.specs.Laws.{decimal-most}
use Rattle.hexadecimal.specs.Hexadecimal.{pairs, address}
use Rattle.transcript.specs.Transcript.{initial, sent_line, report, last_line, bad_line}

-- ---- no line
pub nothing_placed : (line out : List ℕ) → line ≡ [] → Came (placed line out) (written 0) out
nothing_placed line out e = rw e (placed-whole [] out (omega arith))

-- ---- a text behind which others are added
behind : (xs ys : List ℕ) (at : ℕ) (out : List ℕ) (m : ℕ) (out₁ : List ℕ) (r : ℕ) (out₂ : List ℕ) → Added xs at out m out₁ → Adds ys m out₁ r out₂ → Adds (xs ++ ys) at out r out₂
behind xs ys at out m out₁ r out₂ a b = adds_append xs ys at out m out₁ r out₂ (adds xs at out m out₁ a) b

-- three texts, and seven
module _ (x y z out : List ℕ) (at : ℕ) where
  pub three : {i : ℕ} {o : List ℕ} → Added x at out i o → {j : ℕ} {p : List ℕ} → Added y i o j p → {r : ℕ} {out' : List ℕ} → Added z j p r out'
      → Adds (x ++ (y ++ z)) at out r out'
  three {i} {o} a {j} {p} b {r} {out'} c =
      behind x (y ++ z) at out i o r out' a (behind y z i o j p r out' b (adds z j p r out' c))

  -- with more behind them
  onward : (rest : List ℕ) → {i : ℕ} {o : List ℕ} → Added x at out i o → {j : ℕ} {p : List ℕ} → Added y i o j p → {k : ℕ} {q : List ℕ} → Added z j p k q
      → {r : ℕ} {out' : List ℕ} → Adds rest k q r out' → Adds (x ++ (y ++ (z ++ rest))) at out r out'
  onward rest {i} {o} a {j} {p} b {k} {q} c {r} {out'} d =
      behind x (y ++ (z ++ rest)) at out i o r out' a (behind y (z ++ rest) i o j p r out' b (behind z rest j p k q r out' c d))

pub seven : (a b c d e f g out : List ℕ) → {i₁ : ℕ} {o₁ : List ℕ} → Added a 0 out i₁ o₁ → {i₂ : ℕ} {o₂ : List ℕ} → Added b i₁ o₁ i₂ o₂
    → {i₃ : ℕ} {o₃ : List ℕ} → Added c i₂ o₂ i₃ o₃ → {i₄ : ℕ} {o₄ : List ℕ} → Added d i₃ o₃ i₄ o₄ → {i₅ : ℕ} {o₅ : List ℕ} → Added e i₄ o₄ i₅ o₅
    → {i₆ : ℕ} {o₆ : List ℕ} → Added f i₅ o₅ i₆ o₆ → {r : ℕ} {out' : List ℕ} → Added g i₆ o₆ r out'
    → Adds (a ++ (b ++ (c ++ (d ++ (e ++ (f ++ g)))))) 0 out r out'
seven a b c d e f g out {i₁} {o₁} p₁ {i₂} {o₂} p₂ {i₃} {o₃} p₃ {i₄} {o₄} p₄ {i₅} {o₅} p₅ {i₆} {o₆} p₆ {r} {out'} p₇ =
    onward a b c out 0 (d ++ (e ++ (f ++ g))) p₁ p₂ p₃
    (behind d (e ++ (f ++ g)) i₃ o₃ i₄ o₄ r out' p₄ (three e f g o₄ i₄ p₅ p₆ p₇))

-- ---- texts that were added at the start of a space stand there if they are short
stands : (xs : List ℕ) (r : ℕ) (space : List ℕ) → length xs ≤ 64 → Adds xs 0 (replicate 64 0) r space → take r space ≡ xs
stands xs r space h a =
    let n : length (replicate {A = ℕ} 64 0) ≡ 64 = length-replicate {A = ℕ} 64 0 in
    (adds-there xs (replicate 64 0) r space a (omega (arith, n, a.behind_it))).1

report-most : (verdict sent : ℕ) (started : Bool) (transfer : ℕ) → length (report verdict sent started transfer) ≤ 64
report-most verdict sent started transfer =
    let entry = by_cases (λ (l : List ℕ). length l ≤ 8) started {x = address transfer} {y = chars "-"} (λ _. omega (arith, length_digits 16 8 transfer)) (λ _. omega arith) in
    simp length-append (omega (arith, decimal-most verdict, decimal-most sent, entry))

bad_most : (n : ℕ) → length (chars "BAD " ++ (decimal n ++ chars "\n")) ≤ 64
bad_most n = simp length-append (omega (arith, decimal-most n))

-- ---- the lines
pub sent-some : (host : Bool) (frame out : List ℕ) → (length frame ≡ 0 → ⊥) → {letter : ℕ} → letter ≡ initial host → {r : Written} {out' : List ℕ}
    → Came (placed (letter ∷ 32 ∷ [] ++ (pairs frame ++ chars "\n")) out) r out' → Came (placed (sent_line host frame) out) r out'
sent-some host frame out h e came = rw (ne_eqb (length frame) 0 h, ← e) came

pub sent-none : (host : Bool) (frame out : List ℕ) → length frame ≡ 0 → Came (placed (sent_line host frame) out) (written 0) out
sent-none host frame out h = nothing_placed (sent_line host frame) out (rw (eq-eqb (length frame) 0 h))

pub last-whole : (verdict sent : ℕ) (started : Bool) (transfer : ℕ) (memory out : List ℕ) {n : ℕ} {space : List ℕ}
    → Adds (report verdict sent started transfer) 0 (replicate 64 0) n space → {head : List ℕ} → head ≡ take n space → {r : Written} {out' : List ℕ}
    → Came (placed (head ++ (pairs memory ++ chars "\n")) out) r out' → Came (placed (last_line verdict sent started transfer memory) out) r out'
last-whole verdict sent started transfer memory out {n} {space} a e came =
    rw (e ∙ stands (report verdict sent started transfer) n space (report-most verdict sent started transfer) a) at came

pub bad_some : (refusal : ℕ) (out : List ℕ) → (refusal ≡ 0 → ⊥) → {n : ℕ} {space : List ℕ}
    → Adds (chars "BAD " ++ (decimal refusal ++ chars "\n")) 0 (replicate 64 0) n space → {text : List ℕ} → text ≡ take n space → {r : Written} {out' : List ℕ}
    → Came (placed text out) r out' → Came (placed (bad_line refusal) out) r out'
bad_some refusal out h {n} {space} a e came =
    rw (ne_eqb refusal 0 h) (rw (e ∙ stands (chars "BAD " ++ (decimal refusal ++ chars "\n")) n space (bad_most refusal) a) at came)

pub bad_none : (n : ℕ) (out : List ℕ) → n ≡ 0 → Came (placed (bad_line n) out) (written 0) out
bad_none n out h = nothing_placed (bad_line n) out (rw (eq-eqb n 0 h))
