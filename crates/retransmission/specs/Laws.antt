-- Laws of every end: R repeats and then a verdict, nothing after it, and the count of frames sent is the call's to raise.
use Rattle.std.specs.Prelude.{ℕ, zero, suc, ◌+◌, ◌≡◌, refl, Bool, true, false, ltb}
use Rattle.std.proofs.Common.{ap, ◌∙◌, arith, lt-ltb}
use Rattle.std.proofs.lemmas.Bool.{le-ltb}
use Rattle.octets.specs.TestLaws.{by_cases}
use Rattle.retransmission.specs.Retransmission.{timed, Retransmission, timers}

module _ {E N : Type 0} {running sending : E → Bool} {repeats sent : E → ℕ} {again over idle : E → N} {left : N → E}
    (r : Retransmission running sending repeats sent again over idle left) (R : ℕ) where
  abbrev pub next : E → N
  next e = timed (running e) (sending e) (repeats e) R (again e) (over e) (idle e)

  abbrev pub step : E → E
  step e = left (next e)

  -- the count of frames sent stays
  pub keeps-sent : (e : E) → sent (left (next e)) ≡ sent e
  keeps-sent e =
      let P : N → Type 0 = λ n. sent (left n) ≡ sent e in
      let still : P (idle e) = ap sent (r.idle-stays e) in
      by_cases P (running e) (λ _. by_cases P (sending e) (λ _. by_cases P (ltb (repeats e) R) (λ _. r.again-sent e) (λ _. r.over-sent e)) (λ _. still)) (λ _. still)

  -- nothing after a verdict
  pub stays-over : (k : ℕ) (e : E) → running e ≡ false → timers step k e ≡ e
  unfolding timers
  stays-over zero e d = refl
  stays-over (suc k) e d =
      let same : step e ≡ e = rw d (r.idle-stays e) in
      rw same (stays-over k e d)

  -- with k repeats left it repeats k times, and one timer later it has a verdict
  pub spent : (k : ℕ) (e : E) → running e ≡ true → sending e ≡ true → repeats e + k ≡ R → running (timers step (suc k) e) ≡ false
  unfolding timers
  spent zero e d w l =
      let none : ltb (repeats e) R ≡ false = le-ltb (repeats e) R (omega arith) in
      rw (d, w, none) (r.over-ends e)
  spent (suc k) e d w l =
      let some : ltb (repeats e) R ≡ true = lt-ltb (repeats e) R (omega arith) in
      let one : step e ≡ left (again e) = rw (d, w, some) refl in
      let n = r.again-repeats e in
      rw one (spent k (left (again e)) (r.again-runs e ∙ d) (r.again-sending e ∙ w) (omega arith))
