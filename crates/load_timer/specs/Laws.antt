-- Laws of what the host does next on a timer: the count of frames sent stays, and only the frame on its way goes out.
use Rattle.std.specs.Prelude.{ℕ, ◌<◌, ◌≡◌, refl, eqb, ltb}
use Rattle.std.proofs.Common.{eqb-true}
use Rattle.octets.specs.TestLaws.{by_cases}
use Rattle.load_record.specs.declared.Session.{Session}
use Rattle.load_record.specs.declared.Next.{Next}
use Rattle.load_record.specs.Laws.{Bound, silent, out, idle}
use Rattle.load_timer.specs.Timer.{on_timer}

module _ (N : ℕ) (h : Session) (r : h.verdict ≡ 0 → h.position < N) where
  pub timer_bound : (R : ℕ) → Bound N h.position h (on_timer N R h)
  timer_bound R =
      by_cases P (eqb h.verdict 0)
      (λ v.
      by_cases P (eqb h.waiting 0)
      (λ _. by_cases P (ltb h.repeats R) (λ _. out N h h.position _ refl refl (r (eqb-true _ _ v))) (λ _. silent N h h.position _ refl))
      (λ _. idle N h h.position))
      (λ _. idle N h h.position)
    where
      P : Next → Type 0
      P = Bound N h.position h
