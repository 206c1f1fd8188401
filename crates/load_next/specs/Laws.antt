-- Laws of what the host does next on a frame: the count of frames sent stays, and which frame may go out is known beforehand.
use Rattle.std.specs.Prelude.{ℕ, ◌+◌, ◌%◌, ◌<◌, ◌≡◌, refl, true, false, ◌&&◌, eqb}
use Rattle.std.proofs.Common.{arith, eqb-true, ltb-true}
use Rattle.octets.specs.TestLaws.{by_cases}
use Rattle.message.specs.declared.Fields.{Fields}
use Rattle.load_record.specs.declared.Session.{Session}
use Rattle.load_record.specs.declared.Next.{Next}
use Rattle.load_record.specs.Record.{more}
use Rattle.load_record.specs.Laws.{Bound, silent, out, idle}
use Rattle.load_next.specs.Inner.{ahead}
use Rattle.load_next.specs.Next.{again, on_request, on_answer, react}

module _ (N restart : ℕ) (h : Session) (r : h.verdict ≡ 0 → h.position < N) (f : Fields) where
  abbrev P : Next → Type 0
  P = Bound N (ahead h f) h

  requests : eqb f.code 8 ≡ true → h.position < N → P (on_request restart h f.program)
  requests c l =
      by_cases P (eqb f.program 2)
      (λ _.
      by_cases P (eqb h.waiting 1) (λ _. rw c (out N h 0 _ refl refl (omega arith)))
      (λ _. by_cases P (again restart h) (λ _. rw c (out N h 0 _ refl refl (omega arith))) (λ _. idle N h (ahead h f))))
      (λ _. idle N h (ahead h f))

  answers : eqb f.code 8 ≡ false → P (on_answer N h f.number f.error)
  answers c =
      by_cases P (eqb h.waiting 0 && eqb f.number ((h.position + 1) % 256))
      (λ _.
      by_cases P (eqb f.error 0)
      (λ _.
      by_cases P (more N h)
      (λ m. rw c (out N h (h.position + 1) _ refl refl (ltb-true _ _ m)))
      (λ _. silent N h (ahead h f) _ refl))
      (λ _. silent N h (ahead h f) _ refl))
      (λ _. idle N h (ahead h f))

  pub react-bound : Bound N (ahead h f) h (react N restart h f)
  react-bound =
      by_cases P (eqb h.verdict 0)
      (λ v.
      by_cases P (eqb f.code 8) (λ c. requests c (r (eqb-true _ _ v)))
      (λ c. by_cases P (eqb f.code 10) (λ _. answers c) (λ _. idle N h (ahead h f))))
      (λ _. idle N h (ahead h f))
