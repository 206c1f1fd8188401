-- Laws of what the host does next: the count of frames sent stays, and which frame may go out is known beforehand.
use Rattle.std.specs.Prelude.{ℕ, ◌<◌, ◌≡◌, refl, true, false}
use Rattle.std.proofs.Common.{arith}
use Rattle.load_record.specs.declared.Session.{Session}
use Rattle.load_record.specs.declared.Next.{Next}
use Rattle.load_record.specs.Record.{ignores, tallied}

-- the count of frames sent stays, and what goes out is frame i, one of N
pub record Bound (N i : ℕ) (h : Session) (next : Next) : Type 0 where
  pub counted : next.session.sent ≡ h.sent
  pub place : next.sends ≡ true → next.session.position ≡ i
  pub inside : next.sends ≡ true → i < N

module _ (N : ℕ) (h : Session) where
  -- nothing goes out
  pub silent : (i : ℕ) (session : Session) → session.sent ≡ h.sent → Bound N i h (record { session = session; sends = false })
  silent i session e =
      record {
        counted = e;
        place = λ f. let z : ◌≡◌ {A = ℕ} 0 1 = cc in absurd (omega arith);
        inside = λ f. let z : ◌≡◌ {A = ℕ} 0 1 = cc in absurd (omega arith);
      }

  -- frame i goes out
  pub out : (i : ℕ) (session : Session) → session.sent ≡ h.sent → session.position ≡ i → i < N → Bound N i h (record { session = session; sends = true })
  out i session e p l = record { counted = e; place = λ f. p; inside = λ f. l }

  pub idle : (i : ℕ) → Bound N i h (ignores h)
  idle i = silent i h refl

  -- to count the frame alters none of this
  pub tallied-bound : (i : ℕ) (next : Next) → Bound N i h next → Bound N i h (tallied h next)
  tallied-bound i next b = record { counted = b.counted; place = b.place; inside = b.inside }
