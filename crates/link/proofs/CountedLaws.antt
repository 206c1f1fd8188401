-- What the counts say stays true: one frame of each kind.
use Rattle.std.specs.Prelude.{ℕ, ◌+◌, ◌≡◌, refl, Bool, true, false, cond as pick, eqb}
use Rattle.std.proofs.Common.{◌∙◌, arith, eq-eqb}
use Rattle.octets.specs.TestLaws.{by_cases}
use Rattle.counts.specs.declared.Counts.{Counts}
use Rattle.counts.specs.Counts.{zero, sum, only_ignored, passed, start, advance, ignore, reject}
use Rattle.link.specs.Counted.{Counted}

pub fresh : Counted 1 0 0 0 zero
fresh =
    record {
      waits = λ _. refl;
      started = λ n. absurd (n refl);
      advances = λ _. refl;
      at_least = omega arith;
      rejected = λ e. absurd (omega arith);
      not-rejected = λ _. refl;
    }

module _ {w e f v : ℕ} {c : Counts} (k : Counted w e f v c) where
  pub starting : w ≡ 1 → e ≡ 0 → (v ≡ 2 → ⊥) → Counted 0 e f 0 (start c)
  starting q r n =
      record {
        waits = λ z. absurd (omega arith);
        started = λ _. omega (arith, k.waits q, r);
        advances = k.advances;
        at_least = k.at_least;
        rejected = λ z. absurd (omega arith);
        not-rejected = λ _. k.not-rejected n;
      }

  -- a load begins again
  pub restarting : (w ≡ 1 → ⊥) → (v ≡ 2 → ⊥) → Counted 0 (e + 1) 0 0 (start c)
  restarting q n =
      record {
        waits = λ z. absurd (omega arith);
        started = λ _. omega (arith, k.started q);
        advances = λ z. absurd (omega (arith, z));
        at_least = omega arith;
        rejected = λ z. absurd (omega arith);
        not-rejected = λ _. k.not-rejected n;
      }

  pub advancing : (u : ℕ) → (v ≡ 2 → ⊥) → (u ≡ 2 → ⊥) → Counted w e (f + 1) u (advance c)
  advancing u n m =
      record {
        waits = k.waits;
        started = k.started;
        advances = λ z. omega (arith, k.advances z);
        at_least = omega (arith, k.at_least);
        rejected = λ z. absurd (m z);
        not-rejected = λ _. k.not-rejected n;
      }

  pub rejecting : (v ≡ 2 → ⊥) → Counted w e f 2 (reject c)
  rejecting n =
      record {
        waits = k.waits;
        started = k.started;
        advances = k.advances;
        at_least = k.at_least;
        rejected = λ _. omega (arith, k.not-rejected n);
        not-rejected = λ m. absurd (m refl);
      }

  pub ignoring : Counted w e f v (ignore c)
  ignoring =
      record {
        waits = k.waits;
        started = k.started;
        advances = k.advances;
        at_least = k.at_least;
        rejected = k.rejected;
        not-rejected = k.not-rejected;
      }

  -- no frame: another verdict, but for rejected
  pub ending : (u : ℕ) → (v ≡ 2 → ⊥) → (u ≡ 2 → ⊥) → Counted w e f u c
  ending u n m =
      record {
        waits = k.waits;
        started = k.started;
        advances = k.advances;
        at_least = k.at_least;
        rejected = λ z. absurd (m z);
        not-rejected = λ _. k.not-rejected n;
      }

  -- while it waits no frame but ignored ones came
  pub only-ignored : w ≡ 1 → e ≡ 0 → f ≡ 0 → (v ≡ 2 → ⊥) → only_ignored c ≡ true
  only-ignored q r z n = rw (k.waits q, eq-eqb c.advances 0 (k.advances r ∙ z), k.not-rejected n)

-- the counts after a frame that is ignored
pub passing : {w e f v : ℕ} {c : Counts} → Counted w e f v c → Counted w e f v (passed v c)
passing {w} {e} {f} {v} {c} k = by_cases (Counted w e f v) (eqb v 0) (λ _. ignoring k) (λ _. k)

pub passed-sum : (v : ℕ) (c : Counts) → sum (passed v c) ≡ sum c + pick (eqb v 0) 1 0
passed-sum v c = go (eqb v 0)
  where
    go : (b : Bool) → sum (pick b (ignore c) c) ≡ sum c + pick b 1 0
    go true = omega arith
    go false = omega arith

-- until there is a verdict it is one more
pub one : (v n : ℕ) → v ≡ 0 → n ≡ pick (eqb v 0) 1 0 → n ≡ 1
one v n e c = rw (eq-eqb v 0 e) at c
