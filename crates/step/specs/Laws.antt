-- The ways through a call, and what it says that no refusal of a list applies.
use Rattle.std.specs.Prelude.{ℕ, ◌≤◌, ◌<◌, ◌≡◌, refl, Bool, true, false, List, [], ◌∷◌, length, eqb}
use Rattle.std.proofs.Common.{subst, sym, ◌∙◌, arith, eqb-true, eq-eqb, ne_eqb}
use Rattle.std.proofs.lemmas.Bool.{eqb-false}
use Rattle.buffer.specs.declared.Written.{Written}
use Rattle.octets.specs.TestLaws.{by_cases}
use Rattle.buffer.specs.Lay.{Output, Came, refused}
use Rattle.message.specs.declared.Fields.{Fields}
use Rattle.message.specs.Message.{Message}
use Rattle.message.specs.Read.{fields}
use Rattle.message.specs.Write.{layout, listed, write, sent}
use Rattle.message.specs.Laws.{write-sent}
use Rattle.refusal.specs.declared.Refusal.{Refusal}
use Rattle.refusal.specs.Refusal.{number}
use Rattle.refusal.specs.Laws.{some}
use Rattle.step.specs.Step.{sends, Act, unless, first, acts, gives, call, frame_call, Leaves}

-- ---- refusals
-- no refusal applies: the condition holds
pub met : (b : Bool) (n : ℕ) → 0 < n → unless b n ≡ 0 → b ≡ true
met true n p e = refl
met false n p e = absurd (omega arith)

-- a condition that holds is no refusal
pub holds : (b : Bool) (n : ℕ) → b ≡ true → unless b n ≡ 0
holds b n e = rw e

-- none of a list applies: not the first, and none of the rest
pub none : (n : ℕ) (rest : List ℕ) → first (n ∷ rest) ≡ 0 → (n ≡ 0) × (first rest ≡ 0)
unfolding first
none n rest = by_cases (λ (k : ℕ). k ≡ 0 → (n ≡ 0) × (first rest ≡ 0)) (eqb n 0) (λ b e. (eqb-true n 0 b, e)) (λ b e. absurd (eqb-false n 0 b e))

-- the first of a list that does not apply is passed over; one that applies decides
pub passed : (n : ℕ) (rest : List ℕ) → n ≡ 0 → first (n ∷ rest) ≡ first rest
unfolding first
passed n rest e = rw (eq-eqb n 0 e)

pub decided : (n : ℕ) (rest : List ℕ) → (n ≡ 0 → ⊥) → first (n ∷ rest) ≡ n
unfolding first
decided n rest e = rw (ne_eqb n 0 e)

pub last : (n : ℕ) → first (n ∷ []) ≡ n
unfolding first
last n = by_cases (λ (k : ℕ). k ≡ n) (eqb n 0) (λ b. sym (eqb-true n 0 b)) (λ _. refl)

-- ---- calls
-- what a writer gives of a listed message of at most 1,500 bytes is what is sent
pub sent_by : (version : ℕ) (m : Message) (reply : List ℕ) {answer : Written} {buffer : List ℕ} → listed version m ≡ true → length (layout m) ≤ 1500 → 1500 ≤ length reply
    → Came (write version m reply) answer buffer → Came (sent m reply) answer buffer
sent_by version m reply {answer} {buffer} l h r c = subst (λ (o : Output). Came o answer buffer) (write-sent version m reply l h r) c

module _ {H B : Type 0} where
  -- an end that sends a message leaves what its writer gives
  pub sent-leaves : (end : H) (lent : B) (m : Message) (reply : List ℕ) {answer : Written} {buffer : List ℕ} → Came (sent m reply) answer buffer
      → Leaves (gives (acts end lent (sends m)) reply) end answer lent buffer
  sent-leaves end lent m reply c = (refl, c.0, refl, c.1)

  module _ (n : ℕ) (end : H) (lent : B) (reply : List ℕ) where
    pub call-refused : (act : Act H B) → (n ≡ 0 → ⊥) → Leaves (call n end lent reply act) end (refused n) lent reply
    call-refused act e = rw (ne_eqb n 0 e) (refl, refl, refl, refl)

    -- the same by the refusal's number
    pub call-denied : (act : Act H B) (r : Refusal) → number r ≡ n → Leaves (call n end lent reply act) end (refused (number r)) lent reply
    call-denied act r e = rw e (call-refused act (λ z. omega (arith, some r)))

    pub call-accepted : (act : Act H B) {end' : H} {answer : Written} {lent' : B} {reply' : List ℕ} → n ≡ 0 → Leaves (gives act reply) end' answer lent' reply'
        → Leaves (call n end lent reply act) end' answer lent' reply'
    call-accepted act e l = rw (eq-eqb n 0 e) l

  -- a call on a frame: refused before it is read, refused because of it, or accepted
  module _ (version n : ℕ) (frame : List ℕ) (end : H) (lent : B) (reply : List ℕ) (react : Fields → Act H B) where
    pub frame-call-refused : (n ≡ 0 → ⊥) → Leaves (frame_call version n frame end lent reply react) end (refused n) lent reply
    frame-call-refused e = rw (decided n ((fields version frame).refusal ∷ []) e, ne_eqb n 0 e) (refl, refl, refl, refl)

    pub frame-call-denied : (r : Refusal) → number r ≡ n → Leaves (frame_call version n frame end lent reply react) end (refused (number r)) lent reply
    frame-call-denied r e = rw e (frame-call-refused (λ z. omega (arith, some r)))

    module _ (z : n ≡ 0) where
      own : first (n ∷ (fields version frame).refusal ∷ []) ≡ (fields version frame).refusal
      own = passed n ((fields version frame).refusal ∷ []) z ∙ last (fields version frame).refusal

      pub frame_refused : ((fields version frame).refusal ≡ 0 → ⊥) → Leaves (frame_call version n frame end lent reply react) end (refused (fields version frame).refusal) lent reply
      frame_refused e = rw (own, ne_eqb (fields version frame).refusal 0 e) (refl, refl, refl, refl)

      pub frame_denied : (r : Refusal) → number r ≡ (fields version frame).refusal
          → Leaves (frame_call version n frame end lent reply react) end (refused (number r)) lent reply
      frame_denied r e = rw e (frame_refused (λ w. omega (arith, some r)))

      pub frame-accepted : {end' : H} {answer : Written} {lent' : B} {reply' : List ℕ} → (fields version frame).refusal ≡ 0
          → Leaves (gives (react (fields version frame)) reply) end' answer lent' reply' → Leaves (frame_call version n frame end lent reply react) end' answer lent' reply'
      frame-accepted e l = rw (own, eq-eqb (fields version frame).refusal 0 e) l
