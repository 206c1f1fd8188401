-- What a call comes to on the link: it is refused, or the end acts, and the frame that it sends joins its queue.
use Rattle.std.specs.Prelude.{ℕ, ◌≡◌, refl, Bool, true, false, cond as pick, List, [], ◌∷◌, ◌⊎◌, length, drop, eqb}
use Rattle.std.proofs.Common.{sym, subst, ◌∙◌, inl, inr, take_at, arith, ne_eqb, eqb-true}
use Rattle.octets.specs.TestLaws.{by_cases}
use Rattle.message.specs.declared.Fields.{Fields}
use Rattle.message.specs.Read.{fields}
use Rattle.message.specs.Message.{Message}
use Rattle.message.specs.Write.{layout, sent}
use Rattle.message.specs.Laws.{begins}
use Rattle.step.specs.Step.{Sending, nothing, sends, Act, Outcome, first, gives, refuses as no-act, call, frame_call, told}
use Rattle.step.specs.Laws.{none}
use Rattle.link.specs.Link.{Frame, Turn, refuses, acts, turn, turned, queued, hearing}

-- a call that is refused, or comes to this end and these frames
abbrev pub Comes : {E : Type 0} → Turn E → E → List Frame → Type 0
Comes t e out = (t ≡ refuses) ⊎ (t ≡ acts e out)

-- what is so of both is so of the call
pub came : {E : Type 0} (P : Turn E → Type 0) (t : Turn E) (e : E) (out : List Frame) → Comes t e out → P refuses → P (acts e out) → P t
came P t e out (inl q) r a = rw q r
came P t e out (inr q) r a = rw q a

turn-sent : {E : Type 0} (end : E) (m : Message) (reply : List ℕ) → turn end (sent m reply).answer (sent m reply).buffer ≡ acts end (layout m ∷ [])
turn-sent end m reply = rw (ne_eqb (length (layout m)) 0 (omega (arith, begins m)), take_at (layout m) (drop (length (layout m)) reply) (length (layout m)) refl)

-- what is so unless the call is refused
abbrev pub Unless : {E : Type 0} → Type 0 → Turn E → Type 0
Unless P refuses = Unit {0}
Unless P (acts e out) = P

-- an end of the link, made of an end's record and what it is lent to change
module _ {H B E : Type 0} (end : H → B → E) where
  abbrev pub Becomes : Turn E → Act H B → Type 0
  Becomes t a = Comes t (end a.end a.lent) (queued a.sending)

  tells : (h : H) (b : B) (reply : List ℕ) (out : Sending) → turned end (told h b reply out) ≡ acts (end h b) (queued out)
  tells h b reply nothing = refl
  tells h b reply (sends m) = turn-sent (end h b) m reply

  pub called : (n : ℕ) (h : H) (b : B) (reply : List ℕ) (a : Act H B) → Becomes (turned end (call n h b reply a)) a
  called n h b reply a =
      by_cases (λ (o : Outcome H B). Becomes (turned end o) a) (eqb n 0) (λ _. inr (tells a.end a.lent reply a.sending)) (λ e. inl (rw e))

  -- a call to which a refusal applies is refused
  pub denied : (n : ℕ) (h : H) (b : B) (reply : List ℕ) (a : Act H B) → (n ≡ 0 → ⊥) → turned end (call n h b reply a) ≡ refuses
  denied n h b reply a e = by_cases (λ (o : Outcome H B). turned end o ≡ refuses) (eqb n 0) (λ z. absurd (e (eqb-true n 0 z))) (λ z. rw z)

  -- two acts under one refusal: what is so of two refusals and of the two acts is so of the two calls
  pub both-called : (P : Turn E → Turn E → Type 0) (n : ℕ) (h : H) (b : B) (reply : List ℕ) (a c : Act H B) → P refuses refuses
      → P (acts (end a.end a.lent) (queued a.sending)) (acts (end c.end c.lent) (queued c.sending))
      → P (turned end (call n h b reply a)) (turned end (call n h b reply c))
  both-called P n h b reply a c r x = go (eqb n 0) refl
    where
      go : (d : Bool) → eqb n 0 ≡ d → P (turned end (pick d (gives a reply) (no-act n h b reply))) (turned end (pick d (gives c reply) (no-act n h b reply)))
      go true e = rw (tells a.end a.lent reply a.sending, tells c.end c.lent reply c.sending) x
      go false e = rw e r

  -- a call to which no refusal applies is that act, and is not refused
  pub told_as : (n : ℕ) (h : H) (b : B) (reply : List ℕ) (a : Act H B) → n ≡ 0
      → turned end (call n h b reply a) ≡ acts (end a.end a.lent) (queued a.sending)
  told_as n h b reply a e = rw e (tells a.end a.lent reply a.sending)

  pub unrefused : (n : ℕ) (h : H) (b : B) (reply : List ℕ) (a : Act H B) → n ≡ 0 → turned end (call n h b reply a) ≡ refuses → ⊥
  unrefused n h b reply a e q =
      let x : ◌≡◌ {A = Turn E} (acts (end a.end a.lent) (queued a.sending)) refuses = sym (told_as n h b reply a e) ∙ q in
      let z : ◌≡◌ {A = ℕ} 0 1 = cc in omega arith

  -- what is so of a refusal, and of the act on a frame that can be read and to which no refusal applies, is so of the call
  pub frame-came : (P : Turn E → Type 0) (version n : ℕ) (frame : Frame) (h : H) (b : B) (reply : List ℕ) (react : Fields → Act H B) → P refuses
      → (n ≡ 0 → (fields version frame).refusal ≡ 0 → P (acts (end (react (fields version frame)).end (react (fields version frame)).lent) (queued (react (fields version frame)).sending)))
      → P (turned end (frame_call version n frame h b reply react))
  frame-came P version n frame h b reply react r a =
      let refusals = first (n ∷ (fields version frame).refusal ∷ []) in
      by_cases (λ (o : Outcome H B). P (turned end o)) (eqb refusals 0)
      (λ e. let none_first = none _ _ (eqb-true refusals 0 e) in
      subst P (sym (tells _ _ reply (react (fields version frame)).sending)) (a none_first.0 (none _ _ none_first.1).0))
      (λ e. rw e r)

  -- it is refused, or the frame is to be counted until there is a verdict
  pub until_verdict : (verdict version n : ℕ) (frame : Frame) (h : H) (b : B) (reply : List ℕ) (react : Fields → Act H B)
      → Unless (◌≡◌ {A = ℕ} (pick (hearing version verdict frame) 1 0) (pick (eqb verdict 0) 1 0)) (turned end (frame_call version n frame h b reply react))
  until_verdict verdict version n frame h b reply react =
      frame-came (Unless (◌≡◌ {A = ℕ} (pick (hearing version verdict frame) 1 0) (pick (eqb verdict 0) 1 0))) version n frame h b reply react tt (λ _ e. rw e)

  -- nor is one on a frame to which none applies and which is accepted
  pub frame-unrefused : (version n : ℕ) (frame : Frame) (h : H) (b : B) (reply : List ℕ) (react : Fields → Act H B) → n ≡ 0 → (fields version frame).refusal ≡ 0
      → turned end (frame_call version n frame h b reply react) ≡ refuses → ⊥
  unfolding first
  frame-unrefused version n frame h b reply react e r =
      unrefused (first (n ∷ (fields version frame).refusal ∷ [])) h b reply (react (fields version frame)) (rw (e, r))
