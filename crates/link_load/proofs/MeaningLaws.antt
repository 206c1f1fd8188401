-- What the host's record says of the machine end, for any numbered frames.
use Prim.Native.Nat.{ℕ, zero, suc, ◌+◌, ◌≤◌, ◌<◌}
use Rattle.std.specs.Prelude.{◌≡◌, Bool, true, false, List, ◌⊎◌, eqb}
use Rattle.std.proofs.Math.Path.{refl}
use Rattle.std.proofs.Common.{sym, subst, ◌∙◌, inl, inr, arith, add-one}
use borrow.Author.Tests.{eq-eqb, ne_eqb, eqb-true, eqb-false}
use Rattle.parameters.specs.Parameters.{none}
use Rattle.machine_record.specs.declared.Settings.{Settings}
use Rattle.machine_record.specs.Record as machine
use Rattle.load_record.specs.declared.Session.{Session}
use Rattle.link.specs.Link.{Left}
use Rattle.link.specs.MachineEnd.{End}
use Rattle.link_load.proofs.FramesLaws.{Frames, laid, machine_at, At}
use Rattle.link_load.proofs.SenderLaws.{Stage}

module _ {ms : Settings} (fr : Frames ms) (old : List ℕ) where
  -- the old memory with the first k frames laid over it
  unfoldable pub laid_over : ℕ → List ℕ
  laid_over zero = old
  laid_over (suc k) = fr.lays k (laid_over k)

  -- The first k are in: those k fit, memory is the old memory with them laid over it, and the machine is as the last frame leaves a fresh one
  -- if k is their number, otherwise not Started, and it keeps nothing.
  pub record FirstIn (k : ℕ) (e : End) : Type 0 where
    pub most : k ≤ fr.many
    pub fitting : (i : ℕ) → i < k → fr.fit i ≡ true
    pub memory-is : e.memory ≡ laid_over k
    pub started : k ≡ fr.many → e.machine ≡ fr.done none
    pub not-started : (k ≡ fr.many → ⊥) → machine.is 4 e.machine ≡ false
    pub keeps-nothing : (k ≡ fr.many → ⊥) → e.machine.parameters ≡ none

  -- waiting, the first 0 are in; rejected, the first c; finished, all; otherwise the first c, or the first c + 1
  pub record Meaning (h : Session) (e : End) : Type 0 where
    pub waiting : h.waiting ≡ 1 → FirstIn 0 e
    pub rejected : h.verdict ≡ 2 → FirstIn h.position e
    pub finished : h.verdict ≡ 1 → FirstIn fr.many e
    pub otherwise : (h.waiting ≡ 1 → ⊥) → (h.verdict ≡ 1 → ⊥) → FirstIn h.position e ⊎ FirstIn (h.position + 1) e

  -- where all fit, those that fit are all
  all_laid : (k : ℕ) → ((i : ℕ) → i < k → fr.fit i ≡ true) → laid fr old k ≡ laid_over k
  unfolding laid laid_over
  all_laid zero f = refl
  all_laid (suc k) f = rw (f k (omega arith), all_laid k (λ i l. f i (omega arith)))

  -- the machine after k answers that were all taken
  in_all : (k : ℕ) → k ≤ fr.many → ((i : ℕ) → i < k → fr.fit i ≡ true) → FirstIn k (At fr old k)
  unfolding machine_at
  in_all k l f = record { most = l; fitting = f; memory-is = all_laid k f; started = last k f; not-started = early k f; keeps-nothing = empty k f }
    where
      last : (j : ℕ) → ((i : ℕ) → i < j → fr.fit i ≡ true) → j ≡ fr.many → machine_at fr old j ≡ fr.done none
      last zero g e = absurd (omega (arith, fr.some))
      last (suc j) g e = rw (g j (omega arith), eq-eqb (j + 1) fr.many (omega (arith, e)))

      early : (j : ℕ) → ((i : ℕ) → i < j → fr.fit i ≡ true) → (j ≡ fr.many → ⊥) → machine.is 4 (machine_at fr old j) ≡ false
      early zero g e = refl
      early (suc j) g e = rw (g j (omega arith), ne_eqb (j + 1) fr.many (λ q. e (omega arith)))

      empty : (j : ℕ) → ((i : ℕ) → i < j → fr.fit i ≡ true) → (j ≡ fr.many → ⊥) → (machine_at fr old j).parameters ≡ none
      empty zero g e = refl
      empty (suc j) g e = rw (g j (omega arith), ne_eqb (j + 1) fr.many (λ q. e (omega arith)))

  -- the machine after an answer that a frame does not fit
  in_but_one : (c : ℕ) → c < fr.many → ((i : ℕ) → i < c → fr.fit i ≡ true) → fr.fit c ≡ false → FirstIn c (At fr old (suc c))
  unfolding machine_at laid
  in_but_one c l f out =
      record {
        most = omega arith;
        fitting = f;
        memory-is = rw out (all_laid c f);
        started = λ e. absurd (omega arith);
        not-started = λ _. rw out;
        keeps-nothing = λ _. rw out;
      }

  -- the frame on its way is in or not
  on_way : (m c : ℕ) → c < fr.many → c ≤ m → m ≤ suc c → ((i : ℕ) → i < c → fr.fit i ≡ true) → FirstIn c (At fr old m) ⊎ FirstIn (c + 1) (At fr old m)
  on_way m c l a b below = go (eqb m c) (fr.fit c) refl refl
    where
      upto : fr.fit c ≡ true → (i : ℕ) → i < suc c → fr.fit i ≡ true
      upto e i h = by_one (eqb i c) refl
        where
          by_one : (d : Bool) → eqb i c ≡ d → fr.fit i ≡ true
          by_one true q = subst (λ (x : ℕ). fr.fit x ≡ true) (sym (eqb-true i c q)) e
          by_one false q = below i (omega (arith, eqb-false i c q))

      go : (d e : Bool) → eqb m c ≡ d → fr.fit c ≡ e → FirstIn c (At fr old m) ⊎ FirstIn (c + 1) (At fr old m)
      go true e q r = inl (rw (eqb-true m c q) (in_all c (omega arith) below))
      go false true q r =
          let z : m ≡ suc c = omega (arith, eqb-false m c q) in
          inr (rw (z, add-one) (in_all (suc c) l (upto r)))
      go false false q r =
          let z : m ≡ suc c = omega (arith, eqb-false m c q) in
          inl (rw z (in_but_one c l below r))

  -- a frame that does not fit is not in
  not_in : (c : ℕ) (e : End) → fr.fit c ≡ false → FirstIn c e ⊎ FirstIn (c + 1) e → FirstIn c e
  not_in c e out (inl y) = y
  not_in c e out (inr y) =
      let z : ◌≡◌ {A = Bool} true false = sym (y.fitting c (omega arith)) ∙ out in let q : ◌≡◌ {A = ℕ} 0 1 = cc in absurd (omega arith)

  -- a host at stage p, and a machine after m answers
  module _
      (R E m p : ℕ) (b : Left Session End) (h : Session) (g : Stage fr.many R E b fr.fit p h) (lower : m ≤ p) (upper : p ≤ m + 1) (few : m ≤ fr.many)
      (fitting : (i : ℕ) → i + 1 < p → fr.fit i ≡ true) where
    flag : (h.waiting ≡ 1 → ⊥) → h.waiting ≡ 0
    flag w = omega (arith, g.good.flag)

    past : (w : h.waiting ≡ 1 → ⊥) → (h.verdict ≡ 1 → ⊥) → FirstIn h.position (At fr old m) ⊎ FirstIn (h.position + 1) (At fr old m)
    past w v =
        let at : p ≡ h.position + 1 = g.sends (flag w) in
        on_way m h.position (g.good.otherwise v).0 (omega arith) (omega arith) (λ i l. fitting i (omega arith))

    pub means : Meaning h (At fr old m)
    means =
        record {
          waiting = λ w. let z : m ≡ 0 = omega (arith, g.waits w) in rw z (in_all 0 (omega arith) (λ i l. absurd (omega arith)));
          rejected = λ v. not_in h.position (At fr old m) (g.unfit v) (past (λ w. omega (arith, g.good.waiting w)) (λ q. omega arith));
          finished = λ v.
              let at : p ≡ h.position + 1 = g.sends (flag (λ w. omega (arith, g.good.waiting w))) in
              let all : h.position ≡ fr.many = (g.good.finished v).0 in
              let z : m ≡ fr.many = omega arith in
              rw z (in_all fr.many (omega arith) (λ i l. fitting i (omega arith)));
          otherwise = past;
        }
