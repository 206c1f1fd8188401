-- Two runs of one list of events, whose ends differ in the calls of the host alone: until the first host has ended, the two worlds are the
-- same, and so are all frames that the link took.
use Rattle.std.specs.Prelude.{ℕ, ◌≡◌, ◌⊎◌}
use Rattle.std.proofs.Math.Path.{refl}
use Rattle.std.proofs.Common.{ap, sym, subst, ◌∙◌}
use mathlib.Core.List.{List, [], ◌∷◌, ◌++◌}
use Rattle.std.proofs.Math.Logic.{inl, inr, ⊎_elim}
use Rattle.step.specs.Step.{Act, call}
use Rattle.link.specs.Link.{Frame, Turn, refuses, acts, turned, World, Ends, with_host, Event, own, further, hand_to_machine, keep_to_machine, drop_to_machine, hand_to_host, keep_to_host, drop_to_host, host_timer, machine_timer, machine_turn, host_turn, on_first, counts, step, run}
use Rattle.link.proofs.LinkLaws.{run-joined, Closed, always}
use Rattle.link.proofs.CallLaws.{denied, both-called}
use Rattle.link.proofs.AloneLaws.{Keeps}
use Rattle.link.specs.Bounded.{within, step_within, run_within}
use Rattle.link.proofs.BoundedLaws.{always-within}
use Rattle.link.specs.Taken.{Taken, from_host, returned, on_queue, takes, all_taken, SameRun, SameWithin}

-- what is so of the end that a call leaves, unless it is refused
abbrev pub Leaving : {E : Type 0} → (E → Type 0) → Turn E → Type 0
Leaving P refuses = Unit {0}
Leaving P (acts e out) = P e

-- two calls of a host, in the same record, come to the same and leave it good, or the first leaves it ended
abbrev pub Agrees : {H : Type 0} → (H → Type 0) → (H → Type 0) → Turn H → Turn H → Type 0
Agrees Good Ended refuses y = refuses ≡ y
Agrees Good Ended (acts x out) y = Ended x ⊎ (Good x × (acts x out ≡ y))

-- calls that come to the same agree, if the first leaves a good record, or is refused
same-agrees : {H : Type 0} (Good Ended : H → Type 0) (t t' : Turn H) → t ≡ t' → Leaving Good t → Agrees Good Ended t t'
same-agrees Good Ended refuses t' e l = e
same-agrees Good Ended (acts x out) t' e l = inr (l, e)

-- a call that keeps a good record leaves a good one, whatever else that is asked for
pub leaving : {H : Type 0} (Good : H → Type 0) (sent : H → ℕ) (Fact : Type 0) (h : H) (t : Turn H) → Keeps Good sent h t → Leaving (λ x. Fact → Good x) t
leaving Good sent Fact h refuses k = tt
leaving Good sent Fact h (acts x out) k = λ _. k.0

-- two acts under the same refusal agree, if they are the same and leave a good record, or the first leaves one that has ended
module _ {H B E : Type 0} (Good Ended : E → Type 0) (end : H → B → E) (n n' : ℕ) (h : H) (b : B) (reply : List ℕ) (act act' : Act H B) where
  pub acts-agree : n ≡ n' → (act ≡ act') ⊎ Ended (end act.end act.lent) → Leaving Good (turned end (call n h b reply act))
      → Agrees Good Ended (turned end (call n h b reply act)) (turned end (call n' h b reply act'))
  acts-agree e (inl same) l =
      same-agrees Good Ended _ _ (ap (λ (m : ℕ). turned end (call m h b reply act)) e ∙ ap (λ (x : Act H B). turned end (call n' h b reply x)) same) l
  acts-agree e (inr ended) l =
      subst (λ (m : ℕ). Agrees Good Ended (turned end (call n h b reply act)) (turned end (call m h b reply act'))) e
      (both-called end (Agrees Good Ended) n h b reply act act' refl (inl ended))

  -- and so do two that are both refused
  pub denied-agree : (n ≡ 0 → ⊥) → (n' ≡ 0 → ⊥) → Agrees Good Ended (turned end (call n h b reply act)) (turned end (call n' h b reply act'))
  denied-agree e e' = rw (denied end n h b reply act e, denied end n' h b reply act' e') refl

module _ {H M X : Type 0} (ends : Ends H M X) (frame : H → Frame → List ℕ → Turn H) (timer : H → List ℕ → Turn H) (Good Ended : H → Type 0) where
  -- What it takes: in a good record every call agrees; a record that has ended stays so; a further event leaves the record as it is.
  pub record Agree : Type 0 where
    pub on_frame_lem : (h : H) (f b : List ℕ) → Good h → Agrees Good Ended (ends.host_frame h f b) (frame h f b)
    pub on_timer_lem : (h : H) (b : List ℕ) → Good h → Agrees Good Ended (ends.host_timer h b) (timer h b)
    pub ended-frame : (h : H) (f b : List ℕ) → Ended h → Leaving Ended (ends.host_frame h f b)
    pub ended_timer : (h : H) (b : List ℕ) → Ended h → Leaving Ended (ends.host_timer h b)
    pub unmoved : (w : World H M) (x : X) → (ends.further w x).host ≡ w.host

  -- `more` is what the link takes in a further event
  module _ (a : Agree) (more : World H M → X → List Taken) where
    abbrev other : Ends H M X
    other = with_host ends frame timer

    -- two worlds with the frames taken: the first host has ended, or it is good and both are the same
    abbrev Same : World H M → World H M → List Taken → List Taken → Type 0
    Same w v p q = Ended w.host ⊎ (Good w.host × (w ≡ v) × (p ≡ q))

    -- ---- a host that has ended
    host-ended : (w : World H M) (n : ℕ) (rest : List Frame) (t : Turn H) → Ended w.host → Leaving Ended t → Ended (host_turn w n rest t).host
    host-ended w n rest refuses o l = o
    host-ended w n rest (acts x out) o l = l

    machine-ended : (w : World H M) (rest : List Frame) (t : Turn M) → Ended w.host → Ended (machine_turn w rest t).host
    machine-ended w rest refuses o = o
    machine-ended w rest (acts m out) o = o

    closed-ended : Closed ends (λ w. Ended w.host)
    closed-ended =
        record {
          kept_m = λ w f q b e o. machine-ended w (f ∷ q) (ends.machine_frame w.machine f b) o;
          lost_m = λ w q l o. o;
          kept_h = λ w f q b e o. host-ended w (counts ends w.host f) (f ∷ q) (ends.host_frame w.host f b) o (a.ended-frame w.host f b o);
          lost_h = λ w q l o. o;
          timer_h = λ w b o. host-ended w 0 w.to_host (ends.host_timer w.host b) o (a.ended_timer w.host b o);
          timer_m = λ w b o. machine-ended w w.to_machine (ends.machine_timer w.machine b) o;
        }

    further-ended : (w : World H M) (x : X) → Ended w.host → Ended (ends.further w x).host
    further-ended w x o = subst Ended (sym (a.unmoved w x)) o

    -- ---- one event
    host-same : (w : World H M) (n : ℕ) (rest : List Frame) (x y : Turn H) → Good w.host → Agrees Good Ended x y
        → Same (host_turn w n rest x) (host_turn w n rest y) (returned from_host x) (returned from_host y)
    host-same w n rest refuses y g e = inr (g, ap (host_turn w n rest) e, ap (returned from_host) e)
    host-same w n rest (acts x out) y g (inl o) = inl o
    host-same w n rest (acts x out) y g (inr p) = inr (p.0, ap (host_turn w n rest) p.1, ap (returned from_host) p.1)

    machine-same : {taken : List Taken} (w : World H M) (rest : List Frame) (t : Turn M) → Good w.host → Same (machine_turn w rest t) (machine_turn w rest t) taken taken
    machine-same w rest refuses g = inr (g, refl, refl)
    machine-same w rest (acts m out) g = inr (g, refl, refl)

    first-same : (w : World H M) (q : List Frame) (event event' : Frame → List Frame → World H M) (call call' : Frame → List Taken) → Good w.host
        → ((f : Frame) (r : List Frame) → Same (event f r) (event' f r) (call f) (call' f)) → Same (on_first w q event) (on_first w q event') (on_queue q call) (on_queue q call')
    first-same w [] event event' call call' g l = inr (g, refl, refl)
    first-same w (f ∷ q) event event' call call' g l = l f q

    -- a frame that is dropped is no call
    dropped : (w : World H M) (q : List Frame) (event : Frame → List Frame → World H M) → Good w.host → ((f : Frame) (r : List Frame) → (event f r).host ≡ w.host)
        → Same (on_first w q event) (on_first w q event) [] []
    dropped w [] event g l = inr (g, refl, refl)
    dropped w (f ∷ q) event g l = inr (subst Good (sym (l f q)) g, refl, refl)

    one-event : (w : World H M) (e : Event X) → Good w.host → Same (step ends w e) (step other w e) (takes ends more w e) (takes other more w e)
    one-event w (own (hand_to_machine b)) g = first-same w w.to_machine _ _ _ _ g (λ f q. machine-same w q (ends.machine_frame w.machine f b) g)
    one-event w (own (keep_to_machine b)) g = first-same w w.to_machine _ _ _ _ g (λ f q. machine-same w (f ∷ q) (ends.machine_frame w.machine f b) g)
    one-event w (own drop_to_machine) g = dropped w w.to_machine _ g (λ f q. refl)
    one-event w (own (hand_to_host b)) g =
        first-same w w.to_host _ _ _ _ g (λ f q. host-same w (counts ends w.host f) q (ends.host_frame w.host f b) (frame w.host f b) g (a.on_frame_lem w.host f b g))
    one-event w (own (keep_to_host b)) g =
        first-same w w.to_host _ _ _ _ g (λ f q. host-same w (counts ends w.host f) (f ∷ q) (ends.host_frame w.host f b) (frame w.host f b) g (a.on_frame_lem w.host f b g))
    one-event w (own drop_to_host) g = dropped w w.to_host _ g (λ f q. refl)
    one-event w (own (host_timer b)) g = host-same w 0 w.to_host (ends.host_timer w.host b) (timer w.host b) g (a.on_timer_lem w.host b g)
    one-event w (own (machine_timer b)) g = machine-same w w.to_machine (ends.machine_timer w.machine b) g
    one-event w (further x) g = inr (subst Good (sym (a.unmoved w x)) g, refl, refl)

    -- ---- the whole list
    joined : {w v : World H M} {p q : List Taken} (t t' : List Taken) → t ≡ t' → Same w v p q → Same w v (t ++ p) (t' ++ q)
    joined t t' e = ⊎_elim (λ o. inl o) (λ s. inr (s.0, s.1, rw (e, s.2)))

    run-same : (w : World H M) (es : List (Event X)) → Good w.host
        → Same (run ends w es) (run other w es) (all_taken ends more (step ends) w es) (all_taken other more (step other) w es)
    unfolding run all_taken
    run-same w [] g = inr (g, refl, refl)
    run-same w (e ∷ es) g =
        ⊎_elim (λ o. inl (always ends (λ v. Ended v.host) closed-ended further-ended (step ends w e) es o))
        (λ s. joined (takes ends more w e) (takes other more w e) s.2
        (subst (λ (v : World H M). Same (run ends (step ends w e) es) (run other v es) (all_taken ends more (step ends) (step ends w e) es) (all_taken other more (step other) v es))
        s.1 (run-same (step ends w e) es s.0))) (one-event w e g)

    run-within-same : (n : ℕ) (w : World H M) (es : List (Event X)) → Good w.host
        → Same (run_within n ends w es) (run_within n other w es) (all_taken ends more (step_within n ends) w es) (all_taken other more (step_within n other) w es)
    unfolding run_within all_taken
    run-within-same n w [] g = inr (g, refl, refl)
    run-within-same n w (e ∷ es) g =
        ⊎_elim (λ o. inl (always-within ends (λ v. Ended v.host) closed-ended further-ended n (step_within n ends w e) es o))
        (λ s. joined (takes ends more w e) (takes other more w e) s.2
        (subst (λ (v : World H M). Same (run_within n ends (step_within n ends w e) es) (run_within n other (within n v) es) (all_taken ends more (step_within n ends) (step_within n ends w e) es) (all_taken other more (step_within n other) (within n v) es))
        s.1 (run-within-same n (step_within n ends w e) es s.0))) (one-event w e g)

    -- ---- from a good record on, unless the first host has ended
    pub same : (w : World H M) → Good w.host → (es : List (Event X)) → (Ended (run ends w es).host → ⊥) → SameRun ends other more w es
    same w g es up = ⊎_elim (λ o. absurd (up o)) (λ x. (x.1, x.2)) (run-same w es g)

    -- and on a line with bounded queues
    pub same-within : (w : World H M) → Good w.host → (n : ℕ) (es : List (Event X)) → (Ended (run_within n ends w es).host → ⊥) → SameWithin ends other more w es n
    same-within w g n es up = ⊎_elim (λ o. absurd (up o)) (λ x. (x.1, x.2)) (run-within-same n w es g)

    -- a host that has ended stays so: what is the same after a list was the same after each of its beginnings
    pub stays-ended : (w : World H M) (es fs : List (Event X)) → Ended (run ends w es).host → Ended (run ends w (es ++ fs)).host
    stays-ended w es fs o = rw (run-joined ends w es fs) (always ends (λ v. Ended v.host) closed-ended further-ended (run ends w es) fs o)
