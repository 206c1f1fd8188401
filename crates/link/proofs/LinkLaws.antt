-- An invariant that withstands the link's own events is kept by every run.
use Rattle.std.specs.Prelude.{ℕ, ◌≡◌}
use Rattle.std.proofs.Math.Path.{refl}
use mathlib.Core.List.{List, [], ◌∷◌, ◌++◌, map}
use Rattle.link.specs.Link.{Frame, Turn, refuses, acts, World, Ends, Own, Event, own, further, hand_to_machine, keep_to_machine, drop_to_machine, hand_to_host, keep_to_host, drop_to_host, host_timer, machine_timer, machine_turn, host_turn, with_to_machine, with_to_host, Left, left, last_left, on_first, counts, own_step, step, run}

-- A queue, and what is left of it when one frame is lost, from anywhere in it.
pub data Lost : List Frame → List Frame → Type 0 where
  here : {f : Frame} {q : List Frame} → Lost (f ∷ q) q
  there : {f : Frame} {q r : List Frame} → Lost q r → Lost (f ∷ q) (f ∷ r)

-- where there are no further events, or none in the list, what was first is left
pub none_left : {H M X : Type 0} → (X → ⊥) → (go : World H M → Event X → World H M) (b : Left H M) (w : World H M) (es : List (Event X)) → last_left go b w es ≡ b
unfolding last_left
none_left empty go b w [] = refl
none_left empty go b w (own e ∷ es) = none_left empty go b (go w (own e)) es
none_left empty go b w (further x ∷ es) = absurd (empty x)

pub own-left : {H M X : Type 0} (go : World H M → Event X → World H M) (b : Left H M) (w : World H M) (es : List Own) → last_left go b w (map own es) ≡ b
unfolding last_left
own-left go b w [] = refl
own-left go b w (e ∷ es) = own-left go b (go w (own e)) es

module _ {H M X : Type 0} (ends : Ends H M X) where
  -- what the events on a queue make of this one
  abbrev pub handed_to_machine : World H M → List ℕ → List Frame → World H M
  handed_to_machine w b q = on_first w q (λ f rest. machine_turn w rest (ends.machine_frame w.machine f b))

  abbrev pub kept_to_machine : World H M → List ℕ → List Frame → World H M
  kept_to_machine w b q = on_first w q (λ f rest. machine_turn w (f ∷ rest) (ends.machine_frame w.machine f b))

  abbrev pub dropped_to_machine : World H M → List Frame → World H M
  dropped_to_machine w q = on_first w q (λ f rest. with_to_machine w rest)

  abbrev pub handed_to_host : World H M → List ℕ → List Frame → World H M
  handed_to_host w b q = on_first w q (λ f rest. host_turn w (counts ends w.host f) rest (ends.host_frame w.host f b))

  abbrev pub kept_to_host : World H M → List ℕ → List Frame → World H M
  kept_to_host w b q = on_first w q (λ f rest. host_turn w (counts ends w.host f) (f ∷ rest) (ends.host_frame w.host f b))

  abbrev pub dropped_to_host : World H M → List Frame → World H M
  dropped_to_host w q = on_first w q (λ f rest. with_to_host w rest)

module _ {H M X : Type 0} (ends : Ends H M X) where
  -- two lists of events, one after the other
  pub run-joined : (w : World H M) (es fs : List (Event X)) → run ends w (es ++ fs) ≡ run ends (run ends w es) fs
  unfolding run
  run-joined w [] fs = refl
  run-joined w (e ∷ es) fs = run-joined (step ends w e) es fs

  -- What an invariant must withstand of the link's own events: a frame handed over and kept, a frame lost, a timer, at either end.
  pub record Closed (Holds : World H M → Type 0) : Type 0 where
    pub kept_m : (w : World H M) (f : Frame) (q : List Frame) (b : List ℕ) → w.to_machine ≡ f ∷ q → Holds w
        → Holds (machine_turn w (f ∷ q) (ends.machine_frame w.machine f b))
    pub lost_m : (w : World H M) (q : List Frame) → Lost w.to_machine q → Holds w → Holds (with_to_machine w q)
    pub kept_h : (w : World H M) (f : Frame) (q : List Frame) (b : List ℕ) → w.to_host ≡ f ∷ q → Holds w
        → Holds (host_turn w (counts ends w.host f) (f ∷ q) (ends.host_frame w.host f b))
    pub lost_h : (w : World H M) (q : List Frame) → Lost w.to_host q → Holds w → Holds (with_to_host w q)
    pub timer_h : (w : World H M) (b : List ℕ) → Holds w → Holds (host_turn w 0 w.to_host (ends.host_timer w.host b))
    pub timer_m : (w : World H M) (b : List ℕ) → Holds w → Holds (machine_turn w w.to_machine (ends.machine_timer w.machine b))

  module _ (Holds : World H M → Type 0) (c : Closed Holds) where
    -- to hand over is to hand over and keep, and then to lose the frame; a refusal leaves it
    hand_m : (w : World H M) (f : Frame) (q : List Frame) (t : Turn M) → Holds w → Holds (machine_turn w (f ∷ q) t) → Holds (machine_turn w q t)
    hand_m w f q refuses h k = h
    hand_m w f q (acts m out) h k = c.lost_m (machine_turn w (f ∷ q) (acts m out)) q here k

    hand_h : (w : World H M) (n : ℕ) (f : Frame) (q : List Frame) (t : Turn H) → Holds w → Holds (host_turn w n (f ∷ q) t) → Holds (host_turn w n q t)
    hand_h w n f q refuses h k = h
    hand_h w n f q (acts e out) h k = c.lost_h (host_turn w n (f ∷ q) (acts e out)) q here k

    handed_m : (w : World H M) (b : List ℕ) (q : List Frame) → w.to_machine ≡ q → Holds w → Holds (handed_to_machine ends w b q)
    handed_m w b [] e h = h
    handed_m w b (f ∷ q) e h = hand_m w f q (ends.machine_frame w.machine f b) h (c.kept_m w f q b e h)

    kept_m : (w : World H M) (b : List ℕ) (q : List Frame) → w.to_machine ≡ q → Holds w → Holds (kept_to_machine ends w b q)
    kept_m w b [] e h = h
    kept_m w b (f ∷ q) e h = c.kept_m w f q b e h

    dropped_m : (w : World H M) (q : List Frame) → w.to_machine ≡ q → Holds w → Holds (dropped_to_machine ends w q)
    dropped_m w [] e h = h
    dropped_m w (f ∷ q) e h = c.lost_m w q (rw e here) h

    handed_h : (w : World H M) (b : List ℕ) (q : List Frame) → w.to_host ≡ q → Holds w → Holds (handed_to_host ends w b q)
    handed_h w b [] e h = h
    handed_h w b (f ∷ q) e h = hand_h w (counts ends w.host f) f q (ends.host_frame w.host f b) h (c.kept_h w f q b e h)

    kept_h : (w : World H M) (b : List ℕ) (q : List Frame) → w.to_host ≡ q → Holds w → Holds (kept_to_host ends w b q)
    kept_h w b [] e h = h
    kept_h w b (f ∷ q) e h = c.kept_h w f q b e h

    dropped_h : (w : World H M) (q : List Frame) → w.to_host ≡ q → Holds w → Holds (dropped_to_host ends w q)
    dropped_h w [] e h = h
    dropped_h w (f ∷ q) e h = c.lost_h w q (rw e here) h

    pub kept : (w : World H M) (e : Own) → Holds w → Holds (own_step ends w e)
    kept w (hand_to_machine b) h = handed_m w b w.to_machine refl h
    kept w (keep_to_machine b) h = kept_m w b w.to_machine refl h
    kept w drop_to_machine h = dropped_m w w.to_machine refl h
    kept w (hand_to_host b) h = handed_h w b w.to_host refl h
    kept w (keep_to_host b) h = kept_h w b w.to_host refl h
    kept w drop_to_host h = dropped_h w w.to_host refl h
    kept w (host_timer b) h = c.timer_h w b h
    kept w (machine_timer b) h = c.timer_m w b h

    module _ (f : (w : World H M) (x : X) → Holds w → Holds (ends.further w x)) where
      pub kept_any : (w : World H M) (e : Event X) → Holds w → Holds (step ends w e)
      kept_any w (own e) h = kept w e h
      kept_any w (further x) h = f w x h

      -- every run keeps a closed invariant that the further events keep
      pub always : (w : World H M) (es : List (Event X)) → Holds w → Holds (run ends w es)
      unfolding run
      always w [] h = h
      always w (e ∷ es) h = always (step ends w e) es (kept_any w e h)

  -- an invariant beside a fact that no event touches, and that its proof may use
  pub closed-given : (Fact : Type 0) (Holds : World H M → Type 0) → (Fact → Closed Holds) → Closed (λ w. Fact × Holds w)
  closed-given Fact Holds c =
      record {
        kept_m = λ w f q b e i. (i.0, (c i.0).kept_m w f q b e i.1);
        lost_m = λ w q l i. (i.0, (c i.0).lost_m w q l i.1);
        kept_h = λ w f q b e i. (i.0, (c i.0).kept_h w f q b e i.1);
        lost_h = λ w q l i. (i.0, (c i.0).lost_h w q l i.1);
        timer_h = λ w b i. (i.0, (c i.0).timer_h w b i.1);
        timer_m = λ w b i. (i.0, (c i.0).timer_m w b i.1);
      }

  -- every run keeps an invariant beside what the last further event left, if such an event leaves it beside itself
  module _
      (Holds : Left H M → World H M → Type 0) (c : (b : Left H M) → Closed (Holds b))
      (f : (b : Left H M) (w : World H M) (x : X) → Holds b w → Holds (left (ends.further w x)) (ends.further w x)) where
    pub always-left : (b : Left H M) (w : World H M) (es : List (Event X)) → Holds b w → Holds (last_left (step ends) b w es) (run ends w es)
    unfolding run last_left
    always-left b w [] h = h
    always-left b w (own e ∷ es) h = always-left b (own_step ends w e) es (kept (Holds b) (c b) w e h)
    always-left b w (further x ∷ es) h = always-left (left (ends.further w x)) (ends.further w x) es (f b w x h)
