-- A line with bounded queues against the link: what it loses at the back is what the link drops when it comes to the front.
use Rattle.std.specs.Prelude.{ℕ, zero, suc, ◌≡◌, take, drop}
use Rattle.std.proofs.Math.Path.{refl, subst}
use Rattle.std.proofs.Common.{sym, ◌∙◌, take-append-drop}
use mathlib.Core.List.{List, [], ◌∷◌, ◌++◌, append-nil}
use Rattle.link.specs.Link.{Frame, Turn, refuses, acts, World, Ends, Event, own, further, hand_to_machine, keep_to_machine, drop_to_machine, hand_to_host, keep_to_host, drop_to_host, host_timer, machine_timer, Own, machine_turn, host_turn, with_to_machine, with_to_host, Left, left, last_left, counts, own_step, step, run}
use Rattle.link.proofs.LinkLaws.{handed_to_machine, kept_to_machine, dropped_to_machine, handed_to_host, kept_to_host, dropped_to_host, Lost, here, there, run-joined, Closed, kept as kept-own, kept_any}
use Rattle.link.specs.Bounded.{within, step_within, run_within, Alike}

-- A queue, and what is left of it when some of its frames are lost.
pub data Thinned : List Frame → List Frame → Type 0 where
  none : Thinned [] []
  kept : {f : Frame} {q r : List Frame} → Thinned q r → Thinned (f ∷ q) (f ∷ r)
  lost : {f : Frame} {q r : List Frame} → Thinned q r → Thinned (f ∷ q) r

whole : (q : List Frame) → Thinned q q
whole [] = none
whole (f ∷ q) = kept (whole q)

joined : {q r : List Frame} (out : List Frame) → Thinned q r → Thinned (q ++ out) (r ++ out)
joined out none = whole out
joined out (kept t) = kept (joined out t)
joined out (lost t) = lost (joined out t)

-- of the frames that are left, the first n
all-lost : (q : List Frame) → Thinned q []
all-lost [] = none
all-lost (f ∷ q) = lost (all-lost q)

cut : (n : ℕ) {q r : List Frame} → Thinned q r → Thinned q (take n r)
cut zero {q} t = all-lost q
cut (suc n) none = none
cut (suc n) (kept t) = kept (cut n t)
cut (suc n) (lost t) = lost (cut (suc n) t)

-- with further events that make the same of two worlds that differ in their queues alone
module _ {H M X : Type 0} (ends : Ends H M X) (blind : (w v : World H M) (x : X) → Alike w v → ends.further w x ≡ ends.further v x) where
  -- The link beside the bounded line: the ends are the same, and the line's queues are the link's but for the frames that it lost.
  record Beside (w v : World H M) : Type 0 where
    alike : Alike w v
    to_machine : Thinned w.to_machine v.to_machine
    to_host : Thinned w.to_host v.to_host

  beside_self : (w : World H M) → Beside w w
  beside_self w = record { alike = (refl, refl, refl, refl); to_machine = whole w.to_machine; to_host = whole w.to_host }

  -- one world comes beside another by events of the link
  abbrev Comes : World H M → World H M → Type 0
  Comes w v = (es : List (Event X)) × Beside (run ends w es) v

  at_once : {w v : World H M} → Beside w v → Comes w v
  unfolding run
  at_once b = ([], b)

  -- by some events, and then by others
  then : (w : World H M) (es : List (Event X)) {u v : World H M} → run ends w es ≡ u → Comes u v → Comes w v
  then w es {u} {v} e c = (es ++ c.0, subst (λ (x : World H M). Beside x v) (sym (run-joined ends w es c.0 ∙ (rw e))) c.1)

  -- ---- one event
  -- a turn of an end, with the queue that it leaves of the frames to it
  machine-acts : (w v : World H M) (q r : List Frame) (t : Turn M) → Beside w v → Thinned q r → Beside (machine_turn w q t) (machine_turn v r t)
  machine-acts w v q r refuses b t = b
  machine-acts w v q r (acts m out) b t =
      record { alike = (b.alike.0, refl, b.alike.2, b.alike.3); to_machine = t; to_host = joined out b.to_host }

  host-acts : (w v : World H M) (n : ℕ) (q r : List Frame) (t : Turn H) → Beside w v → Thinned q r → Beside (host_turn w n q t) (host_turn v n r t)
  host-acts w v n q r refuses b t = b
  host-acts w v n q r (acts h out) b t =
      record { alike = (refl, b.alike.1, rw b.alike.2, rw b.alike.3); to_machine = joined out b.to_machine; to_host = t }

  -- the same call of the same end is the same turn
  machine-turn : (w v : World H M) (q r : List Frame) (call : M → Turn M) → Beside w v → Thinned q r
      → Beside (machine_turn w q (call w.machine)) (machine_turn v r (call v.machine))
  machine-turn w v q r call b t =
      subst (λ (m : M). Beside (machine_turn w q (call w.machine)) (machine_turn v r (call m))) b.alike.1 (machine-acts w v q r (call w.machine) b t)

  host-turn : (w v : World H M) (n : H → ℕ) (q r : List Frame) (call : H → Turn H) → Beside w v → Thinned q r
      → Beside (host_turn w (n w.host) q (call w.host)) (host_turn v (n v.host) r (call v.host))
  host-turn w v n q r call b t =
      subst (λ (h : H). Beside (host_turn w (n w.host) q (call w.host)) (host_turn v (n h) r (call h))) b.alike.0
      (host-acts w v (n w.host) q r (call w.host) b t)

  -- the frames before the first one that is left are dropped: the first frame is then the same
  record Front (q : List Frame) (f : Frame) (r : List Frame) (drops : List Frame → List (Event X) → List Frame → Type 0) : Type 0 where
    events : List (Event X)
    rest : List Frame
    reached : drops q events (f ∷ rest)
    thinned : Thinned rest r

  abbrev DropsToMachine : List Frame → List (Event X) → List Frame → Type 0
  DropsToMachine q es p = (w : World H M) → run ends (with_to_machine w q) es ≡ with_to_machine w p

  abbrev DropsToHost : List Frame → List (Event X) → List Frame → Type 0
  DropsToHost q es p = (w : World H M) → run ends (with_to_host w q) es ≡ with_to_host w p

  front_to_machine : {q : List Frame} {f : Frame} {r : List Frame} → Thinned q (f ∷ r) → Front q f r DropsToMachine
  unfolding run
  front_to_machine (kept {q = q} t) = record { events = []; rest = q; reached = λ w. refl; thinned = t }
  front_to_machine (lost t) =
      let x = front_to_machine t in record { events = own drop_to_machine ∷ x.events; rest = x.rest; reached = λ w. x.reached w; thinned = x.thinned }

  front_to_host : {q : List Frame} {f : Frame} {r : List Frame} → Thinned q (f ∷ r) → Front q f r DropsToHost
  unfolding run
  front_to_host (kept {q = q} t) = record { events = []; rest = q; reached = λ w. refl; thinned = t }
  front_to_host (lost t) =
      let x = front_to_host t in record { events = own drop_to_host ∷ x.events; rest = x.rest; reached = λ w. x.reached w; thinned = x.thinned }

  -- the link's events that bring it beside what an event makes of the line
  module _ (w v : World H M) (b : Beside w v) where
    -- an event on the first frame, which the link comes to by drops
    to_machine_lem : (e : Own) (f : Frame) (r : List Frame) (u : World H M) → v.to_machine ≡ f ∷ r
        → ((q : List Frame) → Thinned q r → Beside (with_to_machine w (f ∷ q)) v → Beside (own_step ends (with_to_machine w (f ∷ q)) e) u) → Comes w u
    unfolding run
    to_machine_lem e f r u same does =
        let x : Front w.to_machine f r DropsToMachine = front_to_machine (subst (Thinned w.to_machine) same b.to_machine) in
        let y : Beside (with_to_machine w (f ∷ x.rest)) v = record { alike = b.alike; to_machine = rw same (kept x.thinned); to_host = b.to_host } in
        then w x.events (x.reached w) (own e ∷ [], does x.rest x.thinned y)

    to_host_lem : (e : Own) (f : Frame) (r : List Frame) (u : World H M) → v.to_host ≡ f ∷ r
        → ((q : List Frame) → Thinned q r → Beside (with_to_host w (f ∷ q)) v → Beside (own_step ends (with_to_host w (f ∷ q)) e) u) → Comes w u
    unfolding run
    to_host_lem e f r u same does =
        let x : Front w.to_host f r DropsToHost = front_to_host (subst (Thinned w.to_host) same b.to_host) in
        let y : Beside (with_to_host w (f ∷ x.rest)) v = record { alike = b.alike; to_machine = b.to_machine; to_host = rw same (kept x.thinned) } in
        then w x.events (x.reached w) (own e ∷ [], does x.rest x.thinned y)

    handed_to_machine_lem : (c : List ℕ) (r : List Frame) → v.to_machine ≡ r → Comes w (handed_to_machine ends v c r)
    handed_to_machine_lem c [] e = at_once b
    handed_to_machine_lem c (f ∷ r) e =
        to_machine_lem (hand_to_machine c) f r _ e (λ q t x. machine-turn (with_to_machine w (f ∷ q)) v q r (λ m. ends.machine_frame m f c) x t)

    kept_to_machine_lem : (c : List ℕ) (r : List Frame) → v.to_machine ≡ r → Comes w (kept_to_machine ends v c r)
    kept_to_machine_lem c [] e = at_once b
    kept_to_machine_lem c (f ∷ r) e =
        to_machine_lem (keep_to_machine c) f r _ e (λ q t x. machine-turn (with_to_machine w (f ∷ q)) v (f ∷ q) (f ∷ r) (λ m. ends.machine_frame m f c) x (kept t))

    dropped_to_machine_lem : (r : List Frame) → v.to_machine ≡ r → Comes w (dropped_to_machine ends v r)
    dropped_to_machine_lem [] e = at_once b
    dropped_to_machine_lem (f ∷ r) e = to_machine_lem drop_to_machine f r _ e (λ q t x. record { alike = x.alike; to_machine = t; to_host = x.to_host })

    handed_to_host_lem : (c : List ℕ) (r : List Frame) → v.to_host ≡ r → Comes w (handed_to_host ends v c r)
    handed_to_host_lem c [] e = at_once b
    handed_to_host_lem c (f ∷ r) e =
        to_host_lem (hand_to_host c) f r _ e (λ q t x. host-turn (with_to_host w (f ∷ q)) v (λ h. counts ends h f) q r (λ h. ends.host_frame h f c) x t)

    kept_to_host_lem : (c : List ℕ) (r : List Frame) → v.to_host ≡ r → Comes w (kept_to_host ends v c r)
    kept_to_host_lem c [] e = at_once b
    kept_to_host_lem c (f ∷ r) e =
        to_host_lem (keep_to_host c) f r _ e (λ q t x. host-turn (with_to_host w (f ∷ q)) v (λ h. counts ends h f) (f ∷ q) (f ∷ r) (λ h. ends.host_frame h f c) x (kept t))

    dropped_to_host_lem : (r : List Frame) → v.to_host ≡ r → Comes w (dropped_to_host ends v r)
    dropped_to_host_lem [] e = at_once b
    dropped_to_host_lem (f ∷ r) e = to_host_lem drop_to_host f r _ e (λ q t x. record { alike = x.alike; to_machine = x.to_machine; to_host = t })

    beside-step : (e : Event X) → Comes w (step ends v e)
    unfolding run
    beside-step (own (hand_to_machine c)) = handed_to_machine_lem c v.to_machine refl
    beside-step (own (keep_to_machine c)) = kept_to_machine_lem c v.to_machine refl
    beside-step (own drop_to_machine) = dropped_to_machine_lem v.to_machine refl
    beside-step (own (hand_to_host c)) = handed_to_host_lem c v.to_host refl
    beside-step (own (keep_to_host c)) = kept_to_host_lem c v.to_host refl
    beside-step (own drop_to_host) = dropped_to_host_lem v.to_host refl
    beside-step (own (host_timer c)) =
        (own (host_timer c) ∷ [], host-turn w v (λ h. 0) w.to_host v.to_host (λ h. ends.host_timer h c) b b.to_host)
    beside-step (own (machine_timer c)) =
        (own (machine_timer c) ∷ [], machine-turn w v w.to_machine v.to_machine (λ m. ends.machine_timer m c) b b.to_machine)
    beside-step (further x) = (further x ∷ [], subst (Beside (ends.further w x)) (blind w v x b.alike) (beside_self (ends.further w x)))

  -- a queue that loses its last frames stays beside the link's
  beside-within : (n : ℕ) {w v : World H M} → Beside w v → Beside w (within n v)
  beside-within n b = record { alike = (b.alike.0, b.alike.1, b.alike.2, b.alike.3); to_machine = cut n b.to_machine; to_host = cut n b.to_host }

  beside-run : (n : ℕ) (w v : World H M) (es : List (Event X)) → Beside w v → Comes w (run_within n ends v es)
  unfolding run_within
  beside-run n w v [] b = at_once b
  beside-run n w v (e ∷ es) b =
      let x = beside-step w v b e in
      then w x.0 refl (beside-run n (run ends w x.0) (within n (step ends v e)) es (beside-within n x.1))

  -- every run of the bounded line is alike to one of the link
  pub alike-run : (n : ℕ) (w : World H M) (es : List (Event X)) → (fs : List (Event X)) × Alike (run ends w fs) (run_within n ends w es)
  alike-run n w es =
      let x = beside-run n w w es (beside_self w) in
      (x.0, x.1.alike)

-- ---- an invariant that withstands the link's own events is kept on the bounded line too: what a full queue loses is one frame after the other
module _ {H M X : Type 0} (ends : Ends H M X) (Holds : World H M → Type 0) (c : Closed ends Holds) where
  one_less : (p : List Frame) (f : Frame) (q : List Frame) → Lost (p ++ (f ∷ q)) (p ++ q)
  one_less [] f q = here
  one_less (g ∷ p) f q = there (one_less p f q)

  cut_to_machine : (w : World H M) (p q : List Frame) → Holds (with_to_machine w (p ++ q)) → Holds (with_to_machine w p)
  cut_to_machine w p [] h = rw append-nil at h
  cut_to_machine w p (f ∷ q) h = cut_to_machine w p q (c.lost_m (with_to_machine w (p ++ (f ∷ q))) (p ++ q) (one_less p f q) h)

  cut_to_host : (w : World H M) (p q : List Frame) → Holds (with_to_host w (p ++ q)) → Holds (with_to_host w p)
  cut_to_host w p [] h = rw append-nil at h
  cut_to_host w p (f ∷ q) h = cut_to_host w p q (c.lost_h (with_to_host w (p ++ (f ∷ q))) (p ++ q) (one_less p f q) h)

  kept-within : (n : ℕ) (w : World H M) → Holds w → Holds (within n w)
  kept-within n w h =
      let v : World H M = with_to_machine w (take n w.to_machine) in
      let m : Holds v =
      cut_to_machine w (take n w.to_machine) (drop n w.to_machine)
      (subst (λ (q : List Frame). Holds (with_to_machine w q)) (sym (take-append-drop n w.to_machine)) h) in
      cut_to_host v (take n w.to_host) (drop n w.to_host) (subst (λ (q : List Frame). Holds (with_to_host v q)) (sym (take-append-drop n w.to_host)) m)

  pub always-within : ((w : World H M) (x : X) → Holds w → Holds (ends.further w x)) → (n : ℕ) (w : World H M) (es : List (Event X)) → Holds w → Holds (run_within n ends w es)
  unfolding run_within
  always-within f n w [] h = h
  always-within f n w (e ∷ es) h = always-within f n (within n (step ends w e)) es (kept-within n (step ends w e) (kept_any ends Holds c f w e h))

-- and so is one beside what the last further event left
module _
    {H M X : Type 0} (ends : Ends H M X) (Holds : Left H M → World H M → Type 0) (c : (b : Left H M) → Closed ends (Holds b))
    (f : (b : Left H M) (w : World H M) (x : X) → Holds b w → Holds (left (ends.further w x)) (ends.further w x)) where
  pub always-left-within : (n : ℕ) (b : Left H M) (w : World H M) (es : List (Event X)) → Holds b w
      → Holds (last_left (step_within n ends) b w es) (run_within n ends w es)
  unfolding run_within last_left
  always-left-within n b w [] h = h
  always-left-within n b w (own e ∷ es) h =
      always-left-within n b (step_within n ends w (own e)) es (kept-within ends (Holds b) (c b) n (own_step ends w e) (kept-own ends (Holds b) (c b) w e h))
  always-left-within n b w (further x ∷ es) h =
      let v : World H M = ends.further w x in
      always-left-within n (left v) (step_within n ends w (further x)) es (kept-within ends (Holds (left v)) (c (left v)) n v (f b w x h))
