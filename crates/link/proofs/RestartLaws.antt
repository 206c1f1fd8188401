-- A transfer whose receiver may begin anew while its sender has not heard of it: to the receiver only frames that it passes by are on their
-- way, to the sender only requests. The first request that the sender heeds brings both together again.
use Rattle.std.specs.Prelude.{ℕ, ◌+◌, ◌-◌, ◌≤◌, ◌<◌, min, ◌≡◌, refl, List, [], ◌∷◌, ◌++◌, ◌⊎◌}
use Rattle.std.proofs.Common.{sym, subst, append-nil, inl, inr, ⊎_elim, arith}
use Rattle.link.specs.Link.{Frame, Turn, refuses, acts, Ends, World, machine_turn, host_turn, with_to_machine, with_to_host, counts}
use Rattle.link.proofs.LinkLaws.{Closed}
use Rattle.link.proofs.CallLaws as call
use Rattle.link.proofs.CallLaws.{Comes}
use Rattle.link.proofs.FlightLaws.{Flight, none, then, without, First, first, Line, clean, wider-line, then-line, then-passed, without-line, Front, front, numbered, passed}
use Rattle.link.proofs.NumberedLaws as transfer
use Rattle.link.proofs.NumberedLaws.{Transfer, Sender, Receiver, Inv}

-- Unheard: the senders that have not heard of it
module _ {H M : Type 0} (t : Transfer H M) (Unheard : H → Type 0) where
  -- what a request does to one: its call is refused; it is ignored; the sender begins again
  pub data Recalled : Turn H → Type 0 where
    refused : Recalled refuses
    ignores : (x : H) → Unheard x → Recalled (acts x [])
    restarts : (x : H) → t.Stage 1 x → Recalled (acts x (t.down 0 ∷ []))

  -- and a timer: nothing is sent, or a frame that the receiver passes by
  pub data Missed : Turn H → Type 0 where
    refused : Missed refuses
    rests : (x : H) → Unheard x → Missed (acts x [])
    repeats : (c : ℕ) (x : H) → t.Passed c → Unheard x → Missed (acts x (t.down c ∷ []))

  module _ {X : Type 0} (ends : Ends H M X) where
    pub record Restarter : Type 0 where
      pub some : 1 ≤ t.many
      pub recalls : (h : H) (b : List ℕ) → Unheard h → Recalled (ends.host_frame h (t.up 0) b)
      pub misses : (h : H) (b : List ℕ) → Unheard h → Missed (ends.host_timer h b)

    abbrev Down : List Frame → Type 0
    Down q = Line t.down t.Passed 0 0 0 q

    abbrev Up : List Frame → Type 0
    Up r = Flight t.up 0 1 r

    pub record Missing (h : H) (e : M) (q r : List Frame) : Type 0 where
      pub sender : Unheard h
      pub end_is : e ≡ t.At 0
      pub down : Line t.down t.Passed 0 0 0 q
      pub up : Flight t.up 0 1 r

    -- the two ends are together, or the sender has not heard
    abbrev pub Either : World H M → Type 0
    Either w = Inv t ends w ⊎ Missing w.host w.machine w.to_machine w.to_host

    -- ---- right after the receiver began anew: its request alone is on its way
    request : Up (t.up 0 ∷ [])
    request = then t.up {lo = 0} {hi = 0} 0 (omega arith) (omega arith) none

    pub missing : (h : H) (e : M) → Unheard h → e ≡ t.At 0 → Missing h e [] (t.up 0 ∷ [])
    missing h e u a = record { sender = u; end_is = a; down = clean none; up = request }

    -- a sender whose first frame is on its way, and a receiver that has answered none
    pub together : (h : H) (e : M) {q r : List Frame} → t.Stage 1 h → e ≡ t.At 0 → Line t.down t.Passed 0 0 (min 1 t.many) q → Flight t.up 0 1 r
        → transfer.Holds t ends 0 1 h e q r
    together h e g a d u =
        record {
          lower = omega arith;
          upper = omega arith;
          few = omega arith;
          fitting = λ i l. absurd (omega arith);
          stage = g;
          end_is = a;
          down = d;
          up = u;
        }

    pub at_first : (h : H) (e : M) → t.Stage 1 h → e ≡ t.At 0 → transfer.Holds t ends 0 1 h e [] (t.up 0 ∷ [])
    at_first h e g a = together h e g a (clean none) request

    -- ---- the events, while the sender has not heard
    module _ (w : World H M) (u : Missing w.host w.machine w.to_machine w.to_host) where
      -- the receiver's call is refused, or leaves it as it is
      came : (rest : List Frame) (x : Turn M) (out : List Frame) → Comes x (t.At 0) out → Down rest → Up (w.to_host ++ out) → Either (machine_turn w rest x)
      came rest x out c d f =
          call.came (λ (y : Turn M). Either (machine_turn w rest y)) x (t.At 0) out c (inr u) (inr (record { sender = u.sender; end_is = refl; down = d; up = f }))

      module _ (r : Receiver t ends) where
        on_front : (f : Frame) (q : List Frame) (b : List ℕ) → Down (f ∷ q) → Front t.down t.Passed 0 0 0 f q
            → Either (machine_turn w (f ∷ q) (ends.machine_frame (t.At 0) f b))
        on_front f q b line (numbered x) = absurd (omega (arith, x.below))
        on_front f q b line (passed j e z g) =
            subst (λ (y : Frame). Either (machine_turn w (f ∷ q) (ends.machine_frame (t.At 0) y b))) (sym e)
            (came (f ∷ q) (ends.machine_frame (t.At 0) (t.down j) b) [] (r.passes j b g) line (rw (append-nil w.to_host) u.up))

        machine-frame : (f : Frame) (q : List Frame) (b : List ℕ) → Down (f ∷ q) → Either (machine_turn w (f ∷ q) (ends.machine_frame w.machine f b))
        machine-frame f q b line =
            subst (λ (e : M). Either (machine_turn w (f ∷ q) (ends.machine_frame e f b))) (sym u.end_is) (on_front f q b line (front t.down t.Passed line))

        machine_timer_lem : (b : List ℕ) → Either (machine_turn w w.to_machine (ends.machine_timer w.machine b))
        machine_timer_lem b =
            subst (λ (e : M). Either (machine_turn w w.to_machine (ends.machine_timer e b))) (sym u.end_is)
            (came w.to_machine (ends.machine_timer (t.At 0) b) (t.up 0 ∷ []) (r.asks b) u.down (then t.up 0 (omega arith) (omega arith) u.up))

      module _ (s : Restarter) where
        on_recalled : (n : ℕ) (rest : List Frame) (x : Turn H) → Up rest → Recalled x → Either (host_turn w n rest x)
        on_recalled n rest x f refused = inr u
        on_recalled n rest x f (ignores y g) = inr (record { sender = g; end_is = u.end_is; down = rw (append-nil w.to_machine) u.down; up = f })
        on_recalled n rest x f (restarts y g) =
            inl (
              0,
              1,
              together y w.machine g u.end_is
                  (wider-line t.down t.Passed (omega arith) (omega (arith, s.some)) (then-line t.down t.Passed 0 (omega arith) (omega arith) u.down)) f,
            )

        host-frame : (f : Frame) (q : List Frame) (b : List ℕ) → Up (f ∷ q) → Either (host_turn w (counts ends w.host f) (f ∷ q) (ends.host_frame w.host f b))
        host-frame f q b line =
            let x : First t.up 0 1 f q = first t.up line in
            let z : x.number ≡ 0 = omega (arith, x.below) in
            let e : f ≡ t.up 0 = rw (← z) x.frame_is in
            subst (λ (y : Frame). Either (host_turn w (counts ends w.host f) (f ∷ q) (ends.host_frame w.host y b))) (sym e)
            (on_recalled (counts ends w.host f) (f ∷ q) (ends.host_frame w.host (t.up 0) b) line (s.recalls w.host b u.sender))

        on_missed : (x : Turn H) → Missed x → Either (host_turn w 0 w.to_host x)
        on_missed x refused = inr u
        on_missed x (rests y g) = inr (record { sender = g; end_is = u.end_is; down = rw (append-nil w.to_machine) u.down; up = u.up })
        on_missed x (repeats c y p g) =
            inr (record { sender = g; end_is = u.end_is; down = then-passed t.down t.Passed c refl p u.down; up = u.up })

        host_timer_lem : (b : List ℕ) → Either (host_turn w 0 w.to_host (ends.host_timer w.host b))
        host_timer_lem b = on_missed (ends.host_timer w.host b) (s.misses w.host b u.sender)

      lost-down : (q : List Frame) → Down q → Either (with_to_machine w q)
      lost-down q d = inr (record { sender = u.sender; end_is = u.end_is; down = d; up = u.up })

      lost-up : (r : List Frame) → Up r → Either (with_to_host w r)
      lost-up r f = inr (record { sender = u.sender; end_is = u.end_is; down = u.down; up = f })

    -- ---- every one of the link's own events keeps it
    pub closed : Sender t ends → Restarter → Receiver t ends → Closed ends Either
    closed s a r =
        let usual = transfer.closed t ends s r in
        record {
          kept_m = λ w f q b e. ⊎_elim (λ i. inl (usual.kept_m w f q b e i)) (λ u. machine-frame w u r f q b (subst Down e u.down));
          lost_m = λ w q l. ⊎_elim (λ i. inl (usual.lost_m w q l i)) (λ u. lost-down w u q (without-line t.down t.Passed l u.down));
          kept_h = λ w f q b e. ⊎_elim (λ i. inl (usual.kept_h w f q b e i)) (λ u. host-frame w u a f q b (subst Up e u.up));
          lost_h = λ w q l. ⊎_elim (λ i. inl (usual.lost_h w q l i)) (λ u. lost-up w u q (without t.up l u.up));
          timer_h = λ w b. ⊎_elim (λ i. inl (usual.timer_h w b i)) (λ u. host_timer_lem w u a b);
          timer_m = λ w b. ⊎_elim (λ i. inl (usual.timer_m w b i)) (λ u. machine_timer_lem w u r b);
        }

    -- ---- which frame is the first of a queue
    pub first-down : (w : World H M) (f : Frame) (q : List Frame) → Either w → w.to_machine ≡ f ∷ q → (i : ℕ) × (f ≡ t.down i) × ((i < t.many) ⊎ t.Passed i)
    first-down w f q i e = ⊎_elim (λ j. transfer.first-down t ends w f q j e) (λ u. go (front t.down t.Passed (subst Down e u.down))) i
      where
        go : Front t.down t.Passed 0 0 0 f q → (j : ℕ) × (f ≡ t.down j) × ((j < t.many) ⊎ t.Passed j)
        go (numbered x) = absurd (omega (arith, x.below))
        go (passed j s z p) = (j, s, inr p)

    pub first-up : (w : World H M) (f : Frame) (q : List Frame) → Either w → w.to_host ≡ f ∷ q → (k : ℕ) × (f ≡ t.up k)
    first-up w f q i e =
        ⊎_elim (λ j. transfer.first-up t ends w f q j e) (λ u. let x = first t.up (subst Up e u.up) in (x.number, x.frame_is)) i
