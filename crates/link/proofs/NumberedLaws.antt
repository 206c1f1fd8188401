-- The argument of the alternating bit, for any two ends: a sender of numbered frames, one at a time, and a receiver that answers each. What
-- stands in frames, records and memory does not matter here, only what each end does with which number.
use Rattle.std.specs.Prelude.{ℕ, zero, suc, ◌+◌, ◌-◌, ◌≤◌, ◌<◌, min, ◌≡◌, refl, Bool, true, false, List, [], ◌∷◌, ◌++◌, ◌⊎◌, eqb}
use Rattle.std.proofs.Common.{sym, subst, append-nil, inl, inr, ⊎_elim, arith, eqb-true}
use Rattle.std.proofs.lemmas.Bool.{eqb-false}
use Rattle.link.specs.Link.{Frame, Turn, refuses, acts, Ends, World, machine_turn, host_turn, with_to_machine, with_to_host, counts}
use Rattle.link.proofs.LinkLaws.{Closed}
use Rattle.link.proofs.CallLaws as call
use Rattle.link.proofs.CallLaws.{Comes}
use Rattle.link.proofs.FlightLaws.{Flight, none, wider, then, without, First, first, Line, clean, wider-line, then-line, without-line, Front, front, numbered, passed}

-- A transfer: how many frames, and which of them fit; frame i; the request (0) and the answer to frame i (i + 1); the stages of the sender
-- (0 while it waits, then one more than its position); the receiver after m answers; the frames that it passes by while it has answered
-- none.
pub record Transfer (H M : Type 0) : Type 1 where
  pub many : ℕ
  pub fit : ℕ → Bool
  pub down : ℕ → Frame
  pub up : ℕ → Frame
  pub Stage : ℕ → H → Type 0
  pub At : ℕ → M
  pub Passed : ℕ → Type 0

module _ {H M : Type 0} (t : Transfer H M) where
  -- ---- what is asked of the sender
  -- What answer k does to a sender at stage p: its call is refused; it stays where it is; frame p - 1 is confirmed, and frame p goes out
  -- or there is none.
  pub data Moved (p k : ℕ) : Turn H → Type 0 where
    refused : Moved p k refuses
    stays : (x : H) → t.Stage p x → Moved p k (acts x [])
    advances : (x : H) → t.Stage (suc p) x → p ≤ k → p < t.many → ((i : ℕ) → i + 1 ≡ p → t.fit i ≡ true) → Moved p k (acts x (t.down p ∷ []))
    finishes : (x : H) → t.Stage (suc p) x → p ≤ k → t.many ≤ p → ((i : ℕ) → i + 1 ≡ p → t.fit i ≡ true) → Moved p k (acts x [])

  -- what a timer does: nothing is sent, or the frame on its way again
  pub data Ticked (p : ℕ) : Turn H → Type 0 where
    refused : Ticked p refuses
    still : (x : H) → t.Stage p x → Ticked p (acts x [])
    resends : (c : ℕ) (x : H) → p ≡ c + 1 → c < t.many → t.Stage p x → Ticked p (acts x (t.down c ∷ []))

  module _ {X : Type 0} (ends : Ends H M X) where
    pub record Sender : Type 0 where
      pub heeds : (p : ℕ) (h : H) (k : ℕ) (b : List ℕ) → t.Stage p h → p - 1 ≤ k → k ≤ p → Moved p k (ends.host_frame h (t.up k) b)
      pub ticks : (p : ℕ) (h : H) (b : List ℕ) → t.Stage p h → Ticked p (ends.host_timer h b)

    -- ---- what is asked of the receiver: the next frame, the last one again, frames that it passes by, its timer
    pub record Receiver : Type 0 where
      pub new : (k : ℕ) (b : List ℕ) → k < t.many → ((j : ℕ) → k ≡ suc j → t.fit j ≡ true)
          → Comes (ends.machine_frame (t.At k) (t.down k) b) (t.At (suc k)) (t.up (suc k) ∷ [])
      pub again : (k : ℕ) (b : List ℕ) → k < t.many
          → Comes (ends.machine_frame (t.At (suc k)) (t.down k) b) (t.At (suc k)) []
          ⊎ Comes (ends.machine_frame (t.At (suc k)) (t.down k) b) (t.At (suc k)) (t.up (suc k) ∷ [])
      pub passes : (k : ℕ) (b : List ℕ) → t.Passed k → Comes (ends.machine_frame (t.At 0) (t.down k) b) (t.At 0) []
      pub asks : (b : List ℕ) → Comes (ends.machine_timer (t.At 0) b) (t.At 0) (t.up 0 ∷ [])
      pub rests : (k : ℕ) (b : List ℕ) → Comes (ends.machine_timer (t.At (suc k)) b) (t.At (suc k)) []

    -- ---- the invariant
    abbrev pub Down : ℕ → ℕ → List Frame → Type 0
    Down m p q = Line t.down t.Passed m (m - 1) (min p t.many) q

    abbrev pub Up : ℕ → ℕ → List Frame → Type 0
    Up m p r = Flight t.up (p - 1) (m + 1) r

    -- m: the frames that the receiver has answered; p: the sender's stage
    pub record Holds (m p : ℕ) (h : H) (e : M) (q r : List Frame) : Type 0 where
      pub lower : m ≤ p
      pub upper : p ≤ m + 1
      pub few : m ≤ t.many
      pub fitting : (i : ℕ) → i + 1 < p → t.fit i ≡ true
      pub stage : t.Stage p h
      pub end_is : e ≡ t.At m
      pub down : Down m p q
      pub up : Up m p r

    abbrev pub Reached : H → M → List Frame → List Frame → Type 0
    Reached h e q r = (m : ℕ) × (p : ℕ) × Holds m p h e q r

    abbrev pub Inv : World H M → Type 0
    Inv w = Reached w.host w.machine w.to_machine w.to_host

    -- fresh ends: a waiting sender, and a receiver whose request alone is on its way
    pub begins : (h : H) (e : M) → t.Stage 0 h → e ≡ t.At 0 → Holds 0 0 h e [] (t.up 0 ∷ [])
    begins h e g a =
        record {
          lower = omega arith;
          upper = omega arith;
          few = omega arith;
          fitting = λ i l. absurd (omega arith);
          stage = g;
          end_is = a;
          down = clean none;
          up = then t.up {lo = 0 - 1} {hi = 0} 0 (omega arith) (omega arith) none;
        }

    module _ (w : World H M) (m p : ℕ) (h : Holds m p w.host w.machine w.to_machine w.to_host) where
      -- the sender's stage stays
      beside : (m' : ℕ) {x : H} {e : M} {q r : List Frame} → m' ≤ p → p ≤ m' + 1 → m' ≤ t.many → t.Stage p x → e ≡ t.At m' → Down m' p q → Up m' p r
          → Reached x e q r
      beside m' l u n g a d f =
          (m', p, record { lower = l; upper = u; few = n; fitting = h.fitting; stage = g; end_is = a; down = d; up = f })

      -- a frame is lost
      lost-down : (q : List Frame) → Down m p q → Inv (with_to_machine w q)
      lost-down q d = beside m h.lower h.upper h.few h.stage h.end_is d h.up

      lost-up : (q : List Frame) → Up m p q → Inv (with_to_host w q)
      lost-up q d = beside m h.lower h.upper h.few h.stage h.end_is h.down d

      -- ---- the receiver's steps
      module _ (r : Receiver) where
        -- its call is refused, or comes to what keeps the invariant
        came : (rest : List Frame) (x : Turn M) (e : M) (out : List Frame) → Comes x e out → Inv (machine_turn w rest (acts e out)) → Inv (machine_turn w rest x)
        came rest x e out c i = call.came (λ (y : Turn M). Inv (machine_turn w rest y)) x e out c (m, p, h) i

        -- it stays and is silent
        silent : (rest : List Frame) → Down m p rest → Inv (machine_turn w rest (acts (t.At m) []))
        silent rest d = beside m h.lower h.upper h.few h.stage refl d (rw (append-nil w.to_host) h.up)

        -- it stands after m' answers and sent the request or answer m'
        says : (rest : List Frame) (m' : ℕ) → m' ≤ p → p ≤ m' + 1 → m' ≤ t.many → m ≤ m' → Down m' p rest
            → Inv (machine_turn w rest (acts (t.At m') (t.up m' ∷ [])))
        says rest m' l u n o d = beside m' l u n h.stage refl d (then t.up m' (omega arith) (omega arith) h.up)

        module _ (f : Frame) (q : List Frame) (b : List ℕ) (line : Down m p (f ∷ q)) where
          on_number : (i : ℕ) (d : Bool) → eqb i m ≡ d → m - 1 ≤ i → i < min p t.many → Flight t.down i (min p t.many) (f ∷ q)
              → Inv (machine_turn w (f ∷ q) (ends.machine_frame (t.At m) (t.down i) b))
          on_number i true e from below whole =
              rw (eqb-true i m e) (came (f ∷ q) (ends.machine_frame (t.At m) (t.down m) b) (t.At (suc m)) (t.up (suc m) ∷ []) (r.new m b (omega (arith, eqb-true i m e)) (λ j g. h.fitting j (omega (arith, h.lower, eqb-true i m e))))
              (says (f ∷ q) (suc m) (omega (arith, eqb-true i m e)) (omega (arith, h.upper)) (omega (arith, eqb-true i m e)) (omega arith)
              (clean (wider t.down (omega (arith, eqb-true i m e)) (omega arith) whole))))
          on_number i false e from below whole =
              let z : m ≡ suc i = omega (arith, eqb-false i m e, h.upper) in
              ⊎_elim
              (λ (c : Comes (ends.machine_frame (t.At (suc i)) (t.down i) b) (t.At (suc i)) []).
              came (f ∷ q) (ends.machine_frame (t.At m) (t.down i) b) (t.At m) [] (rw z c) (silent (f ∷ q) line))
              (λ (c : Comes (ends.machine_frame (t.At (suc i)) (t.down i) b) (t.At (suc i)) (t.up (suc i) ∷ [])).
              came (f ∷ q) (ends.machine_frame (t.At m) (t.down i) b) (t.At m) (t.up m ∷ []) (rw z c) (says (f ∷ q) m h.lower h.upper h.few (omega arith) line))
              (r.again i b (omega arith))

          on_front : Front t.down t.Passed m (m - 1) (min p t.many) f q → Inv (machine_turn w (f ∷ q) (ends.machine_frame (t.At m) f b))
          on_front (numbered x) =
              subst (λ (y : Frame). Inv (machine_turn w (f ∷ q) (ends.machine_frame (t.At m) y b))) (sym x.frame_is)
              (on_number x.number (eqb x.number m) refl x.from x.below x.whole)
          on_front (passed j e z g) =
              subst (λ (y : Frame). Inv (machine_turn w (f ∷ q) (ends.machine_frame (t.At m) y b))) (sym e)
              (came (f ∷ q) (ends.machine_frame (t.At m) (t.down j) b) (t.At m) [] (rw z (r.passes j b g)) (silent (f ∷ q) line))

          kept-machine : Inv (machine_turn w (f ∷ q) (ends.machine_frame w.machine f b))
          kept-machine =
              subst (λ (e : M). Inv (machine_turn w (f ∷ q) (ends.machine_frame e f b))) (sym h.end_is) (on_front (front t.down t.Passed line))

        timer_at : (b : List ℕ) (k : ℕ) → m ≡ k → Inv (machine_turn w w.to_machine (ends.machine_timer (t.At m) b))
        timer_at b zero e =
            came w.to_machine (ends.machine_timer (t.At m) b) (t.At m) (t.up m ∷ []) (rw e (r.asks b)) (says w.to_machine m h.lower h.upper h.few (omega arith) h.down)
        timer_at b (suc k) e = came w.to_machine (ends.machine_timer (t.At m) b) (t.At m) [] (rw e (r.rests k b)) (silent w.to_machine h.down)

        timer_machine : (b : List ℕ) → Inv (machine_turn w w.to_machine (ends.machine_timer w.machine b))
        timer_machine b =
            subst (λ (e : M). Inv (machine_turn w w.to_machine (ends.machine_timer e b))) (sym h.end_is) (timer_at b m refl)

      -- ---- the sender's steps
      -- it stays and sends nothing
      quiet : (n : ℕ) (x : H) (rest : List Frame) → t.Stage p x → Up m p rest → Inv (host_turn w n rest (acts x []))
      quiet n x rest g f = beside m h.lower h.upper h.few g h.end_is (rw (append-nil w.to_machine) h.down) f

      -- it comes to the next stage
      onward : (n k : ℕ) (x : H) (out rest : List Frame) → t.Stage (suc p) x → p ≤ k → k < m + 1 → ((i : ℕ) → i + 1 ≡ p → t.fit i ≡ true)
          → Down m (suc p) (w.to_machine ++ out) → Flight t.up k (m + 1) rest → Inv (host_turn w n rest (acts x out))
      onward n k x out rest g l b fits d f = (
        m,
        suc p,
        record {
          lower = omega (arith, h.lower);
          upper = omega arith;
          few = h.few;
          fitting = λ i less. below i less (eqb (i + 1) p) refl;
          stage = g;
          end_is = h.end_is;
          down = d;
          up = wider t.up (omega arith) (omega arith) f;
        },
      )
        where
          below : (i : ℕ) → i + 1 < suc p → (d : Bool) → eqb (i + 1) p ≡ d → t.fit i ≡ true
          below i less true e = fits i (eqb-true (i + 1) p e)
          below i less false e = h.fitting i (omega (arith, eqb-false (i + 1) p e))

      on_moved : (n k : ℕ) (x : Turn H) (rest : List Frame) → k < m + 1 → Moved p k x → Up m p rest → Flight t.up k (m + 1) rest → Inv (host_turn w n rest x)
      on_moved n k x rest b refused u f = (m, p, h)
      on_moved n k x rest b (stays y g) u f = quiet n y rest g u
      on_moved n k x rest b (advances y g l more fits) u f =
          onward n k y (t.down p ∷ []) rest g l b fits
          (wider-line t.down t.Passed (omega arith) (omega arith) (then-line t.down t.Passed p (omega (arith, h.lower)) (omega arith) h.down)) f
      on_moved n k x rest b (finishes y g l all fits) u f =
          onward n k y [] rest g l b fits (rw (append-nil w.to_machine) (wider-line t.down t.Passed (omega arith) (omega arith) h.down)) f

      on_ticked : (x : Turn H) → Ticked p x → Inv (host_turn w 0 w.to_host x)
      on_ticked x refused = (m, p, h)
      on_ticked x (still y g) = quiet 0 y w.to_host g h.up
      on_ticked x (resends c y e less g) =
          beside m h.lower h.upper h.few g h.end_is
          (wider-line t.down t.Passed (omega arith) (omega (arith, e)) (then-line t.down t.Passed c (omega (arith, h.lower)) (omega (arith, e)) h.down)) h.up

      kept-host : Sender → (f : Frame) (q : List Frame) (b : List ℕ) → Up m p (f ∷ q) → Inv (host_turn w (counts ends w.host f) (f ∷ q) (ends.host_frame w.host f b))
      kept-host s f q b queue =
          let x : First t.up (p - 1) (m + 1) f q = first t.up queue in
          subst (λ (y : Frame). Inv (host_turn w (counts ends w.host f) (f ∷ q) (ends.host_frame w.host y b))) (sym x.frame_is)
          (on_moved (counts ends w.host f) x.number (ends.host_frame w.host (t.up x.number) b) (f ∷ q) x.below
          (s.heeds p w.host x.number b h.stage x.from (omega (arith, x.below, h.lower))) queue x.whole)

    -- ---- which frame is the first of a queue
    pub first-down : (w : World H M) (f : Frame) (q : List Frame) → Inv w → w.to_machine ≡ f ∷ q → (i : ℕ) × (f ≡ t.down i) × ((i < t.many) ⊎ t.Passed i)
    first-down w f q i e = go (front t.down t.Passed (subst (Down i.0 i.1) e i.2.down))
      where
        go : Front t.down t.Passed i.0 (i.0 - 1) (min i.1 t.many) f q → (j : ℕ) × (f ≡ t.down j) × ((j < t.many) ⊎ t.Passed j)
        go (numbered x) = (x.number, x.frame_is, inl (omega (arith, x.below)))
        go (passed j s z p) = (j, s, inr p)

    pub first-up : (w : World H M) (f : Frame) (q : List Frame) → Inv w → w.to_host ≡ f ∷ q → (k : ℕ) × (f ≡ t.up k)
    first-up w f q i e = let x = first t.up (subst (Up i.0 i.1) e i.2.up) in (x.number, x.frame_is)

    -- ---- every run keeps the invariant
    pub closed : Sender → Receiver → Closed ends Inv
    closed s r =
        record {
          kept_m = λ w f q b e i. kept-machine w i.0 i.1 i.2 r f q b (subst (Down i.0 i.1) e i.2.down);
          lost_m = λ w q l i. lost-down w i.0 i.1 i.2 q (without-line t.down t.Passed l i.2.down);
          kept_h = λ w f q b e i. kept-host w i.0 i.1 i.2 s f q b (subst (Up i.0 i.1) e i.2.up);
          lost_h = λ w q l i. lost-up w i.0 i.1 i.2 q (without t.up l i.2.up);
          timer_h = λ w b i. on_ticked w i.0 i.1 i.2 (ends.host_timer w.host b) (s.ticks i.1 w.host b i.2.stage);
          timer_m = λ w b i. timer_machine w i.0 i.1 i.2 r b;
        }
