-- The host of a load as the sender of numbered frames, whatever they hold.
use Rattle.std.proofs.Math.Bool.{or-true}
use Rattle.std.specs.Prelude.{ℕ, zero, suc, ◌+◌, ◌-◌, ◌%◌, ◌≤◌, ◌<◌, ◌≡◌, refl, Bool, true, false, ◌||◌, cond as pick, List, ◌⊎◌, eqb}
use Rattle.std.proofs.Common.{sym, ◌∙◌, inl, inr, ⊎_elim, arith, eqb-true, ltb-false}
use Rattle.std.proofs.lemmas.Bool.{false≢true, eqb-false}
use Rattle.message.specs.Write.{layout}
use Rattle.machine_record.specs.declared.Settings.{Settings as MachineSettings}
use Rattle.machine_number.specs.Number.{after}
use Rattle.counts.specs.declared.Counts.{Counts}
use Rattle.load_record.specs.declared.Session.{Session}
use Rattle.link.specs.Link.{Frame, Turn, Ends, Left}
use Rattle.link.proofs.NumberedLaws as numbered
use Rattle.link.proofs.NumberedLaws.{Transfer, Moved, stays, advances, finishes, Ticked, still, resends, Sender}
use Rattle.link.proofs.RestartLaws as restart
use Rattle.link.proofs.RestartLaws.{Recalled, ignores, restarts, Missed, rests, repeats, Restarter}
use Rattle.link.specs.MachineEnd.{End}
use Rattle.link_load.specs.Model.{heard_at_once, restarted_since, has_heard}
use Rattle.link_load.proofs.HostLaws as host
use Rattle.link_load.proofs.HostLaws.{Now, Sending, Answer, answer-says, Request, no_answer, no_request, Heard, Timed}
use Rattle.link_load.proofs.AloneLaws.{Good, Kept, on_heard, on_timed}
use Rattle.link_load.proofs.FramesLaws.{Frames, said, transfer}

-- b: the ends as the last reset left them. A host with this record has heard of that reset: by no more than one restart since, and by none if
-- it heard at once. When the reset came there was no verdict.
pub record HeardOf (b : Left Session End) (h : Session) : Type 0 where
  pub hears : has_heard b h ≡ true
  pub at_most : h.restarts ≤ b.host.restarts + 1
  pub at_once : heard_at_once b ≡ true → h.restarts ≡ b.host.restarts
  pub unended : b.host.verdict ≡ 0

-- n frames, R repeats of each, E restarts at most
module _ (N R E : ℕ) (b : Left Session End) where
  -- A good record at stage p, of a host that has heard of the reset: 0 while it waits, then one more than its position; a frame that was
  -- rejected does not fit.
  pub record Stage (fit : ℕ → Bool) (p : ℕ) (h : Session) : Type 0 where
    pub good : Good N R E h
    pub waits : h.waiting ≡ 1 → p ≡ 0
    pub sends : h.waiting ≡ 0 → p ≡ h.position + 1
    pub unfit : h.verdict ≡ 2 → fit h.position ≡ false
    pub heard-of : HeardOf b h

  -- A good record of a host that has not: it is past its first frame, or has a verdict. The frames that were confirmed fit. A verdict that it had
  -- when the reset came stays, and none but given up and unconfirmed is new.
  pub record Unheard (fit : ℕ → Bool) (h : Session) : Type 0 where
    pub good : Good N R E h
    pub fitting : (i : ℕ) → i < h.position → fit i ≡ true
    pub sends : h.waiting ≡ 0
    pub beyond : h.verdict ≡ 0 → 1 ≤ h.position
    pub small : N ≤ 256
    pub misses : has_heard b h ≡ false
    pub as_many : h.restarts ≡ b.host.restarts
    pub stays : (b.host.verdict ≡ 0 → ⊥) → h.verdict ≡ b.host.verdict
    pub new : b.host.verdict ≡ 0 → (h.verdict ≡ 1 → ⊥) × (h.verdict ≡ 2 → ⊥)

-- whether the host has heard is seen by its restarts alone; one restart more, and it has
same-heard : (b : Left Session End) (h x : Session) → x.restarts ≡ h.restarts → has_heard b x ≡ has_heard b h
same-heard b h x e = rw e

still-heard : (b : Left Session End) (h x : Session) → x.restarts ≡ h.restarts → HeardOf b h → HeardOf b x
still-heard b h x e d =
    record {
      hears = same-heard b h x e ∙ d.hears;
      at_most = omega (arith, e, d.at_most);
      at_once = λ q. e ∙ d.at_once q;
      unended = d.unended;
    }

heard-again : (b : Left Session End) (x : Session) → b.host.restarts < x.restarts → has_heard b x ≡ true
heard-again b x l = go (restarted_since b x) refl
  where
    go : (d : Bool) → restarted_since b x ≡ d → heard_at_once b || d ≡ true
    go true e = or-true (heard_at_once b)
    go false e = absurd (omega (arith, l, ltb-false b.host.restarts x.restarts e))

module _ {ms : MachineSettings} (fr : Frames ms) (R E : ℕ) (b : Left Session End) where
  abbrev pub old : List ℕ
  old = b.machine.memory

  -- a host at stage p, and one that has not heard
  abbrev pub At : ℕ → Session → Type 0
  At = Stage fr.many R E b fr.fit

  abbrev pub Misses : Session → Type 0
  Misses = Unheard fr.many R E b fr.fit

  abbrev pub sending : Transfer Session End
  sending = transfer fr b.machine.memory (Stage fr.many R E b fr.fit)

  abbrev F : ℕ → Frame
  F i = layout (fr.what i)

  -- what was said as number k, if it is an answer
  said-answer : (k number error : ℕ) → Answer (layout (said fr old k)) number error
      → (j : ℕ) × (k ≡ j + 1) × (after (j % 256) ≡ number) × (pick (fr.fit j) 0 1 ≡ error)
  said-answer zero number error a = absurd (no_answer ms number error a)
  said-answer (suc j) number error a =
      let z = answer-says (after (j % 256)) (pick (fr.fit j) 0 1) number error a in (j, omega arith, z.0, z.1)

  fits : (b : Bool) (error : ℕ) → pick b 0 1 ≡ error → error ≡ 0 → b ≡ true
  fits true error e z = refl
  fits false error e z = absurd (omega arith)

  fits_not : (b : Bool) (error : ℕ) → pick b 0 1 ≡ error → (error ≡ 0 → ⊥) → b ≡ false
  fits_not true error e z = absurd (z (sym e))
  fits_not false error e z = refl

  -- a record that waits no more
  stands : {c k v t e : ℕ} {m : Counts} (p : ℕ) (x : Session) → Good fr.many R E x → Now x 0 c k v t e m → p ≡ c + 1 → (v ≡ 2 → fr.fit c ≡ false)
      → HeardOf b x → At p x
  stands p x g n e u d =
      record {
        good = g;
        waits = λ w. absurd (omega arith);
        sends = λ w. omega arith;
        unfit = λ v. rw n.position (u (sym n.verdict ∙ v));
        heard-of = d;
      }

  module _ (p : ℕ) (h : Session) (g : At p h) where
    -- the same record, perhaps with other numbers beside these
    same : {m : Counts} (x : Session) → Good fr.many R E x → Now x h.waiting h.position h.repeats h.verdict h.sent h.restarts m → At p x
    same x k n =
        record {
          good = k;
          waits = λ e. g.waits (sym n.waiting ∙ e);
          sends = λ e. g.sends (sym n.waiting ∙ e) ∙ (rw n.position);
          unfit = λ e. rw n.position (g.unfit (sym n.verdict ∙ e));
          heard-of = still-heard b h x n.restarts g.heard-of;
        }

    -- the same, with as many restarts
    goes : {c k v t : ℕ} {m : Counts} (q : ℕ) (x : Session) → Good fr.many R E x → Now x 0 c k v t h.restarts m → q ≡ c + 1 → (v ≡ 2 → fr.fit c ≡ false) → At q x
    goes q x k n e u = stands q x k n e u (still-heard b h x n.restarts g.heard-of)

    -- the frame on its way
    there : Sending h → h.position < fr.many
    there w = (g.good.otherwise (λ q. omega (arith, w.1))).0

    module _ (k : ℕ) (from : p - 1 ≤ k) (below : k ≤ p) where
      -- an answer to it
      this : Sending h → (error : ℕ) → Answer (layout (said fr old k)) ((h.position + 1) % 256) error
          → (p ≡ h.position + 1) × (p ≤ k) × (pick (fr.fit h.position) 0 1 ≡ error)
      this w error a =
          let z = said-answer k ((h.position + 1) % 256) error a in
          let stage = g.sends w.0 in
          let j : z.0 ≡ h.position = omega (arith, z.1, z.2) in
          (stage, omega (arith, z.1), rw j at z.3)

      confirmed : (w : Sending h) → Answer (layout (said fr old k)) ((h.position + 1) % 256) 0 → (i : ℕ) → i + 1 ≡ h.position + 1 → fr.fit i ≡ true
      confirmed w a i e = let z : i ≡ h.position = omega arith in rw z (fits (fr.fit h.position) 0 (this w 0 a).2 refl)

      on_frame_lem : (t : Turn Session) → Heard fr.many R E F h (layout (said fr old k)) t → Kept fr.many R E fr.some F h t → Moved sending p k t
      on_frame_lem t host.refused kept = numbered.Moved.refused
      on_frame_lem t (host.ignored x n) kept = stays x (same x kept.0 n)
      on_frame_lem t (host.begins x w v n) kept =
          rw (g.waits w) (advances x (goes 1 x kept.0 n (omega arith) (λ e. absurd (omega arith))) (omega arith) fr.some (λ i e. absurd (omega arith)))
      on_frame_lem t (host.restarts x w v r l e n) kept = absurd (no_restart w l k refl r)
        where
          -- past its first frame no request is on its way to it
          no_restart : (h.waiting ≡ 1 → ⊥) → 1 ≤ h.position → (j : ℕ) → k ≡ j → Request (layout (said fr old j)) → ⊥
          no_restart w l zero e r = omega (arith, from, g.sends (omega (arith, g.good.flag)))
          no_restart w l (suc j) e r = no_request (after (j % 256)) (pick (fr.fit j) 0 1) r
      on_frame_lem t (host.advances x w a l n) kept =
          let z = this w 0 a in
          rw z.0 (advances x (goes (suc (h.position + 1)) x kept.0 n (omega arith) (λ e. absurd (omega arith)))
          (omega (arith, z)) (omega (arith, there w)) (confirmed w a))
      on_frame_lem t (host.finishes x w a _ l n) kept =
          let z = this w 0 a in
          rw z.0 (finishes x (goes (suc (h.position + 1)) x kept.0 n (omega (arith, there w)) (λ e. absurd (omega arith)))
          (omega (arith, z)) (omega arith) (confirmed w a))
      on_frame_lem t (host.rejects x error w a r n) kept =
          let z = this w error a in
          stays x (goes p x kept.0 n z.0 (λ _. fits_not (fr.fit h.position) error z.2 r))

    on_timer_lem : (t : Turn Session) → Timed fr.many R E F h t → Kept fr.many R E fr.some F h t → Ticked sending p t
    on_timer_lem t host.refused kept = numbered.Ticked.refused
    on_timer_lem t (host.ignored x n) kept = still x (same x kept.0 n)
    on_timer_lem t (host.repeats x w r n) kept =
        resends h.position x (g.sends w.0) (there w) (goes p x kept.0 n (g.sends w.0) (λ e. absurd (omega arith)))
    on_timer_lem t (host.gives_up x w r l n) kept = still x (goes p x kept.0 n (g.sends w.0) (λ e. absurd (omega arith)))
    on_timer_lem t (host.unconfirmed x w r l n) kept = still x (goes p x kept.0 n (g.sends w.0) (λ e. absurd (omega arith)))

  -- ---- a host that has not heard of the reset
  module _ (h : Session) (u : Misses h) where
    -- the verdict is as it was, or no longer 0 but neither finished nor rejected
    remains : {c k v t : ℕ} {m : Counts} (x : Session) → Good fr.many R E x → Now x 0 c k v t h.restarts m → c ≡ h.position
        → ((h.verdict ≡ 0) × (v ≡ 1 → ⊥) × (v ≡ 2 → ⊥)) ⊎ (v ≡ h.verdict) → Misses x
    remains x good n l d =
        let same : x.position ≡ h.position = n.position ∙ l in
        record {
          good = good;
          fitting = λ i less. u.fitting i (omega (arith, less, same));
          sends = n.waiting;
          beyond = λ e. rw same (u.beyond (⊎_elim (λ z. z.0) (λ z. sym z ∙ sym n.verdict ∙ e) d));
          small = u.small;
          misses = same-heard b h x n.restarts ∙ u.misses;
          as_many = n.restarts ∙ u.as_many;
          stays = λ e. ⊎_elim (λ z. absurd (e (sym (u.stays e) ∙ z.0))) (λ z. n.verdict ∙ z ∙ u.stays e) d;
          new = λ e. (λ q. ⊎_elim (λ z. z.1 (sym n.verdict ∙ q)) (λ z. (u.new e).0 (sym z ∙ sym n.verdict ∙ q)) d, λ q. ⊎_elim (λ z. z.2 (sym n.verdict ∙ q)) (λ z. (u.new e).1 (sym z ∙ sym n.verdict ∙ q)) d);
        }

    on_request_lem : (t : Turn Session) → Heard fr.many R E F h (layout (said fr old 0)) t → Kept fr.many R E fr.some F h t → Recalled sending Misses t
    on_request_lem t host.refused kept = restart.Recalled.refused
    on_request_lem t (host.ignored x n) kept = ignores x (remains x kept.0 (rw u.sends at n) refl (inr refl))
    on_request_lem t (host.begins x w v n) kept = absurd (omega (arith, u.sends))
    on_request_lem t (host.restarts x w v r l e n) kept =
        restarts x (stands 1 x kept.0 n (omega arith) (λ q. absurd (omega arith)) (record {
          hears = heard-again b x (omega (arith, u.as_many, n.restarts));
          at_most = omega (arith, u.as_many, n.restarts);
          at_once = λ q. absurd (not-at-once (heard_at_once b) (restarted_since b h) q u.misses);
          unended = was_open v;
        }))
      where
        not-at-once : (a d : Bool) → a ≡ true → a || d ≡ false → ⊥
        not-at-once true d q e = false≢true (sym e)
        not-at-once false d q e = false≢true q

        was_open : h.verdict ≡ 0 → b.host.verdict ≡ 0
        was_open v = go (eqb b.host.verdict 0) refl
          where
            go : (d : Bool) → eqb b.host.verdict 0 ≡ d → b.host.verdict ≡ 0
            go true e = eqb-true _ _ e
            go false e = sym (u.stays (eqb-false _ _ e)) ∙ v
    on_request_lem t (host.advances x w a l n) kept = absurd (no_answer ms _ _ a)
    on_request_lem t (host.finishes x w a _ l n) kept = absurd (no_answer ms _ _ a)
    on_request_lem t (host.rejects x error w a r n) kept = absurd (no_answer ms _ _ a)

    -- its first frame excepted, the machine passes by every frame that it has on its way
    on_late_timer : (t : Turn Session) → Timed fr.many R E F h t → Kept fr.many R E fr.some F h t → Missed sending Misses t
    on_late_timer t host.refused kept = restart.Missed.refused
    on_late_timer t (host.ignored x n) kept = rests x (remains x kept.0 (rw u.sends at n) refl (inr refl))
    on_late_timer t (host.repeats x w r n) kept =
        let below : h.position < fr.many = (u.good.otherwise (λ q. omega (arith, w.1))).0 in
        let past = u.beyond w.1 in
        repeats h.position x (below, λ q. omega (arith, u.small)) (remains x kept.0 n refl (inr (sym w.1)))
    on_late_timer t (host.gives_up x w r l n) kept = rests x (remains x kept.0 n refl (inl (w.1, λ q. omega arith, λ q. omega arith)))
    on_late_timer t (host.unconfirmed x w r l n) kept = rests x (remains x kept.0 n refl (inl (w.1, λ q. omega arith, λ q. omega arith)))

  -- a host whose calls come to no more than that is a sender, and one that begins again
  module _
      {X : Type 0} (ends : Ends Session End X) (heard : (h : Session) (f b : List ℕ) → Heard fr.many R E F h f (ends.host_frame h f b))
      (timed : (h : Session) (b : List ℕ) → Timed fr.many R E F h (ends.host_timer h b)) where
    pub sender : Sender sending ends
    sender =
        record {
          heeds = λ p h k b g l u. let x = heard h (layout (said fr old k)) b in
              on_frame_lem p h g k l u _ x (on_heard fr.many R E fr.some F h (layout (said fr old k)) _ g.good x);
          ticks = λ p h b g. let x = timed h b in on_timer_lem p h g _ x (on_timed fr.many R E fr.some F h _ g.good x);
        }

    pub restarter : Restarter sending Misses ends
    restarter =
        record {
          some = fr.some;
          recalls = λ h b u. let x = heard h (layout (said fr old 0)) b in
              on_request_lem h u _ x (on_heard fr.many R E fr.some F h (layout (said fr old 0)) _ u.good x);
          misses = λ h b u. let x = timed h b in on_late_timer h u _ x (on_timed fr.many R E fr.some F h _ u.good x);
        }
