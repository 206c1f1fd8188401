-- One letter of a rehearsal is one event of the link with queues of 16 frames.
use Rattle.std.specs.Prelude.{ℕ, zero, suc, ◌+◌, ◌≤◌, ◌<◌, ◌≡◌, Bool, true, false, cond as pick, eqb}
use Rattle.std.proofs.Math.Path.{refl, ap, sym, subst}
use Rattle.std.proofs.Common.{◌∙◌, arith, eq-eqb, ne_eqb}
use mathlib.Core.List.{List, [], ◌∷◌, ◌++◌, append-nil}
use Rattle.std.proofs.Math.ListN.{length, take}
use Rattle.message.specs.declared.Fields.{Fields}
use Rattle.message.specs.Read.{fields}
use Rattle.image.specs.Image.{widest}
use Rattle.step.specs.Step.{Act, Outcome, first, gives, ignores}
use Rattle.machine_record.specs.declared.Machine.{Machine}
use Rattle.machine_checks.specs.Checks as machine_checks
use Rattle.machine_next.specs.Next as machine-next
use Rattle.machine_timer.specs.Timer.{on_timer, machine_timer}
use Rattle.machine.specs.Machine.{machine_frame}
use Rattle.load_record.specs.declared.Session.{Session}
use Rattle.load_record.specs.Record.{tallied}
use Rattle.load_next.specs.Next as load-next
use Rattle.load_timer.specs.Timer as load-timer
use Rattle.load_checks.specs.Checks as load-checks
use Rattle.load.specs.Load as load
use Rattle.load.specs.Load.{load_frame}
use Rattle.queue.specs.declared.Queue.{Queue}
use Rattle.queue.specs.Queue as queue
use Rattle.queue.specs.Queue.{leave, sent, keeps}
use Rattle.job.specs.Turn.{frame_of}
use Rattle.job.specs.declared.Setup.{Setup}
use Rattle.job.specs.declared.Ends.{Ends}
use Rattle.job.specs.Run.{Run, Step, run, machine_moves, host_moves}
use Rattle.host_turns.specs.Turns.{host_handed, host_timed}
use Rattle.machine_turns.specs.Turns.{machine_handed, machine_timed}
use Rattle.rehearse.specs.Rehearse.{still, host_leaves, machine_leaves, event}
use Rattle.link.specs.Link as link
use Rattle.link.specs.Link.{Frame, acts, turned, World, Event, own, Own, hand_to_machine, keep_to_machine, drop_to_machine, hand_to_host, keep_to_host, drop_to_host, machine_turn, host_turn, counts, own_step, queued}
use Rattle.link.proofs.LinkLaws.{handed_to_machine, kept_to_machine, dropped_to_machine, handed_to_host, kept_to_host, dropped_to_host}
use Rattle.link.specs.MachineEnd.{End, machine_end}
use Rattle.link.specs.Bounded.{within, run_within}
use Rattle.link.specs.Unrefused.{Unrefused}
use Rattle.link_load.specs.Model.{Reset, host_end, load_ends}
use Rattle.rehearse_link.specs.Ring.{frames, Ring}
use Rattle.rehearse_link.proofs.RingLaws.{leaves, empty-frames, all-within, leave_ring, sent_ring, sent-frames}
use Rattle.rehearse_link.specs.World.{world, event_at}
use Rattle.rehearse_link.proofs.TurnLaws.{Short, Tells, tells, given, acted, no_bytes, Runs, machine_runs, timer_runs, host-short}

-- What every rehearsal keeps: two rings, a reply buffer of 1,500 bytes, and a machine that is neither Idle nor Offering.
pub record Room (r : Run) : Type 0 where
  pub hosts : Ring r.ends.from_host r.host_places
  pub machines : Ring r.ends.from_machine r.machine_places
  pub reply : length r.reply ≡ 1500
  pub running : 2 ≤ r.ends.machine.state

same-world : {h h' : Session} {e e' : End} {p p' q q' : List Frame} {n j : ℕ} → h ≡ h' → e ≡ e' → p ≡ p' → q ≡ q'
    → ◌≡◌ {A = World Session End} (record { host = h; machine = e; to_machine = p; to_host = q; taken = n; heard = j })
    (record { host = h'; machine = e'; to_machine = p'; to_host = q'; taken = n; heard = j })
same-world a b c d = rw (a, b, c, d)

-- what a choice of steps and the same choice of events have
pair : {A B : Type 0} (P : A → B → Type 0) (b : Bool) {x y : A} {u v : B} → P x u → P y v → P (pick b x y) (pick b u v)
pair P true f g = f
pair P false f g = g

-- a number is 0, or more
by_number_lem : {A : Type 0} (k : ℕ) → (k ≡ 0 → A) → (0 < k → A) → A
by_number_lem zero f g = f refl
by_number_lem (suc k) f g = g (omega arith)

-- nothing leaves an empty queue
left-none : (q : Queue) → q.many ≡ 0 → (leave q).many ≡ 0
left-none q e = rw (eq-eqb q.many 0 e) e

module _ (s : Setup) (file : List ℕ) (narrow : s.host.segment_size ≤ widest) (r : Run) (room : Room r) (n j : ℕ)
    (u : Unrefused (load_ends s.host s.machine file []) (world n j r)) where
  abbrev ends : link.Ends Session End (Reset s.host)
  ends = load_ends s.host s.machine file []

  abbrev w : World Session End
  w = world n j r

  abbrev b : List ℕ
  b = r.reply

  abbrev m : Machine
  m = r.ends.machine

  abbrev h : Session
  h = r.ends.session

  abbrev from-host : Queue
  from-host = r.ends.from_host

  abbrev from-machine : Queue
  from-machine = r.ends.from_machine

  -- the refusals of their calls, before a frame is read
  abbrev machine_refusal : ℕ
  machine_refusal = machine_checks.refusal s.machine m (length r.memory) (length b)

  abbrev host_refusal : ℕ
  host_refusal = load-checks.refusal s.host h file [] b

  room-left : 1500 ≤ length r.reply
  room-left = omega (arith, room.reply)

  -- what a step and its events have
  P : Step → List (Event (Reset s.host)) → Type 0
  P t es = Room t.run × ((k : ℕ) × (i : ℕ) × (run_within 16 ends (world n j r) es ≡ world k i t.run))

  -- ---- a turn of an end, with the queue that it leaves of the frames to it
  abbrev machine_step : Outcome Machine (List ℕ) → Queue → Step
  machine_step o q =
      record {
        run =
            run (record { session = h; machine = o.end; from_host = q; from_machine = sent from-machine (frame_of o) })
            o.lent r.host_places (keeps from-machine (frame_of o) r.machine_places) o.reply;
        sent = o.answer.length;
      }

  abbrev host_step : Outcome Session Unit → Queue → Step
  host_step o q =
      record {
        run =
            run (record { session = o.end; machine = m; from_host = sent from-host (frame_of o); from_machine = q })
            r.memory (keeps from-host (frame_of o) r.host_places) r.machine_places o.reply;
        sent = o.answer.length;
      }

  machine-acts : (o : Outcome Machine (List ℕ)) (a : Act Machine (List ℕ)) → o ≡ gives a b → Runs a → (q : Queue) → Ring q r.host_places → (e : Own)
      → own_step ends w e ≡ machine_turn w (frames q r.host_places) (turned machine_end o) → P (machine_step o q) (own e ∷ [])
  unfolding P run_within Runs
  machine-acts o a given_is runs q g e same =
      let t : Tells o a.end a.lent (queued a.sending) =
      subst (λ (x : Outcome Machine (List ℕ)). Tells x a.end a.lent (queued a.sending)) (sym given_is) (tells a b room.reply runs.1) in
      let turn : turned machine_end o ≡ acts (machine_end a.end a.lent) (queued a.sending) = ap (turned machine_end) given_is ∙ acted machine_end a b in
      let end : machine_end a.end a.lent ≡ machine_end o.end o.lent = rw (t.end, t.lent) in
      let joins : take 16 (w.to_host ++ queued a.sending) ≡ frames (sent from-machine (frame_of o)) (keeps from-machine (frame_of o) r.machine_places) =
      ap (λ (l : List Frame). take 16 (w.to_host ++ l)) (sym t.out-is) ∙ sym (sent-frames from-machine r.machine_places room.machines (frame_of o) t.short) in (
        record {
          hosts = g;
          machines = sent_ring from-machine r.machine_places room.machines (frame_of o) t.short;
          reply = t.reply;
          running = rw t.end runs.0;
        },
        (
          n,
          j,
          ap (within 16) (same ∙ ap (machine_turn w (frames q r.host_places)) turn) ∙ same-world refl end (all-within q r.host_places g) joins,
        ),
      )

  host-acts : (o : Outcome Session Unit) (a : Act Session Unit) → o ≡ gives a b → Short a.sending → (q : Queue) → Ring q r.machine_places → (e : Own) (i : ℕ)
      → own_step ends w e ≡ host_turn w i (frames q r.machine_places) (turned host_end o) → P (host_step o q) (own e ∷ [])
  unfolding P run_within
  host-acts o a given_is short q g e i same =
      let t : Tells o a.end a.lent (queued a.sending) =
      subst (λ (x : Outcome Session Unit). Tells x a.end a.lent (queued a.sending)) (sym given_is) (tells a b room.reply short) in
      let turn : turned host_end o ≡ acts a.end (queued a.sending) = ap (turned host_end) given_is ∙ acted host_end a b in
      let joins : take 16 (w.to_machine ++ queued a.sending) ≡ frames (sent from-host (frame_of o)) (keeps from-host (frame_of o) r.host_places) =
      ap (λ (l : List Frame). take 16 (w.to_machine ++ l)) (sym t.out-is) ∙ sym (sent-frames from-host r.host_places room.hosts (frame_of o) t.short) in (
        record {
          hosts = sent_ring from-host r.host_places room.hosts (frame_of o) t.short;
          machines = g;
          reply = t.reply;
          running = room.running;
        },
        (
          n + length (queued a.sending),
          j + i,
          ap (within 16) (same ∙ ap (host_turn w i (frames q r.machine_places)) turn) ∙ same-world (sym t.end) refl joins (all-within q r.machine_places g),
        ),
      )

  -- ---- timers
  machine-timed : P (machine_moves r (machine_timed s.machine r)) (own (link.machine_timer b) ∷ [])
  machine-timed =
      let a = on_timer s.machine m r.memory in
      machine-acts (machine_timed s.machine r) a (given machine_end machine_refusal m r.memory b a (u.machine_timer b room-left)) (timer_runs s.machine m r.memory room.running)
      from-host room.hosts (link.machine_timer b) refl

  host-timed : P (host_moves r (host_timed s.host file r)) (own (link.host_timer b) ∷ [])
  host-timed =
      let next = load-timer.on_timer (load-checks.frames s.host file) s.host.repeats h in
      let a = load.does s.host file [] next in
      host-acts (host_timed s.host file r) a (given host_end host_refusal h tt b a (u.host_timer b room-left)) (host-short s.host file next narrow) from-machine room.machines (link.host_timer b) 0 refl

  -- ---- the first frame of a queue, handed over: the end acts on it, if there is one
  abbrev first-host : Frame
  first-host = queue.first from-host r.host_places

  abbrev first-machine : Frame
  first-machine = queue.first from-machine r.machine_places

  to_machine_lem : (q : Queue) → Ring q r.host_places → (from-host.many ≡ 0 → q.many ≡ 0) → (e : Own) → (w.to_machine ≡ [] → own_step ends w e ≡ w)
      → (0 < from-host.many → own_step ends w e ≡ machine_turn w (frames q r.host_places) (ends.machine_frame w.machine first-host b))
      → P (machine_step (machine_handed s.machine r) q) (own e ∷ [])
  unfolding Runs
  to_machine_lem q g left e without with-one = by_number_lem from-host.many none some
    where
      none : from-host.many ≡ 0 → P (machine_step (machine_handed s.machine r) q) (own e ∷ [])
      none z =
          let empty = empty-frames from-host r.host_places room.hosts z in
          let o : machine_handed s.machine r ≡ gives (ignores m r.memory) b = rw (eq-eqb from-host.many 0 z) in
          let same : w ≡ machine_turn w (frames q r.host_places) (acts w.machine []) = rw (append-nil, empty, empty-frames q r.host_places g (left z)) in
          machine-acts (machine_handed s.machine r) (ignores m r.memory) o (room.running, tt) q g e
          (without empty ∙ same ∙ ap (λ (x : Outcome Machine (List ℕ)). machine_turn w (frames q r.host_places) (turned machine_end x)) (sym o))

      some : 0 < from-host.many → P (machine_step (machine_handed s.machine r) q) (own e ∷ [])
      some z =
          let f = first-host in
          let react : Fields → Act Machine (List ℕ) = λ x. machine-next.react s.machine m x f r.memory in
          let accepted = u.machine_frame f (frames (leave from-host) r.host_places) b (leaves from-host r.host_places z) room-left in
          let bytes : length f ≡ 0 → ⊥ = λ k. accepted (no_bytes machine_end s.machine.version machine_refusal f m r.memory b react k) in
          let handed : machine_handed s.machine r ≡ machine_frame s.machine m f r.memory b = rw (ne_eqb (length f) 0 bytes) in
          machine-acts (machine_handed s.machine r) (react (fields s.machine.version f)) (handed ∙ given machine_end (first (machine_refusal ∷ (fields s.machine.version f).refusal ∷ [])) m r.memory b (react (fields s.machine.version f)) accepted)
          (machine_runs s.machine m r.memory room.running (fields s.machine.version f) f) q g e
          (with-one z ∙ ap (λ (x : Outcome Machine (List ℕ)). machine_turn w (frames q r.host_places) (turned machine_end x)) (sym handed))

  to_host_lem : (q : Queue) → Ring q r.machine_places → (from-machine.many ≡ 0 → q.many ≡ 0) → (e : Own) → (w.to_host ≡ [] → own_step ends w e ≡ w)
      → (0 < from-machine.many → own_step ends w e ≡ host_turn w (counts ends w.host first-machine) (frames q r.machine_places) (ends.host_frame w.host first-machine b))
      → P (host_step (host_handed s.host file r) q) (own e ∷ [])
  to_host_lem q g left e without with-one = by_number_lem from-machine.many none some
    where
      none : from-machine.many ≡ 0 → P (host_step (host_handed s.host file r) q) (own e ∷ [])
      none z =
          let empty = empty-frames from-machine r.machine_places room.machines z in
          let o : host_handed s.host file r ≡ gives (ignores h tt) b = rw (eq-eqb from-machine.many 0 z) in
          let count : n ≡ n + 0 = omega arith in
          let heard : j ≡ j + 0 = omega arith in
          let same : w ≡ host_turn w 0 (frames q r.machine_places) (acts h []) = rw (append-nil, empty, empty-frames q r.machine_places g (left z), ← count, ← heard) in
          host-acts (host_handed s.host file r) (ignores h tt) o tt q g e 0
          (without empty ∙ same ∙ ap (λ (x : Outcome Session Unit). host_turn w 0 (frames q r.machine_places) (turned host_end x)) (sym o))

      some : 0 < from-machine.many → P (host_step (host_handed s.host file r) q) (own e ∷ [])
      some z =
          let f = first-machine in
          let react : Fields → Act Session Unit = λ x. load.does s.host file [] (tallied h (load-next.react (load-checks.frames s.host file) s.host.restart h x)) in
          let accepted = u.host_frame f (frames (leave from-machine) r.machine_places) b (leaves from-machine r.machine_places z) room-left in
          let bytes : length f ≡ 0 → ⊥ = λ k. accepted (no_bytes host_end s.host.version host_refusal f h tt b react k) in
          let handed : host_handed s.host file r ≡ load_frame s.host h file [] f b = rw (ne_eqb (length f) 0 bytes) in
          host-acts (host_handed s.host file r) (react (fields s.host.version f)) (handed ∙ given host_end (first (host_refusal ∷ (fields s.host.version f).refusal ∷ [])) h tt b (react (fields s.host.version f)) accepted)
          (host-short s.host file (tallied h (load-next.react (load-checks.frames s.host file) s.host.restart h (fields s.host.version f))) narrow) q g e
          (counts ends w.host f) (with-one z ∙ ap (λ (x : Outcome Session Unit). host_turn w (counts ends w.host f) (frames q r.machine_places) (turned host_end x)) (sym handed))

  -- ---- it leaves, or is kept
  hosts-left : Ring (leave from-host) r.host_places
  hosts-left = leave_ring from-host r.host_places room.hosts

  machines-left : Ring (leave from-machine) r.machine_places
  machines-left = leave_ring from-machine r.machine_places room.machines

  hands_to_machine : P (host_leaves (machine_moves r (machine_handed s.machine r))) (own (hand_to_machine b) ∷ [])
  hands_to_machine =
      to_machine_lem (leave from-host) hosts-left (left-none from-host) (hand_to_machine b) (ap (handed_to_machine ends w b))
      (λ z. ap (handed_to_machine ends w b) (leaves from-host r.host_places z))

  keeps_to_machine : P (machine_moves r (machine_handed s.machine r)) (own (keep_to_machine b) ∷ [])
  keeps_to_machine =
      to_machine_lem from-host room.hosts (λ z. z) (keep_to_machine b) (ap (kept_to_machine ends w b))
      (λ z. let e = leaves from-host r.host_places z in ap (kept_to_machine ends w b) e ∙ ap (λ (l : List Frame). machine_turn w l (ends.machine_frame w.machine first-host b)) (sym e))

  hands_to_host : P (machine_leaves (host_moves r (host_handed s.host file r))) (own (hand_to_host b) ∷ [])
  hands_to_host =
      to_host_lem (leave from-machine) machines-left (left-none from-machine) (hand_to_host b) (ap (handed_to_host ends w b))
      (λ z. ap (handed_to_host ends w b) (leaves from-machine r.machine_places z))

  keeps_to_host : P (host_moves r (host_handed s.host file r)) (own (keep_to_host b) ∷ [])
  keeps_to_host =
      to_host_lem from-machine room.machines (λ z. z) (keep_to_host b) (ap (kept_to_host ends w b))
      (λ z. let e = leaves from-machine r.machine_places z in ap (kept_to_host ends w b) e ∙ ap (λ (l : List Frame). host_turn w (counts ends w.host first-machine) l (ends.host_frame w.host first-machine b)) (sym e))

  -- ---- a frame is dropped
  drops_to_machine : P (host_leaves (still r)) (own drop_to_machine ∷ [])
  unfolding P run_within
  drops_to_machine =
      let dropped : dropped_to_machine ends w w.to_machine ≡ link.with_to_machine w (frames (leave from-host) r.host_places) =
      by_number_lem from-host.many (λ z.
      let empty = empty-frames from-host r.host_places room.hosts z in
      ap (dropped_to_machine ends w) empty ∙ ap (link.with_to_machine w) (empty ∙ sym (empty-frames (leave from-host) r.host_places hosts-left (left-none from-host z))))
      (λ z. ap (dropped_to_machine ends w) (leaves from-host r.host_places z)) in (
        record { hosts = hosts-left; machines = room.machines; reply = room.reply; running = room.running },
        (n, j, ap (within 16) dropped ∙ same-world refl refl (all-within (leave from-host) r.host_places hosts-left) (all-within from-machine r.machine_places room.machines)),
      )

  drops_to_host : P (machine_leaves (still r)) (own drop_to_host ∷ [])
  unfolding P run_within
  drops_to_host =
      let dropped : dropped_to_host ends w w.to_host ≡ link.with_to_host w (frames (leave from-machine) r.machine_places) =
      by_number_lem from-machine.many (λ z.
      let empty = empty-frames from-machine r.machine_places room.machines z in
      ap (dropped_to_host ends w) empty ∙ ap (link.with_to_host w) (empty ∙ sym (empty-frames (leave from-machine) r.machine_places machines-left (left-none from-machine z))))
      (λ z. ap (dropped_to_host ends w) (leaves from-machine r.machine_places z)) in (
        record { hosts = room.hosts; machines = machines-left; reply = room.reply; running = room.running },
        (n, j, ap (within 16) dropped ∙ same-world refl refl (all-within from-host r.host_places room.hosts) (all-within (leave from-machine) r.machine_places machines-left)),
      )

  -- a letter that is none
  stays : P (still r) []
  unfolding P run_within
  stays = (room, (n, j, refl))

  -- THE STEP: each letter is its event
  pub steps : (letter : ℕ) → Room (event s file r letter).run
      × ((k : ℕ) × (i : ℕ) × (run_within 16 ends (world n j r) (event_at r.reply letter) ≡ world k i (event s file r letter).run))
  unfolding P run_within
  steps letter =
      pair P (eqb letter 104) hands_to_machine
      (pair P (eqb letter 107) keeps_to_machine
      (pair P (eqb letter 120) drops_to_machine
      (pair P (eqb letter 116) hands_to_host
      (pair P (eqb letter 117) keeps_to_host
      (pair P (eqb letter 121) drops_to_host
      (pair P (eqb letter 109) host-timed
      (pair P (eqb letter 110) machine-timed
      stays)))))))
