-- Of every step: a caller that sees no refusal, no frame and the same verdict (or state) sees that the step did nothing, but for the count of
-- ignored frames.
use Rattle.std.specs.Prelude.{ℕ, ◌+◌, ◌%◌, ◌<◌, min, ◌≡◌, refl, Bool, true, false, ◌&&◌, cond as pick, List, [], ◌∷◌, length, eqb, ltb, leb}
use Rattle.std.proofs.Common.{arith, add-zero, eqb-true}
use Rattle.std.proofs.lemmas.Bool.{eqb-false}
use Rattle.octets.specs.TestLaws.{by_cases}
use Rattle.message.specs.declared.Fields.{Fields}
use Rattle.message.specs.Message.{Message, request_load, request_dump, dump_data, dump_complete, loop_data, looped_data, request_program, request_dump_service}
use Rattle.message.specs.Read.{fields, part}
use Rattle.message.specs.Laws.{begins}
use Rattle.memory.specs.Memory.{laid, bytes_from}
use Rattle.counts.proofs.Laws.{unmoved as uncounted}
use Rattle.step.specs.Step.{Sending, nothing, sends, Act, first, acts, ignores, gives, call}
use Rattle.machine_record.specs.declared.Settings.{Settings as MachineSettings}
use Rattle.machine_record.specs.declared.Machine.{Machine}
use Rattle.machine_record.specs.Record as machine
use Rattle.machine_checks.specs.Checks as machine_checks
use Rattle.machine_next.specs.Next as machine_next
use Rattle.machine_next.proofs.ActedLaws.{Acted, ignored, answered, loaded, dumped, completed, looped, react-acted}
use Rattle.machine_timer.specs.Timer.{on_timer as on_machine_timer, machine_timer}
use Rattle.machine.specs.Machine.{machine_frame}
use Rattle.load_record.specs.declared.Settings.{Settings as LoadSettings}
use Rattle.load_record.specs.declared.Session.{Session as LoadSession}
use Rattle.load_record.specs.declared.Next.{Next as LoadNext}
use Rattle.load_record.specs.Record as load
use Rattle.load_next.specs.Next as load_next
use Rattle.load_timer.specs.Timer.{on_timer as on_load_timer}
use Rattle.load_checks.specs.Checks as load_checks
use Rattle.load.specs.Load as loads
use Rattle.load.specs.Load.{load_frame, load_timer}
use Rattle.dump_record.specs.declared.Settings.{Settings as DumpSettings}
use Rattle.dump_record.specs.declared.Session.{Session as DumpSession}
use Rattle.dump_record.specs.declared.Sends.TheVariants.{Complete}
use Rattle.dump_record.specs.declared.Next.{Next as DumpNext}
use Rattle.dump_record.specs.Record as dump_record
use Rattle.dump_next.specs.Next as dump
use Rattle.dump_timer.specs.Timer.{on_timer as on_dump_timer}
use Rattle.dump_checks.specs.Checks as dump_checks
use Rattle.dump.specs.Dump as dumps
use Rattle.dump.specs.Dump.{dump_frame, dump_timer}
use Rattle.looptest_record.specs.declared.Settings.{Settings as LoopSettings}
use Rattle.looptest_record.specs.declared.Session.{Session as LoopSession}
use Rattle.looptest_timer.specs.declared.Next.{Next as LoopNext}
use Rattle.looptest_record.specs.Record.{ended as ended_loop, repeated as repeated_loop}
use Rattle.looptest_next.specs.Next as loop_next
use Rattle.looptest_timer.specs.Timer.{on_timer as on_loop_timer}
use Rattle.looptest.specs.Loop as loop
use Rattle.looptest.specs.Loop.{loop_frame, loop_timer}
use Rattle.mop_steps.specs.Ignored.{Leaving, Seen, load_verdict, load_passed, dump_verdict, dump_passed, loop_verdict, machine_state}

-- ---- any end
module _ {H B : Type 0} (mark : H → ℕ) (h left : H) (lent : B) (reply : List ℕ) where
  -- a frame that goes out is seen by its length
  sent-seen : (end : H) (b : B) (m : Message) → Leaving mark h left lent reply (gives (acts end b (sends m)) reply)
  sent-seen end b m _ l _ = absurd (omega (arith, begins m))

  -- a refused call is no step
  called : (n : ℕ) (a : Act H B) → Leaving mark h left lent reply (gives a reply) → Leaving mark h left lent reply (call n h lent reply a)
  called n a g = by_cases (Leaving mark h left lent reply) (eqb n 0) (λ _. g) (λ e z. absurd (eqb-false n 0 e z))

-- ---- the host's load
module _ (s : LoadSettings) (h : LoadSession) (file string reply : List ℕ) where
  abbrev N : ℕ
  N = load_checks.frames s file

  -- with this record left if nothing is seen, and this one answered
  abbrev P : LoadSession → LoadNext → Type 0
  P left next = Leaving load_verdict h left tt reply (gives (loads.does s file string next) reply)

  goes : (left r : LoadSession) → P left (load.goes_out r)
  goes left r = sent-seen load_verdict h left tt reply (loads.raised r) tt (loads.frame_message s file string r.position)

  ends : (left r : LoadSession) (n : ℕ) → r.verdict ≡ n → eqb h.verdict 0 ≡ true → 0 < n → P left (record { session = r; sends = false })
  ends left r n m v p _ _ e = absurd (omega (arith, eqb-true h.verdict 0 v))

  -- a frame is counted
  abbrev Q : LoadNext → Type 0
  Q next = P (load_passed h) (load.tallied h next)

  passes : Q (load.ignores h)
  passes _ _ _ = rw (uncounted (load.standing h) h.counts)

  out : (r : LoadSession) → Q (load.goes_out r)
  out r = goes (load_passed h) (load.tallied h (load.goes_out r)).session

  closes : (r : LoadSession) (n : ℕ) → eqb h.verdict 0 ≡ true → 0 < n → Q (load.ends r n)
  closes r n v p = ends (load_passed h) (load.tallied h (load.ends r n)).session n refl v p

  pub load_frame-seen : (frame : List ℕ) → Leaving load_verdict h (load_passed h) tt reply (load_frame s h file string frame reply)
  load_frame-seen frame =
      let f = fields s.version frame in
      called load_verdict h (load_passed h) tt reply (first (load_checks.refusal s h file string reply ∷ f.refusal ∷ []))
      (loads.does s file string (load.tallied h (load_next.react N s.restart h f)))
      (by_cases Q (eqb h.verdict 0) (λ v.
      by_cases Q (eqb f.code 8) (λ _.
      by_cases Q (eqb f.program 2) (λ _.
      by_cases Q (eqb h.waiting 1) (λ _. out (load.reached h 0)) (λ _.
      by_cases Q (load_next.again s.restart h) (λ _. out (load.restarted h)) (λ _. passes))) (λ _. passes)) (λ _.
      by_cases Q (eqb f.code 10) (λ _.
      by_cases Q (eqb h.waiting 0 && eqb f.number ((h.position + 1) % 256)) (λ _.
      by_cases Q (eqb f.error 0) (λ _.
      by_cases Q (load.more N h) (λ _. out (load.reached h (h.position + 1))) (λ _. closes (load.reached h N) 1 v (omega arith))) (λ _.
      closes h 2 v (omega arith))) (λ _. passes)) (λ _. passes)))
      (λ _. passes))

  pub load_timer-seen : Seen load_verdict h tt reply (load_timer s h file string reply)
  load_timer-seen =
      called load_verdict h h tt reply (load_checks.refusal s h file string reply) (loads.does s file string (on_load_timer N s.repeats h))
      (by_cases (P h) (eqb h.verdict 0) (λ v.
      by_cases (P h) (eqb h.waiting 0) (λ _.
      by_cases (P h) (ltb h.repeats s.repeats) (λ _. goes h (load.repeated h)) (λ _.
      ends h (load.ended h (pick (load.more N h) 3 4)) (pick (load.more N h) 3 4) refl v
      (by_cases (λ (n : ℕ). 0 < n) (load.more N h) {x = 3} {y = 4} (λ _. omega arith) (λ _. omega arith)))) (λ _ _ _ _. refl))
      (λ _ _ _ _. refl))

-- ---- the host's dump
module _ (s : DumpSettings) (h : DumpSession) (buffer reply : List ℕ) where
  -- with this record left if nothing is seen, whatever the buffer is made to hold
  abbrev D : DumpSession → List ℕ → DumpNext → Type 0
  D left made next = Leaving dump_verdict h left buffer reply (gives (dumps.does s next made) reply)

  asks : (left : DumpSession) (made : List ℕ) (r : DumpSession) (takes : Bool) → D left made (dump_record.asks r takes)
  asks left made r takes =
      let m = request_dump (dump_record.place s r) (dump_record.asked s r) in
      sent-seen dump_verdict h left buffer reply (dumps.counted (dump_record.asks r takes)) made m

  completes : (left : DumpSession) (made : List ℕ) (r : DumpSession) (takes : Bool) → D left made (record { session = r; takes = takes; sends = Complete })
  completes left made r takes =
      sent-seen dump_verdict h left buffer reply (dumps.counted (record { session = r; takes = takes; sends = Complete })) made dump_complete

  module _ (bytes : List ℕ) where
    -- a frame is counted
    abbrev F : DumpNext → Type 0
    F next = D (dump_passed h) (dumps.filled next.takes bytes h.filled buffer) (dump_record.tallied h next)

    skipped : F (dump_record.ignores h)
    skipped _ _ _ = simp (add-zero, uncounted (dump_record.standing h) h.counts)

    asked : (r : DumpSession) (takes : Bool) → F (dump_record.asks r takes)
    asked r takes = asks (dump_passed h) _ (dump_record.tallied h (dump_record.asks r takes)).session takes

    taken : (r : DumpSession) → F (dump.takes s r)
    taken r =
        by_cases F (eqb r.filled s.length) {x = dump_record.completes r 1 true} {y = dump_record.asks r true}
        (λ _. completes (dump_passed h) _ (dump_record.tallied h (dump_record.completes r 1 true)).session true) (λ _. asked r true)

    reacts : (f : Fields) → F (dump.react s h f)
    reacts f =
        by_cases F (eqb h.verdict 0) (λ _.
        by_cases F (eqb f.code 12) (λ _. by_cases F (eqb h.waiting 1) (λ _. asked (dump_record.reached h 0) false) (λ _. skipped)) (λ _.
        by_cases F (eqb f.code 14) (λ _.
        by_cases F (eqb h.waiting 0 && eqb f.address (dump_record.place s h) && leb 1 f.data_length && leb f.data_length (dump_record.asked s h))
        (λ _. taken (dump_record.reached h (h.filled + f.data_length))) (λ _. skipped)) (λ _. skipped)))
        (λ _. skipped)

  pub dump_frame-seen : (frame : List ℕ) → Leaving dump_verdict h (dump_passed h) buffer reply (dump_frame s h frame buffer reply)
  dump_frame-seen frame =
      let f = fields s.version frame in
      called dump_verdict h (dump_passed h) buffer reply (first (dump_checks.refusal s h (length buffer) (length reply) ∷ f.refusal ∷ []))
      (dumps.on_frame s h frame buffer f) (reacts (part frame f) f)

  pub dump_timer-seen : Seen dump_verdict h buffer reply (dump_timer s h buffer reply)
  dump_timer-seen =
      called dump_verdict h h buffer reply (dump_checks.refusal s h (length buffer) (length reply)) (dumps.does s (on_dump_timer s h) buffer)
      (by_cases T (eqb h.verdict 0) (λ _.
      by_cases T (eqb h.waiting 0) (λ _.
      by_cases T (ltb h.repeats s.repeats) (λ _. asks h buffer (dump_record.repeated h) false) (λ _. completes h buffer (dump_record.ended h 3) false)) (λ _. still))
      (λ _. still))
    where
      T : DumpNext → Type 0
      T = D h buffer

      still : T (dump_record.ignores h)
      still _ _ _ = simp add-zero

-- ---- the host's loop test
module _ (s : LoopSettings) (h : LoopSession) (bytes reply : List ℕ) where
  abbrev L : LoopSession → Type 0
  L r = Seen {B = Unit {0}} loop_verdict h tt reply (gives (acts r tt nothing) reply)

  unmoved : L h
  unmoved _ _ _ = refl

  over : (n : ℕ) → eqb h.verdict 0 ≡ true → 0 < n → L (ended_loop h n)
  over n v p _ _ e = absurd (omega (arith, eqb-true h.verdict 0 v))

  pub loop_frame-seen : (frame : List ℕ) → Seen loop_verdict h tt reply (loop_frame s h bytes frame reply)
  loop_frame-seen frame =
      let f = fields s.version frame in
      let back = part frame f in
      called loop_verdict h h tt reply (first (loop.refusal s h (length bytes) (length reply) ∷ f.refusal ∷ [])) (loop.on_frame s h bytes frame f)
      (by_cases L (eqb h.verdict 0) (λ v.
      by_cases L (eqb f.code 24) (λ _. by_cases L (eqb f.receipt s.receipt && loop_next.same back bytes) (λ _. over 2 v (omega arith)) (λ _. unmoved)) (λ _.
      by_cases L (eqb f.code 26) (λ _. by_cases L (eqb f.receipt s.receipt && loop_next.same back bytes) (λ _. over 1 v (omega arith)) (λ _. unmoved)) (λ _.
      unmoved)))
      (λ _. unmoved))

  pub loop_timer-seen : Seen loop_verdict h tt reply (loop_timer s h bytes reply)
  loop_timer-seen =
      let out = sent-seen loop_verdict h h tt reply (loop.counted (repeated_loop h)) tt (loop_data s.receipt bytes) in
      called loop_verdict h h tt reply (loop.refusal s h (length bytes) (length reply)) (loop.does s (on_loop_timer s h) bytes)
      (by_cases A (eqb h.verdict 0) (λ v. by_cases A (ltb h.repeats s.repeats) (λ _. out) (λ _. over 3 v (omega arith))) (λ _. unmoved))
    where
      A : LoopNext → Type 0
      A n = Seen loop_verdict h tt reply (gives (loop.does s n bytes) reply)

-- ---- the machine
module _ (s : MachineSettings) (m : Machine) (memory reply : List ℕ) where
  abbrev M : Act Machine (List ℕ) → Type 0
  M act = Seen machine_state m memory reply (gives act reply)

  idles : M (ignores m memory)
  idles _ _ _ = refl

  pub machine-frame-seen : (frame : List ℕ) → Seen machine_state m memory reply (machine_frame s m frame memory reply)
  machine-frame-seen frame =
      called machine_state m m memory reply (first (machine_checks.refusal s m (length memory) (length reply) ∷ f.refusal ∷ []))
      (machine_next.react s m f frame memory) (go _ (react-acted s m f frame memory))
    where
      f : Fields
      f = fields s.version frame

      go : (act : Act Machine (List ℕ)) → Acted s m f frame memory act → M act
      go act ignored = idles
      go act (answered m' number error l) = sent-seen machine_state m m memory reply m' memory (request_load number error)
      go act (loaded m' number bytes address l e) = sent-seen machine_state m m memory reply m' (laid bytes address memory) (request_load number 0)
      go act (dumped l) = sent-seen machine_state m m memory reply m memory (dump_data f.address (bytes_from memory f.address (min f.count s.reply_bytes)))
      go act (completed e) = λ _ _ q. absurd (omega arith)
      go act (looped c e) = sent-seen machine_state m m memory reply m memory (looped_data f.receipt (part frame f))

  pub machine_timer-seen : Seen machine_state m memory reply (machine_timer s m memory reply)
  machine_timer-seen =
      called machine_state m m memory reply (machine_checks.refusal s m (length memory) (length reply)) (on_machine_timer s m memory)
      (by_cases O (machine.is 2 m) (λ _. sent-seen machine_state m m memory reply m memory (request_program s.device 1 2 255 [] s.processor [])) (λ _.
      by_cases O (machine.is 1 m) (λ _. sent-seen machine_state m m memory reply m memory (request_dump_service s.device 1 (length memory) 0 [])) (λ _. idles)))
    where
      O : Sending → Type 0
      O out = M (acts m memory out)
