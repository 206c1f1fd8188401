-- Where what every run keeps holds and fewer than 2^64 - 1 frames were handed over, the record is not bad and every frame on its way is read:
-- with a reply buffer of 1,500 bytes no call is refused.
use Prim.Native.Nat.{ℕ, zero, suc, ◌+◌, ◌%◌, ◌≤◌, ◌<◌}
use Rattle.std.specs.Prelude.{◌≡◌, refl, Bool, true, false, not, cond as pick, List, ◌∷◌, length, eqb}
use Rattle.std.proofs.Common.{⊎_elim, eq-eqb, ne_eqb, le-leb, eqb-true}
use native.Mathlib.Omega.{arith}
use Rattle.std.proofs.lemmas.Bool.{eqb-false}
use Rattle.octets.specs.Number.{Octets}
use Rattle.octets.specs.TestLaws.{by_cases}
use Rattle.message.specs.declared.Fields.{Fields}
use Rattle.message.specs.Read.{fields}
use Rattle.message.specs.Write.{layout}
use Rattle.message.specs.Laws.{request_load-fields, request-program-fields}
use Rattle.image.specs.Image.{cut_refusal, widest}
use Rattle.directory.specs.Directory.{demand}
use Rattle.directory.specs.Directory.{refusal as image_refusal}
use Rattle.image.specs.Laws.{ready}
use Rattle.step.specs.Step.{first}
use Rattle.parameters.specs.Parameters.{none}
use Rattle.machine_record.specs.declared.Machine.{Machine}
use Rattle.machine_record.specs.declared.Settings.{Settings as MachineSettings}
use Rattle.machine_record.specs.Record.{requesting}
use Rattle.version.specs.Version.{known}
use Rattle.machine_checks.specs.Checks.{refusal as machine_refusal}
use Rattle.machine_checks.specs.Laws.{in_range}
use Rattle.machine_number.specs.Number.{after as after-number}
use Rattle.counts.specs.Counts.{sum, top}
use Rattle.counts.proofs.Laws.{sum_below}
use Rattle.load_record.specs.declared.Session.{Session}
use Rattle.load_record.specs.declared.Settings.{Settings as LoadSettings}
use Rattle.load_record.specs.Record.{tallied}
use Rattle.load_next.specs.Next as next
use Rattle.load_timer.specs.Timer as load-timer
use Rattle.load_checks.specs.Checks as load-checks
use Rattle.load_valid.specs.Valid as load-valid
use Rattle.load_checks.specs.Laws.{string-whole}
use Rattle.load.specs.Load as load
use Rattle.link.specs.Link.{Frame, World, Left}
use Rattle.link.proofs.CallLaws as call
use Rattle.link.proofs.CountedLaws.{only-ignored}
use Rattle.link.proofs.RestartLaws.{first-down, first-up}
use Rattle.link.specs.Unrefused.{Unrefused}
use Rattle.link.specs.MachineEnd.{End}
use Rattle.link.proofs.MachineEndLaws.{frame-unrefused, timer_unrefused, as_accepted}
use Rattle.link_load.specs.Model.{host_end, load_ends}
use Rattle.link_load.proofs.AloneLaws.{Good, Counting, bound}
use Rattle.link_load.proofs.FramesLaws.{Frames, machine_at, At, length-laid, said}
use Rattle.link_load.proofs.ImageLaws.{frame-read}
use Rattle.link_load.proofs.SenderLaws.{sending, Misses}
use Rattle.link_load.proofs.KeptLaws.{fr, Kept}

-- ---- the host's record alone: one with good numbers, and counts below their top that say what they should, is none of those that are bad
module _ (s : LoadSettings) (N : ℕ) (h : Session) (g : Good N s.repeats (load-valid.restarts_allowed s) h) (k : Counting h) (t : sum h.counts < top) where
  sound : load-valid.sound s h ≡ true
  sound = rw (le-leb h.verdict 4 g.verdict, le-leb h.repeats s.repeats g.repeats, le-leb h.restarts (load-valid.restarts_allowed s) g.restarts, le-leb h.waiting 1 g.flag, sum_below h.counts t, blank)
    where
      blank : pick (eqb h.waiting 1) (load-valid.blank h) true ≡ true
      blank =
          by_cases (λ (b : Bool). b ≡ true) (eqb h.waiting 1)
          (λ w. let z = g.waiting (eqb-true _ _ w) in
          rw (eq-eqb _ _ z.0, eq-eqb _ _ z.1, eq-eqb _ _ z.2, eq-eqb _ _ z.3, eq-eqb _ _ z.4, only-ignored k (eqb-true _ _ w) z.4 z.0 (omega arith))) (λ _. refl)

  consistent : load-checks.consistent N s h ≡ true
  consistent = rw (le-leb h.position N reaches, le-leb h.sent (load-checks.most_sent h.restarts N s.repeats) (bound N s.repeats (load-valid.restarts_allowed s) h g), placed)
    where
      reaches : h.position ≤ N
      reaches = at (eqb h.verdict 1) refl
        where
          at : (d : Bool) → eqb h.verdict 1 ≡ d → h.position ≤ N
          at true v = let z = g.finished (eqb-true _ _ v) in omega arith
          at false v = let z = g.otherwise (eqb-false _ _ v) in omega arith

      placed : pick (eqb h.verdict 1) (eqb h.position N) (not (eqb h.position N)) ≡ true
      placed =
          by_cases (λ (b : Bool). b ≡ true) (eqb h.verdict 1) (λ v. eq-eqb h.position N (g.finished (eqb-true _ _ v)).0)
          (λ v. let z = g.otherwise (eqb-false _ _ v) in rw (ne_eqb h.position N (omega arith)))

-- so with a reply buffer of 1,500 bytes no call is refused but for its frame
not-refused : (s : LoadSettings) (file string : List ℕ) (h : Session) (reply : List ℕ) → cut_refusal file s.segment_size ≡ 0
    → load-checks.string_refusal s string ≡ 0 → load-checks.few s (load-checks.frames s file) ≡ true → s.repeats ≤ 255 → s.with_parameters ≤ 1 → s.restart ≤ 1
    → known s.version ≡ true → Good (load-checks.frames s file) s.repeats (load-valid.restarts_allowed s) h → Counting h → sum h.counts < top → 1500 ≤ length reply → load-checks.refusal s h file string reply ≡ 0
unfolding first demand
not-refused s file string h reply ok good small few mark restart version g k t l =
    let r = ready file s.segment_size ok in
    let low = le-leb 1 s.segment_size r.some in
    let high = le-leb s.segment_size widest r.narrow in
    let whole : image_refusal file ≡ 0 = rw (low, high) at ok in
    rw (low, high, le-leb s.repeats 255 few, le-leb s.with_parameters 1 mark, le-leb s.restart 1 restart, version, sound s (load-checks.frames s file) h g k t, le-leb 1500 (length reply) l, whole, small, consistent s (load-checks.frames s file) h g k t, good)

module _
    (s : LoadSettings) (ms : MachineSettings) (file string old : List ℕ) (ok : cut_refusal file s.segment_size ≡ 0) (o : Octets file)
    (good : load-checks.string_refusal s string ≡ 0) (small : load-checks.few s (load-checks.frames s file) ≡ true) (same : ms.version ≡ s.version)
    (few : s.repeats ≤ 255) (mark : s.with_parameters ≤ 1) (restart : s.restart ≤ 1) (fresh : machine_refusal ms requesting (length old) 1500 ≡ 0)
    (b : Left Session End) (w : World Session End) (k : Kept s ms file string old ok o good small b w) (short : w.heard < top) where
  abbrev t : Frames ms
  t = fr s ms file string old ok o good small

  -- memory when the load began, or began again
  abbrev then : List ℕ
  then = b.machine.memory

  -- the machine's version is known, and it is the host's
  version : known s.version ≡ true
  version = rw (← same) (in_range ms requesting (length old) 1500 fresh).3

  host-accepted : (reply : List ℕ) → 1500 ≤ length reply → load-checks.refusal s w.host file string reply ≡ 0
  host-accepted reply l = not-refused s file string w.host reply ok good small few mark restart version k.1.good k.1.says (omega (arith, k.1.hears)) l

  -- the machine's state and memory length stay within their ranges
  any : (a b : Bool) (x y z : Machine) → x.state ≤ 4 → y.state ≤ 4 → z.state ≤ 4 → (pick a (pick b x y) z).state ≤ 4
  any true true x y z p q r = p
  any true false x y z p q r = q
  any false b x y z p q r = r

  state : (m : ℕ) → (machine_at t then m).state ≤ 4
  unfolding machine_at
  state zero = omega arith
  state (suc m) = any (t.fit m) (eqb (m + 1) t.many) (t.done none) _ _ (omega arith) (omega arith) (omega arith)

  -- after m answers, as many as there are frames at most
  at-accepted : (reply : List ℕ) (m : ℕ) → 1500 ≤ length reply → m ≤ t.many → w.machine ≡ At t then m
      → machine_refusal ms w.machine.machine (length w.machine.memory) (length reply) ≡ 0
  at-accepted reply m l few e =
      rw (e, length-laid t then k.0.0.1 m few)
      (as_accepted ms requesting (machine_at t then m) (length old) (length reply) (omega arith) (state m) l fresh)

  machine-accepted : (reply : List ℕ) → 1500 ≤ length reply → machine_refusal ms w.machine.machine (length w.machine.memory) (length reply) ≡ 0
  machine-accepted reply l =
      ⊎_elim (λ i. at-accepted reply i.0 l i.2.few i.2.end_is) (λ u. at-accepted reply 0 l (omega arith) u.end_is) k.0.1

  -- every frame that the machine sends is read, and every frame of the load
  said_read : (k : ℕ) → (fields s.version (layout (said t then k))).refusal ≡ 0
  said_read zero = rw (request-program-fields s.version ms.device ms.processor)
  said_read (suc k) = rw (request_load-fields s.version (after-number (k % 256)) (pick (t.fit k) 0 1))

  abbrev E : ℕ
  E = load-valid.restarts_allowed s

  host-read : (f : Frame) (q : List Frame) → w.to_host ≡ f ∷ q → (fields s.version f).refusal ≡ 0
  host-read f q e =
      let x = first-up (sending t s.repeats E b) (Misses t s.repeats E b) (load_ends s ms file string) w f q k.0.1 e in
      rw x.1 (said_read x.0)

  machine-read : (f : Frame) (q : List Frame) → w.to_machine ≡ f ∷ q → (fields ms.version f).refusal ≡ 0
  machine-read f q e =
      let x = first-down (sending t s.repeats E b) (Misses t s.repeats E b) (load_ends s ms file string) w f q k.0.1 e in
      let less : x.0 < t.many = ⊎_elim (λ l. l) (λ p. p.0) x.2 in
      rw x.1 (frame-read s ms file string (length old) ok o (string-whole s string good) x.0 less same)

  pub unrefused : Unrefused (load_ends s ms file string) w
  unrefused =
      record {
        host_frame = λ f q b e l.
            call.frame-unrefused host_end s.version (load-checks.refusal s w.host file string b) f w.host tt b
            (λ (x : Fields). load.does s file string (tallied w.host (next.react (load-checks.frames s file) s.restart w.host x))) (host-accepted b l) (host-read f q e);
        host_timer = λ b l.
            call.unrefused host_end (load-checks.refusal s w.host file string b) w.host tt b
            (load.does s file string (load-timer.on_timer (load-checks.frames s file) s.repeats w.host)) (host-accepted b l);
        machine_frame = λ f q b e l. frame-unrefused ms w.machine.machine w.machine.memory b f (machine-accepted b l) (machine-read f q e);
        machine_timer = λ b l. timer_unrefused ms w.machine.machine w.machine.memory b (machine-accepted b l);
      }
