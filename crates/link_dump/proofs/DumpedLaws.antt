-- The claim of a dump: what every run from fresh ends keeps, and what it says of the dump buffer.
use Rattle.std.specs.Prelude.{ℕ, ◌<◌, ◌≤◌, ◌≡◌, refl, true, List, length}
use Rattle.std.proofs.Common.{sym, ap, subst, ◌∙◌, arith, length-append, length-drop}
use Rattle.std.proofs.Math.Decide.{ℕ_discrete}
use Rattle.std.proofs.Math.ListN.{get_elem?}
use borrow.Author.Tests.{le-leb}
use Rattle.memory.specs.Memory.{bytes_from}
use Rattle.memory.specs.Laws.{length-bytes_from}
use Rattle.step.specs.Step.{first}
use Rattle.machine_record.specs.declared.Settings.{Settings as MachineSettings}
use Rattle.machine_record.specs.Record as machine
use Rattle.machine_checks.specs.Checks as machine_checks
use Rattle.counts.specs.Counts.{sum, top}
use Rattle.dump_record.specs.declared.Settings.{Settings as DumpSettings}
use Rattle.dump_timer.specs.Timer.{on_timer}
use Rattle.dump_checks.specs.Checks as dump_checks
use Rattle.dump.specs.Dump as dump
use Rattle.link.specs.Link.{World, Event}
use Rattle.link.proofs.LinkLaws.{Closed, always}
use Rattle.link.proofs.CallLaws as call
use Rattle.link.proofs.AloneLaws.{Alone}
use Rattle.link.proofs.EachLaws.{Each}
use Rattle.link.specs.Bounded.{Alike, run_within}
use Rattle.link.proofs.BoundedLaws.{always-within}
use Rattle.link.proofs.ByteLaws.{same_byte}
use Rattle.link.specs.Unrefused.{Unrefused}
use Rattle.link.proofs.CountedLaws.{fresh as fresh-counts}
use Rattle.link.specs.MachineEnd.{End}
use Rattle.link.proofs.MachineEndLaws.{frame-unrefused, timer_unrefused, as_accepted}
use Rattle.link_dump.specs.Model.{Host, host_end, dump_ends, fresh_world, after, Copied, Dumped}
use Rattle.link_dump.proofs.FilledLaws as filled
use Rattle.link_dump.proofs.FilledLaws.{filled_with, past-filled, filled-whole}
use Rattle.link_dump.proofs.HostLaws.{heard, counted, timed}
use Rattle.link_dump.proofs.AloneLaws as alone
use Rattle.link_dump.proofs.AloneLaws.{Good, Counting, alone_dump, fresh, bound}
use Rattle.link_dump.proofs.InvariantLaws.{Carries, Asks, Tells, asks_read, tells-read, read, Given, given, Inv, closed, fresh_holds}

-- the claim says nothing of the queues
pub dumped-alike : (s : DumpSettings) (memory buffer : List ℕ) (w v : World Host End) → Alike w v → Dumped s memory buffer w → Dumped s memory buffer v
dumped-alike s memory buffer w v a d =
    let x : World Host End = record { host = w.host; machine = w.machine; to_machine = v.to_machine; to_host = v.to_host; taken = w.taken; heard = w.heard } in
    let same : x ≡ v = rw (a.0, a.1, a.2, a.3) in
    subst (Dumped s memory buffer) same (record {
      memory-is = d.memory-is;
      buffer-is = d.buffer-is;
      size = d.size;
      filled = d.filled;
      finished = d.finished;
      full = d.full;
      counted = d.counted;
      bounded = d.bounded;
      handed = d.handed;
      counts = d.counts;
      never-rejected = d.never-rejected;
      sound = d.sound;
    })

-- ---- the dump buffer, by the claim
module _ (s : DumpSettings) (memory buffer : List ℕ) (w : World Host End) (d : Dumped s memory buffer w) where
  pub copied : (k : ℕ) → k < w.host.session.filled → Copied memory s.address w.host.buffer k
  copied k h =
      subst (λ (x : List ℕ). Copied memory s.address x k) (sym d.buffer-is) (filled.copied memory s.address w.host.session.filled buffer k h)

  pub untouched : (k : ℕ) → w.host.session.filled ≤ k → get_elem? w.host.buffer k ≡ get_elem? buffer k
  untouched k h =
      same_byte w.host.buffer buffer k d.size (rw d.buffer-is (past-filled memory s.address w.host.session.filled buffer k h))

  pub whole : length buffer ≡ s.length → w.host.session.verdict ≡ 1 → w.host.buffer ≡ bytes_from memory s.address s.length
  whole size v =
      d.buffer-is ∙ ap (λ (n : ℕ). filled_with memory s.address n buffer) (d.finished v)
      ∙ filled-whole memory s.address s.length buffer (omega (arith, size))

module _
    (s : DumpSettings) (ms : MachineSettings) (memory buffer : List ℕ) (settled : dump_checks.settled s (length buffer) ≡ true)
    (ready : machine_checks.refusal ms machine.offering (length memory) 1500 ≡ 0) where
  abbrev g : Given s ms memory buffer
  g = given s ms memory buffer settled ready

  -- ---- what every run keeps: each end and each frame is as it may be, and the record's numbers and counts are good
  abbrev pub Counts : World Host End → Type 0
  Counts = Alone (Good s) Counting (λ h. h.session.sent) (λ h. sum h.session.counts) (dump_ends s ms)

  abbrev pub Kept : World Host End → Type 0
  Kept w = Inv s ms memory buffer g w × Counts w

  inv : Closed (dump_ends s ms) (Inv s ms memory buffer g)
  inv = closed s ms memory buffer g

  counting : Closed (dump_ends s ms) Counts
  counting = alone_dump s g.some (dump_ends s ms) (heard s) (timed s) (counted s)

  at_first : Kept (fresh_world ms memory buffer)
  at_first = (fresh_holds s ms memory buffer g, record { good = fresh s g.some buffer; took = refl; says = fresh-counts; hears = refl })

  pub kept : (es : List (Event ⊥)) → Kept (after s ms memory buffer es)
  kept es = (
    always (dump_ends s ms) (Inv s ms memory buffer g) inv (λ w x. absurd x) (fresh_world ms memory buffer) es at_first.0,
    always (dump_ends s ms) Counts counting (λ w x. absurd x) (fresh_world ms memory buffer) es at_first.1,
  )

  pub kept-within : (n : ℕ) (es : List (Event ⊥)) → Kept (run_within n (dump_ends s ms) (fresh_world ms memory buffer) es)
  kept-within n es = (
    always-within (dump_ends s ms) (Inv s ms memory buffer g) inv (λ w x. absurd x) n (fresh_world ms memory buffer) es at_first.0,
    always-within (dump_ends s ms) Counts counting (λ w x. absurd x) n (fresh_world ms memory buffer) es at_first.1,
  )

  module _ (w : World Host End) (k : Kept w) where
    pub claimed : Dumped s memory buffer w
    claimed =
        let n = k.1.good in
        let whole = g.whole in
        let few = n.filled in
        record {
          memory-is = k.0.end.held;
          buffer-is = k.0.host.held;
          size = rw k.0.host.held (simp (length-append, length-drop, length-bytes_from) (omega arith));
          filled = omega (arith, n.filled);
          finished = λ v. (n.finished v).0;
          full = λ e. full w.host.session.verdict w.host.session.filled n.unfinished e;
          counted = k.1.took;
          bounded = bound s g.some w.host n;
          handed = k.1.hears;
          counts = k.1.says;
          never-rejected = k.1.says.not-rejected n.never;
          sound = λ l. alone.never_bad s g.some w.host n k.1.says (omega (arith, k.1.hears));
        }
      where
        full : (v f : ℕ) → ((v ≡ 1 → ⊥) → f < s.length) → f ≡ s.length → v ≡ 1
        full v f u e = elim (ℕ_discrete v 1) [ yes p ↦ p | no p ↦ absurd (omega (arith, u p)) ]

    -- ---- refusals, as long as no count can be at its top
    module _ (short : w.heard < top) where
      host-accepted : (reply : List ℕ) → 1500 ≤ length reply → dump_checks.refusal s w.host.session (length w.host.buffer) (length reply) ≡ 0
      unfolding first
      host-accepted reply h = rw (claimed.size, settled, claimed.sound short, le-leb 1500 (length reply) h)

      machine-accepted : (reply : List ℕ) → 1500 ≤ length reply → machine_checks.refusal ms w.machine.machine (length w.machine.memory) (length reply) ≡ 0
      machine-accepted reply h =
          rw k.0.end.held (as_accepted ms machine.offering w.machine.machine (length memory) (length reply) (omega arith) (omega (arith, k.0.end.state)) h ready)

      pub unrefused : Unrefused (dump_ends s ms) w
      unrefused =
          record {
            host_frame = λ f q b e l.
                call.frame-unrefused host_end s.version _ f w.host.session w.host.buffer b (dump.on_frame s w.host.session f w.host.buffer) (host-accepted b l)
                (read s.version (Tells memory) (tells-read s.version memory) f (subst (Each (Carries (Tells memory))) e k.0.to_host).0);
            host_timer = λ b l.
                call.unrefused host_end _ w.host.session w.host.buffer b (dump.does s (on_timer s w.host.session) w.host.buffer) (host-accepted b l);
            machine_frame = λ f q b e l. frame-unrefused ms w.machine.machine w.machine.memory b f (machine-accepted b l)
                (read ms.version Asks (asks_read ms.version) f (subst (Each (Carries Asks)) e k.0.to_machine).0);
            machine_timer = λ b l. timer_unrefused ms w.machine.machine w.machine.memory b (machine-accepted b l);
          }
