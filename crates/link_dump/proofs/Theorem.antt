-- Demand 3 for a dump: after every list of link events from fresh ends, the host's report is true of its dump buffer and of the machine's memory.
--     dumped             the theorem, one claim over the whole list
--     filed_dump         a finished dump is the machine's memory, byte for byte
--     unfinished_dump    otherwise the filled part is, and the rest of the buffer is untouched
--     counted            frames sent is what the link took, within its bound
--     handed_dump        what each of the four counts is, and all of them together
--     never_bad          in fewer than 2^64 - 1 events no reached record is a bad one
--     never-refused      nor is a call of either end with a reply buffer of 1,500 bytes refused
--     bounded_dump, bounded-never-refused    the same on a line with bounded queues
--     started_dump       the fresh world is what the start calls leave
--     raised, raised_dump    (Repeats.antt) what a larger R changes, and what it cannot
use Rattle.std.specs.Prelude.{ℕ, ◌+◌, ◌*◌, ◌≤◌, ◌<◌, ◌≡◌, refl, true, List, length}
use Rattle.std.proofs.Common.{◌∙◌, arith}
use Rattle.std.proofs.Math.ListN.{get_elem?}
use Rattle.buffer.specs.declared.Written.{Written}
use Rattle.memory.specs.Memory.{bytes_from}
use Rattle.step.specs.Step.{Leaves}
use Rattle.machine_record.specs.declared.Machine.{Machine}
use Rattle.machine_record.specs.declared.Settings.{Settings as MachineSettings}
use Rattle.machine_record.specs.Record as machine
use Rattle.machine_checks.specs.Checks as machine_checks
use Rattle.machine_timer.specs.Timer.{machine_timer}
use Rattle.counts.specs.Counts.{sum, top}
use Rattle.dump_record.specs.declared.Session.{Session}
use Rattle.dump_record.specs.declared.Settings.{Settings as DumpSettings}
use Rattle.dump_record.specs.Record as dump_record
use Rattle.dump_checks.specs.Checks as dump_checks
use Rattle.link.specs.Link.{acts, turn, Event}
use Rattle.link.specs.Counted.{Counted}
use Rattle.link.specs.Bounded.{run_within}
use Rattle.link.proofs.FewLaws.{few, few-within}
use Rattle.link.proofs.Theorem.{bounded}
use Rattle.link.specs.Unrefused.{Unrefused}
use Rattle.link.specs.MachineEnd.{machine_end}
use Rattle.link.proofs.MachineEndLaws.{starts}
use Rattle.link_dump.specs.Model.{dump_ends, fresh_world, after, Copied, Dumped}
use Rattle.link_dump.proofs.InvariantLaws.{given}
use Rattle.link_dump.proofs.DumpedLaws.{dumped-alike, kept, kept-within, claimed, copied, untouched, whole, unrefused}

-- The fresh world is what the start calls leave: the host is `dump::start`'s; the machine and the one frame queued are what `mop_machine_start_dump`
-- left by its contract, if it was not refused.
pub started_dump : (ms : MachineSettings) (m : Machine) (memory buffer reply reply' : List ℕ) (answer : Written)
    → machine_checks.refusal ms machine.offering (length memory) (length reply) ≡ 0 → Leaves (machine_timer ms machine.offering memory reply) m answer memory reply'
    → ((fresh_world ms memory buffer).host.session ≡ dump_record.fresh)
    × (turn (machine_end m memory) answer reply' ≡ acts (fresh_world ms memory buffer).machine (fresh_world ms memory buffer).to_host)
started_dump ms m memory buffer reply reply' answer r l = (refl, starts ms machine.offering m memory memory reply reply' answer r l)

-- Accepted settings, any memory and dump buffer of accepted lengths, any list of events: the parameters of all that follows.
module _
    (s : DumpSettings) (ms : MachineSettings) (memory buffer : List ℕ) (settled : dump_checks.settled s (length buffer) ≡ true)
    (ready : machine_checks.refusal ms machine.offering (length memory) 1500 ≡ 0) (es : List (Event ⊥)) where
  -- The theorem.
  pub dumped : Dumped s memory buffer (after s ms memory buffer es)
  dumped = claimed s ms memory buffer settled ready (after s ms memory buffer es) (kept s ms memory buffer settled ready es)

  -- the host's record, its dump buffer and the machine's memory, then
  abbrev session : Session
  session = (after s ms memory buffer es).host.session

  abbrev filed : List ℕ
  filed = (after s ms memory buffer es).host.buffer

  abbrev memory-then : List ℕ
  memory-then = (after s ms memory buffer es).machine.memory

  -- A finished dump: the dump buffer holds L bytes, the machine's memory from address A on; a byte beyond memory's end is 0. Memory is as it was.
  pub filed_dump : session.verdict ≡ 1
      → (filed ≡ bytes_from memory s.address s.length) × (length filed ≡ s.length)
      × ((k : ℕ) → k < s.length → Copied memory s.address filed k) × (memory-then ≡ memory)
  filed_dump v =
      let g = given s ms memory buffer settled ready in
      let all : session.filled ≡ s.length = dumped.finished v in (
        whole s memory buffer (after s ms memory buffer es) dumped g.whole v,
        dumped.size ∙ g.whole,
        λ k h. copied s memory buffer (after s ms memory buffer es) dumped k (omega arith),
        dumped.memory-is,
      )

  -- Any other report: fewer than L bytes are filled; they are the machine's memory from address A on, and every byte of the dump buffer
  -- behind them is as it was before the dump. Memory is as it was.
  pub unfinished_dump : (session.verdict ≡ 1 → ⊥)
      → (session.filled < s.length) × (length filed ≡ s.length)
      × ((k : ℕ) → k < session.filled → Copied memory s.address filed k)
      × ((k : ℕ) → session.filled ≤ k → get_elem? filed k ≡ get_elem? buffer k) × (memory-then ≡ memory)
  unfinished_dump v =
      let g = given s ms memory buffer settled ready in
      let not-all : session.filled ≡ s.length → ⊥ = λ e. v (dumped.full e) in (
        omega (arith, dumped.filled, not-all),
        dumped.size ∙ g.whole,
        copied s memory buffer (after s ms memory buffer es) dumped,
        untouched s memory buffer (after s ms memory buffer es) dumped,
        dumped.memory-is,
      )

  -- The count of frames sent is no invention: it is the number of frames that the link took from the host. With n replies taken and R repeats
  -- allowed per frame it is at most (n + 1) × (R + 1) + 1.
  pub counted : (session.sent ≡ (after s ms memory buffer es).taken) × (session.sent ≤ (session.replies + 1) * (s.repeats + 1) + 1)
  counted = (dumped.counted, dumped.bounded)

  -- What each count of the record is: starts is 0 while the host waits and 1 from then on, advances is the number of replies taken, rejections is
  -- 0. All four together are the readable frames that the link handed to the host while its verdict was 0; so the rest of these were ignored.
  pub handed_dump : Counted session.waiting 0 session.replies session.verdict session.counts × (session.counts.rejections ≡ 0)
      × (sum session.counts ≡ (after s ms memory buffer es).heard)
  handed_dump = (dumped.counts, dumped.never-rejected, dumped.handed)

  -- After fewer than 2^64 - 1 events the record is none of those that a call refuses as bad.
  pub never_bad : length es < top → dump_checks.sound s session ≡ true
  never_bad short = dumped.sound (omega (arith, few (dump_ends s ms) (λ w x. absurd x) (fresh_world ms memory buffer) es))

  -- Nor is a call of either end with a reply buffer of at least 1,500 bytes refused, whatever the events before and their buffers: on a timer, or
  -- on the next frame of its queue.
  pub never-refused : length es < top → Unrefused (dump_ends s ms) (after s ms memory buffer es)
  never-refused short =
      unrefused s ms memory buffer settled ready (after s ms memory buffer es) (kept s ms memory buffer settled ready es)
      (omega (arith, few (dump_ends s ms) (λ w x. absurd x) (fresh_world ms memory buffer) es))

  -- On a line whose queues hold at most n frames, where a frame that finds its queue full is lost, the same claim holds, and no such call is refused.
  pub bounded_dump : (n : ℕ) → Dumped s memory buffer (run_within n (dump_ends s ms) (fresh_world ms memory buffer) es)
  bounded_dump n =
      let x = bounded (dump_ends s ms) (λ w v x. absurd x) n (fresh_world ms memory buffer) es in
      dumped-alike s memory buffer (after s ms memory buffer x.0) _ x.1
      (claimed s ms memory buffer settled ready (after s ms memory buffer x.0) (kept s ms memory buffer settled ready x.0))

  pub bounded-never-refused : (n : ℕ) → length es < top → Unrefused (dump_ends s ms) (run_within n (dump_ends s ms) (fresh_world ms memory buffer) es)
  bounded-never-refused n short =
      unrefused s ms memory buffer settled ready _ (kept-within s ms memory buffer settled ready n es)
      (omega (arith, few-within (dump_ends s ms) (λ w x. absurd x) n (fresh_world ms memory buffer) es))
