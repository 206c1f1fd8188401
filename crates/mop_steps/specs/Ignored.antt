-- How a caller sees that a step did nothing: no refusal, no frame to send, and the verdict, or the machine's state, as before. A load and a
-- dump that run count a frame that does nothing as ignored.
use Rattle.std.specs.Prelude.{ℕ, ◌≡◌, List}
use Rattle.step.specs.Step.{Outcome, ignores, gives}
use Rattle.counts.specs.Counts.{passed}
use Rattle.machine_record.specs.declared.Machine.{Machine}
use Rattle.load_record.specs.declared.Session.{Session as Load}
use Rattle.load_record.specs.Record as load
use Rattle.dump_record.specs.declared.Session.{Session as Dump}
use Rattle.dump_record.specs.Record as dump
use Rattle.looptest_record.specs.declared.Session.{Session as Loop}

-- what a caller compares with what it was
abbrev pub machine_state : Machine → ℕ
machine_state m = m.state

abbrev pub load_verdict : Load → ℕ
load_verdict h = h.verdict

abbrev pub dump_verdict : Dump → ℕ
dump_verdict h = h.verdict

abbrev pub loop_verdict : Loop → ℕ
loop_verdict h = h.verdict

-- with that answer, and that mark as it was, the step left this record, and all else as it was: what was lent to it, the reply buffer
abbrev pub Leaving : {H B : Type 0} → (H → ℕ) → H → H → B → List ℕ → Outcome H B → Type 0
Leaving mark h left lent reply o =
    o.answer.refusal ≡ 0 → o.answer.length ≡ 0 → mark o.end ≡ mark h → o ≡ gives (ignores left lent) reply

-- the record as it was, too
abbrev pub Seen : {H B : Type 0} → (H → ℕ) → H → B → List ℕ → Outcome H B → Type 0
Seen mark h lent reply o = Leaving mark h h lent reply o

-- the record of a load or a dump with a frame ignored, counted while it runs
abbrev pub load_passed : Load → Load
load_passed h = load.counting (passed h.verdict h.counts) h

abbrev pub dump_passed : Dump → Dump
dump_passed h = dump.counting (passed h.verdict h.counts) h
