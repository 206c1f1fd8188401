-- Every rehearsal is a run of the link (PROTOCOL 6, 'Link'). For every accepted input:
--     linked      its letters are events of the link with queues of 16 frames, and it ends in the world that they lead to
--     one_each    each letter is one event
--     on_link     so there is a list of the link's own events after which both ends and what is counted are the same
--     last_line   the transcript's last line speaks of that world: verdict, host frames, transfer address and memory
--     reported    the host's report is true of the machine's memory
--     loaded      verdict 1: the machine holds the program, and no other byte of memory changed
--     no_block    no parameter block is laid over it
use Rattle.std.specs.Prelude.{ℕ, ◌≡◌, refl, false, List, [], ◌++◌, length, replicate}
use Rattle.std.proofs.Common.{ap, sym, subst, ◌∙◌, append_assoc, arith, eq-eqb}
use Rattle.std.proofs.lemmas.List.{length-replicate}
use Rattle.machine_record.specs.Record as machine
use Rattle.machine_checks.specs.Checks as machine_checks
use Rattle.load_record.specs.declared.Session.{Session}
use Rattle.job.specs.Run.{begin_line, end_line}
use Rattle.rehearse.specs.Rehearse.{begin, fresh, places, letters_of, transcript}
use Rattle.link.specs.Link.{World, Event, left, run}
use Rattle.link.specs.Bounded.{run_within, Alike}
use Rattle.link.proofs.Theorem.{bounded}
use Rattle.link.specs.MachineEnd.{End}
use Rattle.link_load.specs.Report.{Report, lays_block, Loaded}
use Rattle.link_load.specs.Model.{Reset}
use Rattle.link_load.proofs.KeptLaws.{reset-alike}
use Rattle.link_load.proofs.LoadedLaws.{all_in}
use Rattle.link_load.proofs.Audit.{bounded-once}
use Rattle.rehearse_link.specs.Rehearsed.{asked, Accepted, settings, image, zeros, begun, ended, ends, fresh_ends, events, world_at_end}
use Rattle.rehearse_link.proofs.TurnLaws.{no_string}
use Rattle.rehearse_link.proofs.LetterLaws as letter
use Rattle.rehearse_link.proofs.InputLaws.{Ready, ready}
use Rattle.rehearse_link.proofs.FoldLaws.{empty_ring, whole, last}

module _ (input : List ℕ) (a : Accepted input) where
  accepted : Ready input (asked input)
  accepted = ready input (replicate 4096 0) a

  pub linked : run_within 16 (ends input) (fresh_ends input) (events input) ≡ world_at_end input
  linked =
      let size : length (zeros input) ≡ (asked input).job.script.memory = length-replicate {A = ℕ} (asked input).job.script.memory 0 in
      let fit : machine_checks.refusal (settings input).machine machine.requesting (length (zeros input)) 1500 ≡ 0 =
      ap (λ (n : ℕ). machine_checks.refusal (settings input).machine machine.requesting n 1500) size ∙ accepted.settings in
      whole (settings input) (image input) (zeros input) accepted.image accepted.octets accepted.versions accepted.few accepted.mark accepted.once fit places places (replicate 1500 0) empty_ring empty_ring
      (length-replicate {A = ℕ} 1500 0) (letters_of input (asked input).job) accepted.letters (omega (arith, accepted.short))

  pub one_each : length (events input) ≡ length (letters_of input (asked input).job)
  one_each = letter.one_each (settings input) (image input) (begun input) (letters_of input (asked input).job) accepted.letters

  pub on_link : (es : List (Event (Reset (settings input).host))) × Alike (run (ends input) (fresh_ends input) es) (world_at_end input)
  on_link =
      subst (λ (w : World Session End). (es : List (Event (Reset (settings input).host))) × Alike (run (ends input) (fresh_ends input) es) w) linked
      (bounded (ends input) (reset-alike (settings input).machine) 16 (fresh_ends input) (events input))

  pub last_line : (front : List ℕ) × (transcript input ≡ front ++ end_line (ended input).ends (ended input).memory)
  last_line =
      let x = last (settings input) (image input) (begun input) (letters_of input (asked input).job) in
      let t = begin (settings input) (fresh (asked input).job.script.memory) in (
        begin_line t ++ x.0,
        (rw (eq-eqb (asked input).refusal 0 a)) ∙ ap (λ (l : List ℕ). begin_line t ++ l) x.1 ∙ sym (append_assoc (begin_line t) x.0 (end_line (ended input).ends (ended input).memory)),
      )

  -- there is no reset in a rehearsal: the report is measured from the memory before its first event
  never : (settings input).host.restart ≡ 1 → ⊥
  never e = omega (arith, accepted.once)

  pub reported : Report (settings input).host (settings input).machine (image input) [] (zeros input) (left (fresh_ends input)) (world_at_end input)
  reported =
      subst (Report (settings input).host (settings input).machine (image input) [] (zeros input) (left (fresh_ends input))) linked
      (bounded-once (settings input).host (settings input).machine (image input) [] (zeros input) accepted.image accepted.octets (no_string (settings input).host) (rw accepted.once) never 16 (events input))

  pub loaded : (ended input).ends.session.verdict ≡ 1 → Loaded (settings input).host (settings input).machine (image input) [] (zeros input) (world_at_end input).machine
  loaded e =
      all_in (settings input).host (settings input).machine (image input) [] (zeros input) accepted.image (world_at_end input).machine ((reported.heard-of refl).finished e)

  pub no_block : lays_block (settings input).host (settings input).machine ≡ false
  no_block = accepted.no_block
