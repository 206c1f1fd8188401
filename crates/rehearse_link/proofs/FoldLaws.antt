-- A whole rehearsal is a run of the link with queues of 16 frames, from fresh ends on.
use Rattle.std.specs.Prelude.{ℕ, ◌+◌, ◌≤◌, ◌<◌, ◌≡◌, refl, true, replicate, ltb}
use Rattle.std.proofs.Math.Path.{ap, sym, subst}
use Rattle.std.proofs.Common.{◌∙◌, length-append}
use mathlib.Core.List.{List, [], ◌∷◌, ◌++◌, append-nil, append_assoc}
use native.Mathlib.Omega.{arith}
use Rattle.std.proofs.Math.ListN.{length}
use Rattle.std.proofs.lemmas.List.{length-replicate, get_or-replicate}
use Rattle.octets.specs.Number.{Octets}
use Rattle.text.specs.Find.{index_of}
use Rattle.octets.specs.TestLaws.{both}
use Rattle.counts.specs.Counts.{sum, top}
use Rattle.image.specs.Image.{cut_refusal}
use Rattle.image.specs.Laws.{ready}
use Rattle.machine_record.specs.Record as machine
use Rattle.machine_checks.specs.Checks as machine_checks
use Rattle.machine_timer.specs.Timer.{on_timer}
use Rattle.load_record.specs.declared.Session.{Session}
use Rattle.queue.specs.Queue.{empty}
use Rattle.script.specs.Script.{only, events}
use Rattle.job.specs.declared.Setup.{Setup}
use Rattle.job.specs.Run.{Run, run, fresh_ends, end_line}
use Rattle.rehearse.specs.Rehearse.{event, event_line, begin, after, lines, places}
use Rattle.link.specs.Link.{Frame, Turn, World, Ends, Event, machine_turn}
use Rattle.link.specs.MachineEnd.{End, machine_end}
use Rattle.link.proofs.CallLaws.{told_as}
use Rattle.link.specs.Bounded.{within, step_within, run_within}
use Rattle.link.specs.Unrefused.{Unrefused}
use Rattle.load_checks.specs.Checks as checks
use Rattle.link_load.specs.Model.{Reset, load_ends, fresh_world}
use Rattle.link_load.proofs.Audit.{bounded_load, bounded-never-refused}
use Rattle.rehearse_link.specs.Ring.{frames_from, frames, Ring}
use Rattle.rehearse_link.specs.World.{world, event_at, events_of}
use Rattle.rehearse_link.proofs.LetterLaws.{one}
use Rattle.rehearse_link.proofs.TurnLaws.{no_string}
use Rattle.rehearse_link.proofs.StepLaws.{Room, steps}

run-joined : {H M X : Type 0} (ends : Ends H M X) (w : World H M) (es fs : List (Event X))
    → run_within 16 ends w (es ++ fs) ≡ run_within 16 ends (run_within 16 ends w es) fs
unfolding run_within
run-joined ends w [] fs = refl
run-joined ends w (e ∷ es) fs = run-joined ends (step_within 16 ends w e) es fs

-- 16 places of 1,500 zeros, and no frame
pub empty_ring : Ring empty places
empty_ring =
    let place : List ℕ = replicate 1500 0 in
    record {
      few = omega arith;
      all_lengths = length-replicate {A = ℕ} 16 0;
      all-places = length-replicate 16 place;
      wide = λ p h. ap length (get_or-replicate 16 p place [] h) ∙ length-replicate {A = ℕ} 1500 0;
    }

module _ (s : Setup) (file old : List ℕ) (ok : cut_refusal file s.host.segment_size ≡ 0) (o : Octets file) (same : s.machine.version ≡ s.host.version)
    (few : s.host.repeats ≤ 255)
    (mark : s.host.with_parameters ≤ 1) (once : s.host.restart ≡ 0) (fresh : machine_checks.refusal s.machine machine.requesting (length old) 1500 ≡ 0) where
  abbrev ends : Ends Session End (Reset s.host)
  ends = load_ends s.host s.machine file []

  abbrev reached : List (Event (Reset s.host)) → World Session End
  reached es = run_within 16 ends (fresh_world s.machine old) es

  -- no restart, and so any number of frames
  small : checks.few s.host (checks.frames s.host file) ≡ true
  small = rw once

  unrefused : (es : List (Event (Reset s.host))) → length es < top → Unrefused ends (reached es)
  unrefused es short = bounded-never-refused s.host s.machine file [] old ok o (no_string s.host) small same few mark (omega (arith, once)) fresh 16 es short

  -- ---- letters in turn
  folds : (es : List (Event (Reset s.host))) (r : Run) → Room r → (k j : ℕ) → reached es ≡ world k j r → (letters : List ℕ) → only events letters ≡ true
      → length es + length letters < top
      → (n : ℕ) × (i : ℕ) × (reached (es ++ events_of s file r letters) ≡ world n i (after s file r letters))
  unfolding events_of after only
  folds es r room k j e [] are short = (k, j, ap reached (append-nil es) ∙ e)
  folds es r room k j e (letter ∷ rest) are short =
      let letters = both (ltb (index_of letter events) (length events)) (only events rest) are in
      let u : Unrefused ends (world k j r) = subst (Unrefused ends) e (unrefused es (omega arith)) in
      let x = steps s file (ready file s.host.segment_size ok).narrow r room k j u letter in
      let y : reached (es ++ event_at r.reply letter) ≡ world x.1.0 x.1.1 (event s file r letter).run =
      run-joined ends (fresh_world s.machine old) es (event_at r.reply letter)
      ∙ ap (λ (w : World Session End). run_within 16 ends w (event_at r.reply letter)) e ∙ x.1.2 in
      let count : length (es ++ event_at r.reply letter) + length rest < top =
      rw (length-append es (event_at r.reply letter)) (omega (arith, one (Reset s.host) r.reply letter letters.0)) in
      let z = folds (es ++ event_at r.reply letter) (event s file r letter).run x.0 x.1.0 x.1.1 y rest letters.1 count in
      (z.0, z.1, ap reached (sym (append_assoc es (event_at r.reply letter) (events_of s file (event s file r letter).run rest))) ∙ z.2)

  -- ---- the first step: the machine's first frame, as its timer gives it
  module _ (hosts machines : List (List ℕ)) (reply : List ℕ) (g : Ring empty hosts) (i : Ring empty machines) (l : length reply ≡ 1500) where
    abbrev blank : Run
    blank = run fresh_ends old hosts machines reply

    no_frame : (f : Frame) (q : List Frame) → [] ≡ f ∷ q → ⊥
    no_frame f q e = let z : ◌≡◌ {A = ℕ} 0 1 = cc in omega arith

    blank-unrefused : Unrefused ends (world 0 0 blank)
    unfolding frames_from run_within
    blank-unrefused =
        record {
          host_frame = λ f q b e _ _. no_frame f q e;
          host_timer = (unrefused [] (omega arith)).host_timer;
          machine_frame = λ f q b e _ _. no_frame f q e;
          machine_timer = (unrefused [] (omega arith)).machine_timer;
        }

    begins : Room (begin s blank).run × ((k : ℕ) × (j : ℕ) × (fresh_world s.machine old ≡ world k j (begin s blank).run))
    unfolding frames_from run_within
    begins =
        let room : Room blank = record { hosts = g; machines = i; reply = l; running = omega arith } in
        let x = steps s file (ready file s.host.segment_size ok).narrow blank room 0 0 blank-unrefused 110 in
        let a = on_timer s.machine machine.requesting old in
        let accepted : machine_checks.refusal s.machine machine.requesting (length old) (length reply) ≡ 0 = rw l fresh in
        let t = told_as machine_end (machine_checks.refusal s.machine machine.requesting (length old) (length reply)) machine.requesting old reply a accepted in
        let y : within 16 (machine_turn (world 0 0 blank) [] (ends.machine_timer (machine_end machine.requesting old) reply)) ≡ fresh_world s.machine old =
        ap (λ (v : Turn End). within 16 (machine_turn (world 0 0 blank) [] v)) t in
        (x.0, (x.1.0, x.1.1, sym y ∙ x.1.2))

    -- the whole: what the link has taken and handed over is what the host counts
    pub whole : (letters : List ℕ) → only events letters ≡ true → length letters < top
        → reached (events_of s file (begin s blank).run letters)
        ≡ world (after s file (begin s blank).run letters).ends.session.sent (sum (after s file (begin s blank).run letters).ends.session.counts) (after s file (begin s blank).run letters)
    unfolding run_within
    whole letters are short =
        let r = (begin s blank).run in
        let last = after s file r letters in
        let x = folds [] r begins.0 begins.1.0 begins.1.1 begins.1.2 letters are (omega arith) in
        let c = bounded_load s.host s.machine file [] old ok o (no_string s.host) small 16 (events_of s file r letters) in
        let taken : last.ends.session.sent ≡ x.0 =
        ap (λ (w : World Session End). w.host.sent) (sym x.2) ∙ c.counted ∙ ap (λ (w : World Session End). w.taken) x.2 in
        let heard : sum last.ends.session.counts ≡ x.1 =
        ap (λ (w : World Session End). sum w.host.counts) (sym x.2) ∙ c.handed ∙ ap (λ (w : World Session End). w.heard) x.2 in
        x.2 ∙ ap (λ (n : ℕ). world n x.1 last) (sym taken) ∙ ap (λ (j : ℕ). world last.ends.session.sent j last) (sym heard)

-- ---- the last line is that of the run after all letters
pub last : (s : Setup) (file : List ℕ) (r : Run) (letters : List ℕ)
    → (front : List ℕ) × (lines s file r letters ≡ front ++ end_line (after s file r letters).ends (after s file r letters).memory)
unfolding lines after
last s file r [] = ([], refl)
last s file r (letter ∷ rest) =
    let t = event s file r letter in
    let x = last s file t.run rest in
    (event_line letter t ++ x.0, ap (λ (l : List ℕ). event_line letter t ++ l) x.1 ∙ sym (append_assoc (event_line letter t) x.0 _))
