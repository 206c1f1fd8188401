-- What a load's report means, in the auditor's words. Each theorem holds after every list of link events from fresh ends:
-- frames handed over, handed over and kept, dropped, both ways; timers; refused calls; and, if the load has the restart setting, resets of
-- the machine. `Event (Reset s)` has no others. The memory before is the one that the last reset left, and the fresh machine's if there was none.
--     finished_load, rejected_load, given-up_load, unconfirmed_load    what each report says of the machine
--     finished-once                                                    finished_load without the restart setting
--     all_in_load                                                      the same as finished_load where the machine is started
--     late_load, unheard_load                                          what a reset does to the claim, after the verdict and before
--     plain_load, block_load, block-leaves                             without a parameter block: each region whole; with one: what it says
--     parameters_load, no_parameters_load                              what a finished load leaves in its record
--     window_any, window_load     the bytes of the ROM window are the old ones, whatever the host is and sends
--     clear_load        no region of a finished load touches the ROM window
--     counted_load      frames sent is what the link took, within its bound
--     restarts-answer, unreset_load    every restart answers a reset; without one there is none
--     handed_load       what each of the four counts is, and all of them together
--     never-refused     in fewer than 2^64 - 1 events no call of either end with a reply buffer of 1,500 bytes is refused
--     bounded_load, bounded-finished, bounded-once, bounded-never-refused    the same on a line with bounded queues
--     started_load      the fresh world is what the start calls leave
--     raised, raised_load    (Repeats.antt, Raised.antt) what a larger R changes, and what it cannot
--     never-reset       (Theorem.antt) without the restart setting there is no reset, and the memory before is the fresh machine's
use Rattle.std.specs.Prelude.{ℕ, ◌+◌, ◌*◌, ◌≤◌, ◌<◌, ◌≡◌, refl, Bool, true, false, List, [], map, ◌⊎◌, length, take, drop}
use Rattle.std.proofs.Common.{sym, subst, ◌∙◌, inl, inr, ⊎_elim, arith, eqb-true}
use Rattle.std.proofs.Math.ListN.{get_elem?}
use Rattle.buffer.specs.declared.Written.{Written}
use Rattle.octets.specs.Number.{Octets}
use Rattle.octets.specs.TestLaws.{both}
use Rattle.version.specs.Version.{v21, older}
use Rattle.window.specs.Window.{Lies, InWindow}
use Rattle.directory.specs.declared.Region.{Region}
use Rattle.image.specs.Image.{cut_refusal}
use Rattle.step.specs.Step.{Leaves}
use Rattle.message.specs.Laws.{listed-whole}
use Rattle.parameters.specs.Parameters.{none, kept as kept_of}
use Rattle.std.specs.Prelude.{None}
use Rattle.block.specs.Block.{place}
use Rattle.holds.specs.Holds.{Absent, Last, Holds}
use Rattle.holds.specs.Laws.{holds}
use Rattle.machine_record.specs.declared.Machine.{Machine}
use Rattle.machine_record.specs.declared.Settings.{Settings as MachineSettings}
use Rattle.machine_record.specs.Record as machine
use Rattle.machine_checks.specs.Checks as machine_checks
use Rattle.machine_timer.specs.Timer.{machine_timer}
use Rattle.counts.specs.Counts.{sum, top}
use Rattle.load_record.specs.declared.Session.{Session}
use Rattle.load_record.specs.declared.Settings.{Settings as LoadSettings}
use Rattle.load_record.specs.Record as load-record
use Rattle.load_checks.specs.Checks.{given, frames, few, string_refusal}
use Rattle.load_valid.specs.Valid.{restarts_allowed}
use Rattle.load_checks.specs.Laws.{string-whole}
use Rattle.link.specs.Link.{Frame, Turn, acts, turn, World, Own, Event, own, Left, left, last_left, step, run}
use Rattle.link.proofs.LinkLaws.{none_left, own-left}
use Rattle.link.specs.Counted.{Counted}
use Rattle.link.specs.Bounded.{step_within, run_within}
use Rattle.link.proofs.FewLaws.{few as heard-few, few-within}
use Rattle.link.proofs.Theorem.{window_kept, reset-leaves}
use Rattle.link.specs.Unrefused.{Unrefused}
use Rattle.link.specs.MachineEnd.{End, machine_end, ends_with, fresh_with}
use Rattle.link.proofs.MachineEndLaws.{starts}
use Rattle.link.specs.Reset.{resets}
use Rattle.link_load.specs.Model.{Reset, on_reset, load_ends, fresh_world, after, last_reset, heard_at_once, has_heard, FirstIn}
use Rattle.link_load.specs.Report.{Report, lays_block, block_at, Loaded, Name, Spelled, Entry}
use Rattle.link_load.proofs.KeptLaws.{no_reset, reset_window, reset_unheard, kept, kept-within}
use Rattle.link_load.proofs.ReportLaws.{report, on_way, started-all_in, started-heard}
use Rattle.link_load.proofs.LoadedLaws.{all-segments, clear_of, whole-region, all_in}
use Rattle.link_load.proofs.BlockLaws.{spelled, left_alone}
use Rattle.link_load.proofs.RefusalLaws.{unrefused}
use Rattle.link_load.proofs.Theorem.{reported, never-reset}

-- The fresh world is what the start calls leave: the host is `load::start`'s; the machine and the one frame queued are what `mop_machine_start_load`
-- left by its contract, if it was not refused.
pub started_load : (ms : MachineSettings) (m : Machine) (memory reply reply' : List ℕ) (answer : Written)
    → machine_checks.refusal ms machine.requesting (length memory) (length reply) ≡ 0 → Leaves (machine_timer ms machine.requesting memory reply) m answer memory reply'
    → ((fresh_world ms memory).host ≡ load-record.fresh) × (turn (machine_end m memory) answer reply' ≡ acts (fresh_world ms memory).machine (fresh_world ms memory).to_host)
started_load ms m memory reply reply' answer r l = (refl, starts ms machine.requesting m memory memory reply reply' answer r l)

-- The bytes of the machine's ROM window are the old ones, whatever the host is and sends: any record, any calls on a frame and on a timer,
-- whichever frames are to be counted, and however often the machine is reset (each such event carries the new bytes of memory).
pub window_any : {H : Type 0} (ms : MachineSettings) (host : H) (hears : H → Frame → Bool) (frame : H → Frame → List ℕ → Turn H) (timer : H → List ℕ → Turn H) (old : List ℕ)
    → (es : List (Event (List ℕ))) (a : ℕ) → InWindow ms.window a
    → get_elem? (run (ends_with ms hears frame timer (resets ms)) (fresh_with ms host machine.requesting old) es).machine.memory a ≡ get_elem? old a
window_any ms host hears frame timer old =
    window_kept ms hears frame timer (resets ms) (λ w x. (reset-leaves ms w x).1) (fresh_with ms host machine.requesting old)

-- So it is beside the host of this library, with any image and any string, accepted or not.
pub window_load : (s : LoadSettings) (ms : MachineSettings) (file string old : List ℕ) (es : List (Event (Reset s))) (a : ℕ) → InWindow ms.window a
    → get_elem? (after s ms file string old es).machine.memory a ≡ get_elem? old a
window_load s ms file string old =
    let ends = load_ends s ms file string in
    window_kept ms ends.hears ends.host_frame ends.host_timer (on_reset ms) (reset_window ms) (fresh_world ms old)

-- an accepted image of bytes, cut into segments of the settings' size; no parameter string, or an accepted one; no more frames than a load with
-- the restart setting may have, if it has it; any memory, any settings of the machine, of whichever version
module _
    (s : LoadSettings) (ms : MachineSettings) (file string old : List ℕ) (ok : cut_refusal file s.segment_size ≡ 0) (o : Octets file)
    (good : string_refusal s string ≡ 0) (small : few s (frames s file) ≡ true) where
  abbrev reached : List (Event (Reset s)) → World Session End
  reached es = after s ms file string old es

  -- the ends as the last reset left them, and the memory then; the fresh ones and the fresh machine's if there was none
  abbrev mark : List (Event (Reset s)) → Left Session End
  mark es = last_reset s ms file string old es

  abbrev before : List (Event (Reset s)) → List ℕ
  before es = (last_reset s ms file string old es).machine.memory

  -- the host has heard of the last reset; and, which is sooner seen: that reset did not come after the verdict
  abbrev Heard : List (Event (Reset s)) → Type 0
  Heard es = has_heard (last_reset s ms file string old es) (after s ms file string old es).host ≡ true

  abbrev InTime : List (Event (Reset s)) → Type 0
  InTime es = (last_reset s ms file string old es).host.verdict ≡ 0

  abbrev n : ℕ
  n = frames s file

  abbrev truth : (es : List (Event (Reset s))) → Report s ms file string old (mark es) (reached es)
  truth es = reported s ms file string old ok o good small es

  -- what the string says under 2.1, where both ends are of it
  held_under_2_1 : ms.version ≡ s.version → lays_block s ms ≡ true → Holds v21 (kept_of string) string
  held_under_2_1 same lays =
      let z = both (given s) (older ms.version) lays in
      let version : s.version ≡ v21 = sym same ∙ eqb-true ms.version v21 z.1 in
      let whole = rw version at (string-whole s string good z.0).0 in
      holds v21 string (listed-whole v21 string whole)

  -- A load that is reported finished, and whose machine was not reset since: the machine holds the program, with the parameter block laid over it
  -- if the load lays one, and no other byte changed. If the machine was reset before, that is since the last reset.
  pub finished_load : (es : List (Event (Reset s))) → (reached es).host.verdict ≡ 1 → InTime es → Loaded s ms file string (before es) (reached es).machine
  finished_load es e t = all_in s ms file string (before es) ok (reached es).machine (((truth es).heard-of ((truth es).in_time (inl e) t)).finished e)

  -- Without the restart setting there is no reset: the old bytes are the fresh machine's.
  pub finished-once : (s.restart ≡ 1 → ⊥) → (es : List (Event (Reset s))) → (reached es).host.verdict ≡ 1 → Loaded s ms file string old (reached es).machine
  finished-once never es e =
      subst (λ (b : Left Session End). b.host.verdict ≡ 0 → Loaded s ms file string b.machine.memory (reached es).machine)
      (never-reset s ms file string old never es) (finished_load es e) refl

  -- The same where the machine is started, whatever the host knows of it: its record may say finished, unconfirmed or running.
  all-frames : (es : List (Event (Reset s))) → machine.is 4 (reached es).machine.machine ≡ true → FirstIn s ms file string (before es) n (reached es).machine
  all-frames es e =
      started-all_in s ms file string (before es) (reached es) e ((truth es).heard-of (started-heard s ms file string old (mark es) (reached es) (truth es) e))

  pub all_in_load : (es : List (Event (Reset s))) → machine.is 4 (reached es).machine.machine ≡ true → Loaded s ms file string (before es) (reached es).machine
  all_in_load es e = all_in s ms file string (before es) ok (reached es).machine (all-frames es e)

  -- A reset that comes after a verdict, finished too, is never heard of: from then on the record says nothing of the machine, which is not started
  -- and stands as the reset left it, with the memory then.
  pub late_load : (es : List (Event (Reset s))) → (InTime es → ⊥) → (machine.is 4 (reached es).machine.machine ≡ false) × ((reached es).machine ≡ (mark es).machine)
  late_load es e = (truth es).not-heard-of ((truth es).too_late e)

  -- So does one that comes earlier, while the host has not heard of it.
  pub unheard_load : (es : List (Event (Reset s))) → has_heard (mark es) (reached es).host ≡ false
      → (machine.is 4 (reached es).machine.machine ≡ false) × ((reached es).machine ≡ (mark es).machine)
  unheard_load es e = (truth es).not-heard-of e

  -- Without a string, or on a machine of 3.0.0, no block is laid: from each region's address on memory has all of the region's bytes.
  pub plain_load : lays_block s ms ≡ false → (es : List (Event (Reset s))) → machine.is 4 (reached es).machine.machine ≡ true
      → (k : ℕ) (r : Region) → Entry file k r → take r.length (drop r.address (reached es).machine.memory) ≡ take r.length (drop r.place file)
  plain_load none es e = whole-region s ms file string (before es) ok (reached es).machine (all-frames es e) none

  -- Both ends of 2.1, and a string: the parameter block, 64 below the top of memory, says what the string says, and leaves the other four bytes
  -- of a name that is absent or empty, which are the image's or the old ones (`program` and `rest` of `Loaded`).
  pub block_load : ms.version ≡ s.version → lays_block s ms ≡ true → (es : List (Event (Reset s))) → machine.is 4 (reached es).machine.machine ≡ true
      → Spelled string (place (length old)) (reached es).machine.memory
  block_load same lays es e =
      subst (λ (size : ℕ). Spelled string (place size) (reached es).machine.memory) (truth es).same_length
      (spelled s ms file string (before es) (reached es).machine (all_in_load es e) lays (held_under_2_1 same lays))

  pub block-leaves : ms.version ≡ s.version → lays_block s ms ≡ true → {kind from : ℕ} → Name kind from → Absent kind string ⊎ Last v21 kind [] string
      → (x : ℕ) → 2 ≤ x → x < 6 → block_at s ms string (length old) (place (length old) + (from + x)) ≡ None
  block-leaves same lays = left_alone s ms string old lays (held_under_2_1 same lays)

  -- A load that is reported finished has no region that touches the machine's ROM window: no address lies in both. A reset since does not matter.
  pub clear_load : (es : List (Event (Reset s))) → (reached es).host.verdict ≡ 1
      → (k : ℕ) (r : Region) → Entry file k r → (a : ℕ) → InWindow ms.window a → Lies r.address r.length a → ⊥
  clear_load es e =
      clear_of s ms file string old ok (λ j l. (truth es).confirmed j (omega (arith, l, (truth es).finished-at e, all-segments s ms file string old ok)))

  -- A load with parameters that is reported finished: the machine's record holds the string's names, addresses and time. Of each type it
  -- has the last value of the string, and nothing of a type that the string does not have.
  pub parameters_load : given s ≡ true → (es : List (Event (Reset s))) → (reached es).host.verdict ≡ 1 → InTime es
      → Holds s.version (reached es).machine.machine.parameters string
  parameters_load g es e t =
      let loaded = (finished_load es e t).started in
      rw (loaded, g) (holds s.version string (listed-whole s.version string (string-whole s string good g).0))

  -- One without: its record holds nothing, as a fresh machine's.
  pub no_parameters_load : given s ≡ false → (es : List (Event (Reset s))) → (reached es).host.verdict ≡ 1 → InTime es → (reached es).machine.machine.parameters ≡ none
  no_parameters_load g es e t = let loaded = (finished_load es e t).started in rw (loaded, g)

  -- A load that is reported rejected, and whose machine was not reset since: exactly the first c frames are in, and the machine is not started.
  pub rejected_load : (es : List (Event (Reset s))) → (reached es).host.verdict ≡ 2 → InTime es
      → FirstIn s ms file string (before es) (reached es).host.position (reached es).machine × (machine.is 4 (reached es).machine.machine ≡ false)
  rejected_load es e t =
      let i = ((truth es).heard-of ((truth es).in_time (inr e) t)).rejected e in
      (i, i.not-started (λ q. omega (arith, (truth es).rejected-at e)))

  -- A load that is reported given up: the first c frames are in, or the first c + 1, if the host has heard of the last reset; and in either case the
  -- machine is not started.
  pub given-up_load : (es : List (Event (Reset s))) → (reached es).host.verdict ≡ 3
      → (Heard es
      → FirstIn s ms file string (before es) (reached es).host.position (reached es).machine
      ⊎ FirstIn s ms file string (before es) ((reached es).host.position + 1) (reached es).machine)
      × (machine.is 4 (reached es).machine.machine ≡ false)
  given-up_load es e = (way, go (has_heard (mark es) (reached es).host) refl)
    where
      way : Heard es
          → FirstIn s ms file string (before es) (reached es).host.position (reached es).machine
          ⊎ FirstIn s ms file string (before es) ((reached es).host.position + 1) (reached es).machine
      way h = on_way s ms file string (before es) (reached es) 3 (omega arith) e ((truth es).heard-of h)

      go : (d : Bool) → has_heard (mark es) (reached es).host ≡ d → machine.is 4 (reached es).machine.machine ≡ false
      go true h = ⊎_elim (λ i. i.not-started (λ q. omega (arith, (truth es).given-up-at e))) (λ i. i.not-started (λ q. omega (arith, (truth es).given-up-at e))) (way h)
      go false h = ((truth es).not-heard-of h).0

  -- A load that is reported unconfirmed, and whose host has heard of the last reset: the machine holds the program and is started, or all but the
  -- last frame are in and it is not.
  pub unconfirmed_load : (es : List (Event (Reset s))) → (reached es).host.verdict ≡ 4 → Heard es
      → Loaded s ms file string (before es) (reached es).machine
      ⊎ (FirstIn s ms file string (before es) (reached es).host.position (reached es).machine
      × ((reached es).host.position + 1 ≡ n) × (machine.is 4 (reached es).machine.machine ≡ false))
  unconfirmed_load es e h =
      let at = (truth es).unconfirmed-at e in
      ⊎_elim (λ i. inr (i, at, i.not-started (λ q. omega (arith, at))))
      (λ i. inl (all_in s ms file string (before es) ok (reached es).machine (subst (λ (k : ℕ). FirstIn s ms file string (before es) k (reached es).machine) at i)))
      (on_way s ms file string (before es) (reached es) 4 (omega arith) e ((truth es).heard-of h))

  -- Frames sent is exactly the number of host frames that the link took, at most (restarts + 1) × n × (R + 1); without the restart setting there
  -- are no restarts, and never more than 65,535.
  pub counted_load : (es : List (Event (Reset s))) → ((reached es).host.sent ≡ (reached es).taken)
      × ((reached es).host.sent ≤ ((reached es).host.restarts + 1) * (n * (s.repeats + 1))) × ((reached es).host.restarts ≤ restarts_allowed s)
  counted_load es = ((truth es).counted, (truth es).bounded, (truth es).restarts-allowed)

  -- A restart answers a reset: there is one at most since the last reset, and none if the host heard of it at once. A load whose machine is not
  -- reset does not begin again, with the restart setting too.
  pub restarts-answer : (es : List (Event (Reset s))) → ((reached es).host.restarts ≤ (mark es).host.restarts + 1)
      × (heard_at_once (mark es) ≡ true → (reached es).host.restarts ≡ (mark es).host.restarts)
  restarts-answer es = ((truth es).at_most_one, (truth es).none-at-once)

  pub unreset_load : (es : List Own) → (reached (map own es)).host.restarts ≡ 0
  unreset_load es =
      let fresh : mark (map own es) ≡ left (fresh_world ms old) = own-left (step (load_ends s ms file string)) (left (fresh_world ms old)) (fresh_world ms old) es in
      let none : heard_at_once (mark (map own es)) ≡ true = rw fresh in
      let z = (truth (map own es)).none-at-once none in
      z ∙ (rw fresh)

  -- What each count of the record is: starts is 0 while the host waits, and 1 and one for each restart from then on; advances is c if there was no
  -- restart, else at least c; rejections is 1 if the load is rejected and 0 if not. All four together are the readable frames that the link handed
  -- to the host while its verdict was 0; so the rest of these were ignored.
  pub handed_load : (es : List (Event (Reset s)))
      → Counted (reached es).host.waiting (reached es).host.restarts (reached es).host.position (reached es).host.verdict (reached es).host.counts
      × (sum (reached es).host.counts ≡ (reached es).heard)
  handed_load es = ((truth es).counts, (truth es).handed)

  -- With ends of one version, R at most 255, marks of 0 or 1, and machine settings and a memory length that are accepted: after fewer than
  -- 2^64 - 1 events no call of either end with a reply buffer of at least 1,500 bytes is refused, whatever the events before and their buffers:
  -- on a timer, or on the next frame of its queue.
  pub never-refused : ms.version ≡ s.version → s.repeats ≤ 255 → s.with_parameters ≤ 1 → s.restart ≤ 1
      → machine_checks.refusal ms machine.requesting (length old) 1500 ≡ 0
      → (es : List (Event (Reset s))) → length es < top → Unrefused (load_ends s ms file string) (reached es)
  never-refused same R-most mark-most restart-most fresh es short =
      unrefused s ms file string old ok o good small same R-most mark-most restart-most fresh (mark es) (reached es) (kept s ms file string old ok o good small es)
      (omega (arith, heard-few (load_ends s ms file string) (reset_unheard ms) (fresh_world ms old) es))

  -- ---- a line whose queues hold at most so many frames, where a frame that finds its queue full is lost
  abbrev within : ℕ → List (Event (Reset s)) → World Session End
  within most es = run_within most (load_ends s ms file string) (fresh_world ms old) es

  abbrev mark_within : ℕ → List (Event (Reset s)) → Left Session End
  mark_within most es = last_left (step_within most (load_ends s ms file string)) (left (fresh_world ms old)) (fresh_world ms old) es

  -- Every report is true; a load that is reported finished is one; and no such call is refused.
  pub bounded_load : (most : ℕ) (es : List (Event (Reset s))) → Report s ms file string old (mark_within most es) (within most es)
  bounded_load most es =
      report s ms file string old ok o good small (mark_within most es) (within most es) (kept-within s ms file string old ok o good small most es)

  -- Without the restart setting: measured from the fresh machine's memory.
  pub bounded-once : (s.restart ≡ 1 → ⊥) → (most : ℕ) (es : List (Event (Reset s))) → Report s ms file string old (left (fresh_world ms old)) (within most es)
  bounded-once never most es =
      subst (λ (b : Left Session End). Report s ms file string old b (within most es))
      (none_left (no_reset s never) (step_within most (load_ends s ms file string)) (left (fresh_world ms old)) (fresh_world ms old) es) (bounded_load most es)

  pub bounded-finished : (most : ℕ) (es : List (Event (Reset s))) → (within most es).host.verdict ≡ 1 → (mark_within most es).host.verdict ≡ 0
      → Loaded s ms file string (mark_within most es).machine.memory (within most es).machine
  bounded-finished most es e t =
      let r = bounded_load most es in
      all_in s ms file string (mark_within most es).machine.memory ok (within most es).machine ((r.heard-of (r.in_time (inl e) t)).finished e)

  pub bounded-never-refused : ms.version ≡ s.version → s.repeats ≤ 255 → s.with_parameters ≤ 1 → s.restart ≤ 1
      → machine_checks.refusal ms machine.requesting (length old) 1500 ≡ 0
      → (most : ℕ) (es : List (Event (Reset s))) → length es < top → Unrefused (load_ends s ms file string) (within most es)
  bounded-never-refused same R-most mark-most restart-most fresh most es short =
      unrefused s ms file string old ok o good small same R-most mark-most restart-most fresh (mark_within most es) (within most es)
      (kept-within s ms file string old ok o good small most es) (omega (arith, few-within (load_ends s ms file string) (reset_unheard ms) most (fresh_world ms old) es))
