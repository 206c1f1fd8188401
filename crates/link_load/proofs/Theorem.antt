-- Demand 3 for a load: after every list of link events from fresh ends, resets included, the host's report is true of the machine's memory.
-- `Event (Reset s)`: the link's own events, and resets if the load has the restart setting.
use Rattle.std.specs.Prelude.{ℕ, ◌+◌, ◌*◌, ◌≤◌, ◌≡◌, refl, true, List}
use Rattle.std.proofs.Common.{subst, arith}
use Rattle.octets.specs.Number.{Octets}
use Rattle.image.specs.Image.{cut_refusal}
use Rattle.machine_record.specs.declared.Settings.{Settings as MachineSettings}
use Rattle.load_record.specs.declared.Session.{Session}
use Rattle.load_record.specs.declared.Settings.{Settings as LoadSettings}
use Rattle.load_checks.specs.Checks.{frames, few, most_sent, string_refusal}
use Rattle.link.specs.Link.{Event, Left, left, step}
use Rattle.link.proofs.LinkLaws.{none_left}
use Rattle.link.specs.MachineEnd.{End}
use Rattle.link_load.specs.Model.{Reset, load_ends, fresh_world, after, last_reset}
use Rattle.link_load.specs.Report.{Means, Report}
use Rattle.link_load.proofs.KeptLaws.{no_reset, kept}
use Rattle.link_load.proofs.ReportLaws.{report}

-- The theorem: one claim over the whole list, for an accepted image of bytes, no parameter string or an accepted one, any memory, any
-- settings, of one version or of two; a load with the restart setting has at most 256 frames.
pub reported : (s : LoadSettings) (ms : MachineSettings) (file string old : List ℕ) → cut_refusal file s.segment_size ≡ 0 → Octets file
    → string_refusal s string ≡ 0 → few s (frames s file) ≡ true → (es : List (Event (Reset s)))
    → Report s ms file string old (last_reset s ms file string old es) (after s ms file string old es)
reported s ms file string old ok o good small es =
    report s ms file string old ok o good small (last_reset s ms file string old es) (after s ms file string old es) (kept s ms file string old ok o good small es)

-- Without the restart setting no list has a reset, so the ends that the last one left are the fresh ones, whose host waits: the record means what it
-- says, measured from the fresh machine's memory, and at most n × (R + 1) frames are sent. Nothing is asked of the number of frames.
pub never-reset : (s : LoadSettings) (ms : MachineSettings) (file string old : List ℕ) → (s.restart ≡ 1 → ⊥) → (es : List (Event (Reset s)))
    → last_reset s ms file string old es ≡ left (fresh_world ms old)
never-reset s ms file string old none es = none_left (no_reset s none) (step (load_ends s ms file string)) (left (fresh_world ms old)) (fresh_world ms old) es

pub reported-once : (s : LoadSettings) (ms : MachineSettings) (file string old : List ℕ) → cut_refusal file s.segment_size ≡ 0 → Octets file
    → string_refusal s string ≡ 0 → s.restart ≡ 0 → (es : List (Event (Reset s)))
    → Report s ms file string old (left (fresh_world ms old)) (after s ms file string old es) × Means s ms file string old (after s ms file string old es)
    × ((after s ms file string old es).host.sent ≤ frames s file * (s.repeats + 1))
reported-once s ms file string old ok o good none es =
    let fresh : last_reset s ms file string old es ≡ left (fresh_world ms old) = never-reset s ms file string old (λ q. omega (arith, none)) es in
    let r : Report s ms file string old (left (fresh_world ms old)) (after s ms file string old es) =
    subst (λ (b : Left Session End). Report s ms file string old b (after s ms file string old es)) fresh (reported s ms file string old ok o good (rw none) es) in
    let restarts : (after s ms file string old es).host.restarts ≡ 0 = r.none-at-once refl in
    let most : (after s ms file string old es).host.sent ≤ most_sent 0 (frames s file) s.repeats = rw restarts at r.bounded in
    (r, r.heard-of refl, omega (arith, most))
