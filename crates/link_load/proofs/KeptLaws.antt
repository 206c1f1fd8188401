-- What every run of a load keeps, from fresh ends and through every reset.
use Rattle.std.specs.Prelude.{ℕ, ◌+◌, ◌≤◌, ◌<◌, ◌≡◌, Bool, true, false, ◌&&◌, List, [], ◌∷◌, ◌⊎◌, eqb}
use Rattle.std.proofs.Math.Path.{refl, ap}
use Rattle.std.proofs.Common.{◌∙◌, inl, inr, eqb-true, ltb-true, leb-true}
use Rattle.std.proofs.Math.Logic.{⊎_elim}
use native.Mathlib.Omega.{arith}
use Rattle.std.proofs.Math.Decide.{ℕ_discrete}
use Rattle.std.proofs.Math.ListN.{length}
use Rattle.octets.specs.Number.{Octets}
use Rattle.image.specs.Image.{cut_refusal}
use Rattle.memory.specs.Memory.{WindowKept}
use Rattle.message.specs.Write.{layout}
use Rattle.machine_record.specs.declared.Settings.{Settings as MachineSettings}
use Rattle.machine_record.specs.Record.{requesting}
use Rattle.machine_timer.specs.Timer.{asks_load}
use Rattle.counts.specs.Counts.{sum}
use Rattle.load_record.specs.declared.Session.{Session}
use Rattle.load_record.specs.declared.Settings.{Settings as LoadSettings}
use Rattle.load_record.specs.Record.{fresh}
use Rattle.load_checks.specs.Checks as checks
use Rattle.load_checks.specs.Checks.{frames, string_refusal}
use Rattle.load_valid.specs.Valid.{restarts_allowed}
use Rattle.load_checks.specs.Laws.{string-whole}
use Rattle.link.specs.Link.{World, Ends, Event, Left, left, last_left}
use Rattle.link.proofs.LinkLaws.{Closed, closed-given, always, always-left}
use Rattle.link.specs.Bounded.{step_within, run_within, Alike}
use Rattle.link.proofs.BoundedLaws.{always-within, always-left-within}
use Rattle.link.proofs.NumberedLaws as numbered
use Rattle.link.proofs.RestartLaws as restart
use Rattle.link.proofs.RestartLaws.{Either}
use Rattle.link.proofs.AloneLaws.{Alone}
use Rattle.link.proofs.CountedLaws.{fresh as fresh-counts}
use Rattle.link.specs.MachineEnd.{End, machine_end}
use Rattle.link.specs.Reset.{anew}
use Rattle.link.proofs.ResetLaws.{length-anew, anew-keeps}
use Rattle.link.proofs.WindowLaws as window
use Rattle.link.proofs.WindowLaws.{window_closed}
use Rattle.link_load.specs.Model.{heard_at_once, restarted_since, has_heard, ResetIf, Reset, reset, on_reset, load_ends, fresh_world, after, last_reset}
use Rattle.link_load.proofs.HostLaws.{F, heard, counted, timed}
use Rattle.link_load.proofs.AloneLaws.{Good, Counting, alone_load}
use Rattle.link_load.proofs.FramesLaws.{Frames, receiver, laid, length-laid, machine_at}
use Rattle.link_load.proofs.SenderLaws.{HeardOf, Stage, Misses, sending, sender, restarter}
use Rattle.link_load.proofs.ImageLaws.{load_frames}

-- a load without the restart setting has no reset
pub no_reset : (s : LoadSettings) → (s.restart ≡ 1 → ⊥) → Reset s → ⊥
no_reset s none (reset setting bytes) = none setting

-- a reset leaves the bytes of the ROM window, and hands no frame to the host
pub reset_window : {restart : ℕ} (ms : MachineSettings) (w : World Session End) (x : ResetIf restart) → WindowKept ms.window w.machine.memory (on_reset ms w x).machine.memory
reset_window ms w (reset setting bytes) = anew-keeps ms.window bytes w.machine.memory

-- and makes the same of two worlds that differ in their queues alone
pub reset-alike : {restart : ℕ} (ms : MachineSettings) (w v : World Session End) (x : ResetIf restart) → Alike w v → on_reset ms w x ≡ on_reset ms v x
reset-alike ms w v (reset setting bytes) a = rw (a.0, a.1, a.2, a.3)

pub reset_unheard : {restart : ℕ} (ms : MachineSettings) (w : World Session End) (x : ResetIf restart) → (on_reset ms w x).heard ≤ w.heard + 1
reset_unheard ms w (reset setting bytes) = omega arith

module _ (s : LoadSettings) (ms : MachineSettings) (file string first : List ℕ) (ok : cut_refusal file s.segment_size ≡ 0) (o : Octets file)
    (good : string_refusal s string ≡ 0) (few : checks.few s (frames s file) ≡ true) where
  abbrev n : ℕ
  n = frames s file

  abbrev R : ℕ
  R = s.repeats

  abbrev E : ℕ
  E = restarts_allowed s

  abbrev pub fr : Frames ms
  fr = load_frames s ms file string (length first) ok o (string-whole s string good)

  abbrev ends : Ends Session End (Reset s)
  ends = load_ends s ms file string

  -- ---- what every run keeps, b being the ends as the last reset left them, with a machine that begins anew: the invariant of numbered frames
  -- from the memory then, or that the host has not heard of the reset
  abbrev pub Both : Left Session End → World Session End → Type 0
  Both b = Either (sending fr s.repeats (restarts_allowed s) b) (Misses fr s.repeats (restarts_allowed s) b) (load_ends s ms file string)

  abbrev pub Anew : Left Session End → Type 0
  Anew b = (b.machine.machine ≡ requesting) × (length b.machine.memory ≡ length first)

  abbrev pub Inv : Left Session End → World Session End → Type 0
  Inv b w = Anew b × Both b w

  -- and a record whose numbers and counts are good, and the bytes of the ROM window
  abbrev pub Counts : World Session End → Type 0
  Counts = Alone (Good n s.repeats (restarts_allowed s)) Counting (λ h. h.sent) (λ h. sum h.counts) (load_ends s ms file string)

  abbrev pub Windowed : World Session End → Type 0
  Windowed = window.Kept ms first

  abbrev pub Kept : Left Session End → World Session End → Type 0
  Kept b w = Inv b w × Counts w × Windowed w

  inv : (b : Left Session End) → Closed ends (Inv b)
  inv b =
      closed-given ends (Anew b) (Both b) (λ e.
      restart.closed (sending fr R E b) (Misses fr R E b) ends (sender fr R E b ends (heard s file string) (timed s file string))
      (restarter fr R E b ends (heard s file string) (timed s file string))
      (receiver fr b.machine.memory e.1 ends.hears ends.host_frame ends.host_timer ends.further (Stage fr.many R E b fr.fit)))

  counting : Closed ends Counts
  counting = alone_load n R E fr.some (F s file string) ends (heard s file string) (timed s file string) (counted s file string)

  windowed : Closed ends Windowed
  windowed = window_closed ms first ends.hears ends.host_frame ends.host_timer ends.further

  -- ---- a reset: the host's record stays, the machine begins anew
  -- right after one, by the host's record
  module _ (h : Session) (g : Good n s.repeats (restarts_allowed s) h) (memory : List ℕ) where
    abbrev at : Left Session End
    at = record { host = h; machine = machine_end requesting memory }

    at_once : h.verdict ≡ 0 → has_heard at h ≡ true → HeardOf at h
    at_once v e = record { hears = e; at_most = omega arith; at_once = λ _. refl; unended = v }

    -- it waits
    waits : h.waiting ≡ 1 → numbered.Holds (sending fr R E at) ends 0 0 h at.machine [] (layout (asks_load ms) ∷ [])
    unfolding machine_at laid
    waits w =
        let z = g.waiting w in
        numbered.begins (sending fr R E at) ends h at.machine (record {
          good = g;
          waits = λ _. refl;
          sends = λ q. absurd (omega arith);
          unfit = λ q. absurd (omega (arith, z.2));
          heard-of = at_once z.2 (rw w);
        }) refl

    -- its first frame is on its way
    first_frame : h.waiting ≡ 0 → h.position ≡ 0 → h.verdict ≡ 0 → numbered.Holds (sending fr R E at) ends 0 1 h at.machine [] (layout (asks_load ms) ∷ [])
    unfolding machine_at laid
    first_frame w c v =
        restart.at_first (sending fr R E at) (Misses fr R E at) ends h at.machine (record {
          good = g;
          waits = λ q. absurd (omega arith);
          sends = λ q. omega (arith, c);
          unfit = λ q. absurd (omega (arith, v));
          heard-of = at_once v (simp (w, c, v));
        }) refl

    -- otherwise it has not heard
    not-at-once : h.waiting ≡ 0 → (h.verdict ≡ 0 → 1 ≤ h.position) → heard_at_once at ≡ false
    not-at-once w past = rw w (go (eqb h.position 0) (eqb h.verdict 0) refl refl)
      where
        go : (c v : Bool) → eqb h.position 0 ≡ c → eqb h.verdict 0 ≡ v → c && v ≡ false
        go true true e f = absurd (omega (arith, past (eqb-true _ _ f), eqb-true h.position 0 e))
        go true false e f = refl
        go false v e f = refl

    not_since : (d : Bool) → restarted_since at h ≡ d → d ≡ false
    not_since true e = absurd (omega (arith, ltb-true h.restarts h.restarts e))
    not_since false e = refl

    misses : n ≤ 256 → ((i : ℕ) → i < h.position → fr.fit i ≡ true) → h.waiting ≡ 0 → (h.verdict ≡ 0 → 1 ≤ h.position)
        → restart.Missing (sending fr R E at) (Misses fr R E at) ends h at.machine [] (layout (asks_load ms) ∷ [])
    unfolding machine_at laid
    misses l f w past =
        restart.missing (sending fr R E at) (Misses fr R E at) ends h at.machine (record {
          good = g;
          fitting = f;
          sends = w;
          beyond = past;
          small = l;
          misses = rw (not-at-once w past) (not_since (restarted_since at h) refl);
          as_many = refl;
          stays = λ _. refl;
          new = λ v. (λ q. omega arith, λ q. omega arith);
        }) refl

    pub begun-anew : n ≤ 256 → ((i : ℕ) → i < h.position → fr.fit i ≡ true) → numbered.Reached (sending fr R E at) ends h at.machine [] (layout (asks_load ms) ∷ [])
        ⊎ restart.Missing (sending fr R E at) (Misses fr R E at) ends h at.machine [] (layout (asks_load ms) ∷ [])
    begun-anew l f =
        elim (ℕ_discrete h.waiting 1) [
          | yes w ↦ inl (0, 0, waits w)
          | no w ↦ let sends : h.waiting ≡ 0 = omega (arith, g.flag) in
              elim (ℕ_discrete h.verdict 0) [
                | yes v ↦ elim (ℕ_discrete h.position 0) [
                  | yes c ↦ inl (0, 1, first_frame sends c v)
                  | no c ↦ inr (misses l f sends (λ _. omega arith))
                ]
                | no v ↦ inr (misses l f sends (λ q. absurd (v q)))
              ]
        ]

  -- a good record, the frames that were confirmed fit, and memory's length, by what every run keeps
  good_record : (b : Left Session End) (w : World Session End) → Both b w → Good n R E w.host
  good_record b w = ⊎_elim (λ i. i.2.stage.good) (λ u. u.sender.good)

  pub confirmed : (b : Left Session End) (w : World Session End) → Both b w → (i : ℕ) → i < w.host.position → fr.fit i ≡ true
  confirmed b w k i l =
      let waits : w.host.waiting ≡ 1 → ⊥ = λ e. omega (arith, l, (good_record b w k).waiting e) in
      let sends : w.host.waiting ≡ 0 = omega (arith, waits, (good_record b w k).flag) in
      ⊎_elim (λ j. j.2.fitting i (omega (arith, l, j.2.stage.sends sends))) (λ u. u.sender.fitting i l) k

  size : (b : Left Session End) (w : World Session End) → Inv b w → length w.machine.memory ≡ length first
  unfolding machine_at laid
  size b w i =
      ⊎_elim (λ j. ap (λ (e : End). length e.memory) j.2.end_is ∙ length-laid fr b.machine.memory i.0.1 j.0 j.2.few)
      (λ u. ap (λ (e : End). length e.memory) u.end_is ∙ i.0.1) i.1

  -- only a load with the restart setting has a reset, and so it has few frames
  at_most : s.restart ≡ 1 → n ≤ 256
  at_most e = leb-true n 256 (rw e at few)

  on_reset_lem : (b : Left Session End) (w : World Session End) (x : Reset s) → Inv b w → Inv (left (on_reset ms w x)) (on_reset ms w x)
  on_reset_lem b w (reset setting bytes) i = (
    (refl, length-anew ms.window 0 bytes w.machine.memory ∙ size b w i),
    begun-anew w.host (good_record b w i.1) (anew ms.window 0 bytes w.machine.memory) (at_most setting) (confirmed b w i.1),
  )

  on_reset-counts : (w : World Session End) (x : Reset s) → Counts w → Counts (on_reset ms w x)
  on_reset-counts w (reset setting bytes) g = record { good = g.good; took = g.took; says = g.says; hears = g.hears }

  on_reset_window : (w : World Session End) (x : Reset s) → Windowed w → Windowed (on_reset ms w x)
  on_reset_window w x k a y = reset_window ms w x a y ∙ k a y

  -- ---- every run from fresh ends
  fresh-good : Good n R E fresh
  fresh-good = omega (arith, fr.some)

  at_first : Kept (left (fresh_world ms first)) (fresh_world ms first)
  at_first = (
    ((refl, refl), inl (0, 0, waits fresh fresh-good first refl)),
    record { good = fresh-good; took = refl; says = fresh-counts; hears = refl },
    λ a x. refl,
  )

  pub kept : (es : List (Event (Reset s))) → Kept (last_reset s ms file string first es) (after s ms file string first es)
  kept es = (
    always-left ends Inv inv on_reset_lem (left (fresh_world ms first)) (fresh_world ms first) es at_first.0,
    always ends Counts counting on_reset-counts (fresh_world ms first) es at_first.1,
    always ends Windowed windowed on_reset_window (fresh_world ms first) es at_first.2,
  )

  -- and on a line with bounded queues
  pub kept-within : (most : ℕ) (es : List (Event (Reset s))) → Kept (last_left (step_within most ends) (left (fresh_world ms first)) (fresh_world ms first) es) (run_within most ends (fresh_world ms first) es)
  kept-within most es = (
    always-left-within ends Inv inv on_reset_lem most (left (fresh_world ms first)) (fresh_world ms first) es at_first.0,
    always-within ends Counts counting on_reset-counts most (fresh_world ms first) es at_first.1,
    always-within ends Windowed windowed on_reset_window most (fresh_world ms first) es at_first.2,
  )
