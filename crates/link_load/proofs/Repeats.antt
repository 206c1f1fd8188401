-- Raising the repeats (PROTOCOL 6, 'Link'): what a load does with a larger R, over the whole list of events.
--     raised          the theorem: the same world and the same frames, unless the smaller R gives up
--     raised-before, raised_load    what follows of it, in Raised.antt
--     bounded-raised  the same on a line with bounded queues
--     raised-any, bounded-raised-any    the same beside any machine, of this library or not
--     listed_load     of the frames taken, those of the host are as many as the link counts
use Rattle.std.specs.Prelude.{ℕ, ◌+◌, ◌≤◌, ◌≡◌, refl, List, ◌++◌, map, length}
use Rattle.std.proofs.Common.{ap, arith}
use Rattle.machine_record.specs.declared.Settings.{Settings as MachineSettings}
use Rattle.load_record.specs.declared.Session.{Session}
use Rattle.load_record.specs.declared.Settings.{Settings as LoadSettings}
use Rattle.load_record.specs.Record.{fresh}
use Rattle.link.specs.Link.{Frame, Turn, World, Ends, Event, step, run}
use Rattle.link.specs.Bounded.{run_within}
use Rattle.link.specs.Taken.{Taken, from_machine, host_frames, all_taken, SameRun, SameWithin}
use Rattle.link.proofs.TakenLaws.{host-joined, machine-all, as_many}
use Rattle.link.proofs.AgreeLaws.{Agree, same, same-within, stays-ended}
use Rattle.link.specs.MachineEnd.{End, frame_turn, timer_turn}
use Rattle.link_load.specs.Model.{host_beside, ResetIf, Reset, reset, on_reset, on_reset_takes, load_ends, fresh_world, after, all_frames, with_repeats, GaveUp}
use Rattle.link_load.proofs.RepeatsLaws.{GoodIf, agree}

-- Beside any machine, whatever its calls do, with any further events that leave the host's record alone, and from any world whose host is fresh;
-- `more` is what the link takes in a further event.
module _
    {M X : Type 0} (s : LoadSettings) (file string : List ℕ) (frame : M → Frame → List ℕ → Turn M) (timer : M → List ℕ → Turn M)
    (further : World Session M → X → World Session M) (unmoved : (w : World Session M) (x : X) → (further w x).host ≡ w.host)
    (more : World Session M → X → List Taken) (R R' : ℕ) (larger : R ≤ R') (most : R' ≤ 255) (w : World Session M) (new : w.host ≡ fresh) where
  abbrev beside : ℕ → Ends Session M X
  beside x = host_beside (with_repeats x s) file string frame timer further

  abbrev Good : Session → Type 0
  Good = GoodIf s file string R R' larger most

  agreed : Agree (beside R) (beside R').host_frame (beside R').host_timer Good GaveUp
  agreed = agree s file string R R' larger most frame timer further unmoved

  fresh-good : Good w.host
  fresh-good some = rw new (omega (arith, some))

  pub raised-any : (es : List (Event X)) → (GaveUp (run (beside R) w es).host → ⊥) → SameRun (beside R) (beside R') more w es
  raised-any = same (beside R) (beside R').host_frame (beside R').host_timer Good GaveUp agreed more w fresh-good

  pub bounded-raised-any : (n : ℕ) (es : List (Event X)) → (GaveUp (run_within n (beside R) w es).host → ⊥) → SameWithin (beside R) (beside R') more w es n
  bounded-raised-any = same-within (beside R) (beside R').host_frame (beside R').host_timer Good GaveUp agreed more w fresh-good

  pub stays-given-up : (es fs : List (Event X)) → GaveUp (run (beside R) w es).host → GaveUp (run (beside R) w (es ++ fs)).host
  stays-given-up = stays-ended (beside R) (beside R').host_frame (beside R').host_timer Good GaveUp agreed more w

-- a reset leaves the host's record as it is, and takes no frame of the host
pub reset-unmoved : {restart : ℕ} (ms : MachineSettings) (w : World Session End) (x : ResetIf restart) → (on_reset ms w x).host ≡ w.host
reset-unmoved ms w (reset setting bytes) = refl

reset-counted : {restart : ℕ} (ms : MachineSettings) (w : World Session End) (x : ResetIf restart) → (on_reset ms w x).taken ≡ w.taken + length (host_frames (on_reset_takes ms w x))
unfolding host_frames
reset-counted ms w (reset setting bytes) = omega arith

module _ (s : LoadSettings) (ms : MachineSettings) (file string old : List ℕ) where
  -- In the list of frames taken those of the host are as many as the link counts; where image, string and settings are accepted that is what the
  -- record says (`counted_load`).
  pub listed_load : (es : List (Event (Reset s))) → length (host_frames (all_frames s ms file string old es)) ≡ (after s ms file string old es).taken
  unfolding host_frames
  listed_load es =
      let new = fresh_world ms old in
      let ends = load_ends s ms file string in
      rw (host-joined (map from_machine new.to_host) (all_taken ends (on_reset_takes ms) (step ends) new es), (machine-all new.to_host).1)
      (omega (arith, as_many ends (on_reset_takes ms) (reset-counted ms) new es))

  -- The same fresh ends, image, string, other settings and list of events, resets and reply buffers included; once with R, and once with an R' that is
  -- not smaller and is allowed. Nothing is asked of image, string, settings or memory.
  module _ (R R' : ℕ) (larger : R ≤ R') (most : R' ≤ 255) where
    -- the load with x for R
    abbrev pub reached : ℕ → List (Event (Reset s)) → World Session End
    reached x es = after (with_repeats x s) ms file string old es

    -- Both are in the same world: the host's record with every count, the machine with what it keeps, memory, both queues; and the link took the
    -- same frames in the same order.
    abbrev pub Same : List (Event (Reset s)) → Type 0
    Same es = (reached R es ≡ reached R' es) × (all_frames (with_repeats R s) ms file string old es ≡ all_frames (with_repeats R' s) ms file string old es)

    -- The theorem: so it is, unless the load with R was given up or is unconfirmed.
    pub raised : (es : List (Event (Reset s))) → (GaveUp (reached R es).host → ⊥) → Same es
    raised es not-given-up =
        let x = raised-any s file string (frame_turn ms) (timer_turn ms) (on_reset ms) (reset-unmoved ms) (on_reset_takes ms) R R' (omega (arith, larger)) (omega (arith, most)) (fresh_world ms old) refl es not-given-up in
        (x.0, ap (λ (t : List Taken). map from_machine (fresh_world ms old).to_host ++ t) x.1)

    -- On a line whose queues hold at most n frames, where a frame that finds its queue full is lost, though the link has taken it. The list has the
    -- frames of the events alone, without the fresh machine's first.
    abbrev ends : ℕ → Ends Session End (Reset s)
    ends x = load_ends (with_repeats x s) ms file string

    pub bounded-raised : (n : ℕ) (es : List (Event (Reset s))) → (GaveUp (run_within n (ends R) (fresh_world ms old) es).host → ⊥)
        → SameWithin (ends R) (ends R') (on_reset_takes ms) (fresh_world ms old) es n
    bounded-raised =
        bounded-raised-any s file string (frame_turn ms) (timer_turn ms) (on_reset ms) (reset-unmoved ms) (on_reset_takes ms) R R' (omega (arith, larger)) (omega (arith, most)) (fresh_world ms old) refl
