-- Raising the repeats (PROTOCOL 6, 'Link'): what a dump does with a larger R, over the whole list of events.
--     raised          the theorem: the same world and the same frames, unless the smaller R gives up
--     raised-before   so it was after every beginning of the list
--     raised_dump     in the paper's words: if the dump with the smaller R ends finished
--     bounded-raised  the same on a line with bounded queues
--     raised-any, bounded-raised-any    the same beside any machine, of this library or not
--     listed_dump     of the frames taken, those of the host are as many as the link counts
use Rattle.std.specs.Prelude.{ℕ, ◌≤◌, ◌≡◌, refl, List, ◌++◌, map, length}
use Rattle.std.proofs.Common.{ap, arith}
use Rattle.machine_record.specs.declared.Settings.{Settings as MachineSettings}
use Rattle.dump_record.specs.declared.Settings.{Settings as DumpSettings}
use Rattle.dump_record.specs.Record.{fresh}
use Rattle.link.specs.Link.{Frame, Turn, World, Ends, Event, step, run}
use Rattle.link.specs.Bounded.{run_within}
use Rattle.link.specs.Taken.{Taken, from_machine, host_frames, all_taken, SameRun, SameWithin}
use Rattle.link.proofs.TakenLaws.{host-joined, machine-all, as_many}
use Rattle.link.proofs.AgreeLaws.{Agree, same, same-within, stays-ended}
use Rattle.link.specs.MachineEnd.{End, frame_turn, timer_turn}
use Rattle.link_dump.specs.Model.{Host, host_beside, dump_ends, fresh_world, after, all_frames, with_repeats, GaveUp}
use Rattle.link_dump.proofs.RepeatsLaws.{GoodIf, agree}

-- Beside any machine, whatever its calls do, with any further events that leave the host alone, and from any world whose host's record is fresh;
-- `more` is what the link takes in a further event.
module _
    {M X : Type 0} (s : DumpSettings) (frame : M → Frame → List ℕ → Turn M) (timer : M → List ℕ → Turn M)
    (further : World Host M → X → World Host M) (unmoved : (w : World Host M) (x : X) → (further w x).host ≡ w.host)
    (more : World Host M → X → List Taken) (R R' : ℕ) (larger : R ≤ R') (most : R' ≤ 255) (w : World Host M) (new : w.host.session ≡ fresh) where
  abbrev beside : ℕ → Ends Host M X
  beside x = host_beside (with_repeats x s) frame timer further

  abbrev Good : Host → Type 0
  Good = GoodIf s R R' larger most

  agreed : Agree (beside R) (beside R').host_frame (beside R').host_timer Good GaveUp
  agreed = agree s R R' larger most frame timer further unmoved

  fresh-good : Good w.host
  fresh-good some = rw new (omega (arith, some))

  pub raised-any : (es : List (Event X)) → (GaveUp (run (beside R) w es).host → ⊥) → SameRun (beside R) (beside R') more w es
  raised-any = same (beside R) (beside R').host_frame (beside R').host_timer Good GaveUp agreed more w fresh-good

  pub bounded-raised-any : (n : ℕ) (es : List (Event X)) → (GaveUp (run_within n (beside R) w es).host → ⊥) → SameWithin (beside R) (beside R') more w es n
  bounded-raised-any = same-within (beside R) (beside R').host_frame (beside R').host_timer Good GaveUp agreed more w fresh-good

  pub stays-given-up : (es fs : List (Event X)) → GaveUp (run (beside R) w es).host → GaveUp (run (beside R) w (es ++ fs)).host
  stays-given-up = stays-ended (beside R) (beside R').host_frame (beside R').host_timer Good GaveUp agreed more w

module _ (s : DumpSettings) (ms : MachineSettings) (memory buffer : List ℕ) where
  -- In the list of frames taken those of the host are as many as the link counts; where settings and lengths are accepted that is what the record
  -- says (`counted`).
  pub listed_dump : (es : List (Event ⊥)) → length (host_frames (all_frames s ms memory buffer es)) ≡ (after s ms memory buffer es).taken
  unfolding host_frames
  listed_dump es =
      let new = fresh_world ms memory buffer in
      let ends = dump_ends s ms in
      rw (host-joined (map from_machine new.to_host) (all_taken ends (λ w x. absurd x) (step ends) new es), (machine-all new.to_host).1)
      (omega (arith, as_many ends (λ w x. absurd x) (λ w x. absurd x) new es))

  -- The same fresh ends, settings but for R, memory, dump buffer and list of events, reply buffers included; once with R, and once with an R' that is
  -- not smaller and is allowed. Nothing is asked of settings, memory or buffer.
  module _ (R R' : ℕ) (larger : R ≤ R') (most : R' ≤ 255) where
    -- the dump with x for R
    abbrev reached : ℕ → List (Event ⊥) → World Host End
    reached x es = after (with_repeats x s) ms memory buffer es

    -- Both are in the same world: the host's record with every count, the dump buffer, the machine, memory, both queues; and the link took the same
    -- frames in the same order.
    abbrev Same : List (Event ⊥) → Type 0
    Same es = (reached R es ≡ reached R' es) × (all_frames (with_repeats R s) ms memory buffer es ≡ all_frames (with_repeats R' s) ms memory buffer es)

    -- The theorem: so it is, unless the dump with R was given up.
    pub raised : (es : List (Event ⊥)) → (GaveUp (reached R es).host → ⊥) → Same es
    raised es not-given-up =
        let x = raised-any s (frame_turn ms) (timer_turn ms) (λ w x. absurd x) (λ w x. absurd x) (λ w x. absurd x) R R' (omega (arith, larger)) (omega (arith, most)) (fresh_world ms memory buffer) refl es not-given-up in
        (x.0, ap (λ (t : List Taken). map from_machine (fresh_world ms memory buffer).to_host ++ t) x.1)

    -- And so it was after every beginning of the list: es is the beginning, fs the rest.
    pub raised-before : (es fs : List (Event ⊥)) → (GaveUp (reached R (es ++ fs)).host → ⊥) → Same es
    raised-before es fs not-given-up =
        raised es (λ o. not-given-up (stays-given-up s (frame_turn ms) (timer_turn ms) (λ w x. absurd x) (λ w x. absurd x) (λ w x. absurd x) R R' (omega (arith, larger)) (omega (arith, most)) (fresh_world ms memory buffer) refl es fs o))

    -- In particular where the dump with R ended finished.
    pub raised_dump : (es : List (Event ⊥)) → (reached R es).host.session.verdict ≡ 1 → Same es
    raised_dump es ended = raised es (λ up. omega (arith, ended, up))

    -- On a line whose queues hold at most n frames, where a frame that finds its queue full is lost, though the link has taken it. The list has the
    -- frames of the events alone, without the fresh machine's first.
    abbrev ends : ℕ → Ends Host End ⊥
    ends x = dump_ends (with_repeats x s) ms

    pub bounded-raised : (n : ℕ) (es : List (Event ⊥)) → (GaveUp (run_within n (ends R) (fresh_world ms memory buffer) es).host → ⊥)
        → SameWithin (ends R) (ends R') (λ w x. absurd x) (fresh_world ms memory buffer) es n
    bounded-raised =
        bounded-raised-any s (frame_turn ms) (timer_turn ms) (λ w x. absurd x) (λ w x. absurd x) (λ w x. absurd x) R R' (omega (arith, larger)) (omega (arith, most)) (fresh_world ms memory buffer) refl
