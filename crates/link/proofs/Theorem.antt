-- What holds of the link whatever its ends are, or whatever its host is.
use Rattle.std.specs.Prelude.{ℕ, ◌≡◌, refl, Bool, List, length}
use Rattle.std.proofs.Common.{◌∙◌}
use Rattle.memory.specs.Memory.{WindowKept}
use Rattle.machine_record.specs.declared.Settings.{Settings}
use Rattle.link.specs.Link.{Frame, Turn, World, Ends, Own, Event, own, step, run}
use Rattle.link.specs.Taken.{Taken, host_frames, machine_frames, Joined, takes}
use Rattle.link.proofs.TakenLaws.{own-joins}
use Rattle.link.proofs.LinkLaws.{always}
use Rattle.link.specs.MachineEnd.{End, ends_with}
use Rattle.link.proofs.WindowLaws.{Kept, window_closed}
use Rattle.link.specs.Reset.{resets, reset_takes}
use Rattle.link.proofs.ResetLaws.{length-anew, anew-keeps, anew-any}
use Rattle.link.specs.Bounded.{run_within, Alike}
use Rattle.link.proofs.BoundedLaws.{alike-run}

-- A line with bounded queues is the link: for every list of its events there is a list of the link's after which both ends, and what is
-- counted, are the same. What a full queue loses is what the link drops when it comes to the front. A further event makes
-- the same of two worlds that differ in their queues alone.
pub bounded : {H M X : Type 0} (ends : Ends H M X) → ((w v : World H M) (x : X) → Alike w v → ends.further w x ≡ ends.further v x)
    → (n : ℕ) (w : World H M) (es : List (Event X)) → (fs : List (Event X)) × Alike (run ends w fs) (run_within n ends w es)
bounded ends blind n w es = alike-run ends blind n w es

-- Whatever stands at the host's end and whatever it sends, whatever is on its way already, whatever the machine's record is, and whatever else may
-- happen that leaves the bytes of the machine's ROM window: after every list of events they are the old ones.
pub window_kept : {H X : Type 0} (ms : Settings) (hears : H → Frame → Bool) (frame : H → Frame → List ℕ → Turn H) (timer : H → List ℕ → Turn H) (more : World H End → X → World H End)
    → ((w : World H End) (x : X) → WindowKept ms.window w.machine.memory (more w x).machine.memory) → (w : World H End) (es : List (Event X))
    → WindowKept ms.window w.machine.memory (run (ends_with ms hears frame timer more) w es).machine.memory
window_kept ms hears frame timer more leaves w es =
    let ends = ends_with ms hears frame timer more in
    let old = w.machine.memory in
    always ends (Kept ms old) (window_closed ms old hears frame timer more) (λ v x k a z. leaves v x a z ∙ k a z) w es (λ a x. refl)

-- A reset leaves memory's length and the bytes of the ROM window; and every memory of that length which has these bytes is one that a reset may leave.
pub reset-leaves : {H : Type 0} (ms : Settings) (w : World H End) (bytes : List ℕ)
    → (length (resets ms w bytes).machine.memory ≡ length w.machine.memory) × WindowKept ms.window w.machine.memory (resets ms w bytes).machine.memory
reset-leaves ms w bytes = (length-anew ms.window 0 bytes w.machine.memory, anew-keeps ms.window bytes w.machine.memory)

pub reset-any : {H : Type 0} (ms : Settings) (w : World H End) (memory : List ℕ) → length memory ≡ length w.machine.memory
    → WindowKept ms.window w.machine.memory memory → (resets ms w memory).machine.memory ≡ memory
reset-any ms w memory = anew-any ms.window w.machine.memory memory

-- What is listed of one of the link's own events, in any world and whatever the ends are, is just what joins the queues: no frame is left out, and
-- none is invented. `more` is what the link takes in a further event.
pub listed : {H M X : Type 0} (ends : Ends H M X) (more : World H M → X → List Taken) (w : World H M) (e : Own) → Joined (takes ends more w (own e)) w (step ends w (own e))
listed = own-joins

-- And so it is of a reset, which empties both queues first: they are then what it lists.
pub listed-reset : {H : Type 0} (ms : Settings) (w : World H End) (bytes : List ℕ)
    → ((resets ms w bytes).to_machine ≡ host_frames (reset_takes ms w bytes)) × ((resets ms w bytes).to_host ≡ machine_frames (reset_takes ms w bytes))
unfolding host_frames machine_frames
listed-reset ms w bytes = (refl, refl)
