-- The machine's call on a frame (PROTOCOL 4, 'Machine end', and 7, 'Refusals').
use Rattle.std.specs.Prelude.{ℕ, List, length}
use Rattle.message.specs.declared.Fields.{Fields}
use Rattle.step.specs.Step.{Outcome, frame_call}
use Rattle.machine_record.specs.declared.Settings.{Settings}
use Rattle.machine_record.specs.declared.Machine.{Machine}
use Rattle.machine_checks.specs.Checks.{refusal}
use Rattle.machine_next.specs.Next.{react}

abbrev pub machine_frame : Settings → Machine → List ℕ → List ℕ → List ℕ → Outcome Machine (List ℕ)
machine_frame s m frame memory reply =
    frame_call s.version (refusal s m (length memory) (length reply)) frame m memory reply (λ (f : Fields). react s m f frame memory)
