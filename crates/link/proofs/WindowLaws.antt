-- The bytes of the machine's ROM window stay, whatever frames come: no host is assumed, and no order of frames.
use Rattle.std.specs.Prelude.{ℕ, refl, Bool, cond as pick, List, ◌∷◌, length}
use Rattle.std.proofs.Common.{◌∙◌}
use Rattle.memory.specs.Memory.{laid, WindowKept}
use Rattle.memory.specs.Laws.{fits-inside, length-laid, laid_outside}
use Rattle.message.specs.declared.Fields.{Fields}
use Rattle.message.specs.Read.{fields}
use Rattle.step.specs.Step.{Act}
use Rattle.machine_record.specs.declared.Machine.{Machine}
use Rattle.machine_record.specs.declared.Settings.{Settings}
use Rattle.machine_next.specs.Next.{react}
use Rattle.machine_next.proofs.ActedLaws.{Acted, ignored, answered, loaded, dumped, completed, looped, react-acted}
use Rattle.link.specs.Link.{Frame, Turn, refuses, acts, World, machine_turn, host_turn}
use Rattle.link.proofs.LinkLaws.{Closed}
use Rattle.link.proofs.CallLaws.{came}
use Rattle.link.proofs.ByteLaws.{same_byte}
use Rattle.link.specs.MachineEnd.{End, ends_with}
use Rattle.link.proofs.MachineEndLaws.{on_frame_lem, on_timer_lem}

-- one call on a frame
module _ (ms : Settings) (m : Machine) (f : Fields) (frame memory : List ℕ) where
  pub react-keeps : WindowKept ms.window memory (react ms m f frame memory).lent
  react-keeps = go _ (react-acted ms m f frame memory)
    where
      go : (act : Act Machine (List ℕ)) → Acted ms m f frame memory act → WindowKept ms.window memory act.lent
      go act ignored = λ a x. refl
      go act (answered m' number error l) = λ a x. refl
      go act (loaded m' number bytes address l e) = λ a x.
          same_byte (laid bytes address memory) memory a (length-laid bytes address memory (fits-inside ms.window address (length bytes) (length memory) e))
          (laid_outside ms.window bytes address memory e a x)
      go act (dumped l) = λ a x. refl
      go act (completed e) = λ a x. refl
      go act (looped c e) = λ a x. refl

-- every event, beside any host and any further events
module _ {H : Type 0} (ms : Settings) (old : List ℕ) where
  abbrev pub Kept : World H End → Type 0
  Kept w = WindowKept ms.window old w.machine.memory

  on_host : (w : World H End) (n : ℕ) (rest : List Frame) (t : Turn H) → Kept w → Kept (host_turn w n rest t)
  on_host w n rest refuses k = k
  on_host w n rest (acts h out) k = k

  pub window_closed : {X : Type 0} (hears : H → Frame → Bool) (frame : H → Frame → List ℕ → Turn H) (timer : H → List ℕ → Turn H) (more : World H End → X → World H End)
      → Closed (ends_with ms hears frame timer more) Kept
  window_closed hears frame timer more =
      record {
        kept_m = λ w f q b e k.
            came (λ (t : Turn End). Kept (machine_turn w (f ∷ q) t)) _ _ _ (on_frame_lem ms w.machine.machine w.machine.memory b f) k
            (λ a x. react-keeps ms w.machine.machine (fields ms.version f) f w.machine.memory a x ∙ k a x);
        lost_m = λ w q l k. k;
        kept_h = λ w f q b e k. on_host w (pick (hears w.host f) 1 0) (f ∷ q) (frame w.host f b) k;
        lost_h = λ w q l k. k;
        timer_h = λ w b k. on_host w 0 w.to_host (timer w.host b) k;
        timer_m = λ w b k.
            came (λ (t : Turn End). Kept (machine_turn w w.to_machine t)) _ _ _ (on_timer_lem ms w.machine.machine w.machine.memory b) k k;
      }
