-- What the calls of the machine come to on the link.
use Rattle.std.specs.Prelude.{ℕ, ◌≤◌, ◌≡◌, refl, List, [], ◌∷◌, length, eqb}
use Rattle.std.proofs.Common.{subst, ◌∙◌, inl, inr, le-leb, eqb-true}
use Rattle.buffer.specs.declared.Written.{Written}
use Rattle.octets.specs.TestLaws.{by_cases}
use Rattle.message.specs.declared.Fields.{Fields}
use Rattle.message.specs.Read.{fields}
use Rattle.step.specs.Step.{Act, Outcome, first, gives, Leaves}
use Rattle.step.specs.Laws.{none}
use Rattle.machine_record.specs.declared.Machine.{Machine}
use Rattle.machine_record.specs.declared.Settings.{Settings}
use Rattle.machine_checks.specs.Checks.{refusal}
use Rattle.machine_next.specs.Next.{react}
use Rattle.machine_timer.specs.Timer.{on_timer, machine_timer}
use Rattle.machine.specs.Machine.{machine_frame}
use Rattle.link.specs.Link.{Frame, Turn, refuses, acts, turn, turned, queued}
use Rattle.link.proofs.CallLaws as call
use Rattle.link.proofs.CallLaws.{called}
use Rattle.link.specs.MachineEnd.{End, machine_end}

-- what it does
abbrev pub MachineAct : Type 0
MachineAct = Act Machine (List ℕ)

-- what a call comes to
abbrev pub Becomes : Turn End → MachineAct → Type 0
Becomes = call.Becomes machine_end

module _ (ms : Settings) (m : Machine) (memory b : List ℕ) where
  pub on_frame_lem : (f : Frame) → Becomes (turned machine_end (machine_frame ms m f memory b)) (react ms m (fields ms.version f) f memory)
  on_frame_lem f = called machine_end (first (refusal ms m (length memory) (length b) ∷ (fields ms.version f).refusal ∷ [])) m memory b (react ms m (fields ms.version f) f memory)

  -- a call comes to what the machine does with the frame if it can be read; else it is refused
  pub on_read : (f : Frame) (a : MachineAct) → ((fields ms.version f).refusal ≡ 0 → react ms m (fields ms.version f) f memory ≡ a)
      → Becomes (turned machine_end (machine_frame ms m f memory b)) a
  on_read f a does =
      let act = react ms m (fields ms.version f) f memory in
      let n = first (refusal ms m (length memory) (length b) ∷ (fields ms.version f).refusal ∷ []) in
      by_cases (λ (o : Outcome Machine (List ℕ)). Becomes (turned machine_end o) a) (eqb n 0)
      (λ e. subst (Becomes (turned machine_end (gives act b))) (does (none _ _ (none _ _ (eqb-true n 0 e)).1).0) (inr (call.told_as machine_end 0 m memory b act refl)))
      (λ e. inl (rw e))

  pub on_timer_lem : Becomes (turned machine_end (machine_timer ms m memory b)) (on_timer ms m memory)
  on_timer_lem = called machine_end (refusal ms m (length memory) (length b)) m memory b (on_timer ms m memory)

  pub frame-unrefused : (f : Frame) → refusal ms m (length memory) (length b) ≡ 0 → (fields ms.version f).refusal ≡ 0 → turned machine_end (machine_frame ms m f memory b) ≡ refuses → ⊥
  frame-unrefused f r e =
      call.frame-unrefused machine_end ms.version (refusal ms m (length memory) (length b)) f m memory b (λ (x : Fields). react ms m x f memory) r e

  pub timer_unrefused : refusal ms m (length memory) (length b) ≡ 0 → turned machine_end (machine_timer ms m memory b) ≡ refuses → ⊥
  timer_unrefused r = call.unrefused machine_end (refusal ms m (length memory) (length b)) m memory b (on_timer ms m memory) r

-- what one machine is not refused with 1,500 bytes is refused to none with as many
pub as_accepted : (ms : Settings) (m m' : Machine) (size room : ℕ) → m.state ≤ 4 → m'.state ≤ 4 → 1500 ≤ room
    → refusal ms m size 1500 ≡ 0 → refusal ms m' size room ≡ 0
unfolding first
as_accepted ms m m' size room h h' l e =
    let same : refusal ms m' size room ≡ refusal ms m size 1500 = rw (le-leb m.state 4 h, le-leb m'.state 4 h', le-leb 1500 room l) in
    same ∙ e

-- what a machine's start call leaves that is not refused: that machine and its memory, and the frame that a timer gives
pub starts : (ms : Settings) (m m' : Machine) (memory memory' reply reply' : List ℕ) (answer : Written) → refusal ms m (length memory) (length reply) ≡ 0
    → Leaves (machine_timer ms m memory reply) m' answer memory' reply'
    → turn (machine_end m' memory') answer reply' ≡ acts (machine_end m memory) (queued (on_timer ms m memory).sending)
starts ms m m' memory memory' reply reply' answer r l =
    rw (l.0, l.1, l.2, l.3) (call.told_as machine_end (refusal ms m (length memory) (length reply)) m memory reply (on_timer ms m memory) r)
