-- The numbered frames of a load, whatever they hold, and the machine as their receiver. An image's segments are one instance.
use Rattle.std.proofs.Math.Bool.{or-true}
use Prim.Native.Nat.{ℕ, zero, suc, ◌+◌, ◌%◌, ◌≤◌, ◌<◌}
use Rattle.std.proofs.Math.Path.{◌≡◌, refl, sym}
use Rattle.std.proofs.Common.{subst, ⊎_elim, arith}
use Rattle.std.proofs.Math.Bool.{Bool, true, false, cond as pick}
use Rattle.std.specs.Prelude.{◌||◌, ◌⊎◌}
use mathlib.Core.List.{List}
use Rattle.std.proofs.Math.Logic.{inl, inr}
use Rattle.std.proofs.Math.ListN.{length}
use Rattle.std.proofs.Math.Dec.{eqb}
use borrow.Author.Tests.{eq-eqb, ne_eqb, eqb-false}
use Rattle.octets.specs.TestLaws.{by_cases}
use Rattle.message.specs.Message.{Message, request_load}
use Rattle.message.specs.Write.{layout}
use Rattle.step.specs.Step.{nothing, sends, acts}
use Rattle.parameters.specs.declared.Parameters.{Parameters}
use Rattle.parameters.specs.Parameters.{none}
use Rattle.machine_record.specs.declared.Machine.{Machine}
use Rattle.machine_record.specs.declared.Settings.{Settings}
use Rattle.machine_record.specs.Record.{requesting, loading}
use Rattle.machine_number.specs.Number.{after}
use Rattle.machine_next.specs.Next.{by_number, taken_as}
use Rattle.machine_timer.specs.Timer.{asks_load, on_timer, machine_timer}
use Rattle.machine.specs.Machine.{machine_frame}
use Rattle.link.specs.Link.{Frame, Turn, turned, World}
use Rattle.link.proofs.NumberedLaws.{Transfer, Receiver}
use Rattle.link.specs.MachineEnd.{End, machine_end, ends_with}
use Rattle.link.proofs.MachineEndLaws.{MachineAct, Becomes, on_timer_lem}

-- How many frames; the length of memory; each one's message, whether it fits, and the memory with it laid over; the machine after the last,
-- from what it kept before.
pub record Frames (ms : Settings) : Type 0 where
  pub many : ℕ
  pub size : ℕ
  pub what : ℕ → Message
  pub fit : ℕ → Bool
  pub lays : ℕ → List ℕ → List ℕ
  pub done : Parameters → Machine
  -- there is one; the last that fits starts the machine
  pub some : 1 ≤ many
  pub ended : (p : Parameters) → (done p).state ≡ 4
  -- laying keeps memory's length, and a frame but the last laid twice is laid once
  pub keeps : (i : ℕ) (memory : List ℕ) → i < many → fit i ≡ true → length memory ≡ size → length (lays i memory) ≡ size
  pub twice : (i : ℕ) (memory : List ℕ) → i + 1 < many → fit i ≡ true → length memory ≡ size → lays i (lays i memory) ≡ lays i memory
  -- the machine takes frame i by the number rule
  pub reacts : (i : ℕ) (m : Machine) (memory b : List ℕ) → i < many → length memory ≡ size
      → Becomes (turned machine_end (machine_frame ms m (layout (what i)) memory b))
      (by_number m (i % 256)
      (taken_as m.parameters (i % 256) (fit i) (pick (eqb (i + 1) many) (done m.parameters) (loading m.parameters (after (i % 256)) 0)) (lays i memory) memory) memory)

module _ {ms : Settings} (fr : Frames ms) (old : List ℕ) where
  -- memory after k answers: those frames that fit are laid over the old one
  unfoldable pub laid : ℕ → List ℕ
  laid zero = old
  laid (suc k) = pick (fr.fit k) (fr.lays k (laid k)) (laid k)

  -- the machine after a frame that fits, and a fresh machine after k answers
  abbrev pub fitted : Parameters → ℕ → Machine
  fitted p k = pick (eqb (k + 1) fr.many) (fr.done p) (loading p (after (k % 256)) 0)

  unfoldable pub machine_at : ℕ → Machine
  machine_at zero = requesting
  machine_at (suc k) = pick (fr.fit k) (fitted none k) (loading none (after (k % 256)) 1)

  abbrev pub At : ℕ → End
  At k = record { machine = machine_at k; memory = laid k }

  -- the request (0), and the answer to frame k
  abbrev pub said : ℕ → Message
  said zero = asks_load ms
  said (suc k) = request_load (after (k % 256)) (pick (fr.fit k) 0 1)

  -- the frames both ways, beside any host
  abbrev pub transfer : {H : Type 0} → (ℕ → H → Type 0) → Transfer H End
  transfer Stage =
      record {
        many = fr.many;
        fit = fr.fit;
        down = λ i. layout (fr.what i);
        up = λ k. layout (said k);
        Stage = Stage;
        At = At;
        Passed = λ k. (k < fr.many) × (k % 256 ≡ 0 → ⊥);
      }

  module _ (same : length old ≡ fr.size) where
    pub length-laid : (k : ℕ) → k ≤ fr.many → length (laid k) ≡ fr.size
    unfolding laid
    length-laid zero l = same
    length-laid (suc k) l =
        let z = length-laid k (omega arith) in
        by_cases (λ (x : List ℕ). length x ≡ fr.size) (fr.fit k) (λ e. fr.keeps k (laid k) l e z) (λ _. z)

    abbrev takes : Parameters → ℕ → List ℕ → MachineAct
    takes p k memory = taken_as p (k % 256) (fr.fit k) (fitted p k) (fr.lays k memory) memory

    -- ---- the next frame
    spread : (b : Bool) (f l : Machine) (o m : List ℕ) (n : ℕ)
        → pick b (acts f o (sends (request_load n 0))) (acts l m (sends (request_load n 1))) ≡ acts (pick b f l) (pick b o m) (sends (request_load n (pick b 0 1)))
    spread true f l o m n = refl
    spread false f l o m n = refl

    taken : (k : ℕ) → takes none k (laid k) ≡ acts (machine_at (suc k)) (laid (suc k)) (sends (said (suc k)))
    unfolding laid machine_at
    taken k = spread (fr.fit k) (fitted none k) (loading none (after (k % 256)) 1) (fr.lays k (laid k)) (laid k) (after (k % 256))

    new : (k : ℕ) → k < fr.many → ((j : ℕ) → k ≡ suc j → fr.fit j ≡ true)
        → by_number (machine_at k) (k % 256) (takes (machine_at k).parameters k (laid k)) (laid k) ≡ acts (machine_at (suc k)) (laid (suc k)) (sends (said (suc k)))
    unfolding machine_at by_number
    new zero h f = taken zero
    new (suc j) h f =
        rw (f j refl, ne_eqb (j + 1) fr.many (omega arith), eq-eqb (suc j % 256) (after (j % 256)) (omega arith), or-true (eqb (suc j % 256) 0))
        (taken (suc j))

    -- ---- a frame that was answered already: the machine and its memory stay, and it is silent (Started) or answers as before
    abbrev Again : ℕ → MachineAct → Type 0
    Again k a = (a ≡ acts (machine_at (suc k)) (laid (suc k)) nothing) ⊎ (a ≡ acts (machine_at (suc k)) (laid (suc k)) (sends (said (suc k))))

    -- Loading, with the error that the answer had
    repeated : (k error : ℕ) (taken : MachineAct) (memory : List ℕ) (last : MachineAct)
        → last ≡ acts (loading none (after (k % 256)) error) memory (sends (request_load (after (k % 256)) error)) → taken ≡ last
        → by_number (loading none (after (k % 256)) error) (k % 256) taken memory ≡ last
    unfolding by_number
    repeated k error taken memory last e h =
        go (eqb (k % 256) 0 || eqb (k % 256) (after (k % 256))) (eqb (after (k % 256)) (after (k % 256))) (eq-eqb (after (k % 256)) (after (k % 256)) refl)
      where
        go : (t u : Bool) → u ≡ true
            → pick (eqb (pick t 1 (pick u 2 0)) 1) taken
            (pick (eqb (pick t 1 (pick u 2 0)) 2) (acts (loading none (after (k % 256)) error) memory (sends (request_load (after (k % 256)) error)))
            (acts (loading none (after (k % 256)) error) memory nothing)) ≡ last
        go true u q = h
        go false true q = sym e
        go false false q = let z : ◌≡◌ {A = ℕ} 0 1 = cc in absurd (omega arith)

    -- Started
    past : (m : Machine) (number : ℕ) (taken : MachineAct) (memory : List ℕ) → m.state ≡ 4 → by_number m number taken memory ≡ acts m memory nothing
    unfolding by_number
    past m number taken memory e = rw e

    again : (k : ℕ) (b d : Bool) → k < fr.many → fr.fit k ≡ b → eqb (k + 1) fr.many ≡ d
        → Again k (by_number (machine_at (suc k)) (k % 256) (takes (machine_at (suc k)).parameters k (laid (suc k))) (laid (suc k)))
    unfolding machine_at laid
    again k true true l e f = inl (rw (e, f) (past (fr.done none) (k % 256) _ (fr.lays k (laid k)) (fr.ended none)))
    again k true false l e f =
        let once = fr.twice k (laid k) (omega (arith, eqb-false (k + 1) fr.many f)) e (length-laid k (omega arith)) in
        inr (rw (e, f) (repeated k 0 _ (fr.lays k (laid k)) _ refl (rw once)))
    again k false d l e f = inr (rw e (repeated k 1 _ (laid k) _ refl refl))

    -- ---- a Requesting machine takes number 0 only
    passes : (k : ℕ) (taken : MachineAct) → (k % 256 ≡ 0 → ⊥) → by_number (machine_at 0) (k % 256) taken (laid 0) ≡ acts (machine_at 0) (laid 0) nothing
    unfolding machine_at by_number
    passes k taken e = rw (ne_eqb (k % 256) 0 e)

    -- ---- timers: only a Requesting machine sends
    asks : (b : List ℕ) → Becomes (turned machine_end (machine_timer ms (machine_at 0) (laid 0) b)) (acts (machine_at 0) (laid 0) (sends (said 0)))
    unfolding machine_at
    asks b = on_timer_lem ms (machine_at 0) (laid 0) b

    untimed : (m : Machine) (memory : List ℕ) → m.state ≡ 4 → on_timer ms m memory ≡ acts m memory nothing
    untimed m memory e = rw e

    quiet : (k : ℕ) (memory : List ℕ) → on_timer ms (machine_at (suc k)) memory ≡ acts (machine_at (suc k)) memory nothing
    unfolding machine_at
    quiet k memory = go (fr.fit k) (eqb (k + 1) fr.many)
      where
        at : Bool → Bool → Machine
        at d e = pick d (pick e (fr.done none) (loading none (after (k % 256)) 0)) (loading none (after (k % 256)) 1)

        go : (d e : Bool) → on_timer ms (at d e) memory ≡ acts (at d e) memory nothing
        go true true = untimed (fr.done none) memory (fr.ended none)
        go true false = refl
        go false e = refl

    rests : (k : ℕ) (b : List ℕ) → Becomes (turned machine_end (machine_timer ms (machine_at (suc k)) (laid (suc k)) b)) (acts (machine_at (suc k)) (laid (suc k)) nothing)
    rests k b = subst (Becomes _) (quiet k (laid (suc k))) (on_timer_lem ms (machine_at (suc k)) (laid (suc k)) b)

    -- ---- the machine as a receiver, beside any host and any further events
    module _
        {H X : Type 0} (hears : H → Frame → Bool) (frame : H → Frame → List ℕ → Turn H) (timer : H → List ℕ → Turn H) (more : World H End → X → World H End)
        (Stage : ℕ → H → Type 0) where
      at : (k i : ℕ) (b : List ℕ) {a : MachineAct} → k ≤ fr.many → i < fr.many → by_number (machine_at k) (i % 256) (takes (machine_at k).parameters i (laid k)) (laid k) ≡ a
          → Becomes (turned machine_end (machine_frame ms (machine_at k) (layout (fr.what i)) (laid k) b)) a
      at k i b l n e = subst (Becomes _) e (fr.reacts i (machine_at k) (laid k) b n (length-laid k l))

      pub receiver : Receiver (transfer Stage) (ends_with ms hears frame timer more)
      receiver =
          record {
            new = λ k b l f. at k k b (omega arith) l (new k l f);
            again = λ k b l. ⊎_elim (λ e. inl (at (suc k) k b l l e)) (λ e. inr (at (suc k) k b l l e)) (again k (fr.fit k) (eqb (k + 1) fr.many) l refl refl);
            passes = λ k b p. at 0 k b (omega arith) p.0 (passes k (takes (machine_at 0).parameters k (laid 0)) p.1);
            asks = asks;
            rests = rests;
          }
