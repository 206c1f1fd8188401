-- A load decided in numbers is what the machine does with it.
use Rattle.std.specs.Prelude.{ℕ, zero, suc, ◌≤◌, ◌≡◌, refl, Bool, true, ◌||◌, cond as pick, List, length, eqb}
use Rattle.std.proofs.Common.{◌∙◌, arith}
use Rattle.std.proofs.Math.Bool.{false}
use Rattle.version.specs.Version.{older}
use Rattle.parameters.specs.declared.Parameters.{Parameters}
use Rattle.parameters.specs.Parameters.{kept}
use Rattle.block.specs.Block.{place, block}
use Rattle.block.specs.Laws.{length-block}
use Rattle.memory.specs.Memory.{fits, laid, deposited}
use Rattle.message.specs.declared.Fields.{Fields}
use Rattle.message.specs.Read.{part}
use Rattle.machine_record.specs.declared.Machine.{Machine}
use Rattle.machine_record.specs.declared.Settings.{Settings}
use Rattle.machine_record.specs.Record.{started, keeping}
use Rattle.machine_number.specs.Number.{heed}
use Rattle.machine_next.specs.declared.Sends.TheVariants.{Nothing, Load}
use Rattle.machine_next.specs.declared.Next.{Next}
use Rattle.machine_next.specs.Next.{by_number, taken_as, on_load, parameters_fit, parameters_laid, on_parameters, next, stored, does}
use Rattle.machine_next.specs.Inner.{taken, heeded}

module _ (s : Settings) (f : Fields) (frame memory : List ℕ) where
  -- a choice of decisions does what the chosen one does
  pub chosen : (b : Bool) (x y : Next) → does s f frame memory (pick b x y) ≡ pick b (does s f frame memory x) (does s f frame memory y)
  chosen true x y = refl
  chosen false x y = refl

  does-taken : (m : Machine) (number : ℕ) (fit : Bool) (fitted : Machine) → fits s.window f.address (length (part frame f)) (length memory) ≡ fit
      → does s f frame memory (taken m number fit fitted false) ≡ taken_as m.parameters number fit fitted (laid (part frame f) f.address memory) memory
  does-taken m number true fitted e = rw e
  does-taken m number false fitted e = refl

  -- the number rule of a decision is the number rule of what it does
  does-heeded : (m : Machine) (number : ℕ) (n : Next) → does s f frame memory (heeded m number n) ≡ by_number m number (does s f frame memory n) memory
  unfolding by_number
  does-heeded m number n =
      let again : Next = next m false false (Load m.expected m.error) in
      let nothing : Next = next m false false Nothing in
      chosen (eqb (heed m number) 1) n (pick (eqb (heed m number) 2) again nothing) ∙ (rw (chosen (eqb (heed m number) 2) again nothing))

  pub does_load : (m : Machine) (number n size : ℕ) (fitted : Machine) → length (part frame f) ≡ n → length memory ≡ size
      → does s f frame memory (heeded m number (taken m number (fits s.window f.address n size) fitted false)) ≡ on_load s m number f.address (part frame f) fitted memory
  unfolding on_load
  does_load m number n size fitted p q =
      does-heeded m number (taken m number (fits s.window f.address n size) fitted false)
      ∙ (rw (does-taken m number (fits s.window f.address n size) fitted (rw (p, q)), p, q))

  -- what is stored of parameters that fit is what they lay
  stored-laid : (p : Parameters) → parameters_fit s (length memory) ≡ true → stored s p memory ≡ parameters_laid s p memory
  stored-laid p = go (older s.version)
    where
      go : (b : Bool) → pick b (fits s.window (place (length memory)) 14 (length memory)) true ≡ true
          → pick b (deposited s.window (block p memory) (place (length memory)) memory) memory ≡ pick b (laid (block p memory) (place (length memory)) memory) memory
      go true e = rw (length-block p memory, e)
      go false e = refl

  does-kept : (m : Machine) (number : ℕ) (fit : Bool) (fitted : Machine) → parameters_fit s (length memory) ≡ fit
      → does s f frame memory (taken m number fit fitted true)
      ≡ taken_as m.parameters number fit (keeping fitted (kept (part frame f))) (parameters_laid s (kept (part frame f)) memory) memory
  does-kept m number true fitted e = rw (stored-laid (kept (part frame f)) e)
  does-kept m number false fitted e = refl

  pub does-parameters : (m : Machine) (number transfer size : ℕ) → length memory ≡ size
      → does s f frame memory (heeded m number (taken m number (parameters_fit s size) (started m.parameters transfer) true))
      ≡ on_parameters s m number (part frame f) transfer memory
  unfolding on_parameters
  does-parameters m number transfer size e =
      let fitted = started m.parameters transfer in
      does-heeded m number (taken m number (parameters_fit s size) fitted true) ∙ (rw (does-kept m number (parameters_fit s size) fitted (rw e), e))

-- a state of at most 1 is Idle or Offering
pub idle_or_offering : (state : ℕ) → state ≤ 1 → (eqb state 0 || eqb state 1) ≡ true
idle_or_offering zero h = refl
idle_or_offering (suc zero) h = refl
idle_or_offering (suc (suc n)) h = absurd (omega arith)
