-- All that a machine can do on a frame: what is so of each of these is so of `react`.
use Prim.Native.Nat.{ℕ, ◌≤◌, min}
use Rattle.std.specs.Prelude.{◌≡◌, refl, Bool, true, false, ◌||◌, cond as pick, List, length, eqb}
use Rattle.std.proofs.Common.{arith, eqb-true}
use Rattle.octets.specs.TestLaws.{by_cases}
use Rattle.version.specs.Version.{older}
use Rattle.parameters.specs.declared.Parameters.{Parameters}
use Rattle.parameters.specs.Parameters.{kept}
use Rattle.block.specs.Block.{place, block}
use Rattle.block.specs.Laws.{length-block}
use Rattle.memory.specs.Memory.{fits, laid, bytes_from}
use Rattle.message.specs.declared.Fields.{Fields}
use Rattle.message.specs.Message.{request_load, dump_data, looped_data}
use Rattle.message.specs.Read.{part}
use Rattle.step.specs.Step.{nothing, sends, Act, acts, ignores}
use Rattle.machine_record.specs.declared.Settings.{Settings}
use Rattle.machine_record.specs.declared.Machine.{Machine}
use Rattle.machine_record.specs.Record.{idle, loading, started, is}
use Rattle.machine_number.specs.Number.{after, heed}
use Rattle.machine_next.specs.Next.{by_number, taken_as, on_load, on_parameters, react}

module _ (s : Settings) (m : Machine) (f : Fields) (frame memory : List ℕ) where
  abbrev data_of : List ℕ
  data_of = part frame f

  -- It ignores the frame; answers a load or parameters, with or without bytes laid over memory; sends a part of memory; ends Offering; or
  -- returns a loop's data. Bytes are laid only where they fit. A machine that was past Offering stays so.
  pub data Acted : Act Machine (List ℕ) → Type 0 where
    ignored : Acted (ignores m memory)
    answered : (m' : Machine) (number error : ℕ) → (2 ≤ m.state → 2 ≤ m'.state) → Acted (acts m' memory (sends (request_load number error)))
    loaded : (m' : Machine) (number : ℕ) (bytes : List ℕ) (address : ℕ) → 2 ≤ m'.state → fits s.window address (length bytes) (length memory) ≡ true
        → Acted (acts m' (laid bytes address memory) (sends (request_load number 0)))
    dumped : m.state ≤ 1 → Acted (acts m memory (sends (dump_data f.address (bytes_from memory f.address (min f.count s.reply_bytes)))))
    completed : m.state ≡ 1 → Acted (acts (idle m.parameters) memory nothing)
    looped : f.code ≡ 24 → m.state ≡ 0 → Acted (acts m memory (sends (looped_data f.receipt data_of)))

  -- a frame that is taken, or repeated, or ignored by its number
  numbered : (number : ℕ) (taken : Act Machine (List ℕ)) → Acted taken → Acted (by_number m number taken memory)
  unfolding by_number
  numbered number taken t =
      by_cases Acted (eqb (heed m number) 1) (λ _. t) (λ _.
      by_cases Acted (eqb (heed m number) 2) (λ _. answered m m.expected m.error (λ l. l)) (λ _. ignored))

  on_load_lem : (number : ℕ) (fitted : Machine) → 2 ≤ fitted.state → Acted (on_load s m number f.address data_of fitted memory)
  unfolding on_load
  on_load_lem number fitted l =
      numbered number _ (by_cases Acted (fits s.window f.address (length data_of) (length memory)) (λ e. loaded fitted (after number) data_of f.address l e)
      (λ _. answered (loading m.parameters (after number) 1) (after number) 1 (λ _. omega arith)))

  on_parameters_lem : Acted (on_parameters s m f.number data_of f.transfer memory)
  unfolding on_parameters
  on_parameters_lem = numbered number _ (go (older s.version))
    where
      number : ℕ
      number = f.number

      p : Parameters
      p = kept data_of

      refused : Acted (acts (loading m.parameters (after number) 1) memory (sends (request_load (after number) 1)))
      refused = answered (loading m.parameters (after number) 1) (after number) 1 (λ _. omega arith)

      go : (b : Bool)
          → Acted (taken_as m.parameters number (pick b (fits s.window (place (length memory)) 14 (length memory)) true) (started p f.transfer)
          (pick b (laid (block p memory) (place (length memory)) memory) memory) memory)
      go true =
          by_cases Acted (fits s.window (place (length memory)) 14 (length memory))
          (λ e. loaded (started p f.transfer) (after number) (block p memory) (place (length memory)) (omega arith) (rw (length-block p memory) e)) (λ _. refused)
      go false = answered (started p f.transfer) (after number) 0 (λ _. omega arith)

  pub react-acted : Acted (react s m f frame memory)
  react-acted =
      by_cases Acted (eqb f.code 0) (λ _. on_load_lem f.number (started m.parameters f.transfer) (omega arith)) (λ _.
      by_cases Acted (eqb f.code 2) (λ _. on_load_lem f.number (loading m.parameters (after f.number) 0) (omega arith)) (λ _.
      by_cases Acted (eqb f.code 20) (λ _. on_parameters_lem) (λ _.
      by_cases Acted (eqb f.code 4) (λ _. by_cases Acted (is 0 m || is 1 m) (λ e. dumped (at_most_one (is 0 m) (is 1 m) refl refl e)) (λ _. ignored)) (λ _.
      by_cases Acted (eqb f.code 1) (λ _. by_cases Acted (is 1 m) (λ e. completed (eqb-true _ _ e)) (λ _. ignored)) (λ _.
      by_cases Acted (eqb f.code 24) (λ c. by_cases Acted (is 0 m) (λ e. looped (eqb-true _ _ c) (eqb-true _ _ e)) (λ _. ignored)) (λ _. ignored))))))
    where
      at_most_one : (a b : Bool) → is 0 m ≡ a → is 1 m ≡ b → a || b ≡ true → m.state ≤ 1
      at_most_one true b x y e = omega (arith, eqb-true m.state 0 x)
      at_most_one false true x y e = omega (arith, eqb-true m.state 1 y)
      at_most_one false false x y e = let z : ◌≡◌ {A = ℕ} 0 1 = cc in absurd (omega arith)
