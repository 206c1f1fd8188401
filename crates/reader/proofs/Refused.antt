-- What `fields` gives of a refused frame: a refusal from 1 to 4, and nothing beside it.
use Rattle.std.specs.Prelude.{ℕ, ◌+◌, ◌≤◌, ◌≡◌, List, length, drop, eqb, ltb}
use Rattle.std.proofs.Math.Path.{refl}
use Rattle.std.proofs.Math.Option.{Option, none, some}
use native.Mathlib.Omega.{arith}
use Rattle.octets.specs.TestLaws.{by_cases}
use Rattle.entries_next.specs.declared.Place.{Place}
use Rattle.entries_next.specs.declared.Place.TheVariants.{Kind, Size, Value, Time, Transfer, Outside, Excess}
use Rattle.entries.specs.Entries.{walk}
use Rattle.message.specs.declared.Fields.{Fields}
use Rattle.message.specs.Message.{program_listed, form_listed, id_length}
use Rattle.message.specs.Read.{byte, refused_fields, ended, program_refusal, in_turn, Row, rows, find, judged, frame, fields}

abbrev Few : ℕ → Type 0
Few n = n ≤ 4

abbrev pub Alone : Fields → Type 0
Alone f = (f.refusal ≡ 0 → ⊥) → (refused_fields f.refusal ≡ f) × (f.refusal ≤ 4)

alone : (n : ℕ) → n ≤ 4 → Alone (refused_fields n)
alone n h z = (refl, h)

ended-few : (p : Place) → Few (ended p)
ended-few Kind = omega arith
ended-few (Size kind) = omega arith
ended-few (Value n) = omega arith
ended-few (Time k before) = omega arith
ended-few (Transfer n) = by_cases Few (eqb n 0) (λ _. omega arith) (λ _. omega arith)
ended-few Outside = omega arith
ended-few Excess = omega arith

program-few : (s : List ℕ) → Few (program_refusal s)
program-few s =
    by_cases Few (program_listed (byte s 3))
    (λ _. by_cases Few (form_listed (byte s 4)) (λ _. by_cases Few (ltb (length s) (6 + id_length (byte s 4))) (λ _. omega arith) (λ _. omega arith)) (λ _. omega arith))
    (λ _. omega arith)

module _ (version : ℕ) (s : List ℕ) where
  in_turn-few : (code : ℕ) → Few (in_turn version code s)
  in_turn-few code =
      by_cases Few (eqb code 8) (λ _. program-few s)
      (λ _. by_cases Few (eqb code 20) (λ _. ended-few (walk version Kind (drop 2 s))) (λ _. omega arith))

  judged-alone : (code at fixed : ℕ) → Alone (judged version code at fixed s)
  judged-alone code at fixed =
      by_cases Alone (eqb (in_turn version code s) 0) (λ _ z. absurd (z refl)) (λ _. alone (in_turn version code s) (in_turn-few code))

  frame-alone : (o : Option Row) → Alone (frame version s o)
  frame-alone none = alone 3 (omega arith)
  frame-alone (some row) =
      by_cases Alone (ltb (length s) row.shortest) (λ _. alone 1 (omega arith))
      (λ _. by_cases Alone (ltb row.longest (length s)) (λ _. alone 2 (omega arith)) (λ _. judged-alone row.code row.data_at row.shortest))

  pub fields-alone : Alone (fields version s)
  unfolding fields
  fields-alone = by_cases Alone (eqb (length s) 0) (λ _. alone 1 (omega arith)) (λ _. frame-alone (find rows (byte s 0)))
