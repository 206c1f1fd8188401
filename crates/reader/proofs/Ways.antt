-- The ways through `fields` for a frame that is not empty: its code and length are refused, or its row gives its numbers.
use Prim.Native.Nat.{ℕ, ◌≤◌}
use mathlib.Core.Path.{◌≡◌, refl, sym, ◌∙◌}
use mathlib.Core.Bool.{Bool, true, false, cond}
use mathlib.Core.List.{List}
use mathlib.Core.Option.{Option, none, some}
use native.Mathlib.Omega.{arith}
use lib.ListN.{length}
use lib.Dec.{eqb, ltb}
use borrow.Author.Tests.{ltb-false}
use Rattle.message.specs.declared.Fields.{Fields}
use Rattle.message.specs.Read.{refused_fields, byte, Row, rows, find, judged, frame, fields}
use Rattle.codes.specs.Table.{refusal}
use Rattle.reader.specs.Row.{at_least, by_row}

-- the two tests of a length
refused_by : (early over : Bool) (f : Fields) → (◌≡◌ {A = ℕ} (cond early 1 (cond over 2 0)) 0 → ⊥)
    → cond early (refused_fields 1) (cond over (refused_fields 2) f) ≡ refused_fields (cond early 1 (cond over 2 0))
refused_by true over f h = refl
refused_by false true f h = refl
refused_by false false f h = absurd (h refl)

right_by : (early over : Bool) (f : Fields) → ◌≡◌ {A = ℕ} (cond early 1 (cond over 2 0)) 0
    → (cond early (refused_fields 1) (cond over (refused_fields 2) f) ≡ f) × (early ≡ false)
right_by true over f h = absurd (omega arith)
right_by false true f h = absurd (omega arith)
right_by false false f h = (refl, refl)

module _ (version : ℕ) (s : List ℕ) where
  frame_refused : (o : Option Row) → (refusal (length s) o ≡ 0 → ⊥) → frame version s o ≡ refused_fields (refusal (length s) o)
  frame_refused none h = refl
  frame_refused (some row) h =
      refused_by (ltb (length s) row.shortest) (ltb row.longest (length s)) (judged version row.code row.data_at row.shortest s) h

  frame_right : (o : Option Row) → refusal (length s) o ≡ 0 → (frame version s o ≡ by_row version s o) × (at_least o ≤ length s)
  frame_right none h = absurd (omega arith)
  frame_right (some row) h =
      let r = right_by (ltb (length s) row.shortest) (ltb row.longest (length s)) (judged version row.code row.data_at row.shortest s) h in
      (r.0, ltb-false (length s) row.shortest r.1)

  module _ (n : ℕ) (e : n ≡ refusal (length s) (find rows (byte s 0))) where
    pub long : 0 ≡ n → at_least (find rows (byte s 0)) ≤ length s
    long h = (frame_right (find rows (byte s 0)) (sym e ∙ sym h)).1

    module _ (full : false ≡ eqb (length s) 0) where
      pub refuses : (n ≡ 0 → ⊥) → refused_fields n ≡ fields version s
      unfolding fields
      refuses h = rw (← full, frame_refused (find rows (byte s 0)) (rw e at h), e)

      pub right : 0 ≡ n → by_row version s (find rows (byte s 0)) ≡ fields version s
      unfolding fields
      right h = rw (← full, (frame_right (find rows (byte s 0)) (sym e ∙ sym h)).0)
