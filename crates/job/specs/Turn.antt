-- A turn of an end in a rehearsal (PROTOCOL 8, 'Rehearsal'): a call of it, and the frame that it sends joins
-- its queue. Generic in the end's record, H, and in what else it is lent to change, B.
use Rattle.std.specs.Prelude.{ℕ, cond as pick, List, length, take, eqb}
use Rattle.step.specs.Step.{Outcome, ignores, gives}

module _ {H B : Type 0} where
  -- a call on the frame in front; if there is none nothing happens
  abbrev pub on_first : List ℕ → H → B → List ℕ → Outcome H B → Outcome H B
  on_first frame end lent reply o = pick (eqb (length frame) 0) (gives (ignores end lent) reply) o

  -- the frame that a call left in its reply buffer; no bytes are no frame
  abbrev pub frame_of : Outcome H B → List ℕ
  frame_of o = take o.answer.length o.reply
