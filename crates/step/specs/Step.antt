-- The shape of every call of an end (PROTOCOL 7, 'Refusals'): the refusals in their order, then what the end does.
-- Generic in the end's record, H, and in what else it is lent to change, B: memory, a dump buffer, or nothing.
use Rattle.std.specs.Prelude.{ℕ, ◌≡◌, Bool, cond as pick, List, [], ◌∷◌, eqb}
use Rattle.buffer.specs.declared.Written.{Written}
use Rattle.buffer.specs.Lay.{written, refused}
use Rattle.message.specs.declared.Fields.{Fields}
use Rattle.message.specs.Message.{Message}
use Rattle.message.specs.Read.{fields}
use Rattle.message.specs.Write.{sent}

-- What an end sends: nothing, or a message.
pub data Sending : Type 0 where
  nothing : Sending
  sends : Message → Sending

-- What an end does: its next record, what it leaves of what it was lent, and what it sends.
pub record Act (H B : Type 0) : Type 0 where
  pub end : H
  pub lent : B
  pub sending : Sending

-- What a call leaves: the record, what was lent, the reply buffer, and the call's answer.
pub record Outcome (H B : Type 0) : Type 0 where
  pub end : H
  pub lent : B
  pub reply : List ℕ
  pub answer : Written

-- ---- refusals
-- refusal n unless a condition holds; 0 is no refusal
abbrev pub unless : Bool → ℕ → ℕ
unless condition n = pick condition 0 n

-- the first refusal of a list, in its order
unfoldable pub first : List ℕ → ℕ
first [] = 0
first (n ∷ rest) = pick (eqb n 0) (first rest) n

module _ {H B : Type 0} where
  abbrev pub acts : H → B → Sending → Act H B
  acts end lent sending = record { end = end; lent = lent; sending = sending }

  -- nothing changes, and nothing is sent
  abbrev pub ignores : H → B → Act H B
  ignores end lent = acts end lent nothing

  -- a refusal changes nothing
  abbrev pub refuses : ℕ → H → B → List ℕ → Outcome H B
  refuses n end lent reply = record { end = end; lent = lent; reply = reply; answer = refused n }

  -- what is sent stands in the reply buffer; with nothing to send the length is 0 and the buffer stays
  abbrev pub told : H → B → List ℕ → Sending → Outcome H B
  told end lent reply nothing = record { end = end; lent = lent; reply = reply; answer = written 0 }
  told end lent reply (sends what) = record { end = end; lent = lent; reply = (sent what reply).buffer; answer = (sent what reply).answer }

  abbrev pub gives : Act H B → List ℕ → Outcome H B
  gives act reply = told act.end act.lent reply act.sending

  -- ---- calls
  -- a call: its refusal, or what the end does
  abbrev pub call : ℕ → H → B → List ℕ → Act H B → Outcome H B
  call n end lent reply act = pick (eqb n 0) (gives act reply) (refuses n end lent reply)

  -- a call on a frame, read under a version: its refusal, then the frame's own, or what the end does with the frame's numbers
  abbrev pub frame_call : ℕ → ℕ → List ℕ → H → B → List ℕ → (Fields → Act H B) → Outcome H B
  frame_call version n frame end lent reply react = call (first (n ∷ (fields version frame).refusal ∷ [])) end lent reply (react (fields version frame))

  -- what came out is what the definition leaves
  abbrev pub Leaves : Outcome H B → H → Written → B → List ℕ → Type 0
  Leaves o end answer lent reply = (end ≡ o.end) × (answer ≡ o.answer) × (lent ≡ o.lent) × (reply ≡ o.reply)
