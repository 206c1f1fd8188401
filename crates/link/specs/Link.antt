-- The link (PROTOCOL 6, 'Link'): two queues of frames between two ends, and the events. Generic in the ends and in
-- what else may happen.
use Rattle.std.specs.Prelude.{ℕ, ◌+◌, Bool, ◌&&◌, cond as pick, List, [], ◌∷◌, ◌++◌, length, take, eqb}
use Rattle.buffer.specs.declared.Written.{Written}
use Rattle.message.specs.Read.{fields}
use Rattle.message.specs.Write.{layout}
use Rattle.step.specs.Step.{Outcome, Sending, nothing, sends}

abbrev pub Frame : Type 0
Frame = List ℕ

-- What a call comes to: it is refused, or the end moves on and perhaps returns a frame.
pub data Turn (E : Type 0) : Type 0 where
  refuses : Turn E
  acts : E → List Frame → Turn E

-- the frame that a call returned in its reply buffer, if its length is not 0
abbrev pub frames : Written → List ℕ → List Frame
frames answer reply = pick (eqb answer.length 0) [] (take answer.length reply ∷ [])

-- a call's answer as a turn
abbrev pub turn : {E : Type 0} → E → Written → List ℕ → Turn E
turn end answer reply = pick (eqb answer.refusal 0) (acts end (frames answer reply)) refuses

-- what a call leaves, as a turn of an end that is made of its record and of what it was lent to change
abbrev pub turned : {H B E : Type 0} → (H → B → E) → Outcome H B → Turn E
turned end o = turn (end o.end o.lent) o.answer o.reply

-- what an end sends, as frames
abbrev pub queued : Sending → List Frame
queued nothing = []
queued (sends what) = layout what ∷ []

-- The ends, the frames on their way to each, how many host frames the link has taken, and how many frames that are to be counted it has
-- handed to the host.
pub record World (H M : Type 0) : Type 0 where
  pub host : H
  pub machine : M
  pub to_machine : List Frame
  pub to_host : List Frame
  pub taken : ℕ
  pub heard : ℕ

-- The two ends alone, as a further event left them.
pub record Left (H M : Type 0) : Type 0 where
  pub host : H
  pub machine : M

-- Which frames handed to the host are to be counted; the calls of the two ends, on a frame and on a timer, each lent a reply buffer; and what
-- each event of X does, beside the link's own.
pub record Ends (H M X : Type 0) : Type 0 where
  pub hears : H → Frame → Bool
  pub host_frame : H → Frame → List ℕ → Turn H
  pub host_timer : H → List ℕ → Turn H
  pub machine_frame : M → Frame → List ℕ → Turn M
  pub machine_timer : M → List ℕ → Turn M
  pub further : World H M → X → World H M

-- the same ends but for the calls of the host
abbrev pub with_host : {H M X : Type 0} → Ends H M X → (H → Frame → List ℕ → Turn H) → (H → List ℕ → Turn H) → Ends H M X
with_host ends frame timer =
    record {
      hears = ends.hears;
      host_frame = frame;
      host_timer = timer;
      machine_frame = ends.machine_frame;
      machine_timer = ends.machine_timer;
      further = ends.further;
    }

-- to be counted by a host with this version and verdict: a frame that can be read while the verdict is 0
abbrev pub hearing : ℕ → ℕ → Frame → Bool
hearing version verdict f = eqb (fields version f).refusal 0 && eqb verdict 0

-- The link's own events. Each but a drop is one call, with a reply buffer of any length and content.
pub data Own : Type 0 where
  hand_to_machine : List ℕ → Own
  keep_to_machine : List ℕ → Own
  drop_to_machine : Own
  hand_to_host : List ℕ → Own
  keep_to_host : List ℕ → Own
  drop_to_host : Own
  host_timer : List ℕ → Own
  machine_timer : List ℕ → Own

pub data Event (X : Type 0) : Type 0 where
  own : Own → Event X
  further : X → Event X

module _ {H M : Type 0} where
  -- a frame that a call returns joins its end's queue; a refused call changes nothing
  abbrev pub machine_turn : World H M → List Frame → Turn M → World H M
  machine_turn w rest refuses = w
  machine_turn w rest (acts m out) =
      record { host = w.host; machine = m; to_machine = rest; to_host = w.to_host ++ out; taken = w.taken; heard = w.heard }

  -- n: how many frames to be counted the call is handed
  abbrev pub host_turn : World H M → ℕ → List Frame → Turn H → World H M
  host_turn w n rest refuses = w
  host_turn w n rest (acts h out) =
      record {
        host = h;
        machine = w.machine;
        to_machine = w.to_machine ++ out;
        to_host = rest;
        taken = w.taken + length out;
        heard = w.heard + n;
      }

  -- the world with another queue
  abbrev pub with_to_machine : World H M → List Frame → World H M
  with_to_machine w q =
      record { host = w.host; machine = w.machine; to_machine = q; to_host = w.to_host; taken = w.taken; heard = w.heard }

  abbrev pub with_to_host : World H M → List Frame → World H M
  with_to_host w q =
      record { host = w.host; machine = w.machine; to_machine = w.to_machine; to_host = q; taken = w.taken; heard = w.heard }

  abbrev pub left : World H M → Left H M
  left w = record { host = w.host; machine = w.machine }

  -- The ends as the last further event of a list left them, `first` if it has none; `go` is what one event makes of the world.
  unfoldable pub last_left : {X : Type 0} → (World H M → Event X → World H M) → Left H M → World H M → List (Event X) → Left H M
  last_left go first w [] = first
  last_left go first w (own e ∷ es) = last_left go first (go w (own e)) es
  last_left go first w (further x ∷ es) = last_left go (left (go w (further x))) (go w (further x)) es

  -- what an event makes of the first frame of a queue and of those behind it; an event on an empty queue changes nothing
  abbrev pub on_first : World H M → List Frame → (Frame → List Frame → World H M) → World H M
  on_first w [] event = w
  on_first w (f ∷ q) event = event f q

  module _ {X : Type 0} (ends : Ends H M X) where
    -- 1 for a frame that is to be counted, else 0
    abbrev pub counts : H → Frame → ℕ
    counts h f = pick (ends.hears h f) 1 0

    abbrev pub own_step : World H M → Own → World H M
    own_step w (hand_to_machine b) = on_first w w.to_machine (λ f q. machine_turn w q (ends.machine_frame w.machine f b))
    own_step w (keep_to_machine b) = on_first w w.to_machine (λ f q. machine_turn w (f ∷ q) (ends.machine_frame w.machine f b))
    own_step w drop_to_machine = on_first w w.to_machine (λ f q. with_to_machine w q)
    own_step w (hand_to_host b) = on_first w w.to_host (λ f q. host_turn w (counts w.host f) q (ends.host_frame w.host f b))
    own_step w (keep_to_host b) = on_first w w.to_host (λ f q. host_turn w (counts w.host f) (f ∷ q) (ends.host_frame w.host f b))
    own_step w drop_to_host = on_first w w.to_host (λ f q. with_to_host w q)
    own_step w (host_timer b) = host_turn w 0 w.to_host (ends.host_timer w.host b)
    own_step w (machine_timer b) = machine_turn w w.to_machine (ends.machine_timer w.machine b)

    abbrev pub step : World H M → Event X → World H M
    step w (own e) = own_step w e
    step w (further x) = ends.further w x

    -- a whole list of events, in turn
    unfoldable pub run : World H M → List (Event X) → World H M
    run w [] = w
    run w (e ∷ es) = run (step w e) es
