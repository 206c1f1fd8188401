-- The argument where the order of frames does not matter: each end is as it may be, each frame on its way is as it may be, and every call
-- keeps that.
use Rattle.std.specs.Prelude.{ℕ, List, [], ◌∷◌, ◌++◌}
use Rattle.std.proofs.Common.{subst}
use Rattle.link.specs.Link.{Frame, Turn, refuses, acts, Ends, World, machine_turn, host_turn, counts}
use Rattle.link.proofs.LinkLaws.{Lost, here, there, Closed}

-- every frame of a queue
abbrev pub Each : (Frame → Type 0) → List Frame → Type 0
Each P [] = Unit {0}
Each P (f ∷ q) = P f × Each P q

joined : (P : Frame → Type 0) (p q : List Frame) → Each P p → Each P q → Each P (p ++ q)
joined P [] q a b = b
joined P (f ∷ p) q a b = (a.0, joined P p q a.1 b)

without : (P : Frame → Type 0) {q r : List Frame} → Lost q r → Each P q → Each P r
without P here a = a.1
without P (there l) a = (a.0, without P l a.1)

-- a call that is refused, or leaves such an end and returns such frames
abbrev pub Returns : {E : Type 0} → (E → Type 0) → (Frame → Type 0) → Turn E → Type 0
Returns Ok P refuses = Unit {0}
Returns Ok P (acts x out) = Ok x × Each P out

-- the ends, and the frames to the machine and to the host
module _ {H M X : Type 0} (ends : Ends H M X) (HostOk : H → Type 0) (EndOk : M → Type 0) (Down Up : Frame → Type 0) where
  pub record Holds (w : World H M) : Type 0 where
    pub host : HostOk w.host
    pub end : EndOk w.machine
    pub to_machine : Each Down w.to_machine
    pub to_host : Each Up w.to_host

  -- What is asked of the calls.
  pub record Calls : Type 0 where
    pub host_frame : (h : H) (f : Frame) (b : List ℕ) → HostOk h → Up f → Returns HostOk Down (ends.host_frame h f b)
    pub host_timer : (h : H) (b : List ℕ) → HostOk h → Returns HostOk Down (ends.host_timer h b)
    pub machine_frame : (e : M) (f : Frame) (b : List ℕ) → EndOk e → Down f → Returns EndOk Up (ends.machine_frame e f b)
    pub machine_timer : (e : M) (b : List ℕ) → EndOk e → Returns EndOk Up (ends.machine_timer e b)

  host-turn : (w : World H M) (n : ℕ) (q : List Frame) (t : Turn H) → Holds w → Each Up q → Returns HostOk Down t → Holds (host_turn w n q t)
  host-turn w n q refuses i each m = i
  host-turn w n q (acts h out) i each m =
      record { host = m.0; end = i.end; to_machine = joined Down w.to_machine out i.to_machine m.1; to_host = each }

  machine-turn : (w : World H M) (q : List Frame) (t : Turn M) → Holds w → Each Down q → Returns EndOk Up t → Holds (machine_turn w q t)
  machine-turn w q refuses i each m = i
  machine-turn w q (acts e out) i each m =
      record { host = i.host; end = m.0; to_machine = each; to_host = joined Up w.to_host out i.to_host m.1 }

  pub closed : Calls → Closed ends Holds
  closed c =
      record {
        kept_m = λ w f q b e i.
            let each = subst (Each Down) e i.to_machine in machine-turn w (f ∷ q) (ends.machine_frame w.machine f b) i each (c.machine_frame w.machine f b i.end each.0);
        lost_m = λ w q l i. record { host = i.host; end = i.end; to_machine = without Down l i.to_machine; to_host = i.to_host };
        kept_h = λ w f q b e i.
            let each = subst (Each Up) e i.to_host in host-turn w (counts ends w.host f) (f ∷ q) (ends.host_frame w.host f b) i each (c.host_frame w.host f b i.host each.0);
        lost_h = λ w q l i. record { host = i.host; end = i.end; to_machine = i.to_machine; to_host = without Up l i.to_host };
        timer_h = λ w b i. host-turn w 0 w.to_host (ends.host_timer w.host b) i i.to_host (c.host_timer w.host b i.host);
        timer_m = λ w b i. machine-turn w w.to_machine (ends.machine_timer w.machine b) i i.to_machine (c.machine_timer w.machine b i.end);
      }
