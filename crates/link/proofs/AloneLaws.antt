-- What holds of the host's record alone, against any frames whatever: no machine, no queue. With it, the frames that the record counts as
-- sent are those that the link took, and those that it counts as heard are those that the link counts.
use Rattle.std.specs.Prelude.{ℕ, ◌+◌, ◌≡◌, List, ◌∷◌, length}
use Rattle.std.proofs.Common.{arith}
use Rattle.link.specs.Link.{Frame, Turn, refuses, acts, Ends, World, machine_turn, host_turn, counts}
use Rattle.link.proofs.LinkLaws.{Closed}

-- a call that is refused, or leaves a good record that counts the frames it returns
abbrev pub Keeps : {H : Type 0} → (H → Type 0) → (H → ℕ) → H → Turn H → Type 0
Keeps Good sent h refuses = Unit {0}
Keeps Good sent h (acts x out) = Good x × (sent x ≡ sent h + length out)

-- a call that is refused, or leaves a record whose counts say what they should and have so many frames more
abbrev pub Raises : {H : Type 0} → (H → Type 0) → (H → ℕ) → H → ℕ → Turn H → Type 0
Raises Says heard h n refuses = Unit {0}
Raises Says heard h n (acts x out) = Says x × (heard x ≡ heard h + n)

module _ {H M X : Type 0} (Good Says : H → Type 0) (sent heard : H → ℕ) (ends : Ends H M X) where
  pub record Alone (w : World H M) : Type 0 where
    pub good : Good w.host
    pub took : sent w.host ≡ w.taken
    pub says : Says w.host
    pub hears : heard w.host ≡ w.heard

  host-kept : (w : World H M) (n : ℕ) (rest : List Frame) (x : Turn H) → Alone w → Keeps Good sent w.host x → Raises Says heard w.host n x → Alone (host_turn w n rest x)
  host-kept w n rest refuses g k r = g
  host-kept w n rest (acts h out) g k r = record { good = k.0; took = omega (arith, k.1, g.took); says = r.0; hears = omega (arith, r.1, g.hears) }

  machine-kept : (w : World H M) (rest : List Frame) (x : Turn M) → Alone w → Alone (machine_turn w rest x)
  machine-kept w rest refuses g = g
  machine-kept w rest (acts m out) g = record { good = g.good; took = g.took; says = g.says; hears = g.hears }

  -- a host whose every call is such
  pub alone : ((h : H) (f b : List ℕ) → Good h → Says h → Keeps Good sent h (ends.host_frame h f b) × Raises Says heard h (counts ends h f) (ends.host_frame h f b))
      → ((h : H) (b : List ℕ) → Good h → Says h → Keeps Good sent h (ends.host_timer h b) × Raises Says heard h 0 (ends.host_timer h b)) → Closed ends Alone
  alone frame timer =
      record {
        kept_m = λ w f q b e g. machine-kept w (f ∷ q) (ends.machine_frame w.machine f b) g;
        lost_m = λ w q l g. record { good = g.good; took = g.took; says = g.says; hears = g.hears };
        kept_h = λ w f q b e g.
            let x = frame w.host f b g.good g.says in
            host-kept w (counts ends w.host f) (f ∷ q) (ends.host_frame w.host f b) g x.0 x.1;
        lost_h = λ w q l g. record { good = g.good; took = g.took; says = g.says; hears = g.hears };
        timer_h = λ w b g.
            let x = timer w.host b g.good g.says in host-kept w 0 w.to_host (ends.host_timer w.host b) g x.0 x.1;
        timer_m = λ w b g. machine-kept w w.to_machine (ends.machine_timer w.machine b) g;
      }
