-- What holds of the host's record of a dump alone, against any frames whatever: no machine, no queue.
use Rattle.std.specs.Prelude.{ℕ, ◌+◌, ◌*◌, ◌≤◌, ◌<◌, ◌≡◌, refl, Bool, true, false, not, cond as pick, List, eqb}
use Rattle.std.proofs.Common.{ap, ◌∙◌, arith, add-mul, eq-eqb, ne_eqb, le-leb, eqb-true}
use Rattle.std.proofs.lemmas.Bool.{eqb-false}
use Rattle.octets.specs.TestLaws.{by_cases}
use Rattle.counts.specs.declared.Counts.{Counts}
use Rattle.counts.specs.Counts.{sum, top}
use Rattle.counts.proofs.Laws.{sum_below}
use Rattle.dump_record.specs.declared.Settings.{Settings}
use Rattle.dump_record.specs.Record as dump_record
use Rattle.dump_checks.specs.Checks as dump_checks
use Rattle.link.specs.Link.{Frame, Turn, Ends, counts}
use Rattle.link.proofs.CallLaws.{Unless}
use Rattle.link.specs.Counted.{Counted}
use Rattle.link.proofs.CountedLaws.{starting, advancing, ending, only-ignored, passing, passed-sum, one}
use Rattle.link.proofs.LinkLaws.{Closed}
use Rattle.link.proofs.AloneLaws.{Keeps, Raises, Alone, alone}
use Rattle.link_dump.specs.Model.{Host}
use Rattle.link_dump.proofs.HostLaws.{Now, Sending, Heard, refused, ignored, begins, asks, finishes, Timed, repeats, gives_up}

-- L bytes, each frame repeated at most R times; the flag w, f bytes filled, n replies, k repeats, verdict v, t frames sent.
pub record Numbers (L R w f n k v t : ℕ) : Type 0 where
  pub flag : w ≤ 1
  pub verdict : v ≤ 3
  pub filled : f ≤ L
  pub replies : n ≤ f
  pub repeats : k ≤ R
  pub waiting : w ≡ 1 → (f ≡ 0) × (n ≡ 0) × (k ≡ 0) × (v ≡ 0) × (t ≡ 0)
  pub finished : v ≡ 1 → (f ≡ L) × (k ≡ 0)
  pub unfinished : (v ≡ 1 → ⊥) → f < L
  pub never : v ≡ 2 → ⊥
  pub given-up : v ≡ 3 → (k ≡ R) × (n + 2 + k ≤ t) × (t ≤ n * (R + 1) + 2 + k)
  pub otherwise : (v ≡ 3 → ⊥) → w ≡ 0 → (n + 1 + k ≤ t) × (t ≤ n * (R + 1) + 1 + k)

-- what its counts say
abbrev pub Counting : Host → Type 0
Counting h = Counted h.session.waiting 0 h.session.replies h.session.verdict h.session.counts

abbrev pub Good : Settings → Host → Type 0
Good s h =
    Numbers s.length s.repeats h.session.waiting h.session.filled h.session.replies h.session.repeats h.session.verdict h.session.sent

module _ (s : Settings) (some : 1 ≤ s.length) where
  abbrev pub Kept : Host → Turn Host → Type 0
  Kept = Keeps (Good s) (λ h. h.session.sent)

  good : {w f n k v t : ℕ} {c : Counts} {buffer : List ℕ} (x : Host) → Now x w f n k v t c buffer → Numbers s.length s.repeats w f n k v t → Good s x
  good x n g = rw (n.waiting, n.filled, n.replies, n.repeats, n.verdict, n.sent) g

  module _ (h : Host) (g : Good s h) where
    -- what holds of a record whose frame is on its way; and what one reply more counts
    on_way : Sending h.session
        → (h.session.filled < s.length) × (h.session.replies + 1 + h.session.repeats ≤ h.session.sent)
        × (h.session.sent ≤ h.session.replies * (s.repeats + 1) + 1 + h.session.repeats)
        × ((h.session.replies + 1) * (s.repeats + 1) ≡ h.session.replies * (s.repeats + 1) + (s.repeats + 1))
    on_way w =
        let z = g.otherwise (λ q. omega (arith, w.1)) w.0 in
        (g.unfinished (λ q. omega (arith, w.1)), z.0, z.1, rw (add-mul h.session.replies 1 (s.repeats + 1)) (omega arith))

    pub on_heard : (f : Frame) (t : Turn Host) → Heard s h f t → Kept h t
    on_heard f t refused = tt
    on_heard f t (ignored x n) = (good x n g, omega arith)
    on_heard f t (begins x w v n) = let z = g.waiting w in (good x n (omega arith), omega arith)
    on_heard f t (asks x d w a l n) = let z = on_way w in (good x n (omega arith), omega arith)
    on_heard f t (finishes x d w a l n) = let z = on_way w in (good x n (omega arith), omega arith)

    pub on_timed : (t : Turn Host) → Timed s h t → Kept h t
    on_timed t refused = tt
    on_timed t (ignored x n) = (good x n g, omega arith)
    on_timed t (repeats x w r n) = let z = on_way w in (good x n (omega arith), omega arith)
    on_timed t (gives_up x w r n) = let z = on_way w in (good x n (omega arith), omega arith)

    -- no more frames are sent than each request and code 1 allow
    pub bound : h.session.sent ≤ (h.session.replies + 1) * (s.repeats + 1) + 1
    bound = go (eqb h.session.verdict 3) (eqb h.session.waiting 1) refl refl (add-mul h.session.replies 1 (s.repeats + 1))
      where
        go : (d e : Bool) → eqb h.session.verdict 3 ≡ d → eqb h.session.waiting 1 ≡ e
            → (h.session.replies + 1) * (s.repeats + 1) ≡ h.session.replies * (s.repeats + 1) + 1 * (s.repeats + 1)
            → h.session.sent ≤ (h.session.replies + 1) * (s.repeats + 1) + 1
        go true e p q m = let z = g.given-up (eqb-true _ _ p) in omega arith
        go false true p q m = let z = g.waiting (eqb-true _ _ q) in omega arith
        go false false p q m =
            let up : h.session.waiting ≡ 1 → ⊥ = eqb-false _ _ q in
            let z = g.otherwise (eqb-false _ _ p) (omega (arith, g.flag)) in
            omega (arith, g.repeats)

    -- it is none of those that are bad, if its counts say what they should and are below their top
    pub never_bad : Counting h → sum h.session.counts < top → dump_checks.sound s h.session ≡ true
    never_bad k below =
        rw (le-leb h.session.verdict 3 g.verdict, le-leb h.session.repeats s.repeats g.repeats, le-leb h.session.filled s.length g.filled, le-leb h.session.replies h.session.filled g.replies, le-leb h.session.sent _ bound, le-leb h.session.waiting 1 g.flag, sum_below h.session.counts below, blank, full)
      where
        blank : pick (eqb h.session.waiting 1) (dump_checks.blank h.session) true ≡ true
        blank =
            by_cases (λ (b : Bool). b ≡ true) (eqb h.session.waiting 1)
            (λ w. let z = g.waiting (eqb-true _ _ w) in
            rw (eq-eqb _ _ z.0, eq-eqb _ _ z.1, eq-eqb _ _ z.2, eq-eqb _ _ z.3, eq-eqb _ _ z.4, only-ignored k (eqb-true _ _ w) refl z.1 g.never)) (λ _. refl)

        full : pick (eqb h.session.verdict 1) (eqb h.session.filled s.length) (not (eqb h.session.filled s.length)) ≡ true
        full =
            by_cases (λ (b : Bool). b ≡ true) (eqb h.session.verdict 1) (λ v. eq-eqb _ _ (g.finished (eqb-true _ _ v)).0)
            (λ v. let z = g.unfinished (eqb-false _ _ v) in rw (ne_eqb h.session.filled s.length (omega arith)))

  -- ---- the counts
  abbrev Raised : Host → ℕ → Turn Host → Type 0
  Raised = Raises Counting (λ h. sum h.session.counts)

  says : {w f n k v t : ℕ} {c : Counts} {buffer : List ℕ} (x : Host) → Now x w f n k v t c buffer → Counted w 0 n v c → Counting x
  says x n k = rw (n.waiting, n.replies, n.verdict, n.counts) k

  module _ (h : Host) (k : Counting h) where
    -- n: how many frames to be counted the call is handed, one until there is a verdict
    raised : (f : Frame) (n : ℕ) (t : Turn Host) → Heard s h f t → Unless (n ≡ pick (eqb h.session.verdict 0) 1 0) t → Raised h n t
    raised f n t refused c = tt
    raised f n t (ignored x m) c = (says x m (passing k), ap sum m.counts ∙ passed-sum h.session.verdict h.session.counts ∙ (rw c))
    raised f n t (begins x w v m) c =
        (says x m (starting k w refl (omega arith)), ap sum m.counts ∙ (omega (arith, one h.session.verdict n v c)))
    raised f n t (asks x d w a l m) c =
        (says x m (rw w.0 at (advancing k 0 (omega (arith, w.1)) (omega arith))), ap sum m.counts ∙ (omega (arith, one h.session.verdict n w.1 c)))
    raised f n t (finishes x d w a l m) c =
        (says x m (rw w.0 at (advancing k 1 (omega (arith, w.1)) (omega arith))), ap sum m.counts ∙ (omega (arith, one h.session.verdict n w.1 c)))

    unraised : (t : Turn Host) → Timed s h t → Raised h 0 t
    unraised t refused = tt
    unraised t (ignored x m) = (says x m k, ap sum m.counts ∙ (omega arith))
    unraised t (repeats x w r m) = (says x m (rw w.0 at (ending k 0 (omega (arith, w.1)) (omega arith))), ap sum m.counts ∙ (omega arith))
    unraised t (gives_up x w r m) = (says x m (rw w.0 at (ending k 3 (omega (arith, w.1)) (omega arith))), ap sum m.counts ∙ (omega arith))

  -- ---- every run, beside any machine and any further events that leave the host alone
  pub alone_dump : {M X : Type 0} (ends : Ends Host M X) → ((h : Host) (f b : List ℕ) → Heard s h f (ends.host_frame h f b))
      → ((h : Host) (b : List ℕ) → Timed s h (ends.host_timer h b))
      → ((h : Host) (f b : List ℕ) → Unless (counts ends h f ≡ pick (eqb h.session.verdict 0) 1 0) (ends.host_frame h f b))
      → Closed ends (Alone (Good s) Counting (λ h. h.session.sent) (λ h. sum h.session.counts) ends)
  alone_dump ends heard timed hears =
      alone (Good s) Counting (λ h. h.session.sent) (λ h. sum h.session.counts) ends
      (λ h f b g k. let x = heard h f b in let t = ends.host_frame h f b in (on_heard h g f t x, raised h k f (counts ends h f) t x (hears h f b)))
      (λ h b g k. let x = timed h b in let t = ends.host_timer h b in (on_timed h g t x, unraised h k t x))

  pub fresh : (buffer : List ℕ) → Good s (record { session = dump_record.fresh; buffer = buffer })
  fresh buffer = omega arith
