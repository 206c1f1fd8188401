-- What holds of the host's record of a load alone, against any frames whatever: no machine, no queue.
use Rattle.std.specs.Prelude.{ℕ, ◌+◌, ◌*◌, ◌≤◌, ◌<◌, ◌≡◌, refl, Bool, true, false, cond as pick, List, eqb}
use Rattle.std.proofs.Common.{ap, ◌∙◌, arith, add-mul, mul-le-mul_right, eqb-true}
use Rattle.std.proofs.lemmas.Bool.{eqb-false}
use Rattle.counts.specs.declared.Counts.{Counts}
use Rattle.counts.specs.Counts.{sum}
use Rattle.load_record.specs.declared.Session.{Session}
use Rattle.link.specs.Link.{Frame, Turn, Ends, counts}
use Rattle.link.proofs.CallLaws.{Unless}
use Rattle.link.specs.Counted.{Counted}
use Rattle.link.proofs.CountedLaws.{starting, restarting, advancing, rejecting, ending, passing, passed-sum, one}
use Rattle.link.proofs.LinkLaws.{Closed}
use Rattle.link.proofs.AloneLaws.{Keeps, Raises, Alone, alone}
use Rattle.link_load.proofs.HostLaws.{Now, Sending, Heard, refused, ignored, begins, restarts, advances, finishes, rejects, Timed, repeats, gives_up, unconfirmed}

-- N frames, each repeated at most R times, and at most E restarts; the flag w, position c, k repeats, verdict v, t frames sent, e restarts.
pub record Numbers (N R E w c k v t e : ℕ) : Type 0 where
  pub flag : w ≤ 1
  pub verdict : v ≤ 4
  pub repeats : k ≤ R
  pub restarts : e ≤ E
  pub waiting : w ≡ 1 → (c ≡ 0) × (k ≡ 0) × (v ≡ 0) × (t ≡ 0) × (e ≡ 0)
  pub finished : v ≡ 1 → (c ≡ N) × (k ≡ 0) × (2 * e + N ≤ t) × (t ≤ (e + 1) * (N * (R + 1)))
  pub otherwise : (v ≡ 1 → ⊥) → (c < N) × (t ≤ e * (N * (R + 1)) + (c * (R + 1) + 1 + k))
  pub least : (v ≡ 1 → ⊥) → w ≡ 0 → 2 * e + c + 1 + k ≤ t
  pub given-up : v ≡ 3 → (c + 1 < N) × (k ≡ R)
  pub unconfirmed : v ≡ 4 → (c + 1 ≡ N) × (k ≡ R)

abbrev pub Good : ℕ → ℕ → ℕ → Session → Type 0
Good N R E h = Numbers N R E h.waiting h.position h.repeats h.verdict h.sent h.restarts

-- what its counts say
abbrev pub Counting : Session → Type 0
Counting h = Counted h.waiting h.restarts h.position h.verdict h.counts

-- no record has sent more than (e + 1) N (R + 1) frames: of a load that begins again those before, and as many as of one that does not
one_more : (e m : ℕ) → (e + 1) * m ≡ e * m + m
one_more e m = rw (add-mul e 1 m) (omega arith)

pub bound : (N R E : ℕ) (h : Session) → Good N R E h → h.sent ≤ (h.restarts + 1) * (N * (R + 1))
bound N R E h g = go (eqb h.verdict 1) refl
  where
    go : (d : Bool) → eqb h.verdict 1 ≡ d → h.sent ≤ (h.restarts + 1) * (N * (R + 1))
    go true q = (g.finished (eqb-true _ _ q)).3
    go false q =
        let z = g.otherwise (eqb-false _ _ q) in
        omega (arith, g.repeats, one_more h.restarts (N * (R + 1)), mul-le-mul_right (R + 1) z.0, one_more h.position (R + 1))

module _ (N R E : ℕ) (some : 1 ≤ N) (F : ℕ → Frame) where
  abbrev pub Kept : Session → Turn Session → Type 0
  Kept = Keeps (Good N R E) (λ h. h.sent)

  good : {w c k v t e : ℕ} {m : Counts} (x : Session) → Now x w c k v t e m → Numbers N R E w c k v t e → Good N R E x
  good x n g = rw (n.waiting, n.position, n.repeats, n.verdict, n.sent, n.restarts) g

  -- what holds of a record whose frame is on its way; and what one position more counts
  on_way : (h : Session) → Good N R E h → Sending h
      → (h.position < N) × (h.repeats ≤ R) × (2 * h.restarts + h.position + 1 + h.repeats ≤ h.sent)
      × (h.sent ≤ h.restarts * (N * (R + 1)) + (h.position * (R + 1) + 1 + h.repeats)) × (h.restarts ≤ E)
      × ((h.position + 1) * (R + 1) ≡ h.position * (R + 1) + (R + 1))
  on_way h g w =
      let unfinished : h.verdict ≡ 1 → ⊥ = λ q. omega (arith, w.1) in
      ((g.otherwise unfinished).0, g.repeats, g.least unfinished w.0, (g.otherwise unfinished).1, g.restarts, one_more h.position (R + 1))

  pub on_heard : (h : Session) (f : Frame) (t : Turn Session) → Good N R E h → Heard N R E F h f t → Kept h t
  on_heard h f t g refused = tt
  on_heard h f t g (ignored x n) = (good x n g, omega arith)
  on_heard h f t g (begins x w v n) = let z = g.waiting w in (good x n (omega arith), omega arith)
  on_heard h f t g (restarts x w v r l e n) =
      let most = bound N R E h g in
      let sends : h.waiting ≡ 0 = omega (arith, w, g.flag) in
      let z = on_way h g (sends, v) in
      (good x n (omega arith), omega arith)
  on_heard h f t g (advances x w a l n) = let z = on_way h g w in (good x n (omega arith), omega arith)
  on_heard h f t g (finishes x w a _ l n) =
      let z = on_way h g w in
      let all : h.position + 1 ≡ N = omega arith in
      let m : N * (R + 1) ≡ h.position * (R + 1) + (R + 1) = rw (← all) z.5 in
      let r = one_more h.restarts (N * (R + 1)) in
      (good x n (omega arith), omega arith)
  on_heard h f t g (rejects x e w a r n) = let z = on_way h g w in (good x n (omega arith), omega arith)

  pub on_timed : (h : Session) (t : Turn Session) → Good N R E h → Timed N R E F h t → Kept h t
  on_timed h t g refused = tt
  on_timed h t g (ignored x n) = (good x n g, omega arith)
  on_timed h t g (repeats x w r n) = let z = on_way h g w in (good x n (omega arith), omega arith)
  on_timed h t g (gives_up x w r l n) = let z = on_way h g w in (good x n (omega arith), omega arith)
  on_timed h t g (unconfirmed x w r l n) = let z = on_way h g w in (good x n (omega arith), omega arith)

  -- ---- the counts
  abbrev Raised : Session → ℕ → Turn Session → Type 0
  Raised = Raises Counting (λ h. sum h.counts)

  says : {w c k v t e : ℕ} {m : Counts} (x : Session) → Now x w c k v t e m → Counted w e c v m → Counting x
  says x n k = rw (n.waiting, n.restarts, n.position, n.verdict, n.counts) k

  -- n: how many frames to be counted the call is handed, one until there is a verdict
  raised : (h : Session) (f : Frame) (n : ℕ) (t : Turn Session) → Good N R E h → Counting h → Heard N R E F h f t → Unless (n ≡ pick (eqb h.verdict 0) 1 0) t
      → Raised h n t
  raised h f n t g k refused c = tt
  raised h f n t g k (ignored x m) c = (says x m (passing k), ap sum m.counts ∙ passed-sum h.verdict h.counts ∙ (rw c))
  raised h f n t g k (begins x w v m) c =
      (says x m (rw (g.waiting w).0 at (starting k w (g.waiting w).4 (omega arith))), ap sum m.counts ∙ (omega (arith, one h.verdict n v c)))
  raised h f n t g k (restarts x w v r l e m) c = (says x m (restarting k w (omega arith)), ap sum m.counts ∙ (omega (arith, one h.verdict n v c)))
  raised h f n t g k (advances x w a l m) c =
      (says x m (rw w.0 at (advancing k 0 (omega (arith, w.1)) (omega arith))), ap sum m.counts ∙ (omega (arith, one h.verdict n w.1 c)))
  raised h f n t g k (finishes x w a b l m) c =
      let last : h.position + 1 ≡ N = omega arith in
      (says x m (rw (w.0, last) at (advancing k 1 (omega (arith, w.1)) (omega arith))), ap sum m.counts ∙ (omega (arith, one h.verdict n w.1 c)))
  raised h f n t g k (rejects x e w a r m) c =
      (says x m (rw w.0 at (rejecting k (omega (arith, w.1)))), ap sum m.counts ∙ (omega (arith, one h.verdict n w.1 c)))

  unraised : (h : Session) (t : Turn Session) → Counting h → Timed N R E F h t → Raised h 0 t
  unraised h t k refused = tt
  unraised h t k (ignored x m) = (says x m k, ap sum m.counts ∙ (omega arith))
  unraised h t k (repeats x w r m) = (says x m (rw w.0 at (ending k 0 (omega (arith, w.1)) (omega arith))), ap sum m.counts ∙ (omega arith))
  unraised h t k (gives_up x w r l m) = (says x m (rw w.0 at (ending k 3 (omega (arith, w.1)) (omega arith))), ap sum m.counts ∙ (omega arith))
  unraised h t k (unconfirmed x w r l m) = (says x m (rw w.0 at (ending k 4 (omega (arith, w.1)) (omega arith))), ap sum m.counts ∙ (omega arith))

  -- ---- every run, beside any machine and any further events that leave the host alone
  pub alone_load : {M X : Type 0} (ends : Ends Session M X) → ((h : Session) (f b : List ℕ) → Heard N R E F h f (ends.host_frame h f b))
      → ((h : Session) (b : List ℕ) → Timed N R E F h (ends.host_timer h b))
      → ((h : Session) (f b : List ℕ) → Unless (counts ends h f ≡ pick (eqb h.verdict 0) 1 0) (ends.host_frame h f b))
      → Closed ends (Alone (Good N R E) Counting (λ h. h.sent) (λ h. sum h.counts) ends)
  alone_load ends heard timed hears =
      alone (Good N R E) Counting (λ h. h.sent) (λ h. sum h.counts) ends
      (λ h f b g k. let x = heard h f b in let t = ends.host_frame h f b in (on_heard h f t g x, raised h f (counts ends h f) t g k x (hears h f b)))
      (λ h b g k. let x = timed h b in let t = ends.host_timer h b in (on_timed h t g x, unraised h t k x))
