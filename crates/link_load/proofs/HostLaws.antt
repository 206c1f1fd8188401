-- What a call of the host comes to, whatever frame it is handed. Only here do the proofs look into the definitions of a load.
use Rattle.std.specs.Prelude.{ℕ, ◌+◌, ◌%◌, ◌≤◌, ◌<◌, ◌≡◌, refl, Bool, true, false, ◌&&◌, cond as pick, List, [], ◌∷◌, eqb, ltb}
use Rattle.std.proofs.Common.{ap, sym, ◌∙◌, arith, eqb-true, ltb-true, ltb-false, lt-ltb, le-ltb}
use Rattle.std.proofs.lemmas.Bool.{eqb-false}
use Rattle.octets.specs.TestLaws.{by_cases, both}
use Rattle.message.specs.declared.Fields.{Fields}
use Rattle.message.specs.Message.{request_load}
use Rattle.message.specs.Read.{fields}
use Rattle.message.specs.Write.{layout}
use Rattle.message.specs.Laws.{request_load-fields, request-program-fields}
use Rattle.machine_record.specs.declared.Settings.{Settings as MachineSettings}
use Rattle.machine_timer.specs.Timer.{asks_load}
use Rattle.counts.specs.declared.Counts.{Counts}
use Rattle.counts.specs.declared.Standing.{Standing}
use Rattle.counts.specs.Counts.{start, advance, reject, passed}
use Rattle.counts.proofs.Laws as count
use Rattle.load_record.specs.declared.Session.{Session}
use Rattle.load_record.specs.declared.Settings.{Settings}
use Rattle.load_record.specs.declared.Next.{Next}
use Rattle.load_record.specs.Record as load-record
use Rattle.load_next.specs.Next as next
use Rattle.load_timer.specs.Timer as load-timer
use Rattle.load_checks.specs.Checks as load-checks
use Rattle.load_valid.specs.Valid as load-valid
use Rattle.load_checks.specs.Laws.{accepted}
use Rattle.load.specs.Load as load
use Rattle.link.specs.Link.{Frame, Turn, refuses, acts, turned, queued, hearing}
use Rattle.link.proofs.CallLaws.{called, came, frame-came, Unless, until_verdict}
use Rattle.link_load.specs.Model.{host_end}

-- The numbers of a record: waiting, position, repeats, verdict, frames sent, restarts; and its counts.
pub record Now (h : Session) (w c k v t e : ℕ) (n : Counts) : Type 0 where
  pub waiting : h.waiting ≡ w
  pub position : h.position ≡ c
  pub repeats : h.repeats ≡ k
  pub verdict : h.verdict ≡ v
  pub sent : h.sent ≡ t
  pub restarts : h.restarts ≡ e
  pub counts : h.counts ≡ n

-- a record whose frame is on its way
abbrev pub Sending : Session → Type 0
Sending h = (h.waiting ≡ 0) × (h.verdict ≡ 0)

-- a frame that, read under some version, is an answer with this number and this error
abbrev pub Answer : Frame → ℕ → ℕ → Type 0
Answer f number error = (version : ℕ) × ((fields version f).code ≡ 10) × ((fields version f).number ≡ number) × ((fields version f).error ≡ error)

-- a frame that, read under some version, is a request
abbrev pub Request : Frame → Type 0
Request f = (version : ℕ) × ((fields version f).code ≡ 8)

-- what an answer says; a request is none, nor is an answer a request
pub answer-says : (n e number error : ℕ) → Answer (layout (request_load n e)) number error → (n ≡ number) × (e ≡ error)
answer-says n e number error a =
    let r = request_load-fields a.0 n e in
    (sym (ap (λ (f : Fields). f.number) r) ∙ a.2, sym (ap (λ (f : Fields). f.error) r) ∙ a.3)

pub no_answer : (ms : MachineSettings) (number error : ℕ) → Answer (layout (asks_load ms)) number error → ⊥
no_answer ms number error a =
    let code = ap (λ (f : Fields). f.code) (request-program-fields a.0 ms.device ms.processor) in omega (arith, a.1)

pub no_request : (n e : ℕ) → Request (layout (request_load n e)) → ⊥
no_request n e r = let code = ap (λ (f : Fields). f.code) (request_load-fields r.0 n e) in omega (arith, r.1)

-- N frames F, each repeated at most R times, and at most E restarts
module _ (N R E : ℕ) (F : ℕ → Frame) where
  -- On a frame: the call is refused; it is ignored; the first frame goes out, or goes out again; the frame on its way is confirmed, and the next
  -- goes out or there is none; it is rejected.
  pub data Heard (h : Session) (f : Frame) : Turn Session → Type 0 where
    refused : Heard h f refuses
    ignored : (x : Session) → Now x h.waiting h.position h.repeats h.verdict h.sent h.restarts (passed h.verdict h.counts) → Heard h f (acts x [])
    begins : (x : Session) → h.waiting ≡ 1 → h.verdict ≡ 0 → Now x 0 0 0 0 (h.sent + 1) h.restarts (start h.counts) → Heard h f (acts x (F 0 ∷ []))
    restarts : (x : Session) → (h.waiting ≡ 1 → ⊥) → h.verdict ≡ 0 → Request f → 1 ≤ h.position → h.restarts < E
        → Now x 0 0 0 0 (h.sent + 1) (h.restarts + 1) (start h.counts) → Heard h f (acts x (F 0 ∷ []))
    advances : (x : Session) → Sending h → Answer f ((h.position + 1) % 256) 0 → h.position + 1 < N
        → Now x 0 (h.position + 1) 0 0 (h.sent + 1) h.restarts (advance h.counts) → Heard h f (acts x (F (h.position + 1) ∷ []))
    finishes : (x : Session) → Sending h → Answer f ((h.position + 1) % 256) 0 → h.position < N → N ≤ h.position + 1
        → Now x 0 N 0 1 h.sent h.restarts (advance h.counts) → Heard h f (acts x [])
    rejects : (x : Session) (error : ℕ) → Sending h → Answer f ((h.position + 1) % 256) error → (error ≡ 0 → ⊥)
        → Now x 0 h.position h.repeats 2 h.sent h.restarts (reject h.counts) → Heard h f (acts x [])

  -- On a timer: the call is refused; it is ignored; the frame on its way goes out again; the load is given up, or unconfirmed.
  pub data Timed (h : Session) : Turn Session → Type 0 where
    refused : Timed h refuses
    ignored : (x : Session) → Now x h.waiting h.position h.repeats h.verdict h.sent h.restarts h.counts → Timed h (acts x [])
    repeats : (x : Session) → Sending h → h.repeats < R → Now x 0 h.position (h.repeats + 1) 0 (h.sent + 1) h.restarts h.counts → Timed h (acts x (F h.position ∷ []))
    gives_up : (x : Session) → Sending h → R ≤ h.repeats → h.position + 1 < N → Now x 0 h.position h.repeats 3 h.sent h.restarts h.counts → Timed h (acts x [])
    unconfirmed : (x : Session) → Sending h → R ≤ h.repeats → N ≤ h.position + 1 → Now x 0 h.position h.repeats 4 h.sent h.restarts h.counts → Timed h (acts x [])

-- a record's own numbers, with the flag, the verdict and the counts as they are known
now : {w v : ℕ} {n : Counts} (x : Session) → x.waiting ≡ w → x.verdict ≡ v → x.counts ≡ n → Now x w x.position x.repeats v x.sent x.restarts n
now x w v n = record { waiting = w; position = refl; repeats = refl; verdict = v; sent = refl; restarts = refl; counts = n }

module _ (s : Settings) (file string : List ℕ) where
  abbrev pub N : ℕ
  N = load-checks.frames s file

  abbrev pub E : ℕ
  E = load-valid.restarts_allowed s

  abbrev pub F : ℕ → Frame
  F i = layout (load.frame_message s file string i)

  module _ (h : Session) where
    -- what is done next, as the link sees it
    abbrev does : Next → Turn Session
    does n = acts (load.counted n) (queued (load.does s file string n).sending)

    module _ (f : Frame) where
      abbrev OnFrame : Next → Type 0
      OnFrame n = Heard N s.repeats E F h f (does (load-record.tallied h n))

      -- where the record stands before the frame, and after it
      abbrev from : Standing
      from = load-record.standing h

      same : OnFrame (load-record.ignores h)
      same = ignored _ (now _ refl refl (count.unmoved from h.counts))

      on_request_lem : (fields s.version f).code ≡ 8 → h.verdict ≡ 0 → OnFrame (next.on_request s.restart h (fields s.version f).program)
      on_request_lem c v =
          by_cases OnFrame (eqb (fields s.version f).program 2) (λ _.
          by_cases OnFrame (eqb h.waiting 1)
          (λ w. begins _ (eqb-true _ _ w) v (now _ refl v (count.first from (load-record.standing (load-record.reached h 0)) h.counts v
          (rw (le-ltb h.restarts h.restarts (omega arith), w)))))
          (λ w. by_cases OnFrame (next.again s.restart h) (λ a.
          let left = both (eqb s.restart 1 && ltb 0 h.position) (ltb h.restarts load-record.most_restarts) a in
          let half = both (eqb s.restart 1) (ltb 0 h.position) left.0 in
          restarts _ (eqb-false _ _ w) v (s.version, c) (ltb-true _ _ half.1) (rw half.0 (ltb-true _ _ left.1)) (now _ refl v
          (count.first from (load-record.standing (load-record.restarted h)) h.counts v (rw (lt-ltb h.restarts (h.restarts + 1) (omega arith)))))) (λ _. same))) (λ _. same)

      on_answer_lem : (h.verdict ≡ 0 → h.position < N) → (fields s.version f).code ≡ 10 → h.verdict ≡ 0 → OnFrame (next.on_answer N h (fields s.version f).number (fields s.version f).error)
      on_answer_lem goes c v =
          by_cases OnFrame (eqb h.waiting 0 && eqb (fields s.version f).number ((h.position + 1) % 256)) (λ t.
          let z = both (eqb h.waiting 0) (eqb (fields s.version f).number ((h.position + 1) % 256)) t in
          let w : Sending h = (eqb-true _ _ z.0, v) in
          let sends : eqb h.waiting 1 ≡ false = rw w.0 in
          let once : ltb h.restarts h.restarts ≡ false = le-ltb h.restarts h.restarts (omega arith) in
          by_cases OnFrame (eqb (fields s.version f).error 0) (λ q.
          let right : Answer f ((h.position + 1) % 256) 0 = (s.version, c, eqb-true _ _ z.1, eqb-true _ _ q) in
          by_cases OnFrame (load-record.more N h)
          (λ l. advances _ w right (ltb-true _ _ l) (now _ refl v
          (count.further from (load-record.standing (load-record.reached h (h.position + 1))) h.counts v (rw (once, sends)) (omega arith))))
          (λ l. finishes _ w right (goes v) (ltb-false _ _ l) (now _ refl refl
          (count.further from (load-record.standing (load-record.ends (load-record.reached h N) 1).session) h.counts v (rw (once, sends)) (goes v)))))
          (λ q. rejects _ (fields s.version f).error w (s.version, c, eqb-true _ _ z.1, refl) (eqb-false _ _ q) (now _ w.0 refl
          (count.rejecting from (load-record.standing (load-record.ends h 2).session) h.counts v (rw (once, sends)) (omega arith) refl)))) (λ _. same)

      on_fields : (h.verdict ≡ 0 → h.position < N) → OnFrame (next.react N s.restart h (fields s.version f))
      on_fields goes =
          by_cases OnFrame (eqb h.verdict 0) (λ v.
          by_cases OnFrame (eqb (fields s.version f).code 8) (λ c. on_request_lem (eqb-true _ _ c) (eqb-true _ _ v)) (λ _.
          by_cases OnFrame (eqb (fields s.version f).code 10) (λ c. on_answer_lem goes (eqb-true _ _ c) (eqb-true _ _ v)) (λ _. same))) (λ _. same)

      pub heard : (b : List ℕ) → Heard N s.repeats E F h f (turned host_end (load.load_frame s h file string f b))
      heard b =
          frame-came host_end (Heard N s.repeats E F h f) s.version (load-checks.refusal s h file string b) f h tt b
          (λ (x : Fields). load.does s file string (load-record.tallied h (next.react N s.restart h x))) refused
          (λ a _. on_fields (accepted s h file string b a).fits.goes)

      -- a frame that the host does not refuse is to be counted until there is a verdict
      pub counted : (b : List ℕ) → Unless (◌≡◌ {A = ℕ} (pick (hearing s.version h.verdict f) 1 0) (pick (eqb h.verdict 0) 1 0)) (turned host_end (load.load_frame s h file string f b))
      counted b =
          until_verdict host_end h.verdict s.version (load-checks.refusal s h file string b) f h tt b
          (λ (x : Fields). load.does s file string (load-record.tallied h (next.react N s.restart h x)))

    abbrev OnTimer : Next → Type 0
    OnTimer n = Timed N s.repeats E F h (does n)

    idle : OnTimer (load-record.ignores h)
    idle = ignored h (now h refl refl refl)

    ends : Sending h → s.repeats ≤ h.repeats → (more : Bool) → load-record.more N h ≡ more → OnTimer (load-record.ends h (pick more 3 4))
    ends w r true l = gives_up _ w r (ltb-true _ _ l) (now _ w.0 refl refl)
    ends w r false l = unconfirmed _ w r (ltb-false _ _ l) (now _ w.0 refl refl)

    on_timer_lem : OnTimer (load-timer.on_timer N s.repeats h)
    on_timer_lem =
        by_cases OnTimer (eqb h.verdict 0) (λ v.
        by_cases OnTimer (eqb h.waiting 0) (λ w.
        let z : Sending h = (eqb-true _ _ w, eqb-true _ _ v) in
        by_cases OnTimer (ltb h.repeats s.repeats) (λ r. repeats _ z (ltb-true _ _ r) (now _ z.0 z.1 refl))
        (λ r. ends z (ltb-false _ _ r) (load-record.more N h) refl)) (λ _. idle)) (λ _. idle)

    pub timed : (b : List ℕ) → Timed N s.repeats E F h (turned host_end (load.load_timer s h file string b))
    timed b =
        came (Timed N s.repeats E F h) _ _ _
        (called host_end (load-checks.refusal s h file string b) h tt b (load.does s file string (load-timer.on_timer N s.repeats h))) refused on_timer_lem
