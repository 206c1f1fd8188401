-- What a call of the host comes to, whatever frame it is handed. Only here do the proofs look into the definitions of a dump.
use Rattle.std.specs.Prelude.{ℕ, ◌+◌, ◌-◌, ◌≤◌, ◌<◌, min, ◌≡◌, refl, false, ◌&&◌, cond as pick, List, [], ◌∷◌, length, eqb, leb, ltb}
use Rattle.std.proofs.Common.{subst, arith, add-zero, length-take, length-drop, eqb-true, leb-true, ltb-true, ltb-false}
use Rattle.std.proofs.lemmas.Bool.{eqb-false}
use Rattle.octets.specs.TestLaws.{by_cases, both}
use Rattle.buffer.specs.Lay.{over}
use Rattle.message.specs.Message.{request_dump, dump_complete}
use Rattle.message.specs.Read.{fields, part}
use Rattle.message.specs.Write.{layout}
use Rattle.message.specs.Laws.{fields-inside}
use Rattle.counts.specs.declared.Counts.{Counts}
use Rattle.counts.specs.declared.Standing.{Standing}
use Rattle.counts.specs.Counts.{start, advance, passed}
use Rattle.counts.proofs.Laws as count
use Rattle.dump_record.specs.declared.Session.{Session}
use Rattle.dump_record.specs.declared.Settings.{Settings}
use Rattle.dump_record.specs.declared.Next.{Next}
use Rattle.dump_record.specs.Record as dump_record
use Rattle.dump_next.specs.Next as next
use Rattle.dump_timer.specs.Timer.{on_timer}
use Rattle.dump_checks.specs.Checks as dump_checks
use Rattle.dump.specs.Dump as dump
use Rattle.link.specs.Link.{Frame, Turn, refuses, acts, turned, queued, hearing}
use Rattle.link.proofs.CallLaws.{called, came, frame-came, Unless, until_verdict}
use Rattle.link_dump.specs.Model.{Host, host_end}

-- The numbers of a record: waiting, bytes filled, replies taken, repeats, verdict, frames sent; its counts; and the dump buffer.
pub record Now (h : Host) (w f n k v t : ℕ) (c : Counts) (buffer : List ℕ) : Type 0 where
  pub waiting : h.session.waiting ≡ w
  pub filled : h.session.filled ≡ f
  pub replies : h.session.replies ≡ n
  pub repeats : h.session.repeats ≡ k
  pub verdict : h.session.verdict ≡ v
  pub sent : h.session.sent ≡ t
  pub counts : h.session.counts ≡ c
  pub buffer-is : h.buffer ≡ buffer

-- a record whose frame is on its way
abbrev pub Sending : Session → Type 0
Sending h = (h.waiting ≡ 0) × (h.verdict ≡ 0)

-- a frame, read under a version, of bytes from this address on
abbrev pub Data : ℕ → Frame → ℕ → List ℕ → Type 0
Data version f address bytes = ((fields version f).code ≡ 14) × ((fields version f).address ≡ address) × (part f (fields version f) ≡ bytes)

module _ (s : Settings) where
  -- what is asked for once so much is filled
  abbrev pub missing : ℕ → ℕ
  missing filled = min s.request_bytes (s.length - filled)

  abbrev pub ask : ℕ → Frame
  ask filled = layout (request_dump (s.address + filled) (missing filled))

  -- a reply to what was asked for: its bytes are the next ones of the range
  abbrev pub Reply : Session → Frame → List ℕ → Type 0
  Reply h f bytes = Data s.version f (s.address + h.filled) bytes × (1 ≤ length bytes) × (length bytes ≤ missing h.filled)

  module _ (h : Host) where
    abbrev pub Same : Counts → Host → Type 0
    Same c x = Now x h.session.waiting h.session.filled h.session.replies h.session.repeats h.session.verdict h.session.sent c h.buffer

    -- On a frame: the call is refused; it is ignored; the first bytes are asked for; a reply is taken, and the next bytes are asked for or
    -- the dump is finished.
    pub data Heard (f : Frame) : Turn Host → Type 0 where
      refused : Heard f refuses
      ignored : (x : Host) → Same (passed h.session.verdict h.session.counts) x → Heard f (acts x [])
      begins : (x : Host) → h.session.waiting ≡ 1 → h.session.verdict ≡ 0 → Now x 0 0 h.session.replies 0 0 (h.session.sent + 1) (start h.session.counts) h.buffer
          → Heard f (acts x (ask 0 ∷ []))
      asks : (x : Host) (d : List ℕ) → Sending h.session → Reply h.session f d → (h.session.filled + length d ≡ s.length → ⊥)
          → Now x 0 (h.session.filled + length d) (h.session.replies + 1) 0 0 (h.session.sent + 1) (advance h.session.counts) (over d h.session.filled h.buffer)
          → Heard f (acts x (ask (h.session.filled + length d) ∷ []))
      finishes : (x : Host) (d : List ℕ) → Sending h.session → Reply h.session f d → h.session.filled + length d ≡ s.length
          → Now x 0 (h.session.filled + length d) (h.session.replies + 1) 0 1 (h.session.sent + 1) (advance h.session.counts) (over d h.session.filled h.buffer)
          → Heard f (acts x (layout dump_complete ∷ []))

    -- On a timer: the call is refused; it is ignored; the same bytes are asked for again; the dump is given up.
    pub data Timed : Turn Host → Type 0 where
      refused : Timed refuses
      ignored : (x : Host) → Same h.session.counts x → Timed (acts x [])
      repeats : (x : Host) → Sending h.session → h.session.repeats < s.repeats
          → Now x 0 h.session.filled h.session.replies (h.session.repeats + 1) 0 (h.session.sent + 1) h.session.counts h.buffer
          → Timed (acts x (ask h.session.filled ∷ []))
      gives_up : (x : Host) → Sending h.session → s.repeats ≤ h.session.repeats
          → Now x 0 h.session.filled h.session.replies h.session.repeats 3 (h.session.sent + 1) h.session.counts h.buffer
          → Timed (acts x (layout dump_complete ∷ []))

length_part : (version : ℕ) (f : Frame) → length (part f (fields version f)) ≡ (fields version f).data_length
length_part version f = simp (length-take, length-drop) (omega (arith, fields-inside version f))

module _ (s : Settings) (h : Host) where
  abbrev r : Session
  r = h.session

  -- what is done next, as the link sees it, with the buffer that it leaves
  abbrev does : Next → List ℕ → Turn Host
  does n buffer = acts (host_end (dump.counted n) buffer) (queued (next.sending s n.session n.sends))

  -- a host's own numbers, with the flag, the verdict and the counts as they are known
  now : {w v n t : ℕ} {c : Counts} (x : Host) → x.session.waiting ≡ w → x.session.verdict ≡ v → x.session.replies ≡ n → x.session.sent ≡ t → x.session.counts ≡ c
      → Now x w x.session.filled n x.session.repeats v t c x.buffer
  now x w v n t c = record { waiting = w; filled = refl; replies = n; repeats = refl; verdict = v; sent = t; counts = c; buffer-is = refl }

  module _ (f : Frame) where
    abbrev d : List ℕ
    d = part f (fields s.version f)

    abbrev OnFrame : Next → Type 0
    OnFrame n = Heard s h f (does (dump_record.tallied r n) (dump.filled n.takes d r.filled h.buffer))

    -- where the record stands before the frame, and what the counts are where it comes to another
    abbrev from : Standing
    from = dump_record.standing r

    same : OnFrame (dump_record.ignores r)
    same = ignored _ (now _ refl refl (add-zero _) (add-zero _) (count.unmoved from r.counts))

    on_offer_lem : r.verdict ≡ 0 → OnFrame (next.on_offer r)
    on_offer_lem v = by_cases OnFrame (eqb r.waiting 1) (λ w. begins _ (eqb-true _ _ w) v (now _ refl v (add-zero _) refl
        (count.first from (dump_record.standing (dump_record.reached r 0)) r.counts v (rw w)))) (λ _. same)

    -- with the length of the part in the place of the number of its bytes
    on_data_lem : (fields s.version f).code ≡ 14 → r.verdict ≡ 0 → (n : ℕ) → length d ≡ n → OnFrame (next.on_data s r (fields s.version f).address n)
    on_data_lem c v n e = subst (λ (k : ℕ). OnFrame (next.on_data s r (fields s.version f).address k)) e (go (fields s.version f).address refl)
      where
        go : (a : ℕ) → (fields s.version f).address ≡ a → OnFrame (next.on_data s r a (length d))
        go a q =
            by_cases OnFrame (eqb r.waiting 0 && eqb a (dump_record.place s r) && leb 1 (length d) && leb (length d) (dump_record.asked s r)) (λ t.
            let few = both (eqb r.waiting 0 && eqb a (dump_record.place s r) && leb 1 (length d)) (leb (length d) (dump_record.asked s r)) t in
            let some = both (eqb r.waiting 0 && eqb a (dump_record.place s r)) (leb 1 (length d)) few.0 in
            let there = both (eqb r.waiting 0) (eqb a (dump_record.place s r)) some.0 in
            let w : Sending r = (eqb-true _ _ there.0, v) in
            let sends : eqb r.waiting 1 ≡ false = rw w.0 in
            let full = dump_record.reached r (r.filled + length d) in
            let rises : r.filled < r.filled + length d = omega (arith, leb-true 1 (length d) some.1) in
            let at : (fields s.version f).address ≡ s.address + r.filled = omega (arith, eqb-true a (dump_record.place s r) there.1) in
            let reply : Reply s r f d = ((c, at, refl), leb-true _ _ some.1, leb-true _ _ few.1) in
            by_cases OnFrame (eqb (r.filled + length d) s.length) (λ l. finishes _ d w reply (eqb-true _ _ l) (now _ refl refl refl refl
            (count.further from (dump_record.standing (dump_record.ended full 1)) r.counts v (rw sends) rises)))
            (λ l. asks _ d w reply (eqb-false _ _ l) (now _ refl v refl refl (count.further from (dump_record.standing full) r.counts v (rw sends) rises)))) (λ _. same)

    on_fields : OnFrame (next.react s r (fields s.version f))
    on_fields =
        by_cases OnFrame (eqb r.verdict 0) (λ v.
        by_cases OnFrame (eqb (fields s.version f).code 12) (λ _. on_offer_lem (eqb-true _ _ v)) (λ _.
        by_cases OnFrame (eqb (fields s.version f).code 14) (λ c. on_data_lem (eqb-true _ _ c) (eqb-true _ _ v) (fields s.version f).data_length (length_part s.version f)) (λ _. same))) (λ _. same)

    pub heard : (b : List ℕ) → Heard s h f (turned host_end (dump.dump_frame s r f h.buffer b))
    heard b =
        frame-came host_end (Heard s h f) s.version (dump_checks.refusal s r (length h.buffer) (length b)) f r h.buffer b (dump.on_frame s r f h.buffer)
        refused (λ _ _. on_fields)

    -- a frame that the host does not refuse is to be counted until there is a verdict
    pub counted : (b : List ℕ) → Unless (◌≡◌ {A = ℕ} (pick (hearing s.version r.verdict f) 1 0) (pick (eqb r.verdict 0) 1 0)) (turned host_end (dump.dump_frame s r f h.buffer b))
    counted b = until_verdict host_end r.verdict s.version (dump_checks.refusal s r (length h.buffer) (length b)) f r h.buffer b (dump.on_frame s r f h.buffer)

  abbrev OnTimer : Next → Type 0
  OnTimer n = Timed s h (does n h.buffer)

  idle : OnTimer (dump_record.ignores r)
  idle = ignored _ (now _ refl refl (add-zero _) (add-zero _) refl)

  on_timer_lem : OnTimer (on_timer s r)
  on_timer_lem =
      by_cases OnTimer (eqb r.verdict 0) (λ v.
      by_cases OnTimer (eqb r.waiting 0) (λ w.
      let z : Sending r = (eqb-true _ _ w, eqb-true _ _ v) in
      by_cases OnTimer (ltb r.repeats s.repeats) (λ k. repeats _ z (ltb-true _ _ k) (now _ z.0 z.1 (add-zero _) refl refl))
      (λ k. gives_up _ z (ltb-false _ _ k) (now _ z.0 refl (add-zero _) refl refl))) (λ _. idle)) (λ _. idle)

  pub timed : (b : List ℕ) → Timed s h (turned host_end (dump.dump_timer s r h.buffer b))
  timed b =
      came (Timed s h) _ _ _ (called host_end (dump_checks.refusal s r (length h.buffer) (length b)) r h.buffer b (dump.does s (on_timer s r) h.buffer))
      refused on_timer_lem
