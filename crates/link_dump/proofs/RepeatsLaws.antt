-- Two dumps that differ in R alone, beside any machine: until the one with the smaller R gives up, every call of the host comes to the same.
-- What holds of the record alone (AloneLaws.antt) is all that it takes.
use Rattle.std.specs.Prelude.{ℕ, ◌+◌, ◌*◌, ◌≤◌, ◌≡◌, refl, Bool, true, false, List, [], ◌∷◌, ◌⊎◌, length, eqb, ltb}
use Rattle.std.proofs.Common.{ap, ◌∙◌, inl, inr, arith, mul-le-mul, le-leb, lt-ltb, ltb-true}
use Rattle.std.proofs.Math.Decide.{ℕ_discrete}
use Rattle.message.specs.Read.{fields, part}
use Rattle.step.specs.Step.{Sending, Act, acts, first}
use Rattle.step.specs.Laws.{met, none}
use Rattle.dump_record.specs.declared.Settings.{Settings as DumpSettings}
use Rattle.dump_record.specs.declared.Session.{Session}
use Rattle.dump_record.specs.declared.Sends.{Sends}
use Rattle.dump_record.specs.declared.Sends.TheVariants.{Nothing, Request, Complete}
use Rattle.dump_record.specs.declared.Next.{Next}
use Rattle.dump_record.specs.Record.{tallied}
use Rattle.dump_next.specs.Next.{react, sending}
use Rattle.dump_timer.specs.Timer.{on_timer}
use Rattle.dump_checks.specs.Checks.{refusal}
use Rattle.dump_checks.proofs.Laws.{ranged}
use Rattle.dump.specs.Dump as dump
use Rattle.link.specs.Link.{Frame, Turn, turned, World, Ends}
use Rattle.link.proofs.AloneLaws.{Keeps}
use Rattle.link.proofs.AgreeLaws.{Leaving, Agrees, leaving, acts-agree, denied-agree, Agree}
use Rattle.link_dump.specs.Model.{Host, host_end, host_beside, with_repeats, GaveUp}
use Rattle.link_dump.proofs.HostLaws.{Heard, refused, ignored, begins, asks, finishes, Timed, repeats, gives_up, heard, timed}
use Rattle.link_dump.proofs.AloneLaws.{Good, bound, on_heard, on_timed}

-- ---- a dump that was given up stays so
module _ (s : DumpSettings) (h : Host) where
  ended-heard : (f : Frame) (t : Turn Host) → GaveUp h → Heard s h f t → Leaving GaveUp t
  ended-heard f t o refused = tt
  ended-heard f t o (ignored x n) = n.verdict ∙ o
  ended-heard f t o (begins x w v n) = absurd (omega (arith, o, v))
  ended-heard f t o (asks x d w a l n) = absurd (omega (arith, o, w.1))
  ended-heard f t o (finishes x d w a l n) = absurd (omega (arith, o, w.1))

  ended-timed : (t : Turn Host) → GaveUp h → Timed s h t → Leaving GaveUp t
  ended-timed t o refused = tt
  ended-timed t o (ignored x n) = n.verdict ∙ o
  ended-timed t o (repeats x w r n) = absurd (omega (arith, o, w.1))
  ended-timed t o (gives_up x w r n) = absurd (omega (arith, o, w.1))

module _ (s : DumpSettings) (R R' : ℕ) (larger : R ≤ R') (most : R' ≤ 255) where
  -- what a call of the host comes to, with x for R
  abbrev on_frame : ℕ → Host → List ℕ → List ℕ → Turn Host
  on_frame x h f b = turned host_end (dump.dump_frame (with_repeats x s) h.session f h.buffer b)

  abbrev on_time : ℕ → Host → List ℕ → Turn Host
  on_time x h b = turned host_end (dump.dump_timer (with_repeats x s) h.session h.buffer b)

  -- ---- what it does: R is in no frame
  same-sending : (x y : ℕ) (h : Session) (what : Sends) → sending (with_repeats x s) h what ≡ sending (with_repeats y s) h what
  same-sending x y h Nothing = refl
  same-sending x y h Request = refl
  same-sending x y h Complete = refl

  same-does : (x y : ℕ) (n : Next) (buffer : List ℕ) → dump.does (with_repeats x s) n buffer ≡ dump.does (with_repeats y s) n buffer
  same-does x y n buffer = ap (λ (out : Sending). acts (dump.counted n) buffer out) (same-sending x y n.session n.sends)

  module _ (h : Host) where
    abbrev frame_act : ℕ → List ℕ → Act Session (List ℕ)
    frame_act x f = dump.on_frame (with_repeats x s) h.session f h.buffer (fields s.version f)

    same-frame : (f : List ℕ) → frame_act R f ≡ frame_act R' f
    same-frame f =
        let n = react s h.session (fields s.version f) in
        same-does R R' (tallied h.session n) (dump.filled n.takes (part f (fields s.version f)) h.session.filled h.buffer)

    -- on a timer it does the same, or the smaller R gives up
    abbrev timer_act : ℕ → Act Session (List ℕ)
    timer_act x = dump.does (with_repeats x s) (on_timer (with_repeats x s) h.session) h.buffer

    same_timer : (timer_act R ≡ timer_act R') ⊎ GaveUp (host_end (timer_act R).end (timer_act R).lent)
    same_timer = go (eqb h.session.verdict 0) (eqb h.session.waiting 0) (ltb h.session.repeats R) refl refl refl
      where
        go : (v w r : Bool) → eqb h.session.verdict 0 ≡ v → eqb h.session.waiting 0 ≡ w → ltb h.session.repeats R ≡ r
            → (timer_act R ≡ timer_act R') ⊎ GaveUp (host_end (timer_act R).end (timer_act R).lent)
        go true true true e q l = let less = ltb-true h.session.repeats R l in inl (rw (e, q, l, lt-ltb h.session.repeats R' (omega (arith, larger))))
        go true true false e q l = inr (rw (e, q, l))
        go true false r e q l = inl (rw (e, q))
        go false w r e q l = inl (rw e)

  -- ---- a record that is good under the smaller R is above no limit, and so above none of the larger R: no call is refused for R
  module _ (some : 1 ≤ s.length) (h : Host) (g : Good (with_repeats R s) h) where
    more-sent : (h.session.replies + 1) * (R + 1) ≤ (h.session.replies + 1) * (R' + 1)
    more-sent =
        let times : h.session.replies + 1 ≤ h.session.replies + 1 = omega arith in
        let each : R + 1 ≤ R' + 1 = omega arith in
        mul-le-mul times each

    same-refusal : (size room : ℕ) → refusal (with_repeats R s) h.session size room ≡ refusal (with_repeats R' s) h.session size room
    same-refusal size room =
        let sent : h.session.sent ≤ (h.session.replies + 1) * (R + 1) + 1 = bound (with_repeats R s) some h g in
        rw (le-leb R 255 (omega (arith, larger, most)), le-leb R' 255 most, le-leb h.session.repeats R g.repeats, le-leb h.session.repeats R' (omega (arith, larger, g.repeats)), le-leb h.session.sent ((h.session.replies + 1) * (R + 1) + 1) sent, le-leb h.session.sent ((h.session.replies + 1) * (R' + 1) + 1) (omega (arith, sent, more-sent)))

  -- ---- a dump of no bytes refuses every call, whatever R is
  refuses-all : (x : ℕ) (h : Session) (size room : ℕ) → s.length ≡ 0 → refusal (with_repeats x s) h size room ≡ 0 → ⊥
  refuses-all x h size room zero e = omega (arith, zero, (ranged (with_repeats x s) size (met _ 10 (omega arith) (none _ _ e).0)).least)

  -- ---- every call: the record's numbers are good, if the dump has bytes at all
  abbrev pub GoodIf : Host → Type 0
  GoodIf h = 1 ≤ s.length → Good (with_repeats R s) h

  still-good : (h : Host) (t : Turn Host) → Keeps (Good (with_repeats R s)) (λ x. x.session.sent) h t → Leaving GoodIf t
  still-good = leaving (Good (with_repeats R s)) (λ x. x.session.sent) (1 ≤ s.length)

  -- a frame's refusal stands behind the call's
  abbrev refusals : ℕ → Host → List ℕ → List ℕ → ℕ
  refusals x h f b = first (refusal (with_repeats x s) h.session (length h.buffer) (length b) ∷ (fields s.version f).refusal ∷ [])

  on_frame_lem : (h : Host) (f b : List ℕ) → GoodIf h → Agrees GoodIf GaveUp (on_frame R h f b) (on_frame R' h f b)
  on_frame_lem h f b g =
      elim (ℕ_discrete s.length 0) [
        | yes zero ↦ denied-agree GoodIf GaveUp host_end (refusals R h f b) (refusals R' h f b) h.session h.buffer b (frame_act h R f) (frame_act h R' f)
            (λ e. refuses-all R h.session (length h.buffer) (length b) zero (none _ _ e).0) (λ e. refuses-all R' h.session (length h.buffer) (length b) zero (none _ _ e).0)
        | no some ↦ let one : 1 ≤ s.length = omega arith in
            acts-agree GoodIf GaveUp host_end (refusals R h f b) (refusals R' h f b) h.session h.buffer b (frame_act h R f) (frame_act h R' f)
            (ap (λ (n : ℕ). first (n ∷ (fields s.version f).refusal ∷ [])) (same-refusal one h (g one) (length h.buffer) (length b))) (inl (same-frame h f))
            (still-good h (on_frame R h f b) (on_heard (with_repeats R s) one h (g one) f (on_frame R h f b) (heard (with_repeats R s) h f b)))
      ]

  on_timer_lem : (h : Host) (b : List ℕ) → GoodIf h → Agrees GoodIf GaveUp (on_time R h b) (on_time R' h b)
  on_timer_lem h b g =
      let size = length h.buffer in
      let n = refusal (with_repeats R s) h.session size (length b) in
      let n' = refusal (with_repeats R' s) h.session size (length b) in
      elim (ℕ_discrete s.length 0) [
        | yes zero ↦ denied-agree GoodIf GaveUp host_end n n' h.session h.buffer b (timer_act h R) (timer_act h R')
            (refuses-all R h.session size (length b) zero) (refuses-all R' h.session size (length b) zero)
        | no some ↦ let one : 1 ≤ s.length = omega arith in
            acts-agree GoodIf GaveUp host_end n n' h.session h.buffer b (timer_act h R) (timer_act h R') (same-refusal one h (g one) size (length b)) (same_timer h)
            (still-good h (on_time R h b) (on_timed (with_repeats R s) one h (g one) (on_time R h b) (timed (with_repeats R s) h b)))
      ]

  -- ---- the calls of the host, beside any machine and any further events that leave its record and its buffer alone
  module _ {M X : Type 0} (frame : M → Frame → List ℕ → Turn M) (timer : M → List ℕ → Turn M) (further : World Host M → X → World Host M)
      (unmoved : (w : World Host M) (x : X) → (further w x).host ≡ w.host) where
    abbrev ends : ℕ → Ends Host M X
    ends x = host_beside (with_repeats x s) frame timer further

    pub agree : Agree (ends R) (ends R').host_frame (ends R').host_timer GoodIf GaveUp
    agree =
        record {
          on_frame_lem = on_frame_lem;
          on_timer_lem = on_timer_lem;
          ended-frame = λ h f b o. ended-heard (with_repeats R s) h f (on_frame R h f b) o (heard (with_repeats R s) h f b);
          ended_timer = λ h b o. ended-timed (with_repeats R s) h (on_time R h b) o (timed (with_repeats R s) h b);
          unmoved = unmoved;
        }
