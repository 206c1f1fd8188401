-- Two loads that differ in R alone, beside any machine: until the one with the smaller R gives up, every call of the host comes to the same.
-- What holds of the record alone (AloneLaws.antt) is all that it takes.
use Rattle.std.specs.Prelude.{ℕ, ◌+◌, ◌*◌, ◌≤◌, ◌≡◌, refl, Bool, true, false, List, [], ◌∷◌, ◌⊎◌, eqb, ltb}
use Rattle.std.proofs.Common.{ap, ◌∙◌, inl, inr, ⊎_elim, arith, mul-le-mul, le-leb, lt-ltb, ltb-true}
use Rattle.std.proofs.Math.Decide.{ℕ_discrete}
use Rattle.octets.specs.TestLaws.{by_cases}
use Rattle.directory.specs.Directory.{regions}
use Rattle.image.specs.Image.{many}
use Rattle.image.specs.Laws.{many-range}
use Rattle.message.specs.Read.{fields}
use Rattle.step.specs.Step.{Act, first}
use Rattle.step.specs.Laws.{none}
use Rattle.load_record.specs.declared.Session.{Session}
use Rattle.load_record.specs.declared.Settings.{Settings as LoadSettings}
use Rattle.load_record.specs.Record.{tallied, more}
use Rattle.load_next.specs.Next.{react}
use Rattle.load_timer.specs.Timer.{on_timer}
use Rattle.load_checks.specs.Checks.{frames, most_sent, refusal}
use Rattle.load_valid.specs.Valid.{restarts_allowed}
use Rattle.load_checks.specs.Laws.{accepted, frames-few}
use Rattle.load.specs.Load.{does, load_frame, load_timer}
use Rattle.link.specs.Link.{Frame, Turn, turned, World, Ends}
use Rattle.link.proofs.AloneLaws.{Keeps}
use Rattle.link.proofs.AgreeLaws.{Leaving, Agrees, leaving, acts-agree, denied-agree, Agree}
use Rattle.link_load.specs.Model.{host_end, host_beside, with_repeats, GivenUp, GaveUp}
use Rattle.link_load.proofs.HostLaws.{Heard, refused, ignored, begins, restarts, advances, finishes, rejects, Timed, repeats, gives_up, unconfirmed, F, heard, timed}
use Rattle.link_load.proofs.AloneLaws.{Good, bound, on_heard, on_timed}

-- ---- a load that was given up, or is unconfirmed, stays so
module _ (N R E : ℕ) (F : ℕ → Frame) (h : Session) where
  running : GaveUp h → h.verdict ≡ 0 → ⊥
  running o z = ⊎_elim {C = ⊥} (λ e. omega (arith, e, z)) (λ e. omega (arith, e, z)) o

  stays : (x : Session) → x.verdict ≡ h.verdict → GaveUp h → GaveUp x
  stays x e = ⊎_elim (λ q. inl (e ∙ q)) (λ q. inr (e ∙ q))

  ended-heard : (f : Frame) (t : Turn Session) → GaveUp h → Heard N R E F h f t → Leaving GaveUp t
  ended-heard f t o refused = tt
  ended-heard f t o (ignored x n) = stays x n.verdict o
  ended-heard f t o (begins x w v n) = absurd (running o v)
  ended-heard f t o (restarts x w v r l e n) = absurd (running o v)
  ended-heard f t o (advances x w a l n) = absurd (running o w.1)
  ended-heard f t o (finishes x w a b l n) = absurd (running o w.1)
  ended-heard f t o (rejects x e w a r n) = absurd (running o w.1)

  ended-timed : (t : Turn Session) → GaveUp h → Timed N R E F h t → Leaving GaveUp t
  ended-timed t o refused = tt
  ended-timed t o (ignored x n) = stays x n.verdict o
  ended-timed t o (repeats x w r n) = absurd (running o w.1)
  ended-timed t o (gives_up x w r l n) = absurd (running o w.1)
  ended-timed t o (unconfirmed x w r l n) = absurd (running o w.1)

module _ (s : LoadSettings) (file string : List ℕ) (R R' : ℕ) (larger : R ≤ R') (most : R' ≤ 255) where
  abbrev N : ℕ
  N = frames s file

  abbrev E : ℕ
  E = restarts_allowed s

  -- what a call of the host comes to, with x for R
  abbrev on_frame : ℕ → Session → List ℕ → List ℕ → Turn Session
  on_frame x h f b = turned host_end (load_frame (with_repeats x s) h file string f b)

  abbrev on_time : ℕ → Session → List ℕ → Turn Session
  on_time x h b = turned host_end (load_timer (with_repeats x s) h file string b)

  -- ---- on a timer it does the same, or the smaller R gives up
  module _ (h : Session) where
    abbrev timer_act : ℕ → Act Session Unit
    timer_act x = does s file string (on_timer (frames s file) x h)

    same_timer : (timer_act R ≡ timer_act R') ⊎ GaveUp (timer_act R).end
    same_timer = go (eqb h.verdict 0) (eqb h.waiting 0) (ltb h.repeats R) refl refl refl
      where
        go : (v w r : Bool) → eqb h.verdict 0 ≡ v → eqb h.waiting 0 ≡ w → ltb h.repeats R ≡ r → (timer_act R ≡ timer_act R') ⊎ GaveUp (timer_act R).end
        go true true true e q l = let less = ltb-true h.repeats R l in inl (rw (l, lt-ltb h.repeats R' (omega (arith, larger))))
        go true true false e q l = inr (rw (e, q, l) (by_cases GivenUp (more N h) (λ _. inl refl) (λ _. inr refl)))
        go true false r e q l = inl (rw q)
        go false w r e q l = inl (rw e)

  -- ---- a record that is good under the smaller R
  module _ (h : Session) (g : Good (frames s file) R (restarts_allowed s) h) where
    -- no call is refused for R: it is above no limit, and so above none of the larger R
    more-sent : most_sent h.restarts N R ≤ most_sent h.restarts N R'
    more-sent =
        let times : h.restarts + 1 ≤ h.restarts + 1 = omega arith in
        let many : N ≤ N = omega arith in
        let each : R + 1 ≤ R' + 1 = omega arith in
        let load : N * (R + 1) ≤ N * (R' + 1) = mul-le-mul many each in
        mul-le-mul times load

    same-refusal : (b : List ℕ) → refusal (with_repeats R s) h file string b ≡ refusal (with_repeats R' s) h file string b
    same-refusal b =
        let sent : h.sent ≤ most_sent h.restarts N R = bound N R E h g in
        rw (le-leb R 255 (omega (arith, larger, most)), le-leb R' 255 most, le-leb h.repeats R g.repeats, le-leb h.repeats R' (omega (arith, larger, g.repeats)), le-leb h.sent (most_sent h.restarts N R) sent, le-leb h.sent (most_sent h.restarts N R') (omega (arith, sent, more-sent)))

  -- ---- a load without frames refuses every call, whatever R is
  refuses-all : (x : ℕ) (h : Session) (b : List ℕ) → frames s file ≡ 0 → refusal (with_repeats x s) h file string b ≡ 0 → ⊥
  refuses-all x h b none e =
      let a = accepted (with_repeats x s) h file string b e in
      omega (arith, (many-range file s.segment_size a.whole).0, (frames-few s (many s.segment_size (regions file))).0)

  -- ---- every call: the record's numbers are good, if the load has frames at all
  abbrev pub GoodIf : Session → Type 0
  GoodIf h = 1 ≤ frames s file → Good (frames s file) R (restarts_allowed s) h

  still-good : (h : Session) (t : Turn Session) → Keeps (Good (frames s file) R (restarts_allowed s)) (λ x. x.sent) h t → Leaving GoodIf t
  still-good = leaving (Good N R E) (λ x. x.sent) (1 ≤ frames s file)

  -- a frame's refusal stands behind the call's
  abbrev refusals : ℕ → Session → List ℕ → List ℕ → ℕ
  refusals x h f b = first (refusal (with_repeats x s) h file string b ∷ (fields s.version f).refusal ∷ [])

  abbrev frame_act : Session → List ℕ → Act Session Unit
  frame_act h f = does s file string (tallied h (react (frames s file) s.restart h (fields s.version f)))

  on_frame_lem : (h : Session) (f b : List ℕ) → GoodIf h → Agrees GoodIf GaveUp (on_frame R h f b) (on_frame R' h f b)
  on_frame_lem h f b g =
      elim (ℕ_discrete (frames s file) 0) [
        | yes zero ↦ denied-agree GoodIf GaveUp host_end (refusals R h f b) (refusals R' h f b) h tt b (frame_act h f) (frame_act h f)
            (λ e. refuses-all R h b zero (none _ _ e).0) (λ e. refuses-all R' h b zero (none _ _ e).0)
        | no some ↦ let one : 1 ≤ frames s file = omega arith in
            acts-agree GoodIf GaveUp host_end (refusals R h f b) (refusals R' h f b) h tt b (frame_act h f) (frame_act h f)
            (ap (λ (n : ℕ). first (n ∷ (fields s.version f).refusal ∷ [])) (same-refusal h (g one) b)) (inl refl)
            (still-good h (on_frame R h f b) (on_heard N R E one (F s file string) h f (on_frame R h f b) (g one) (heard (with_repeats R s) file string h f b)))
      ]

  on_timer_lem : (h : Session) (b : List ℕ) → GoodIf h → Agrees GoodIf GaveUp (on_time R h b) (on_time R' h b)
  on_timer_lem h b g =
      let n = refusal (with_repeats R s) h file string b in
      let n' = refusal (with_repeats R' s) h file string b in
      elim (ℕ_discrete (frames s file) 0) [
        | yes zero ↦ denied-agree GoodIf GaveUp host_end n n' h tt b (timer_act h R) (timer_act h R') (refuses-all R h b zero) (refuses-all R' h b zero)
        | no some ↦ let one : 1 ≤ frames s file = omega arith in
            acts-agree GoodIf GaveUp host_end n n' h tt b (timer_act h R) (timer_act h R') (same-refusal h (g one) b) (same_timer h)
            (still-good h (on_time R h b) (on_timed N R E one (F s file string) h (on_time R h b) (g one) (timed (with_repeats R s) file string h b)))
      ]

  -- ---- the calls of the host, beside any machine and any further events that leave its record alone
  module _ {M X : Type 0} (frame : M → Frame → List ℕ → Turn M) (timer : M → List ℕ → Turn M) (further : World Session M → X → World Session M)
      (unmoved : (w : World Session M) (x : X) → (further w x).host ≡ w.host) where
    abbrev ends : ℕ → Ends Session M X
    ends x = host_beside (with_repeats x s) file string frame timer further

    pub agree : Agree (ends R) (ends R').host_frame (ends R').host_timer GoodIf GaveUp
    agree =
        record {
          on_frame_lem = on_frame_lem;
          on_timer_lem = on_timer_lem;
          ended-frame = λ h f b o. ended-heard N R E (F s file string) h f (on_frame R h f b) o (heard (with_repeats R s) file string h f b);
          ended_timer = λ h b o. ended-timed N R E (F s file string) h (on_time R h b) o (timed (with_repeats R s) file string h b);
          unmoved = unmoved;
        }
