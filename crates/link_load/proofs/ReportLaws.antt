-- The report of a load: what that which every run keeps says of the machine.
use Prim.Native.Nat.{ℕ, zero, suc, ◌+◌, ◌≤◌, ◌<◌, min}
use Rattle.std.specs.Prelude.{◌≡◌, Bool, true, false, cond as pick, List, ◌⊎◌, length}
use Rattle.std.proofs.Math.Path.{refl}
use Rattle.std.proofs.Common.{sym, subst, ◌∙◌}
use Rattle.std.proofs.lemmas.Bool.{false≢true}
use Rattle.std.proofs.Math.Logic.{⊎_map, ⊎_elim}
use native.Mathlib.Omega.{arith}
use Rattle.std.proofs.Math.Decide.{ℕ_discrete}
use Rattle.octets.specs.Number.{Octets}
use Rattle.directory.specs.Directory.{regions}
use Rattle.image.specs.Image.{many, cut_refusal}
use Rattle.machine_record.specs.declared.Settings.{Settings as MachineSettings}
use Rattle.machine_record.specs.Record.{is, requesting}
use Rattle.parameters.specs.Parameters.{kept as kept_of}
use Rattle.machine_next.specs.Next.{parameters_laid}
use Rattle.load_record.specs.declared.Session.{Session}
use Rattle.load_record.specs.declared.Settings.{Settings as LoadSettings}
use Rattle.load_checks.specs.Checks as checks
use Rattle.load_checks.specs.Checks.{given, frames, string_refusal}
use Rattle.load_valid.specs.Valid.{restarts_allowed}
use Rattle.load_checks.specs.Laws.{frames-few, string-whole}
use Rattle.link.specs.Link.{World, Left}
use Rattle.link.specs.MachineEnd.{End}
use Rattle.link_load.specs.Model.{heard_at_once, has_heard, laid_over, parameters_in, laid_frames, FirstIn}
use Rattle.link_load.specs.Report.{Means, Report}
use Rattle.link_load.proofs.AloneLaws.{Good, bound}
use Rattle.link_load.proofs.FramesLaws.{Frames, machine_at, laid}
use Rattle.link_load.proofs.ImageLaws.{no_parameters, parameters-last, in_last, in_early, load_frames}
use Rattle.link_load.proofs.MeaningLaws as meaning
use Rattle.link_load.proofs.MeaningLaws.{Meaning, means}
use Rattle.link_load.proofs.KeptLaws.{Kept, confirmed}

-- ---- from a memory: what the frames lay is what is laid of the segments and the parameter frame
module _ (s : LoadSettings) (ms : MachineSettings) (file string old : List ℕ) (size : ℕ) (ok : cut_refusal file s.segment_size ≡ 0) (o : Octets file)
    (good : string_refusal s string ≡ 0) (same : length old ≡ size) where
  abbrev N : ℕ
  N = many s.segment_size (regions file)

  abbrev n : ℕ
  n = frames s file

  abbrev fr : Frames ms
  fr = load_frames s ms file string size ok o (string-whole s string good)

  -- what the frames lay: the segments among them, and the parameter frame behind all
  abbrev S : ℕ
  S = s.segment_size

  frames-segments : (k : ℕ) → k ≤ n → k ≤ N → meaning.laid_over fr old k ≡ laid_over file S old k
  unfolding laid_over meaning.laid_over
  frames-segments zero l h = refl
  frames-segments (suc k) l h = rw (no_parameters s file k (omega arith), frames-segments k (omega arith) (omega arith))

  abbrev segments-over : ℕ → List ℕ
  segments-over k = laid_over file S old (min k N)

  all_laid : given s ≡ true → meaning.laid_over fr old (suc N) ≡ parameters_laid ms (kept_of string) (segments-over (suc N))
  unfolding meaning.laid_over
  all_laid g =
      let z : min (suc N) N ≡ N = omega arith in
      rw (parameters-last s file g, z, frames-segments N (frames-few s N).0 (omega arith))

  frames-laid : (k : ℕ) → k ≤ n → meaning.laid_over fr old k ≡ laid_frames s ms file string old k
  frames-laid k l = go (parameters_in s file k) refl
    where
      go : (b : Bool) → parameters_in s file k ≡ b → meaning.laid_over fr old k ≡ pick b (parameters_laid ms (kept_of string) (segments-over k)) (segments-over k)
      go true e =
          let z = in_last s file k e in
          rw z.1 (all_laid z.0)
      go false e =
          let less = in_early s file k l e in
          let z : min k N ≡ k = omega arith in
          rw z (frames-segments k l less)

  pub frames_in : (k : ℕ) (e : End) → meaning.FirstIn fr old k e → FirstIn s ms file string old k e
  frames_in k e i =
      record {
        most = i.most;
        fitting = λ j l. rw same (rw (no_parameters s file j (omega arith)) at (i.fitting j (omega arith)));
        parameters-fit = λ q. let z = in_last s file k q in rw same (rw (parameters-last s file z.0) at (i.fitting N (omega (arith, z.1))));
        memory-is = i.memory-is ∙ frames-laid k i.most;
        started = i.started;
        not-started = i.not-started;
        keeps-nothing = i.keeps-nothing;
      }

-- ---- the report
module _ (s : LoadSettings) (ms : MachineSettings) (file string first : List ℕ) (ok : cut_refusal file s.segment_size ≡ 0) (o : Octets file)
    (good : string_refusal s string ≡ 0) (few : checks.few s (frames s file) ≡ true) (b : Left Session End) (w : World Session End)
    (k : Kept s ms file string first ok o good few b w) where
  abbrev old : List ℕ
  old = b.machine.memory

  abbrev t : Frames ms
  t = load_frames s ms file string (length first) ok o (string-whole s string good)

  g : Good (frames s file) s.repeats (restarts_allowed s) w.host
  g = k.1.good

  clash : (a : Bool) {A : Type 0} → a ≡ true → a ≡ false → A
  clash a e f = absurd (false≢true (sym f ∙ e))

  says : Meaning t old w.host w.machine → Means s ms file string old w
  says m =
      let in-as = frames_in s ms file string old (length first) ok o good k.0.0.1 in
      record {
        waiting = λ e. (in-as 0 w.machine (m.waiting e), (g.waiting e).2);
        rejected = λ e. in-as w.host.position w.machine (m.rejected e);
        finished = λ e. in-as (frames s file) w.machine (m.finished e);
        otherwise = λ x y z. ⊎_map (in-as w.host.position w.machine) (in-as (w.host.position + 1) w.machine) (m.otherwise x y);
      }

  meant : has_heard b w.host ≡ true → Means s ms file string old w
  meant e =
      ⊎_elim (λ i.
      says (subst (Meaning t old w.host) (sym i.2.end_is) (means t old s.repeats (restarts_allowed s) i.0 i.1 b w.host i.2.stage i.2.lower i.2.upper i.2.few i.2.fitting)))
      (λ u. clash (has_heard b w.host) e u.sender.misses) k.0.1

  -- the machine stands as the reset left it
  unmoved : has_heard b w.host ≡ false → (is 4 w.machine.machine ≡ false) × (w.machine ≡ b.machine)
  unfolding machine_at laid
  unmoved e =
      let anew : b.machine.machine ≡ requesting = k.0.0.0 in
      ⊎_elim (λ i. clash (has_heard b w.host) i.2.stage.heard-of.hears e)
      (λ u. (rw u.end_is, u.end_is ∙ (rw anew))) k.0.1

  -- a new verdict that is not given up or unconfirmed is of a host that has heard; no host hears of a reset after its verdict
  in_time : (w.host.verdict ≡ 1) ⊎ (w.host.verdict ≡ 2) → b.host.verdict ≡ 0 → has_heard b w.host ≡ true
  in_time v e = ⊎_elim (λ i. i.2.stage.heard-of.hears) (λ u. absurd (⊎_elim (u.sender.new e).0 (u.sender.new e).1 v)) k.0.1

  too_late : (b.host.verdict ≡ 0 → ⊥) → has_heard b w.host ≡ false
  too_late e = ⊎_elim (λ i. absurd (e i.2.stage.heard-of.unended)) (λ u. u.sender.misses) k.0.1

  -- every restart answers a reset
  once : w.host.restarts ≤ b.host.restarts + 1
  once = ⊎_elim (λ i. i.2.stage.heard-of.at_most) (λ u. omega (arith, u.sender.as_many)) k.0.1

  none-at-once : heard_at_once b ≡ true → w.host.restarts ≡ b.host.restarts
  none-at-once e = ⊎_elim (λ i. i.2.stage.heard-of.at_once e) (λ u. u.sender.as_many) k.0.1

  pub report : Report s ms file string first b w
  report =
      record {
        heard-of = meant;
        not-heard-of = unmoved;
        window_kept = k.2;
        same_length = k.0.0.1;
        counted = k.1.took;
        bounded = bound (frames s file) s.repeats (restarts_allowed s) w.host g;
        restarts-allowed = g.restarts;
        at_most_one = once;
        none-at-once = none-at-once;
        handed = k.1.hears;
        counts = k.1.says;
        confirmed = λ i l.
            rw (no_parameters s file i (omega (arith, l))) at (confirmed s ms file string first ok o good few b w k.0.1 i (omega (arith, l)));
        finished-at = λ e. (g.finished e).0;
        rejected-at = λ e. (g.otherwise (λ q. omega arith)).0;
        given-up-at = λ e. (g.given-up e).0;
        unconfirmed-at = λ e. (g.unconfirmed e).0;
        in_time = in_time;
        too_late = too_late;
      }

-- given up or unconfirmed: the frame on its way may be in
pub on_way : (s : LoadSettings) (ms : MachineSettings) (file string old : List ℕ) (w : World Session End) (v : ℕ) → 2 < v → w.host.verdict ≡ v → Means s ms file string old w
    → FirstIn s ms file string old w.host.position w.machine ⊎ FirstIn s ms file string old (w.host.position + 1) w.machine
on_way s ms file string old w v l e r = r.otherwise (λ q. omega (arith, (r.waiting q).1)) (λ q. omega arith) (λ q. omega arith)

-- a machine that is started has all frames in
module _ (s : LoadSettings) (ms : MachineSettings) (file string old : List ℕ) (w : World Session End) (e : is 4 w.machine.machine ≡ true) where
  all : (k : ℕ) → FirstIn s ms file string old k w.machine → FirstIn s ms file string old (frames s file) w.machine
  all k i =
      elim (ℕ_discrete k (frames s file)) [
        | yes q ↦ subst (λ (n : ℕ). FirstIn s ms file string old n w.machine) q i
        | no q ↦ absurd (false≢true (sym (i.not-started q) ∙ e))
      ]

  pub started-all_in : Means s ms file string old w → FirstIn s ms file string old (frames s file) w.machine
  started-all_in r =
      elim (ℕ_discrete w.host.waiting 1) [
        | yes a ↦ all 0 (r.waiting a).0
        | no a ↦ elim (ℕ_discrete w.host.verdict 1) [
          | yes b ↦ r.finished b
          | no b ↦ elim (ℕ_discrete w.host.verdict 2) [
            | yes c ↦ all w.host.position (r.rejected c)
            | no c ↦ ⊎_elim (all w.host.position) (all (w.host.position + 1)) (r.otherwise a b c)
          ]
        ]
      ]

-- a host of a machine that is started has heard of the last reset
pub started-heard : (s : LoadSettings) (ms : MachineSettings) (file string old : List ℕ) (b : Left Session End) (w : World Session End) → Report s ms file string old b w
    → is 4 w.machine.machine ≡ true → has_heard b w.host ≡ true
started-heard s ms file string old b w r e = go (has_heard b w.host) refl
  where
    go : (d : Bool) → has_heard b w.host ≡ d → has_heard b w.host ≡ true
    go true q = q
    go false q = absurd (false≢true (sym (r.not-heard-of q).0 ∙ e))
