-- Laws of what a call of a load refuses: what an accepted one says.
use Rattle.std.specs.Prelude.{ℕ, ◌+◌, ◌*◌, ◌≤◌, ◌<◌, ◌≡◌, refl, Bool, true, false, not, ◌&&◌, cond as pick, List, [], ◌∷◌, length, eqb, leb}
use Rattle.std.proofs.Common.{sym, ◌∙◌, arith, mul-le-mul, length-append, leb-true, leb-false, le-ltb, lt-ltb, le-leb}
use Rattle.std.proofs.lemmas.Bool.{eqb-false, not-true}
use Rattle.octets.specs.NumberLaws.{length-low}
use Rattle.octets.specs.TestLaws.{by_cases, both}
use Rattle.directory.specs.Directory.{addresses, regions, demand, refusal as image_refusal}
use Rattle.image.specs.Image.{many, widest, cut_refusal}
use Rattle.image.specs.Laws.{many-range}
use Rattle.buffer.specs.Lay.{laid, refuse}
use Rattle.message.specs.Message.{parameters}
use Rattle.version.specs.Version.{known}
use Rattle.counts.specs.Counts.{below}
use Rattle.message.specs.Write.{entry_list, layout, write}
use Rattle.step.specs.Step.{unless, first}
use Rattle.step.specs.Laws.{met, none}
use Rattle.load_record.specs.declared.Settings.{Settings}
use Rattle.load_record.specs.declared.Session.{Session}
use Rattle.load_record.specs.Record.{most_restarts}
use Rattle.load_checks.specs.Checks.{given, frames_of, frames, few, most_sent, consistent, longest, string_refusal, refusal}
use Rattle.load_valid.specs.Valid.{restarting, settled, blank, restarts_allowed, sound}

-- the settings are in range
pub record Set (s : Settings) : Type 0 where
  pub some : 1 ≤ s.segment_size
  pub narrow : s.segment_size ≤ widest
  pub few : s.repeats ≤ 255
  pub mark : s.with_parameters ≤ 1
  pub restart : s.restart ≤ 1
  pub version : known s.version ≡ true

pub set : (s : Settings) → settled s ≡ true → Set s
set s e =
    let all = both _ _ e in
    let settings = both _ _ all.0 in
    let marks = both _ _ settings.0 in
    let numbers = both _ _ marks.0 in
    let size = both _ _ numbers.0 in
    record {
      some = leb-true _ _ size.0;
      narrow = leb-true _ _ size.1;
      few = leb-true _ _ numbers.1;
      mark = leb-true _ _ marks.1;
      restart = leb-true _ _ settings.1;
      version = all.1;
    }

-- then the image alone decides how it is cut
pub cut-image : (s : Settings) (file : List ℕ) → Set s → image_refusal file ≡ cut_refusal file s.segment_size
unfolding demand
cut-image s file r = rw (le-leb 1 s.segment_size r.some, le-leb s.segment_size widest r.narrow)

-- a load has one frame more than segments at most, and no fewer
pub frames-few : (s : Settings) (N : ℕ) → (N ≤ frames_of s N) × (frames_of s N ≤ N + 1)
frames-few s N =
    by_cases (λ (n : ℕ). (N ≤ n) × (n ≤ N + 1)) (given s) (λ _. (omega arith, omega arith)) (λ _. (omega arith, omega arith))

-- n × (R + 1), the most frames sent by a load that does not begin again
pub most-sent-once : (n R : ℕ) → n ≤ addresses + 1 → R ≤ 255 → n * (R + 1) ≤ 256 * (addresses + 1)
most-sent-once n R h r =
    let repeats : R + 1 ≤ 256 = omega arith in
    let most : n * (R + 1) ≤ (addresses + 1) * 256 = mul-le-mul h repeats in
    omega arith

-- and by any load
pub most-sent : (restarts n R : ℕ) → restarts ≤ most_restarts → n ≤ addresses + 1 → R ≤ 255 → most_sent restarts n R ≤ 65536 * (256 * (addresses + 1))
most-sent restarts n R e h r =
    let times : restarts + 1 ≤ 65536 = omega arith in
    mul-le-mul times (most-sent-once n R h r)

-- no load may begin again more often
pub restarts-most : (s : Settings) → restarts_allowed s ≤ most_restarts
restarts-most s = by_cases (λ (n : ℕ). n ≤ most_restarts) (restarting s) (λ _. omega arith) (λ _. omega arith)

-- the record agrees with n: while it runs a frame is on its way or yet to come
pub record Fitting (n : ℕ) (s : Settings) (h : Session) : Type 0 where
  pub reached : h.position ≤ n
  pub counted : h.sent ≤ most_sent h.restarts n s.repeats
  pub goes : h.verdict ≡ 0 → h.position < n

pub fitting : (n : ℕ) (s : Settings) (h : Session) → consistent n s h ≡ true → Fitting n s h
fitting n s h e =
    let all = both _ _ e in
    let numbers = both _ _ all.0 in
    let verdict : pick (eqb h.verdict 1) (eqb h.position n) (not (eqb h.position n)) ≡ true = all.1 in
    let reached : h.position ≤ n = leb-true _ _ numbers.0 in
    record {
      reached = reached;
      counted = leb-true _ _ numbers.1;
      goes = λ v. let elsewhere : h.position ≡ n → ⊥ = eqb-false _ _ (not-true _ (rw v at verdict)) in omega arith;
    }

-- a parameter string that is accepted: a writer lists its entries under the version, and its frame has at most 1,500 bytes
abbrev pub Whole : ℕ → List ℕ → Type 0
Whole version string = ((entry_list string).listed version ≡ true) × (length string ≤ longest)

pub string-whole : (s : Settings) (string : List ℕ) → string_refusal s string ≡ 0 → given s ≡ true → Whole s.version string
string-whole s string e g =
    let r : first (unless ((entry_list string).listed s.version) 4 ∷ unless (leb (length string) longest) 2 ∷ []) ≡ 0 = rw g at e in
    let listed = none _ _ r in
    let short = none _ _ listed.1 in
    (met _ 4 (omega arith) listed.0, leb-true _ _ (met _ 2 (omega arith) short.0))

-- what a load refuses of a string is what the writer of code 20 refuses of it under the same version, given a buffer of at least 1,500 bytes
pub string_as_written : (s : Settings) (string : List ℕ) (number transfer : ℕ) (out : List ℕ) → given s ≡ true → 1500 ≤ length out
    → string_refusal s string ≡ (write s.version (parameters number string transfer) out).answer.refusal
unfolding first write layout
string_as_written s string number transfer out g h = rw g (go ((entry_list string).listed s.version))
  where
    size : length (layout (parameters number string transfer)) ≡ length string + 7
    size = simp (length-append, length-low) (omega arith)

    laid_as : (b : Bool) → leb (length string) longest ≡ b → pick (eqb (pick b 0 2) 0) 0 (pick b 0 2) ≡ (laid (layout (parameters number string transfer)) out).answer.refusal
    laid_as true e =
        let l = leb-true (length string) longest e in
        rw (le-ltb 1500 (length (layout (parameters number string transfer))) (omega (arith, size)), le-ltb (length out) (length (layout (parameters number string transfer))) (omega (arith, size)))
    laid_as false e =
        let l = leb-false (length string) longest e in
        rw (lt-ltb 1500 (length (layout (parameters number string transfer))) (omega (arith, size)))

    go : (b : Bool) → pick (eqb (pick b 0 4) 0) (pick (eqb (pick (leb (length string) longest) 0 2) 0) 0 (pick (leb (length string) longest) 0 2)) (pick b 0 4)
        ≡ (pick (b && (true && (true && true))) (laid (layout (parameters number string transfer)) out) (refuse 4 out)).answer.refusal
    go true = laid_as (leb (length string) longest) refl
    go false = refl

-- a sound record has only restarts that the settings allow, and no count at its top
pub record Sound (s : Settings) (h : Session) : Type 0 where
  pub restarts : h.restarts ≤ restarts_allowed s
  pub below_top : below h.counts ≡ true

pub is-sound : (s : Settings) (h : Session) → sound s h ≡ true → Sound s h
is-sound s h e =
    let numbers = leb h.verdict 4 && leb h.repeats s.repeats in
    let again = leb h.restarts (restarts_allowed s) in
    let mark = leb h.waiting 1 in
    let counts = both (numbers && again && mark) (below h.counts) (both (numbers && again && mark && below h.counts) (pick (eqb h.waiting 1) (blank h) true) e).0 in
    record { restarts = leb-true _ _ (both numbers again (both (numbers && again) mark counts.0).0).1; below_top = counts.1 }

-- a load that may begin again has at most 256 frames
pub few-frames : (s : Settings) (n : ℕ) → few s n ≡ true → restarting s ≡ true → n ≤ 256
few-frames s n e r = leb-true n 256 (rw r at e)

-- What an accepted call says: the settings are in range, the record is sound, the reply buffer has room for any frame, the image is whole and has few frames if the
-- load may begin again, the record agrees with n, which has 33 bits, and so is the parameter string.
pub record Accepted (s : Settings) (h : Session) (file string reply : List ℕ) : Type 0 where
  pub range : Set s
  pub sound : Sound s h
  pub room : 1500 ≤ length reply
  pub whole : cut_refusal file s.segment_size ≡ 0
  pub few : frames s file ≤ addresses + 1
  pub again : restarting s ≡ true → frames s file ≤ 256
  pub fits : Fitting (frames s file) s h
  pub parameters : given s ≡ true → Whole s.version string

pub accepted : (s : Settings) (h : Session) (file string reply : List ℕ) → refusal s h file string reply ≡ 0 → Accepted s h file string reply
accepted s h file string reply e =
    let settings = none _ _ e in
    let session = none _ _ settings.1 in
    let buffer = none _ _ session.1 in
    let image = none _ _ buffer.1 in
    let short = none _ _ image.1 in
    let count = none _ _ short.1 in
    let last = none _ _ count.1 in
    let range = set s (met _ 10 (omega arith) settings.0) in
    let whole = sym (cut-image s file range) ∙ image.0 in
    record {
      range = range;
      sound = is-sound s h (met _ 10 (omega arith) session.0);
      room = leb-true _ _ (met _ 9 (omega arith) buffer.0);
      whole = whole;
      few = omega (arith, (many-range file s.segment_size whole).1, (frames-few s (many s.segment_size (regions file))).1);
      again = few-frames s (frames s file) (met _ 12 (omega arith) short.0);
      fits = fitting (frames s file) s h (met _ 10 (omega arith) count.0);
      parameters = string-whole s string last.0;
    }
