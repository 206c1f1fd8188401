-- An accepted input has accepted settings, an accepted image of bytes, an accepted length of memory, and at most 8,192 letters that are events.
use Rattle.std.specs.Prelude.{ℕ, zero, suc, ◌+◌, ◌*◌, ◌≤◌, ◌<◌, ◌≡◌, refl, true, false, ◌&&◌, List, [], ◌∷◌, Result, Ok, Err, length, take, drop, eqb, ltb}
use Rattle.std.proofs.Common.{arith, length-take, length-drop, take_at, eqb-true, ltb-true, le-leb}
use Rattle.octets.specs.Number.{Octets}
use Rattle.octets.specs.TestLaws.{by_cases, both}
use Rattle.refusal.specs.declared.Refusal.{Refusal}
use Rattle.refusal.specs.Laws.{some}
use Rattle.buffer.specs.Lay.{Output}
use Rattle.digits.specs.Digits.{nibble}
use Rattle.hexadecimal.specs.Hexadecimal.{Decoded, not_hexadecimal, spelled, is_digit, before, hexadecimal, decoded}
use Rattle.image.specs.Image.{cut_refusal}
use Rattle.segments.specs.declared.Image.{Image}
use Rattle.segments.specs.Segments.{checked as image_checked}
use Rattle.script.specs.declared.Script.{Script}
use Rattle.script.specs.Script.{only, events, checked}
use Rattle.step.specs.Step.{first}
use Rattle.machine_record.specs.Record.{requesting}
use Rattle.machine_checks.specs.Checks.{refusal}
use Rattle.job.specs.Job.{setup, image_in, bytes_of, Reading, with_image, read_by, reading}
use Rattle.link_load.specs.Report.{lays_block}
use Rattle.rehearse.specs.Rehearse.{letters_of, file_of}
use Rattle.rehearse_cases.specs.AcceptedLaws.{accepted}

-- ---- what hexadecimal spells is bytes
abbrev Spells : Decoded → Type 0
Spells not_hexadecimal = Unit {0}
Spells (spelled s) = Octets s

no_octets : Octets []
no_octets k h = absurd (omega arith)

octets-more : (v : ℕ) (s : List ℕ) → v < 256 → Octets s → Octets (v ∷ s)
octets-more v s l o zero h = l
octets-more v s l o (suc k) h = o k (omega arith)

spells-before : (v : ℕ) (d : Decoded) → v < 256 → Spells d → Spells (before v d)
spells-before v not_hexadecimal l w = tt
spells-before v (spelled s) l w = octets-more v s l w

spells : (cs : List ℕ) → Spells (hexadecimal cs)
unfolding hexadecimal
spells [] = no_octets
spells (a ∷ []) = tt
spells (a ∷ b ∷ rest) =
    by_cases Spells (is_digit a && is_digit b) (λ e.
    let x = both (is_digit a) (is_digit b) e in
    spells-before (nibble a * 16 + nibble b) (hexadecimal rest) (omega (arith, ltb-true (nibble a) 16 x.0, ltb-true (nibble b) 16 x.1)) (spells rest)) (λ _. tt)

laid-octets : (d : Decoded) (out : List ℕ) → Spells d → Octets (bytes_of (decoded d out))
laid-octets not_hexadecimal out w = no_octets
laid-octets (spelled s) out w =
    by_cases (λ (o : Output). Octets (bytes_of o)) (ltb (length out) (length s)) (λ _. no_octets)
    (λ _. rw (take_at s (drop (length s) out) (length s) refl) w)

-- ---- an input that is not refused
pub record Ready (input : List ℕ) (r : Reading) : Type 0 where
  pub image : cut_refusal (file_of r) r.job.setup.host.segment_size ≡ 0
  pub octets : Octets (file_of r)
  pub few : r.job.setup.host.repeats ≤ 255
  pub mark : r.job.setup.host.with_parameters ≤ 1
  pub once : r.job.setup.host.restart ≡ 0
  pub versions : r.job.setup.machine.version ≡ r.job.setup.host.version
  pub no_block : lays_block r.job.setup.host r.job.setup.machine ≡ false
  pub settings : refusal r.job.setup.machine requesting r.job.script.memory 1500 ≡ 0
  pub letters : only events (letters_of input r.job) ≡ true
  pub short : length (letters_of input r.job) ≤ 8192

image-whole : (file : List ℕ) (S : ℕ) → (image_checked file S).refusal ≡ 0 → cut_refusal file S ≡ 0
image-whole file S =
    by_cases (λ (i : Image). i.refusal ≡ 0 → cut_refusal file S ≡ 0) (eqb (cut_refusal file S) 0) (λ e _. eqb-true (cut_refusal file S) 0 e) (λ _ z. z)

accepts : (t : Script) (size : ℕ) → size ≤ 4096 → refusal (setup t).machine requesting size 1500 ≡ 0
unfolding first
accepts t size h = rw (le-leb size 16777216 (omega arith))

pub ready : (input space : List ℕ) → (reading input space).refusal ≡ 0 → Ready input (reading input space)
ready input space = by_answer (checked input) refl
  where
    whole : (t : Script) → Ok t ≡ checked input → (image_checked (bytes_of (image_in input t space)) t.segment_size).refusal ≡ 0
        → Ready input (with_image t (image_in input t space))
    whole t e z =
        let a = accepted input t e in
        record {
          image = image-whole (bytes_of (image_in input t space)) t.segment_size z;
          octets = laid-octets (hexadecimal (take t.image_length (drop t.image_at input))) space (spells (take t.image_length (drop t.image_at input)));
          few = a.repeats-most;
          mark = omega arith;
          once = refl;
          versions = refl;
          no_block = refl;
          settings = accepts t t.memory a.memory-most;
          letters = a.events_are;
          short = simp (length-take, length-drop) (omega (arith, a.short));
        }

    by_answer : (a : Result Script Refusal) → a ≡ checked input → (read_by a input space).refusal ≡ 0 → Ready input (read_by a input space)
    by_answer (Ok t) e h = whole t e h
    by_answer (Err r) e h = absurd (omega (arith, some r))
