-- What a call of the host's end of a load refuses, but for its frame (PROTOCOL 5, 'Host end', and 7, 'Refusals').
use Rattle.std.specs.Prelude.{ℕ, ◌+◌, ◌*◌, Bool, true, not, ◌&&◌, cond as pick, List, [], ◌∷◌, length, eqb, leb}
use Rattle.directory.specs.Directory.{trailer, regions, refusal as image_refusal}
use Rattle.image.specs.Image.{many, segment}
use Rattle.message.specs.Write.{entry_list}
use Rattle.step.specs.Step.{unless, first}
use Rattle.load_record.specs.declared.Settings.{Settings}
use Rattle.load_record.specs.declared.Session.{Session}
use Rattle.load_valid.specs.Valid.{restarting, settled, sound}
use Rattle.load_checks.specs.declared.Ruling.{Ruling}

-- a parameter string ends the load
abbrev pub given : Settings → Bool
given s = eqb s.with_parameters 1

-- n, the number of frames that make the load: one for each of N segments, and one more for a parameter string
abbrev pub frames_of : Settings → ℕ → ℕ
frames_of s N = pick (given s) (N + 1) N

abbrev pub frames : Settings → List ℕ → ℕ
frames s file = frames_of s (many s.segment_size (regions file))

-- a load with the restart setting has at most 256 frames
abbrev pub few : Settings → ℕ → Bool
few s n = pick (restarting s) (leb n 256) true

-- the most frames sent by a load of n frames with so many restarts: (restarts + 1) × n × (R + 1)
abbrev pub most_sent : ℕ → ℕ → ℕ → ℕ
most_sent restarts n R = (restarts + 1) * (n * (R + 1))

-- what needs n: c at most n, the frames sent, and verdict 1 just at n
abbrev pub consistent : ℕ → Settings → Session → Bool
consistent n s h =
    leb h.position n && leb h.sent (most_sent h.restarts n s.repeats)
    && pick (eqb h.verdict 1) (eqb h.position n) (not (eqb h.position n))

-- the most bytes of a parameter string: code 20 has 7 more
abbrev pub longest : ℕ
longest = 1493

-- the string's refusal: 4 for entries that a writer refuses under the version, then 2; without a mark it is not looked at
abbrev pub string_refusal : Settings → List ℕ → ℕ
string_refusal s string =
    pick (given s) (first (unless ((entry_list string).listed s.version) 4 ∷ unless (leb (length string) longest) 2 ∷ [])) 0

-- a call's refusal; 0 is none
abbrev pub refusal : Settings → Session → List ℕ → List ℕ → List ℕ → ℕ
refusal s h file string reply =
    first
    (unless (settled s) 10
    ∷ unless (sound s h) 10
    ∷ unless (leb 1500 (length reply)) 9
    ∷ image_refusal file
    ∷ unless (few s (frames s file)) 12
    ∷ unless (consistent (frames s file) s h) 10
    ∷ string_refusal s string
    ∷ [])

-- n, the image's transfer address and segment i, nowhere if there is none
abbrev pub accepts : Settings → List ℕ → ℕ → Ruling
accepts s file i =
    record {
      many = frames s file;
      transfer = (trailer file).transfer;
      segment = segment s.segment_size (regions file) i;
    }
