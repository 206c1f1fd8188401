-- What a rehearsal's input asks for (PROTOCOL 8, 'Rehearsal'): its form is checked first, then its image.
use Rattle.std.specs.Prelude.{ℕ, ◌≡◌, Result, Ok, Err, List, take, drop}
use Rattle.refusal.specs.declared.Refusal.{Refusal}
use Rattle.refusal.specs.Refusal.{number}
use Rattle.buffer.specs.Lay.{Output}
use Rattle.hexadecimal.specs.Hexadecimal.{hexadecimal, decoded}
use Rattle.segments.specs.Segments.{checked as image_checked}
use Rattle.script.specs.declared.Script.{Script}
use Rattle.script.specs.Script.{checked}
use Rattle.job.specs.declared.Setup.{Setup}
use Rattle.job.specs.declared.Job.{Job}
use Rattle.job.specs.declared.Refused.{Refused}
use Rattle.version.specs.Version.{v30}
use Rattle.window.specs.Window.{none}

-- the settings of both ends: there is no parameter string, no restart and no ROM window, device and processor are 0, and D plays no part in
-- a load
abbrev pub setup : Script → Setup
setup t =
    record {
      host = record { segment_size = t.segment_size; repeats = t.repeats; with_parameters = 0; version = v30; restart = 0 };
      machine = record { reply_bytes = 1495; device = 0; processor = 0; version = v30; window = none };
    }

-- the second line's bytes, laid into a space
abbrev pub image_in : List ℕ → Script → List ℕ → Output
image_in input t space = decoded (hexadecimal (take t.image_length (drop t.image_at input))) space

-- the bytes that were laid
abbrev pub bytes_of : Output → List ℕ
bytes_of o = take o.answer.length o.buffer

-- What is read of an input: refusal n, 0 for none, and what was asked for; and the space that then holds the image.
pub record Reading : Type 0 where
  pub job : Job
  pub refusal : ℕ
  pub space : List ℕ

-- the lengths of the image in bytes and in segments
abbrev pub job : Script → ℕ → ℕ → Job
job t file segments = record { setup = setup t; script = t; file = file; segments = segments }

abbrev pub with_image : Script → Output → Reading
with_image t o =
    record {
      job = job t o.answer.length (image_checked (bytes_of o) t.segment_size).segments;
      refusal = (image_checked (bytes_of o) t.segment_size).refusal;
      space = o.buffer;
    }

-- all numbers 0
abbrev pub nothing : Script
nothing = record { memory = 0; image_at = 0; image_length = 0; events_at = 0; events_length = 0; segment_size = 0; repeats = 0 }

abbrev pub read_by : Result Script Refusal → List ℕ → List ℕ → Reading
read_by (Ok t) input space = with_image t (image_in input t space)
read_by (Err r) input space = record { job = job nothing 0 0; refusal = number r; space = space }

abbrev pub reading : List ℕ → List ℕ → Reading
reading input space = read_by (checked input) input space

-- It is answered with refusal n, 0 for none, and this job in either case.
abbrev pub Asked : Result Job Refused → ℕ → Job → Type 0
Asked (Ok x) n v = (n ≡ 0) × (x ≡ v)
Asked (Err e) n v = (n ≡ number e.refusal) × (e.job ≡ v)
