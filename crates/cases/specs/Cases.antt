-- The set cases K1 to K12 of PROTOCOL 9, 'Set cases', one joint table: each is computed from the definitions.
use Rattle.std.specs.Prelude.{ℕ, ◌≡◌, refl, List, [], ◌∷◌, ◌++◌, take, replicate}
use Rattle.octets.specs.Number.{number, low}
use Rattle.entries_next.specs.Next.{next}
use Rattle.entries.specs.Entries.{walk}
use Rattle.host_time.specs.HostTime.{field}
use Rattle.message.specs.Message.{memory_load_transfer, request_load, parameters}
use Rattle.message.specs.Read.{refused, message, find, fields, read}
use Rattle.message.specs.Write.{layout}
use Rattle.version.specs.Version.{v30}
use Rattle.window.specs.Window.{touches, none as no-window}
use Rattle.memory.specs.Memory.{fits, bytes_from}
use Rattle.step.specs.Step.{Outcome, first}
use Rattle.directory.specs.Directory.{trailer_of, entry_of, entries, demand, entries_refusal, refusal, regions}
use Rattle.image.specs.Image.{many}
use Rattle.machine_record.specs.declared.Machine.{Machine}
use Rattle.parameters.specs.Parameters.{none}
use Rattle.machine_record.specs.Record.{idle, loading}
use Rattle.machine_next.specs.Next.{by_number, on_load}
use Rattle.machine.specs.Machine.{machine_frame}

-- an image file with one region of these bytes at an address, started at 0
unfoldable pub image : ℕ → ℕ → List ℕ → ℕ → List ℕ
image address size bytes total =
    bytes ++ (low 4 address ++ (low 4 0 ++ (low 4 size ++ (low 4 size ++ (low 2 1 ++ (low 2 0 ++ (low 4 0 ++ low 4 total)))))))

-- the host time entry of 1 January 1983, with these offset bytes, in a code 20 frame
unfoldable pub host_time : ℕ → ℕ → List ℕ
host_time hours minutes = 20 ∷ 0 ∷ 5 ∷ 10 ∷ 19 ∷ 83 ∷ 1 ∷ 1 ∷ 0 ∷ 0 ∷ 0 ∷ 0 ∷ hours ∷ minutes ∷ 0 ∷ 0 ∷ 0 ∷ 0 ∷ 0 ∷ []

-- a memory of 8 bytes
abbrev pub memory : List ℕ
memory = 1 ∷ 2 ∷ 3 ∷ 4 ∷ 5 ∷ 6 ∷ 7 ∷ 8 ∷ []

-- What can be seen of a machine's step: its next state, memory, and the frame that is sent.
pub record Seen : Type 0 where
  pub machine : Machine
  pub memory : List ℕ
  pub frame : List ℕ

abbrev pub seen : Machine → List ℕ → List ℕ → Seen
seen m memory frame = record { machine = m; memory = memory; frame = frame }

-- a step on a frame, with D 4 and a reply buffer of 1,500 bytes
unfoldable pub step : Machine → List ℕ → Seen
step m frame =
    let out : Outcome Machine (List ℕ) = machine_frame (record { reply_bytes = 4; device = 0; processor = 0; version = v30; window = no-window }) m frame memory (replicate 1500 0) in
    seen out.end out.lent (take out.answer.length out.reply)

pub record Cases : Type 0 where
  pub K1 : read v30 [] ≡ refused 1
  pub K2 : read v30 (0x0A ∷ 0x01 ∷ 0x00 ∷ []) ≡ message (request_load 1 0)
  pub K3_short : read v30 (0x0A ∷ 0x01 ∷ []) ≡ refused 1
  pub K3_long : read v30 (0x0A ∷ 0x01 ∷ 0x00 ∷ 0x00 ∷ []) ≡ refused 2
  pub K4 : read v30 (0x10 ∷ []) ≡ refused 3
  pub K5 : (n a b c d e f g h : ℕ) →
      read v30 (0 ∷ n ∷ a ∷ b ∷ c ∷ d ∷ e ∷ f ∷ g ∷ h ∷ [])
      ≡ message (memory_load_transfer n (number (a ∷ b ∷ c ∷ d ∷ [])) [] (number (e ∷ f ∷ g ∷ h ∷ [])))
  pub K5-short : (n a b c d e f g : ℕ) → read v30 (0 ∷ n ∷ a ∷ b ∷ c ∷ d ∷ e ∷ f ∷ g ∷ []) ≡ refused 1
  pub K6 : refusal (image 0xFFFFFFFF 1 (7 ∷ []) 29) ≡ 0
  pub K6-beyond : refusal (image 0xFFFFFFFF 2 (7 ∷ 7 ∷ []) 30) ≡ 7
  -- two bytes at 6 fit; at 7 nothing is written, error 1
  pub K7 : step (idle none) (0x02 ∷ 0x00 ∷ 0x06 ∷ 0x00 ∷ 0x00 ∷ 0x00 ∷ 0xAA ∷ 0xBB ∷ [])
      ≡ seen (loading none 1 0) (1 ∷ 2 ∷ 3 ∷ 4 ∷ 5 ∷ 6 ∷ 0xAA ∷ 0xBB ∷ []) (0x0A ∷ 0x01 ∷ 0x00 ∷ [])
  pub K7-beyond : step (idle none) (0x02 ∷ 0x00 ∷ 0x07 ∷ 0x00 ∷ 0x00 ∷ 0x00 ∷ 0xAA ∷ 0xBB ∷ []) ≡ seen (loading none 1 1) memory (0x0A ∷ 0x01 ∷ 0x01 ∷ [])
  -- number 0 is taken where 1 is expected
  pub K8 : step (loading none 1 0) (0x02 ∷ 0x00 ∷ 0x02 ∷ 0x00 ∷ 0x00 ∷ 0x00 ∷ 0xAA ∷ [])
      ≡ seen (loading none 1 0) (1 ∷ 2 ∷ 0xAA ∷ 4 ∷ 5 ∷ 6 ∷ 7 ∷ 8 ∷ []) (0x0A ∷ 0x01 ∷ 0x00 ∷ [])
  -- after 255 comes 0
  pub K9 : step (loading none 255 0) (0x02 ∷ 0xFF ∷ 0x02 ∷ 0x00 ∷ 0x00 ∷ 0x00 ∷ 0xAA ∷ [])
      ≡ seen (loading none 0 0) (1 ∷ 2 ∷ 0xAA ∷ 4 ∷ 5 ∷ 6 ∷ 7 ∷ 8 ∷ []) (0x0A ∷ 0x00 ∷ 0x00 ∷ [])
  pub K10 : many 2 (regions (image 0 3 (7 ∷ 7 ∷ 7 ∷ []) 31)) ≡ 2
  pub K11 : read v30 (host_time 0 226) ≡ message (parameters 0 (5 ∷ 10 ∷ 19 ∷ 83 ∷ 1 ∷ 1 ∷ 0 ∷ 0 ∷ 0 ∷ 0 ∷ 0 ∷ 226 ∷ []) 0)
  pub K11-opposite : read v30 (host_time 1 226) ≡ refused 4
  -- two memory bytes, two zeros
  pub K12 : step (idle none) (0x04 ∷ 0x06 ∷ 0x00 ∷ 0x00 ∷ 0x00 ∷ 0x04 ∷ 0x00 ∷ [])
      ≡ seen (idle none) memory (0x0E ∷ 0x06 ∷ 0x00 ∷ 0x00 ∷ 0x00 ∷ 7 ∷ 8 ∷ 0 ∷ 0 ∷ [])

pub cases : Cases
unfolding number low find fields read layout first fits touches bytes_from by_number on_load next walk field trailer_of entry_of entries demand entries_refusal many image host_time step
cases =
    record {
      K1 = refl;
      K2 = refl;
      K3_short = refl;
      K3_long = refl;
      K4 = refl;
      K5 = λ n a b c d e f g h. refl;
      K5-short = λ n a b c d e f g. refl;
      K6 = refl;
      K6-beyond = refl;
      K7 = refl;
      K7-beyond = refl;
      K8 = refl;
      K9 = refl;
      K10 = refl;
      K11 = refl;
      K11-opposite = refl;
      K12 = refl;
    }
