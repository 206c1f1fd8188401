-- A load that touches the ROM window, run by computing: the image of the worked example, and a window of one byte at 4, where segment 1 goes.
-- Its frame is handed over twice, and each answer has error 1.
use Rattle.std.specs.Prelude.{ℕ, ◌≡◌, refl, List, [], ◌∷◌, replicate}
use Rattle.std.proofs.Common.{arith}
use Rattle.octets.specs.Number.{number, low}
use Rattle.window.specs.Window.{touches}
use Rattle.memory.specs.Memory.{fits}
use Rattle.message.specs.Read.{find, fields}
use Rattle.message.specs.Write.{layout}
use Rattle.step.specs.Step.{first}
use Rattle.directory.specs.Directory.{trailer_of, entry_of, entries, demand, entries_refusal}
use Rattle.image.specs.Image.{many, segment}
use Rattle.parameters.specs.Parameters.{none}
use Rattle.version.specs.Version.{v30}
use Rattle.machine_record.specs.declared.Settings.{Settings as MachineSettings}
use Rattle.machine_record.specs.Record.{loading}
use Rattle.machine_next.specs.Next.{by_number, on_load}
use Rattle.link.specs.Link.{Event, own, hand_to_machine, keep_to_machine, hand_to_host, run}
use Rattle.link_load.specs.Model.{Reset, load_ends, fresh_world, after}
use Rattle.link_load.specs.Report.{Loaded}
use Rattle.link_load.proofs.Audit.{finished-once, clear_load}
use Rattle.cases.specs.LoadExample.{image, load_settings, accepted, bytes}

-- a window of one byte at an address
abbrev window_at : ℕ → MachineSettings
window_at a = record { reply_bytes = 1; device = 0; processor = 0; version = v30; window = record { start = a; length = 1 } }

abbrev pub machine_settings : MachineSettings
machine_settings = window_at 4

abbrev reply : List ℕ
reply = replicate 1500 0

-- t h t k h t
unfoldable pub events : List (Event (Reset load_settings))
events =
    own (hand_to_host reply) ∷ own (hand_to_machine reply) ∷ own (hand_to_host reply) ∷ own (keep_to_machine reply) ∷ own (hand_to_machine reply) ∷
    own (hand_to_host reply) ∷ []

-- what is left at the end: the load is rejected, segment 0 is in, the byte of the window is the old one, and the second answer is on its way
pub worked : run (load_ends load_settings machine_settings image []) (fresh_world machine_settings (replicate 8 7)) events
    ≡ record {
      host = record { position = 1; sent = 2; counts = record { starts = 1; advances = 1; ignored = 0; rejections = 1 }; repeats = 0; restarts = 0; waiting = 0; verdict = 2 };
      machine = record { machine = loading none 2 1; memory = 7 ∷ 7 ∷ 0x0A ∷ 0x0B ∷ 7 ∷ 7 ∷ 7 ∷ 7 ∷ [] };
      to_machine = [];
      to_host = (0x0A ∷ 0x02 ∷ 0x01 ∷ []) ∷ [];
      taken = 2;
      heard = 3;
    }
unfolding image events run number low find fields layout first trailer_of entry_of entries demand entries_refusal many segment fits touches by_number on_load
worked = refl

-- and no list of events whatever makes it finished, as address 4 lies in the window and in the image's region
pub never-finished : (old : List ℕ) (es : List (Event (Reset load_settings))) → (after load_settings machine_settings image [] old es).host.verdict ≡ 1 → ⊥
unfolding image number trailer_of entry_of entries
never-finished old es e =
    clear_load load_settings machine_settings image [] old accepted bytes refl refl es e 0 (record { address = 2; place = 0; length = 3 }) refl 4 (omega arith, omega arith) (omega arith, omega arith)

-- Right behind the image's region, at 5, a window of one byte does not hinder it: the load is finished, so what `clear_load` assumes can be had
-- where there is a window.
abbrev pub beside : MachineSettings
beside = window_at 5

pub beside-finished : (after load_settings beside image [] (replicate 8 7) events).host.verdict ≡ 1
unfolding image events run number low find fields layout first trailer_of entry_of entries demand entries_refusal many segment fits touches by_number on_load
beside-finished = refl

pub beside-loaded : Loaded load_settings beside image [] (replicate 8 7) (after load_settings beside image [] (replicate 8 7) events).machine
beside-loaded = finished-once load_settings beside image [] (replicate 8 7) accepted bytes refl refl (λ q. omega arith) events beside-finished
