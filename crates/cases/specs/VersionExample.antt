-- Loads of version 2.1 with parameters, run by computing: the image of the worked example, three bytes at address 2, and a string with a target
-- address of one byte, an empty target name and a host name. Memory is 7 everywhere at first.
use Rattle.std.specs.Prelude.{ℕ, ◌≡◌, refl, true, List, [], ◌∷◌, replicate}
use Rattle.std.proofs.Common.{ap, arith}
use Rattle.octets.specs.Number.{number, low}
use Rattle.version.specs.Version.{v21}
use Rattle.entries_next.specs.Next.{next}
use Rattle.entries.specs.Entries.{walk}
use Rattle.window.specs.declared.Window.{Window}
use Rattle.window.specs.Window.{touches, none as no-window}
use Rattle.memory.specs.Memory.{fits}
use Rattle.message.specs.Read.{find, fields}
use Rattle.message.specs.Write.{layout}
use Rattle.step.specs.Step.{first}
use Rattle.directory.specs.Directory.{trailer_of, entry_of, entries, demand, entries_refusal}
use Rattle.image.specs.Image.{many, segment}
use Rattle.parameters.specs.Parameters.{latest, kept, none}
use Rattle.block.specs.Block.{cell, block}
use Rattle.machine_record.specs.declared.Settings.{Settings as MachineSettings}
use Rattle.machine_record.specs.Record as machine
use Rattle.machine_record.specs.Record.{loading, started}
use Rattle.machine_next.specs.Next.{by_number, on_load, on_parameters}
use Rattle.load_record.specs.declared.Settings.{Settings as LoadSettings}
use Rattle.load_record.specs.declared.Session.{Session}
use Rattle.load_checks.specs.Checks.{string_refusal}
use Rattle.link.specs.Link.{World, Event, own, hand_to_machine, keep_to_machine, hand_to_host, run}
use Rattle.link.specs.MachineEnd.{End}
use Rattle.link_load.specs.Model.{Reset, load_ends, fresh_world, after}
use Rattle.link_load.specs.Report.{Loaded, Spelled}
use Rattle.link_load.proofs.Audit.{finished-once, block_load}
use Rattle.cases.specs.LoadExample.{image, accepted, bytes}

abbrev pub load_settings : LoadSettings
load_settings = record { segment_size = 2; repeats = 1; with_parameters = 1; version = v21; restart = 0 }

abbrev pub machine_with : Window → MachineSettings
machine_with window = record { reply_bytes = 1; device = 0; processor = 0; version = v21; window = window }

abbrev pub machine_settings : MachineSettings
machine_settings = machine_with no-window

-- target address 05, target name empty, host name AL
unfoldable pub string : List ℕ
string = 2 ∷ 1 ∷ 5 ∷ 1 ∷ 0 ∷ 3 ∷ 2 ∷ 0x41 ∷ 0x4C ∷ []

abbrev reply : List ℕ
reply = replicate 1500 0

-- t h t h t k h t: the code 20 is handed over twice
unfoldable pub events : List (Event (Reset load_settings))
events =
    own (hand_to_host reply) ∷ own (hand_to_machine reply) ∷ own (hand_to_host reply) ∷ own (hand_to_machine reply) ∷ own (hand_to_host reply) ∷
    own (keep_to_machine reply) ∷ own (hand_to_machine reply) ∷ own (hand_to_host reply) ∷ []

-- In 64 bytes the block begins at 0: the node number 05 00; 0 0 for the empty target name, over two bytes of the image, whose third stays, as
-- do the old bytes behind it; the host name AL and four spaces. A started machine ignores the code 20 that comes again.
pub worked : run (load_ends load_settings machine_settings image string) (fresh_world machine_settings (replicate 64 7)) events
    ≡ record {
      host = record { position = 3; sent = 3; counts = record { starts = 1; advances = 3; ignored = 0; rejections = 0 }; repeats = 0; restarts = 0; waiting = 0; verdict = 1 };
      machine =
          record {
            machine = started (kept string) 2;
            memory = 5 ∷ 0 ∷ 0 ∷ 0 ∷ 0x0C ∷ 7 ∷ 7 ∷ 7 ∷ 0x41 ∷ 0x4C ∷ 0x20 ∷ 0x20 ∷ 0x20 ∷ 0x20 ∷ replicate 50 7;
          };
      to_machine = [];
      to_host = [];
      taken = 3;
      heard = 4;
    }
unfolding image string events run number low find fields layout first trailer_of entry_of entries demand entries_refusal many segment fits touches by_number on_load on_parameters latest walk next cell block
worked = refl

-- in 65 bytes it begins at 2, as the top is 66
pub odd : (run (load_ends load_settings machine_settings image string) (fresh_world machine_settings (replicate 65 7)) events).machine.memory
    ≡ 7 ∷ 7 ∷ 5 ∷ 0 ∷ 0 ∷ 0 ∷ 7 ∷ 7 ∷ 7 ∷ 7 ∷ 0x41 ∷ 0x4C ∷ 0x20 ∷ 0x20 ∷ 0x20 ∷ 0x20 ∷ replicate 49 7
unfolding image string events run number low find fields layout first trailer_of entry_of entries demand entries_refusal many segment fits touches by_number on_load on_parameters latest walk next cell block
odd = refl

-- the string is accepted; so, as the load was reported finished, memory is loaded and the block says what the string says
good : string_refusal load_settings string ≡ 0
unfolding string first walk next
good = refl

finished : (after load_settings machine_settings image string (replicate 64 7) events).host.verdict ≡ 1
finished = ap (λ (w : World Session End). w.host.verdict) worked

started-up : machine.is 4 (after load_settings machine_settings image string (replicate 64 7) events).machine.machine ≡ true
started-up = ap (λ (w : World Session End). machine.is 4 w.machine.machine) worked

pub worked-loaded : Loaded load_settings machine_settings image string (replicate 64 7) (after load_settings machine_settings image string (replicate 64 7) events).machine
worked-loaded = finished-once load_settings machine_settings image string (replicate 64 7) accepted bytes good refl (λ q. omega arith) events finished

pub worked-spelled : Spelled string 0 (after load_settings machine_settings image string (replicate 64 7) events).machine.memory
worked-spelled = block_load load_settings machine_settings image string (replicate 64 7) accepted bytes good refl refl refl events started-up

-- With a window of one byte at 6, which the block would leave as it is, the code 20 does not fit: nothing is written or kept, and both answers
-- have error 1.
abbrev pub touched : MachineSettings
touched = machine_with (record { start = 6; length = 1 })

pub rejected : run (load_ends load_settings touched image string) (fresh_world touched (replicate 64 7)) events
    ≡ record {
      host = record { position = 2; sent = 3; counts = record { starts = 1; advances = 2; ignored = 0; rejections = 1 }; repeats = 0; restarts = 0; waiting = 0; verdict = 2 };
      machine = record { machine = loading none 3 1; memory = 7 ∷ 7 ∷ 0x0A ∷ 0x0B ∷ 0x0C ∷ replicate 59 7 };
      to_machine = [];
      to_host = (0x0A ∷ 0x03 ∷ 0x01 ∷ []) ∷ [];
      taken = 3;
      heard = 4;
    }
unfolding image string events run number low find fields layout first trailer_of entry_of entries demand entries_refusal many segment fits touches by_number on_load on_parameters latest walk next cell block
rejected = refl

-- and no list of events whatever makes it finished
pub never-finished : (es : List (Event (Reset load_settings))) → (after load_settings touched image string (replicate 64 7) es).host.verdict ≡ 1 → ⊥
never-finished es e =
    (finished-once load_settings touched image string (replicate 64 7) accepted bytes good refl (λ q. omega arith) es e).block-clear refl 6 (omega arith, omega arith) (omega arith, omega arith)
