-- A load that ends with parameters, run by computing: the image of the worked example and a string of three entries, the target name given
-- twice. The first code 20 is lost, and goes out again at a timer.
use Rattle.std.specs.Prelude.{ℕ, ◌≡◌, refl, List, [], ◌∷◌, replicate}
use Rattle.std.proofs.Common.{ap}
use Rattle.octets.specs.Number.{number, low}
use Rattle.entries_next.specs.Next.{next}
use Rattle.entries.specs.Entries.{walk}
use Rattle.window.specs.Window.{touches}
use Rattle.memory.specs.Memory.{fits}
use Rattle.message.specs.Read.{find, fields}
use Rattle.message.specs.Write.{layout}
use Rattle.step.specs.Step.{first}
use Rattle.directory.specs.Directory.{trailer_of, entry_of, entries, demand, entries_refusal}
use Rattle.image.specs.Image.{many, segment}
use Rattle.parameters.specs.declared.Value.{Value}
use Rattle.parameters.specs.Parameters.{latest}
use Rattle.holds.specs.Holds.{Holds}
use Rattle.machine_record.specs.Record.{started}
use Rattle.machine_next.specs.Next.{by_number, on_load, on_parameters}
use Rattle.version.specs.Version.{v30}
use Rattle.load_record.specs.declared.Settings.{Settings as LoadSettings}
use Rattle.load_record.specs.declared.Session.{Session}
use Rattle.load_checks.specs.Checks.{string_refusal}
use Rattle.link.specs.Link.{World, Event, own, hand_to_machine, drop_to_machine, hand_to_host, host_timer, last_left, run}
use Rattle.link.specs.MachineEnd.{End}
use Rattle.link_load.specs.Model.{Reset, load_ends, fresh_world, after}
use Rattle.link_load.proofs.Audit.{parameters_load}
use Rattle.cases.specs.LoadExample.{image, machine_settings, accepted, bytes}

abbrev pub load_settings : LoadSettings
load_settings = record { segment_size = 2; repeats = 1; with_parameters = 1; version = v30; restart = 0 }

-- target name MILL, host address 03-04, target name AL
unfoldable pub string : List ℕ
string = 1 ∷ 4 ∷ 0x4D ∷ 0x49 ∷ 0x4C ∷ 0x4C ∷ 4 ∷ 2 ∷ 3 ∷ 4 ∷ 1 ∷ 2 ∷ 0x41 ∷ 0x4C ∷ []

abbrev reply : List ℕ
reply = replicate 1500 0

-- t h t h t x m h t
unfoldable pub events : List (Event (Reset load_settings))
events =
    own (hand_to_host reply) ∷ own (hand_to_machine reply) ∷ own (hand_to_host reply) ∷ own (hand_to_machine reply) ∷ own (hand_to_host reply) ∷
    own drop_to_machine ∷ own (host_timer reply) ∷ own (hand_to_machine reply) ∷ own (hand_to_host reply) ∷ []

-- a value that is kept: its bytes, then zeros
abbrev two : ℕ → ℕ → Value
two a b = record { length = 2; bytes = a ∷ b ∷ replicate 14 0 }

abbrev absent : Value
absent = record { length = 0; bytes = replicate 16 0 }

-- what is left at the end: the second name alone is kept, and nothing of the longer first one; types 2, 3 and 5 are absent
pub worked : run (load_ends load_settings machine_settings image string) (fresh_world machine_settings (replicate 8 0)) events
    ≡ record {
      host = record { position = 3; sent = 4; counts = record { starts = 1; advances = 3; ignored = 0; rejections = 0 }; repeats = 0; restarts = 0; waiting = 0; verdict = 1 };
      machine =
          record {
            machine =
                started (record {
                  target_name = two 0x41 0x4C;
                  target_address = absent;
                  host_name = absent;
                  host_address = two 3 4;
                  host_time = absent;
                }) 2;
            memory = 0 ∷ 0 ∷ 0x0A ∷ 0x0B ∷ 0x0C ∷ 0 ∷ 0 ∷ 0 ∷ [];
          };
      to_machine = [];
      to_host = [];
      taken = 4;
      heard = 4;
    }
unfolding image string events run number low find fields layout first trailer_of entry_of entries demand entries_refusal many segment fits touches by_number on_load on_parameters latest walk next
worked = refl

-- the string is accepted; so, as the load was reported finished, the machine's record holds what it says
good : string_refusal load_settings string ≡ 0
unfolding string first walk next
good = refl

pub worked-holds : Holds v30 (after load_settings machine_settings image string (replicate 8 0) events).machine.machine.parameters string
unfolding events last_left
worked-holds =
    parameters_load load_settings machine_settings image string (replicate 8 0) accepted bytes good refl refl events (ap (λ (w : World Session End). w.host.verdict) worked) refl
