-- A machine that is reset half-way, in the model: the worked image of LoadExample.antt, and the restart setting. The reset comes when the first
-- segment is answered, and turns the first four bytes of memory to 9.
use Rattle.std.specs.Prelude.{ℕ, ◌≡◌, refl, Bool, true, false, List, [], ◌∷◌, ◌++◌, replicate}
use Rattle.std.proofs.Common.{arith}
use Rattle.octets.specs.Number.{number, low}
use Rattle.window.specs.Window.{touches}
use Rattle.memory.specs.Memory.{fits}
use Rattle.message.specs.Read.{find, fields}
use Rattle.message.specs.Write.{layout}
use Rattle.step.specs.Step.{first}
use Rattle.directory.specs.Directory.{trailer_of, entry_of, entries, demand, entries_refusal}
use Rattle.image.specs.Image.{many, segment}
use Rattle.parameters.specs.Parameters.{none}
use Rattle.machine_record.specs.Record.{is, requesting, started}
use Rattle.machine_next.specs.Next.{by_number, on_load}
use Rattle.version.specs.Version.{v30}
use Rattle.load_record.specs.declared.Settings.{Settings as LoadSettings}
use Rattle.load_record.specs.declared.Session.{Session}
use Rattle.link.specs.Link.{World, Event, own, further, hand_to_machine, hand_to_host, keep_to_host, host_timer, machine_timer, last_left, run}
use Rattle.link.specs.Taken.{from_host, from_machine, all_taken}
use Rattle.link.specs.Reset.{anew}
use Rattle.link.specs.MachineEnd.{End}
use Rattle.link_load.specs.Model.{Reset, reset, after, last_reset, all_frames, has_heard}
use Rattle.link_load.specs.Report.{Loaded}
use Rattle.link_load.proofs.Audit.{finished_load, late_load}
use Rattle.cases.specs.LoadExample.{image, machine_settings, accepted, bytes}

abbrev pub load_settings : LoadSettings
load_settings = record { segment_size = 2; repeats = 1; with_parameters = 0; version = v30; restart = 1 }

abbrev reply : List ℕ
reply = replicate 1500 0

abbrev pub Events : Type 0
Events = List (Event (Reset load_settings))

abbrev after-events : Events → World Session End
after-events es = after load_settings machine_settings image [] (replicate 8 0) es

-- t h t, the reset, m
unfoldable pub half : Events
half =
    own (hand_to_host reply) ∷ own (hand_to_machine reply) ∷ own (hand_to_host reply) ∷ further (reset refl (9 ∷ 9 ∷ 9 ∷ 9 ∷ [])) ∷
    own (host_timer reply) ∷ []

-- The host has not heard: it repeats segment 1, which is on its way, and so is the machine's request. Memory is as the reset left it.
pub not-heard : after-events half
    ≡ record {
      host = record { position = 1; sent = 3; counts = record { starts = 1; advances = 1; ignored = 0; rejections = 0 }; repeats = 1; restarts = 0; waiting = 0; verdict = 0 };
      machine = record { machine = requesting; memory = 9 ∷ 9 ∷ 9 ∷ 9 ∷ 0 ∷ 0 ∷ 0 ∷ 0 ∷ [] };
      to_machine = (0x00 ∷ 0x01 ∷ 0x04 ∷ 0x00 ∷ 0x00 ∷ 0x00 ∷ 0x0C ∷ 0x02 ∷ 0x00 ∷ 0x00 ∷ 0x00 ∷ []) ∷ [];
      to_host = (0x08 ∷ 0x00 ∷ 0x01 ∷ 0x02 ∷ 0xFF ∷ 0x00 ∷ []) ∷ [];
      taken = 3;
      heard = 2;
    }
unfolding half image run anew number low find fields layout first trailer_of entry_of entries demand entries_refusal many segment fits touches by_number on_load
not-heard = refl

-- every frame that the link took then, after a machine timer, and after the first request is handed over and kept, to which the host begins again
pub half-frames : all_frames load_settings machine_settings image [] (replicate 8 0) (half ++ (own (machine_timer reply) ∷ own (keep_to_host reply) ∷ []))
    ≡ from_machine (0x08 ∷ 0x00 ∷ 0x01 ∷ 0x02 ∷ 0xFF ∷ 0x00 ∷ [])
    ∷ from_host (0x02 ∷ 0x00 ∷ 0x02 ∷ 0x00 ∷ 0x00 ∷ 0x00 ∷ 0x0A ∷ 0x0B ∷ [])
    ∷ from_machine (0x0A ∷ 0x01 ∷ 0x00 ∷ [])
    ∷ from_host (0x00 ∷ 0x01 ∷ 0x04 ∷ 0x00 ∷ 0x00 ∷ 0x00 ∷ 0x0C ∷ 0x02 ∷ 0x00 ∷ 0x00 ∷ 0x00 ∷ [])
    ∷ from_machine (0x08 ∷ 0x00 ∷ 0x01 ∷ 0x02 ∷ 0xFF ∷ 0x00 ∷ [])
    ∷ from_host (0x00 ∷ 0x01 ∷ 0x04 ∷ 0x00 ∷ 0x00 ∷ 0x00 ∷ 0x0C ∷ 0x02 ∷ 0x00 ∷ 0x00 ∷ 0x00 ∷ [])
    ∷ from_machine (0x08 ∷ 0x00 ∷ 0x01 ∷ 0x02 ∷ 0xFF ∷ 0x00 ∷ [])
    ∷ from_host (0x02 ∷ 0x00 ∷ 0x02 ∷ 0x00 ∷ 0x00 ∷ 0x00 ∷ 0x0A ∷ 0x0B ∷ [])
    ∷ []
unfolding half image all_taken anew number low find fields layout first trailer_of entry_of entries demand entries_refusal many segment fits touches by_number on_load
half-frames = refl

-- then t: the load begins again; h: the machine passes the repeat by; h t h t
unfoldable pub whole : Events
unfolding half
whole =
    half ++
    (own (hand_to_host reply) ∷ own (hand_to_machine reply) ∷ own (hand_to_machine reply) ∷ own (hand_to_host reply) ∷ own (hand_to_machine reply) ∷
    own (hand_to_host reply) ∷ [])

-- Finished, over the memory that the reset left. The host sent 5 frames: more than the 4 of a load that does not begin again.
pub finished : after-events whole
    ≡ record {
      host = record { position = 2; sent = 5; counts = record { starts = 2; advances = 3; ignored = 0; rejections = 0 }; repeats = 0; restarts = 1; waiting = 0; verdict = 1 };
      machine = record { machine = started none 2; memory = 9 ∷ 9 ∷ 0x0A ∷ 0x0B ∷ 0x0C ∷ 0 ∷ 0 ∷ 0 ∷ [] };
      to_machine = [];
      to_host = [];
      taken = 5;
      heard = 5;
    }
unfolding half whole image run anew number low find fields layout first trailer_of entry_of entries demand entries_refusal many segment fits touches by_number on_load
finished = refl

-- after half, t h h t: the load has begun again, and stands at segment 1 once more; then a second reset; then t
unfoldable pub twice : Events
unfolding half
twice =
    half ++
    (own (hand_to_host reply) ∷ own (hand_to_machine reply) ∷ own (hand_to_machine reply) ∷ own (hand_to_host reply) ∷ further (reset refl []) ∷ [])

unfoldable pub thrice : Events
unfolding half twice
thrice = twice ++ (own (hand_to_host reply) ∷ [])

-- whether it has heard of the last reset: before and after it began again; and so of the second reset, which the restart before it does not answer
abbrev heard : Events → Bool
heard es = has_heard (last_reset load_settings machine_settings image [] (replicate 8 0) es) (after-events es).host

pub heard-then : (heard half ≡ false) × (heard whole ≡ true) × (heard twice ≡ false) × (heard thrice ≡ true)
unfolding half whole twice thrice image run last_left anew number low find fields layout first trailer_of entry_of entries demand entries_refusal many segment fits touches by_number on_load
heard-then = (refl, refl, refl, refl)

-- What the theorem assumes can be had: so the machine is loaded, and every other byte is as the reset left it.
pub whole-loaded : Loaded load_settings machine_settings image [] (9 ∷ 9 ∷ 9 ∷ 9 ∷ 0 ∷ 0 ∷ 0 ∷ 0 ∷ []) (after-events whole).machine
unfolding half whole image run last_left anew number low find fields layout first trailer_of entry_of entries demand entries_refusal many segment fits touches by_number on_load
whole-loaded = finished_load load_settings machine_settings image [] (replicate 8 0) accepted bytes refl refl whole refl refl

-- One more reset, after the verdict: the record still says finished, and the machine is not started.
unfoldable pub late : Events
unfolding half whole
late = whole ++ (further (reset refl []) ∷ [])

pub late-finished : (after-events late).host.verdict ≡ 1
unfolding half whole late image run anew number low find fields layout first trailer_of entry_of entries demand entries_refusal many segment fits touches by_number on_load
late-finished = refl

pub late-not-started : is 4 (after-events late).machine.machine ≡ false
unfolding half whole late image run last_left anew number low find fields layout first trailer_of entry_of entries demand entries_refusal many segment fits touches by_number on_load
late-not-started = (late_load load_settings machine_settings image [] (replicate 8 0) accepted bytes refl refl late (λ e. omega (arith, e))).0
