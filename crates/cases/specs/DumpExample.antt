-- A dump that finishes, run by computing: what the theorem assumes can be had, and what it speaks of is reached.
use Rattle.std.specs.Prelude.{ℕ, ◌≡◌, refl, true, List, [], ◌∷◌, replicate}
use Rattle.window.specs.Window.{none}
use Rattle.octets.specs.Number.{number, low}
use Rattle.message.specs.Read.{find, fields}
use Rattle.message.specs.Write.{layout}
use Rattle.memory.specs.Memory.{bytes_from}
use Rattle.step.specs.Step.{first}
use Rattle.machine_record.specs.declared.Settings.{Settings as MachineSettings}
use Rattle.machine_record.specs.Record as machine
use Rattle.machine_checks.specs.Checks as machine_checks
use Rattle.version.specs.Version.{v30}
use Rattle.dump_record.specs.declared.Settings.{Settings as DumpSettings}
use Rattle.dump_checks.specs.Checks as dump_checks
use Rattle.link.specs.Link.{Event, own, hand_to_machine, hand_to_host, host_timer, run}
use Rattle.link.specs.Taken.{from_host, from_machine, all_taken}
use Rattle.link_dump.specs.Model.{after, all_frames}

-- 3 bytes from address 1, at most 2 at a time, one repeat; a memory of 3 bytes
abbrev pub s : DumpSettings
s = record { length = 3; address = 1; request_bytes = 2; repeats = 1; version = v30 }

abbrev pub ms : MachineSettings
ms = record { reply_bytes = 1495; device = 0; processor = 0; version = v30; window = none }

accepted : (dump_checks.settled s 3 ≡ true) × (machine_checks.refusal ms machine.offering 3 1500 ≡ 0)
unfolding first
accepted = (refl, refl)

abbrev reply : List ℕ
reply = replicate 1500 0

-- the offer; a request for 2 bytes and the reply; a request for the last byte, which is beyond memory's end, again at a timer, and the reply
abbrev pub events : List (Event ⊥)
events =
    own (hand_to_host reply) ∷ own (hand_to_machine reply) ∷ own (hand_to_host reply) ∷ own (host_timer reply) ∷ own (hand_to_machine reply) ∷
    own (hand_to_host reply) ∷ []

finishes : (after s ms (7 ∷ 8 ∷ 9 ∷ []) (5 ∷ 5 ∷ 5 ∷ []) events).host ≡ record {
  session = record { filled = 3; replies = 2; sent = 4; counts = record { starts = 1; advances = 2; ignored = 0; rejections = 0 }; repeats = 0; waiting = 0; verdict = 1 };
  buffer = 8 ∷ 9 ∷ 0 ∷ [];
}
unfolding run find fields layout low number first bytes_from
finishes = refl

-- and every frame that the link took
frames : all_frames s ms (7 ∷ 8 ∷ 9 ∷ []) (5 ∷ 5 ∷ 5 ∷ []) events
    ≡ from_machine (0x0C ∷ 0x00 ∷ 0x01 ∷ 0x03 ∷ 0x00 ∷ 0x00 ∷ 0x00 ∷ 0x00 ∷ [])
    ∷ from_host (0x04 ∷ 0x01 ∷ 0x00 ∷ 0x00 ∷ 0x00 ∷ 0x02 ∷ 0x00 ∷ [])
    ∷ from_machine (0x0E ∷ 0x01 ∷ 0x00 ∷ 0x00 ∷ 0x00 ∷ 0x08 ∷ 0x09 ∷ [])
    ∷ from_host (0x04 ∷ 0x03 ∷ 0x00 ∷ 0x00 ∷ 0x00 ∷ 0x01 ∷ 0x00 ∷ [])
    ∷ from_host (0x04 ∷ 0x03 ∷ 0x00 ∷ 0x00 ∷ 0x00 ∷ 0x01 ∷ 0x00 ∷ [])
    ∷ from_machine (0x0E ∷ 0x03 ∷ 0x00 ∷ 0x00 ∷ 0x00 ∷ 0x00 ∷ [])
    ∷ from_host (0x01 ∷ [])
    ∷ []
unfolding all_taken find fields layout low number first bytes_from
frames = refl
