-- The theorem has instances: the worked input of PROTOCOL 8, 'Rehearsal' is accepted, its verdict is 1, and so its image is loaded.
use Rattle.std.specs.Prelude.{ℕ, ◌≡◌, refl, List, []}
use Rattle.text.specs.Find.{index_of}
use Rattle.octets.specs.Number.{number, low}
use Rattle.window.specs.Window.{touches}
use Rattle.memory.specs.Memory.{fits}
use Rattle.message.specs.Read.{find, fields}
use Rattle.message.specs.Write.{layout}
use Rattle.step.specs.Step.{first}
use Rattle.directory.specs.Directory.{trailer_of, entry_of, entries, demand, entries_refusal}
use Rattle.image.specs.Image.{many, segment}
use Rattle.machine_next.specs.Next.{by_number, on_load}
use Rattle.digits.specs.Digits.{nibble}
use Rattle.text.specs.Text.{chars}
use Rattle.decimal.specs.Decimal.{are_digits, value}
use Rattle.hexadecimal.specs.Hexadecimal.{hexadecimal}
use Rattle.script.specs.Script.{only}
use Rattle.rehearse.specs.Rehearse.{after}
use Rattle.link_load.specs.Report.{Loaded}
use Rattle.rehearse_link.specs.Rehearsed.{Accepted, settings, image, zeros, ended, world_at_end}
use Rattle.rehearse_link.proofs.Theorem.{loaded}

abbrev worked : List ℕ
worked = chars "8 2 1\n0A0B0C0200000000000000030000000300000001000000020000001F000000\ntxmhtht\n"

pub accepted : Accepted worked
unfolding index_of only are_digits value nibble hexadecimal demand trailer_of entry_of entries entries_refusal many number
accepted = refl

pub finished : (ended worked).ends.session.verdict ≡ 1
unfolding index_of only are_digits value nibble hexadecimal number low find fields layout first trailer_of entry_of entries demand entries_refusal many segment fits touches by_number on_load after
finished = refl

pub worked-loaded : Loaded (settings worked).host (settings worked).machine (image worked) [] (zeros worked) (world_at_end worked).machine
worked-loaded = loaded worked accepted finished
