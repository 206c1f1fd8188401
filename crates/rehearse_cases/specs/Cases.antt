-- Transcripts, computed from the definition: the worked input of PROTOCOL 8, 'Rehearsal' gives the transcript there, and a malformed one `BAD 10`
-- (PROTOCOL 8, 'Rehearsal').
use Rattle.std.specs.Prelude.{ℕ, ◌≡◌, refl, List, [], ◌∷◌, ◌++◌}
use Prim.Native.String.{String}
use Rattle.text.specs.Find.{index_of}
use Rattle.octets.specs.Number.{number, low}
use Rattle.window.specs.Window.{touches}
use Rattle.memory.specs.Memory.{fits}
use Rattle.message.specs.Read.{find, fields}
use Rattle.message.specs.Write.{layout}
use Rattle.step.specs.Step.{first}
use Rattle.directory.specs.Directory.{trailer_of, entry_of, entries, demand, entries_refusal}
use Rattle.image.specs.Image.{many, segment}
use Rattle.machine_next.specs.Next.{by_number, on_load}
use Rattle.digits.specs.Digits.{nibble, digits}
use Rattle.text.specs.Text.{chars}
use Rattle.decimal.specs.Decimal.{trimmed, are_digits, value}
use Rattle.hexadecimal.specs.Hexadecimal.{pairs, hexadecimal}
use Rattle.script.specs.Script.{only}
use Rattle.rehearse.specs.Rehearse.{lines, transcript}

-- three lines
abbrev input : String → String → String → List ℕ
input a b c = chars a ++ (10 ∷ (chars b ++ (10 ∷ (chars c ++ (10 ∷ [])))))

-- a leading zero
pub malformed : transcript (input "08 2 1" "0A" "h") ≡ chars "BAD 10\n"
unfolding index_of only are_digits value nibble hexadecimal trimmed digits
malformed = refl

-- an image of one byte is too short
pub refused : transcript (input "8 2 1" "0A" "h") ≡ chars "BAD 5\n"
unfolding index_of only are_digits value nibble hexadecimal trimmed digits demand trailer_of entry_of entries entries_refusal many number
refused = refl

pub worked : transcript (input "8 2 1" "0A0B0C0200000000000000030000000300000001000000020000001F000000" "txmhtht")
    ≡ chars
    "T 08000102FF00\nH 0200020000000A0B\nH 0200020000000A0B\nT 0A0100\nH 0001040000000C02000000\nT 0A0200\nEND 1 3 00000002 00000A0B0C000000\n"
unfolding index_of only are_digits value nibble hexadecimal trimmed digits pairs number low find fields layout first trailer_of entry_of entries demand entries_refusal many segment fits touches by_number on_load lines
worked = refl
