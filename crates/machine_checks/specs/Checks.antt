-- What a call of the machine end refuses of its record, of the settings and of the buffers (PROTOCOL 7, 'Refusals').
use Rattle.std.specs.Prelude.{ℕ, [], ◌∷◌, leb}
use Rattle.step.specs.Step.{unless, first}
use Rattle.version.specs.Version.{known}
use Rattle.window.specs.Window.{allowed}
use Rattle.block.specs.Block.{roomy}
use Rattle.machine_record.specs.declared.Settings.{Settings}
use Rattle.machine_record.specs.declared.Machine.{Machine}

-- a call's refusal, with a memory and a reply buffer of these lengths; 0 is none
abbrev pub refusal : Settings → Machine → ℕ → ℕ → ℕ
refusal s m size room =
    first
    (unless (leb size 16777216) 10 ∷
    unless (leb 1 s.reply_bytes) 10 ∷
    unless (leb s.reply_bytes 1495) 10 ∷
    unless (allowed s.window) 10 ∷
    unless (known s.version) 10 ∷
    unless (leb m.state 4) 10 ∷
    unless (roomy s.version size) 11 ∷
    unless (leb 1500 room) 9 ∷
    [])
