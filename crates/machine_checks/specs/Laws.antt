-- What a call that is not refused has: a memory, settings and a reply buffer within their ranges.
use Rattle.std.specs.Prelude.{ℕ, ◌≤◌, ◌≡◌, true, [], ◌∷◌, leb}
use Rattle.std.proofs.Common.{arith, leb-true, le-leb}
use Rattle.step.specs.Step.{unless, first}
use Rattle.step.specs.Laws.{met, none}
use Rattle.version.specs.Version.{known}
use Rattle.window.specs.Window.{allowed}
use Rattle.block.specs.Block.{roomy}
use Rattle.machine_record.specs.declared.Settings.{Settings}
use Rattle.machine_record.specs.declared.Machine.{Machine}
use Rattle.machine_checks.specs.Checks.{refusal}

-- a call that is not refused may rely on the ranges, and on the version
pub in_range : (s : Settings) (m : Machine) (size room : ℕ) → refusal s m size room ≡ 0
    → (size ≤ 16777216) × (s.reply_bytes ≤ 1495) × (1500 ≤ room) × (known s.version ≡ true)
in_range s m size room e =
    let a = none _ _ e in
    let b = none _ _ a.1 in
    let c = none _ _ b.1 in
    let d = none _ _ c.1 in
    let f = none _ _ d.1 in
    let g = none _ _ f.1 in
    let h = none _ _ g.1 in
    let k = none _ _ h.1 in (
      leb-true size 16777216 (met (leb size 16777216) 10 (omega arith) a.0),
      leb-true s.reply_bytes 1495 (met (leb s.reply_bytes 1495) 10 (omega arith) c.0),
      leb-true 1500 room (met (leb 1500 room) 9 (omega arith) k.0),
      met (known s.version) 10 (omega arith) f.0,
    )

-- with a memory and a dump reply within their ranges, the rest of the list decides
pub sized : (s : Settings) (m : Machine) (size room : ℕ) → size ≤ 16777216 → 1 ≤ s.reply_bytes → s.reply_bytes ≤ 1495
    → refusal s m size room
    ≡ first
    (unless (allowed s.window) 10 ∷ unless (known s.version) 10 ∷ unless (leb m.state 4) 10 ∷ unless (roomy s.version size) 11 ∷
    unless (leb 1500 room) 9 ∷ [])
unfolding first
sized s m size room a b c = rw (le-leb size 16777216 a, le-leb 1 s.reply_bytes b, le-leb s.reply_bytes 1495 c)
