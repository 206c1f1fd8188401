use Prim.Native.Nat.{ℕ, ◌+◌, ◌-◌}
use mathlib.Core.Path.{◌≡◌}
use native.Mathlib.Omega.{arith}
use Rattle.directory.specs.Directory.{entry_of}
use Rattle.image.proofs.read_entry.Goals as goal

pub returns : goal.returns
unfolding entry_of
returns c = let size : ◌≡◌ {A = ℕ} (c.args.at + 12 - c.args.at) 12 = omega arith in
    simp (c.word32.ensures, c.word32-2.ensures, c.word32-3.ensures, size)
