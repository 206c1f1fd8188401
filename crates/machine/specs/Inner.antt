-- What the functions inside the call rely on.
use Rattle.std.specs.Prelude.{ℕ, ◌≤◌, ◌≡◌, true, length}
use Rattle.message.specs.Write.{layout, listed}
use Rattle.step.specs.Step.{Sending, nothing, sends}

-- what is sent is listed under every version, and has at most 1,500 bytes
abbrev pub Short : Sending → Type 0
Short nothing = Unit {0}
Short (sends what) = ((version : ℕ) → listed version what ≡ true) × (length (layout what) ≤ 1500)
