-- What the inner functions rest on.
use Rattle.std.specs.Prelude.{ℕ, ◌+◌, ◌^◌, ◌<◌, ◌≤◌, Bool, true, false}
use Rattle.dump_record.specs.declared.Settings.{Settings}
use Rattle.dump_record.specs.declared.Sends.{Sends}
use Rattle.dump_record.specs.declared.Sends.TheVariants.{Nothing, Request, Complete}
use Rattle.dump_record.specs.declared.Next.{Next}

-- if code 4 goes out with so many bytes filled, something is missing
abbrev pub Missing : Settings → ℕ → Sends → Type 0
Missing s filled Nothing = Unit {0}
Missing s filled Request = filled < s.length
Missing s filled Complete = Unit {0}

-- if bytes are taken, as many as a number says fit behind a place
abbrev pub Room : Bool → ℕ → ℕ → ℕ → Type 0
Room false at count size = Unit {0}
Room true at count size = at + count ≤ size

-- What writing a frame and counting it rest on: settings in their ranges, replies and frames sent far from overflow, a reply buffer of 1,500 bytes.
pub record Ready (s : Settings) (n : Next) (size : ℕ) : Type 0 where
  pub bytes : s.request_bytes ≤ 1495
  pub range : s.address + s.length ≤ 4294967296
  pub missing : Missing s n.session.filled n.sends
  pub replies : n.session.replies < 2 ^ 62
  pub sent : n.session.sent < 2 ^ 62
  pub room : 1500 ≤ size
