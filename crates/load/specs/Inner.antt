-- What the functions inside the calls answer.
use Rattle.std.specs.Prelude.{ℕ, ◌+◌, ◌≤◌, ◌<◌, ◌≡◌, true, List, length}
use Rattle.directory.specs.declared.Region.{Region}
use Rattle.directory.specs.Directory.{bytes}
use Rattle.image.specs.Image.{Piece, widest}
use Rattle.step.specs.Step.{Act, acts}
use Rattle.load_record.specs.declared.Settings.{Settings}
use Rattle.load_record.specs.declared.Session.{Session}
use Rattle.load_record.specs.declared.Next.{Next}
use Rattle.load_checks.specs.declared.Ruling.{Ruling}
use Rattle.load_checks.specs.Checks.{given}
use Rattle.load_checks.specs.Laws.{Whole}
use Rattle.load.specs.Load.{numbered, counted, sending}

-- what a region of the file lays into memory
abbrev pub piece : List ℕ → Region → Piece
piece file r = record { address = r.address; bytes = bytes file r }

-- what is done next, with the segment that was found beforehand
abbrev pub acting : Settings → List ℕ → List ℕ → Ruling → Next → Act Session Unit
acting s file string k next =
    acts (counted next) tt (sending next (numbered s string k.many k.transfer next.session.position (piece file k.segment)))

-- the segment found lies within the file and fits a frame, the index has a successor, the reply buffer has room for any frame, and the
-- parameter string is whole if one is given
pub record Sendable (s : Settings) (file string : List ℕ) (i : ℕ) (k : Ruling) (reply : List ℕ) : Type 0 where
  pub within : k.segment.place + k.segment.length ≤ length file
  pub short : k.segment.length ≤ widest
  pub few : i < 18446744073709551615
  pub room : 1500 ≤ length reply
  pub parameters : given s ≡ true → Whole s.version string
