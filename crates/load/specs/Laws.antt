-- Laws of the load's calls: every frame is sent whole.
use Rattle.std.specs.Prelude.{ℕ, ◌+◌, ◌%◌, ◌≤◌, ◌≡◌, refl, true, cond as pick, List, length, eqb}
use Rattle.std.proofs.Common.{arith, length-append}
use Rattle.octets.specs.TestLaws.{by_cases}
use Rattle.octets.specs.NumberLaws.{length-low}
use Rattle.message.specs.Message.{Message, memory_load_transfer, memory_load, parameters}
use Rattle.message.specs.Write.{layout, listed}
use Rattle.image.specs.Image.{Piece, widest}
use Rattle.load_record.specs.declared.Settings.{Settings}
use Rattle.load_checks.specs.Checks.{given}
use Rattle.load_checks.specs.Laws.{Whole}
use Rattle.load.specs.Load.{numbered}

-- a message that a load sends is listed under its version and has at most 1,500 bytes
abbrev pub Sent : ℕ → Message → Type 0
Sent version m = (listed version m ≡ true) × (length (layout m) ≤ 1500)

parameters-sent : (version number : ℕ) (string : List ℕ) (transfer : ℕ) → Whole version string → Sent version (parameters number string transfer)
unfolding layout
parameters-sent version number string transfer w = (rw w.0, simp (length-append, length-low) (omega (arith, w.1)))

module _ (version number : ℕ) (p : Piece) (l : length p.bytes ≤ widest) where
  transfer-sent : (transfer : ℕ) → Sent version (memory_load_transfer number p.address p.bytes transfer)
  unfolding layout
  transfer-sent transfer = (refl, simp (length-append, length-low) (omega arith))

  segment-sent : Sent version (memory_load number p.address p.bytes)
  unfolding layout
  segment-sent = (refl, simp (length-append, length-low) (omega arith))

pub numbered-sent : (s : Settings) (string : List ℕ) (n transfer i : ℕ) (p : Piece) → (given s ≡ true → Whole s.version string) → length p.bytes ≤ widest
    → Sent s.version (numbered s string n transfer i p)
numbered-sent s string n transfer i p w l =
    by_cases (Sent s.version) (eqb (i + 1) n) {x = pick (given s) (parameters (i % 256) string transfer) (memory_load_transfer (i % 256) p.address p.bytes transfer)}
    (λ _. by_cases (Sent s.version) (given s) (λ g. parameters-sent s.version (i % 256) string transfer (w g)) (λ _. transfer-sent s.version (i % 256) p l transfer))
    (λ _. segment-sent s.version (i % 256) p l)
