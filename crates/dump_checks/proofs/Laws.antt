-- What a call that is not refused has: settings in their ranges, and a good record.
use Rattle.std.specs.Prelude.{ℕ, ◌+◌, ◌*◌, ◌^◌, ◌<◌, ◌≤◌, ◌≡◌, true, not, ◌&&◌, cond as pick, [], ◌∷◌, eqb, leb}
use Rattle.std.proofs.Common.{arith, mul-le-mul_left, leb-true, eqb-true}
use Rattle.std.proofs.lemmas.Bool.{eqb-false, not-true}
use Rattle.octets.specs.TestLaws.{both}
use Rattle.version.specs.Version.{known}
use Rattle.counts.specs.Counts.{below}
use Rattle.step.specs.Step.{unless}
use Rattle.step.specs.Laws.{met, none}
use Rattle.dump_record.specs.declared.Settings.{Settings}
use Rattle.dump_record.specs.declared.Session.{Session}
use Rattle.dump_checks.specs.Checks.{settled, blank, sound, refusal}

-- Settings in their ranges.
pub record Ranged (s : Settings) (size : ℕ) : Type 0 where
  pub bytes : s.request_bytes ≤ 1495
  pub repeats : s.repeats ≤ 255
  pub least : 1 ≤ s.length
  pub range : s.address + s.length ≤ 4294967296
  pub whole : size ≡ s.length

pub ranged : (s : Settings) (size : ℕ) → settled s size ≡ true → Ranged s size
ranged s size e =
    let whole = both _ (eqb size s.length) (both _ (known s.version) e).0 in
    let range = both _ (leb (s.address + s.length) 4294967296) whole.0 in
    let least = both _ (leb 1 s.length) range.0 in
    let repeats = both _ (leb s.repeats 255) least.0 in
    let bytes = both (leb 1 s.request_bytes) (leb s.request_bytes 1495) repeats.0 in
    record {
      bytes = leb-true s.request_bytes 1495 bytes.1;
      repeats = leb-true s.repeats 255 repeats.1;
      least = leb-true 1 s.length least.1;
      range = leb-true (s.address + s.length) 4294967296 range.1;
      whole = eqb-true size s.length whole.1;
    }

-- the most frames that a good record has sent
pub bound : (replies repeats : ℕ) → replies ≤ 4294967296 → repeats ≤ 255 → (replies + 1) * (repeats + 1) + 1 < 2 ^ 62
bound replies repeats p r = omega (arith, mul-le-mul_left {m = repeats + 1} {n = 256} (replies + 1) (omega arith))

-- What a good record has.
pub record Kept (s : Settings) (h : Session) : Type 0 where
  pub filled : h.filled ≤ s.length
  pub replies : h.replies ≤ h.filled
  pub sent : h.sent ≤ (h.replies + 1) * (s.repeats + 1) + 1
  pub below_top : below h.counts ≡ true
  pub short : h.verdict ≡ 0 → h.filled < s.length

kept : (s : Settings) (h : Session) → sound s h ≡ true → Kept s h
kept s h e =
    let most = (h.replies + 1) * (s.repeats + 1) + 1 in
    let full = eqb h.filled s.length in
    let agrees = both _ (pick (eqb h.verdict 1) full (not full)) e in
    let waits = both _ (pick (eqb h.waiting 1) (blank h) true) agrees.0 in
    let counts = both _ (below h.counts) waits.0 in
    let waiting = both _ (leb h.waiting 1) counts.0 in
    let sent = both _ (leb h.sent most) waiting.0 in
    let replies = both _ (leb h.replies h.filled) sent.0 in
    let filled = both (leb h.verdict 3 && leb h.repeats s.repeats) (leb h.filled s.length) replies.0 in
    let within = leb-true h.filled s.length filled.1 in
    record {
      filled = within;
      replies = leb-true h.replies h.filled replies.1;
      sent = leb-true h.sent most sent.1;
      below_top = counts.1;
      short = λ v.
          let missing : not full ≡ true = rw v at agrees.1 in
          let other = eqb-false h.filled s.length (not-true full missing) in
          omega arith;
    }

-- What an accepted call has.
pub record Accepted (s : Settings) (h : Session) (size free : ℕ) : Type 0 where
  pub ranges : Ranged s size
  pub numbers : Kept s h
  pub room : 1500 ≤ free

pub accepted : (s : Settings) (h : Session) (size room : ℕ) → refusal s h size room ≡ 0 → Accepted s h size room
accepted s h size room e =
    let first = none (unless (settled s size) 10) (unless (sound s h) 10 ∷ unless (leb 1500 room) 9 ∷ []) e in
    let second = none (unless (sound s h) 10) (unless (leb 1500 room) 9 ∷ []) first.1 in
    let third = none (unless (leb 1500 room) 9) [] second.1 in
    record {
      ranges = ranged s size (met (settled s size) 10 (omega arith) first.0);
      numbers = kept s h (met (sound s h) 10 (omega arith) second.0);
      room = leb-true 1500 room (met (leb 1500 room) 9 (omega arith) third.0);
    }
