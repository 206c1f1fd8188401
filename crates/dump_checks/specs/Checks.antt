-- What a call of the host's end of a dump refuses of its record, of the settings and of the buffers (PROTOCOL 5, 'Host end', and
-- 7, 'Refusals').
use Rattle.std.specs.Prelude.{ℕ, ◌+◌, ◌*◌, Bool, true, not, ◌&&◌, cond as pick, [], ◌∷◌, eqb, leb}
use Rattle.version.specs.Version.{known}
use Rattle.counts.specs.Counts.{below, only_ignored}
use Rattle.step.specs.Step.{unless, first}
use Rattle.dump_record.specs.declared.Settings.{Settings}
use Rattle.dump_record.specs.declared.Session.{Session}

-- C, R, a range of at least a byte within the address space, into a buffer of just its length, and the version
abbrev pub settled : Settings → ℕ → Bool
settled s size =
    leb 1 s.request_bytes && leb s.request_bytes 1495 && leb s.repeats 255
    && leb 1 s.length && leb (s.address + s.length) 4294967296 && eqb size s.length
    && known s.version

-- a waiting record has every number 0 but that of ignored frames
abbrev pub blank : Session → Bool
blank h =
    eqb h.verdict 0 && eqb h.filled 0 && eqb h.replies 0 && eqb h.repeats 0 && eqb h.sent 0
    && only_ignored h.counts

-- the record is none of those that are bad (PROTOCOL 7, 'Refusals')
abbrev pub sound : Settings → Session → Bool
sound s h =
    leb h.verdict 3 && leb h.repeats s.repeats && leb h.filled s.length && leb h.replies h.filled
    && leb h.sent ((h.replies + 1) * (s.repeats + 1) + 1)
    && leb h.waiting 1 && below h.counts && pick (eqb h.waiting 1) (blank h) true
    && pick (eqb h.verdict 1) (eqb h.filled s.length) (not (eqb h.filled s.length))

-- a call's refusal, with a dump buffer and a reply buffer of so many bytes; 0 is none
abbrev pub refusal : Settings → Session → ℕ → ℕ → ℕ
refusal s h size room = first (unless (settled s size) 10 ∷ unless (sound s h) 10 ∷ unless (leb 1500 room) 9 ∷ [])
