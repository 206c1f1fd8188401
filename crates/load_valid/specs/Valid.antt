-- A load's settings and its record: whether they are in range, but for what needs the image (PROTOCOL 7, 'Refusals').
use Rattle.std.specs.Prelude.{ℕ, Bool, true, ◌&&◌, cond as pick, eqb, leb}
use Rattle.image.specs.Image.{widest}
use Rattle.version.specs.Version.{known}
use Rattle.counts.specs.Counts.{below, only_ignored}
use Rattle.load_record.specs.declared.Settings.{Settings}
use Rattle.load_record.specs.declared.Session.{Session}
use Rattle.load_record.specs.Record.{most_restarts}

-- a request half-way begins the load again
abbrev pub restarting : Settings → Bool
restarting s = eqb s.restart 1

-- S, R, the mark of a parameter string, the restart setting and the version
abbrev pub settled : Settings → Bool
settled s =
    leb 1 s.segment_size && leb s.segment_size widest && leb s.repeats 255 && leb s.with_parameters 1
    && leb s.restart 1 && known s.version

-- a waiting record has every number 0 but that of ignored frames
abbrev pub blank : Session → Bool
blank h = eqb h.verdict 0 && eqb h.position 0 && eqb h.repeats 0 && eqb h.restarts 0 && eqb h.sent 0 && only_ignored h.counts

-- how many restarts a record may have: none without the setting
abbrev pub restarts_allowed : Settings → ℕ
restarts_allowed s = pick (restarting s) most_restarts 0

-- the record is none of those that are bad (PROTOCOL 7, 'Refusals'), but for what needs n
abbrev pub sound : Settings → Session → Bool
sound s h =
    leb h.verdict 4 && leb h.repeats s.repeats && leb h.restarts (restarts_allowed s) && leb h.waiting 1 && below h.counts
    && pick (eqb h.waiting 1) (blank h) true
