-- What the host's loop test does next on a frame (PROTOCOL 5, 'Host end'). The settings and the data stay the same over a test.
use Rattle.std.specs.Prelude.{ℕ, Bool, ◌&&◌, cond as pick, List, eqb}
use Rattle.std.specs.Str.{bytes_eq}
use Rattle.message.specs.declared.Fields.{Fields}
use Rattle.looptest_record.specs.declared.Settings.{Settings}
use Rattle.looptest_record.specs.declared.Session.{Session}
use Rattle.looptest_record.specs.Record.{ended}

-- two strings are equal
unfoldable pub same : List ℕ → List ℕ → Bool
same xs ys = bytes_eq xs ys

-- a frame with the test's receipt and data ends it with a verdict
abbrev pub returned : Settings → Session → List ℕ → ℕ → ℕ → List ℕ → Session
returned s h bytes verdict receipt back = pick (eqb receipt s.receipt && same back bytes) (ended h verdict) h

-- code 26 from the machine, 24 from a plug; another readable frame leaves it waiting
abbrev pub react : Settings → Session → List ℕ → Fields → List ℕ → Session
react s h bytes f back =
    pick (eqb h.verdict 0)
    (pick (eqb f.code 24) (returned s h bytes 2 f.receipt back)
    (pick (eqb f.code 26) (returned s h bytes 1 f.receipt back)
    h))
    h
