-- What a call knows before the host decides.
use Rattle.std.specs.Prelude.{ℕ, ◌+◌, cond as pick, eqb}
use Rattle.message.specs.declared.Fields.{Fields}
use Rattle.load_record.specs.declared.Session.{Session}

-- the frame that may go out on a frame: the first on a request, else the one after the frame on its way
abbrev pub ahead : Session → Fields → ℕ
ahead h f = pick (eqb f.code 8) 0 (h.position + 1)
