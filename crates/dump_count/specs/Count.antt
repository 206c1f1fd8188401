-- By how much the counts of a dump's record are raised (PROTOCOL 5, 'Host end').
use Rattle.std.specs.Prelude.{ℕ, Bool, true, false}
use Rattle.dump_record.specs.declared.Sends.{Sends}
use Rattle.dump_record.specs.declared.Sends.TheVariants.{Nothing, Request, Complete}

-- how many replies are taken, and how many frames go out
abbrev pub replies : Bool → ℕ
replies false = 0
replies true = 1

abbrev pub frames : Sends → ℕ
frames Nothing = 0
frames Request = 1
frames Complete = 1
