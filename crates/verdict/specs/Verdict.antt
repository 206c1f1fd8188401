-- The verdicts of a host's record and their numbers (PROTOCOL 5, 'Host end').
use Rattle.std.specs.Prelude.{ℕ}
use Rattle.verdict.specs.declared.Verdict.{Verdict}
use Rattle.verdict.specs.declared.Verdict.TheVariants.{Running, Finished, Rejected, GivenUp, Unconfirmed}

abbrev pub number : Verdict → ℕ
number Running = 0
number Finished = 1
number Rejected = 2
number GivenUp = 3
number Unconfirmed = 4
