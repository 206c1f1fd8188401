-- The counts of a dump's record rise by at most one.
use Rattle.std.specs.Prelude.{◌≤◌, Bool, true, false}
use Rattle.std.proofs.Common.{arith}
use Rattle.dump_record.specs.declared.Sends.{Sends}
use Rattle.dump_record.specs.declared.Sends.TheVariants.{Nothing, Request, Complete}
use Rattle.dump_count.specs.Count.{replies, frames}

-- at most one reply is taken, and one frame goes out
pub one-reply : (takes : Bool) → replies takes ≤ 1
one-reply true = omega arith
one-reply false = omega arith

pub one-frame : (sends : Sends) → frames sends ≤ 1
one-frame Nothing = omega arith
one-frame Request = omega arith
one-frame Complete = omega arith
