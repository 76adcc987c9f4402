-- The last arm, by being none of the first fifteen. Assumes nothing.
use Rattle.std.proofs.Common.{◌≡◌, arith}
use Rattle.records.proofs.step_of_code.Goals as goal

pub returns-in_default : goal.returns-in_default
returns-in_default c = let e : c.args.f.code ≡ 16 = omega arith in rw e
