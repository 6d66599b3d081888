-- A refusal is told from a call that is done by its number.
-- Assumes nothing.
use Rattle.std.proofs.Common.{◌≢◌, arith}
use Rattle.rules.specs.declared.refusal.Refusal.{Refusal}
use Rattle.rules.specs.declared.refusal.Refusal.TheVariants as Is
use Rattle.rules.specs.Refused.{number_of}

-- no refusal has the number of a call that is done
pub refuses : (why : Refusal) → number_of why ≢ 0
refuses Is.Size e = omega arith
refuses Is.Damaged e = omega arith
refuses Is.Number e = omega arith
refuses Is.Empty e = omega arith
refuses Is.Kind e = omega arith
refuses Is.Taken e = omega arith
refuses Is.Full e = omega arith
refuses Is.Busy e = omega arith
refuses Is.None e = omega arith
refuses Is.Idle e = omega arith
refuses Is.Line e = omega arith
refuses Is.Total e = omega arith
refuses Is.Many e = omega arith
