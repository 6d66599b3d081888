-- `marking::unmarked` meets its contract. Assumes nothing.
use mathlib.Core.Path.{refl}
use Rattle.laws.specs.Words.Marks.{marks_zeros}
use Rattle.marking.proofs.unmarked.Goals as goal

pub returns : goal.returns
returns c = record {
  value = refl;
  unmarked = λ n. marks_zeros n 32;
}
