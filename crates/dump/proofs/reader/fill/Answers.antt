-- `dump::reader::fill` meets its contract: no line, all seven, or some. Assumes nothing.
use native.Mathlib.Omega.{arith}
use mathlib.Core.Path.{refl}
use Rattle.dump.proofs.Cases.{whole_none, whole_all, whole_short}
use Rattle.dump.proofs.Stepping.{fills_nothing, fills_short}
use Rattle.dump.proofs.reader.fill.Goals as goal

pub returns-then-reader-eq0 : goal.returns-then-reader-eq0
returns-then-reader-eq0 c = fills_nothing (omega arith) (λ ts row. whole_none _ (omega arith))

pub returns-then-reader-eq-TABLES : goal.returns-then-reader-eq-TABLES
returns-then-reader-eq-TABLES c = fills_nothing (omega arith) (λ ts row. whole_all _ (omega arith))

pub returns : goal.returns
returns c = fills_short refl (λ ts row. whole_short _ (λ z. omega arith) (λ z. omega arith))
