-- `answers::finished` meets its contract: each of its numbers is the one that it should be. Assumes nothing.
use native.Mathlib.Omega.{arith}
use Prim.Native.Nat.{ℕ}
use mathlib.Core.Path.{◌≡◌}
use Rattle.rules.specs.Calls.{answers}
use Rattle.answers.proofs.finished.Goals as goal

same_answer : {r r' f f' q q' c c' : ℕ} → r ≡ r' → f ≡ f' → q ≡ q' → c ≡ c' → answers r f q c ≡ answers r' f' q' c'
same_answer refused freed queued cell = λ i. answers (refused i) (freed i) (queued i) (cell i)

pub returns : goal.returns
returns c = same_answer (omega arith) (omega arith) (omega arith) (omega arith)
