-- What each entry comes to, by what it asks first; `lent` is the table for the freed cells.
-- Assumes nothing.
use Prim.Native.Nat.{ℕ, ◌≤◌}
use mathlib.Core.Bool.{false}
use mathlib.Core.List.{List}
use mathlib.Core.Path.{◌≡◌, refl, sym}
use lib.ListN.{length}
use Rattle.rules.specs.declared.Answer.{Answer}
use Rattle.rules.specs.declared.refusal.Refusal.{Refusal}
use Rattle.rules.specs.Refused.{number_of}
use Rattle.rules.specs.Heap.{Heap}
use Rattle.rules.specs.Sound.{Ready}
use Rattle.rules.specs.Refusals.{Call, is_fresh}
use Rattle.rules.specs.Calls.{answers, Did}
use Rattle.laws.specs.Calls.Inner.{Ran}
use Rattle.laws.specs.Calls.Outer.{admission_lent, Ended, Admitted, outer_refused, outer_ready, ran_fits, outer_ran}
use Rattle.rules.proofs.Refusing.{refuses}

module _ {h : Heap} (lent : List ℕ) where
  -- refused by what is asked first
  pub refused_first : {call : Call} (why : Refusal) {a : Answer} → is_fresh call ≡ false → number_of why ≡ admission_lent h lent
      → a ≡ answers (number_of why) 0 0 0 → Did call h lent h lent a
  refused_first why other w a = outer_refused other w (refuses why) a

  module _ (none : 0 ≡ admission_lent h lent) where
    admitted : Admitted h lent
    admitted = outer_ready none refl

    -- the function on a sound heap may be called
    pub ready_now : Ready h
    ready_now = admitted.ready

    module _ {call : Call} {after : Heap} {list : List ℕ} {run a : Answer} (is : a ≡ run) (ran : Ran call h lent after list run) where
      as_ran : Ran call h lent after list a
      as_ran = rw (sym is) at ran

      -- its list has room in the table
      pub list_fits : a.freed ≤ length list
      list_fits = ran_fits admitted.sized as_ran

      -- and is ended there
      pub did : {list' : List ℕ} → length list ≡ length lent → Ended a.refused a.freed list list' → Did call h lent after list' a
      did long ended = outer_ran admitted.sized as_ran long ended
