-- `freeing::empty_slots` meets its contract: the first `k` slots are 0. Assumes nothing.
use Prim.Native.Nat.{ℕ, ◌+◌, ◌*◌}
use native.Mathlib.Omega.{arith}
use native.Mathlib.Numerals.{add-one}
use mathlib.Core.List.{List}
use mathlib.Core.Path.{◌≡◌, refl, sym, ap, ◌∙◌}
use lib.Dec.{lit≤}
use lib.ListN.{set, replicate, length-set}
use lib.Seq.{sets}
use Rattle.laws.specs.Lists.Tables.{zeros_more}
use Rattle.laws.specs.Freeing.{slots_spared, slots_emptied}
use Rattle.freeing.proofs.empty_slots.Goals as goal

pub returns-then-is_plain : goal.returns-then-is_plain
returns-then-is_plain c =
    let is_plain = c.is_plain in
    let if1 = c.if-is_plain in
    sym (slots_spared _ _ c.args.cell.0 (sym is_plain.ensures ∙ if1.true))

pub loop-k-init : goal.loop-k-init
loop-k-init c = (lit≤ tt, refl, refl)

pub loop-k-preserved : goal.loop-k-preserved
loop-k-preserved c =
    let loop = c.loop-k in
    let index = c.index in
    let first = 8 * c.args.cell.0 in (
      omega arith,
      length-set loop.slots (8 * index.result + loop.k) 0 ∙ loop.invariant.1,
      ap (λ (i : ℕ). set loop.slots (8 * i + loop.k) 0) index.ensures
          ∙ ap (λ (m : List ℕ). set m (first + loop.k) 0) loop.invariant.2
          ∙ zeros_more loop.k c.args.slots.now first
          ∙ ap (λ (j : ℕ). sets c.args.slots.now first (replicate j 0)) (sym (add-one loop.k)),
    )

pub shape_of-slots : goal.shape_of-slots
shape_of-slots c = c.loop-k.invariant.1

pub returns : goal.returns
returns c =
    let loop = c.loop-k in
    let is_plain = c.is_plain in
    let if1 = c.if-is_plain in
    let cell = c.args.cell.0 in
    let all : loop.k ≡ 8 = omega arith in
    loop.invariant.2 ∙ ap (λ (j : ℕ). sets c.args.slots.now (8 * cell) (replicate j 0)) all
    ∙ sym (slots_emptied _ _ cell (sym is_plain.ensures ∙ if1.false))
