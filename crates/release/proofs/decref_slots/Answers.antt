-- `release::decref_slots` meets its contract. The loop's invariant is `Going`. Assumes nothing.
use mathlib.Core.Path.{◌≡◌, refl, sym, ap, ◌∙◌, subst⁻¹}
use mathlib.Core.List.{List, []}
use mathlib.Core.Bool.{true}
use Prim.Native.Nat.{ℕ, ◌+◌, ◌*◌, ◌≤◌}
use native.Mathlib.Omega.{arith}
use lib.ListN.{length, get_or, take, drop}
use lib.Seq.{slice, take-add, drop_at, length-take-le}
use Rattle.std.proofs.Common.{rules}
use Rattle.rules.specs.Heap.{Heap, kind_of, slots_of, plain}
use Rattle.rules.specs.Release.{Work, decrefs}
use Rattle.release.specs.Steps.{working, ToComeOff, CameOff}
use Rattle.laws.specs.Sound.But.{PlainSlots}
use Rattle.laws.specs.Freeing.{plain_none}
use Rattle.laws.specs.Release.Decref.{decrefs_none}
use Rattle.release.proofs.Due.{tail_fits}
use Rattle.release.proofs.Step.{came_off_nothing}
use Rattle.release.proofs.Run.{Going, go_start, go_due, go_on, go_end}
use Rattle.release.proofs.decref_slots.Goals as goal

-- a string or buffer: its slots are empty, and nothing comes off
spared : {h : Heap} {w : List ℕ} {tail : ℕ} (c : ℕ) → PlainSlots h.kind h.slots → plain (kind_of h c) ≡ true → tail ≤ length w
    → CameOff (decrefs (working h []) (slots_of h.slots c)) h w tail w tail
spared {h} {w} {tail} c empty e bound =
    subst⁻¹ (λ (v : Work). CameOff v h w tail w tail) (decrefs_none (working h []) (slots_of h.slots c) (plain_none h.kind h.slots c empty e))
    (came_off_nothing h w tail bound)

-- the part that the loop goes over is the cell's eight slots
module _ (s : List ℕ) (c : ℕ) {from end : ℕ} (first : from ≡ 8 * c) (last : end ≡ 8 * c + 8) (inside : 8 * c + 8 ≤ length s) where
  eight : slice from end s ≡ slots_of s c
  unfolding slots_of
  eight =
      ap (λ (i : ℕ). slice i end s) first ∙ ap (λ (i : ℕ). slice (8 * c) i s) last
      ∙ ap (drop (8 * c)) (take-add (8 * c) 8 s) ∙ drop_at (take (8 * c) s) (take 8 (drop (8 * c) s)) (8 * c) (length-take-le (8 * c) s (omega arith))

module _ {h₀ : Heap} {w₀ : List ℕ} {tail from end : ℕ} (c : ℕ) (first : from ≡ 8 * c) (last : end ≡ 8 * c + 8) (inside : 8 * c + 8 ≤ length h₀.slots) where
  eight-start : {i : ℕ} → i ≡ from → ToComeOff h₀ w₀ tail (slots_of h₀.slots c) → Going h₀ w₀ tail from end h₀ w₀ tail i
  eight-start at d = go_start at (omega (arith, last)) (subst⁻¹ (ToComeOff h₀ w₀ tail) (eight h₀.slots c first last inside) d)

  eight-end : {h : Heap} {w : List ℕ} {t i : ℕ} → Going h₀ w₀ tail from end h w t i → length w ≡ length w₀ → end ≤ i
      → CameOff (decrefs (working h₀ []) (slots_of h₀.slots c)) h w₀ tail w t
  eight-end g kept over = rw (eight h₀.slots c first last inside) at (go_end g kept over)

pub returns-then-is_plain-clause-came_off : goal.returns-then-is_plain-clause-came_off
returns-then-is_plain-clause-came_off c =
    let at = ap (λ (i : ℕ). plain (get_or c.args.tables.now.kind.now i 0)) c.index-c.ensures in
    spared c.args.cell.0 c.requires.plain_slots (sym at ∙ sym c.is_plain.ensures ∙ c.if-is_plain.true) (tail_fits c.requires.due)

pub loop-k-init : goal.loop-k-init
loop-k-init c =
    let is = c.index-c.ensures in
    ((refl, refl, refl, refl, refl, refl, refl), eight-start c.args.cell.0 (omega (arith, is)) (omega (arith, is)) c.requires.inside (omega arith) c.requires.due)

pub decref-t-requires : goal.decref-t-requires
decref-t-requires c = go_due c.loop-k.invariant.1 (omega (arith, c.loop-k-test.true))

pub loop-k-preserved : goal.loop-k-preserved
loop-k-preserved c =
    let decref = c.decref-t in
    let loop = c.loop-k in (
      search rules,
      go_on loop.invariant.1 (omega (arith, c.loop-k-test.true)) (omega arith) decref.ensures.came_off decref.ensures.others_stay decref.auto.freed,
    )

pub returns-clause-same : goal.returns-clause-same
returns-clause-same c = c.loop-k.invariant.0

pub returns-clause-others_stay : goal.returns-clause-others_stay
returns-clause-others_stay c = c.loop-k.invariant.1.others

pub returns-clause-came_off : goal.returns-clause-came_off
returns-clause-came_off c =
    let is = c.index-c.ensures in
    eight-end c.args.cell.0 (omega (arith, is)) (omega (arith, is)) c.requires.inside c.loop-k.invariant.1 c.loop-k.auto.freed (omega (arith, c.loop-k-test.false))
