-- `tally::tally_all` meets its contract: the fours are turns of `Tallying`, and what is left is its end.
-- Assumes nothing.
use Prim.Native.Nat.{◌*◌, ◌/◌}
use lib.ListN.{length, drop}
use mathlib.Core.Path.{◌≡◌, ap, ◌∙◌}
use native.Mathlib.Omega.{arith}
use Rattle.tally.proofs.Tallying.{tallying_begin, room_here, tallying_turn_four, tallying_rest}
use Rattle.tally.proofs.tally_all.Goals as goal

pub loop-four-init : goal.loop-four-init
loop-four-init c = tallying_begin _ _ _

pub tally_four-lost-requires : goal.tally_four-lost-requires
tally_four-lost-requires c =
    let cut = c.as_chunks.ensures in
    room_here c.loop-four.invariant (length c.args.references.now) 4 c.requires.0 c.requires.1 (omega (arith, cut.front_len))

pub loop-four-preserved : goal.loop-four-preserved
loop-four-preserved c =
    let cut = c.as_chunks.ensures in
    tallying_turn_four c.loop-four.four-index c.loop-four.invariant _ _ (omega (arith, cut.front_len)) (rw cut.front at c.tally_four-lost.ensures)

pub tally_each-requires : goal.tally_each-requires
tally_each-requires c =
    let cut = c.as_chunks.ensures in
    room_here c.loop-four.invariant (length c.args.references.now) _ c.requires.0 c.requires.1 (omega (arith, cut.front_len, cut.back_len))

pub returns : goal.returns
returns c =
    let cut = c.as_chunks.ensures in
    let table = c.args.references.now in
    let e : length table / 4 * 4 ≡ 4 * c.loop-four.four-index = omega (arith, cut.front_len) in
    tallying_rest c.loop-four.invariant _ _ _ (cut.back ∙ ap (λ n. drop n table) e) c.tally_each.ensures
