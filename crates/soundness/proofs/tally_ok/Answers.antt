-- `soundness::tally_ok` meets its contract. Each way out is one law of `Order`.
-- Assumes nothing.
use mathlib.Core.Path.{sym, ◌∙◌}
use native.Mathlib.Omega.{arith}
use Rattle.soundness.proofs.Order.{bad_queue, bad_shapes, bad_roots, bad_slots, by_counts, room_roots, room_slots}
use Rattle.soundness.proofs.tally_ok.Goals as goal

pub tally_queue-requires : goal.tally_queue-requires
tally_queue-requires c = c.requires.clear

pub returns-then-not-tally_queue : goal.returns-then-not-tally_queue
returns-then-not-tally_queue c =
    sym (bad_queue _ _ _ _ _ _ _ c.requires (sym c.tally_queue.ensures.0 ∙ c.if-not-tally_queue.true))

pub returns-then-not-shapes_ok : goal.returns-then-not-shapes_ok
returns-then-not-shapes_ok c =
    sym
    (bad_shapes _ _ _ _ _ _ _
    c.requires _
    (c.tally_queue.ensures.1 (c.if-not-tally_queue.false))
    (sym c.shapes_ok.ensures ∙ c.if-not-shapes_ok.true))

pub tally_all-requires : goal.tally_all-requires
tally_all-requires c =
    let entry = c in (
      room_roots _ _ _ _ _ _ _
          entry.requires _
          (c.tally_queue.ensures.1 (c.if-not-tally_queue.false)),
      omega (arith, entry.requires.roots_size),
    )

pub returns-then-tally_all-ne0 : goal.returns-then-tally_all-ne0
returns-then-tally_all-ne0 c =
    let tally-queue = c.tally_queue in
    sym
    (bad_roots _ _ _ _ _ _ _
    c.requires _
    (tally-queue.ensures.1 (c.if-not-tally_queue.false))
    (λ e. c.if-tally_all-ne0.true (omega (arith, c.tally_all.ensures.0))))

pub tally_slots-requires : goal.tally_slots-requires
tally_slots-requires c =
    let tally-queue = c.tally_queue in (
      c.requires.most,
      c.requires.slots_size,
      room_slots _ _ _ _ _ _ _
          c.requires _
          (tally-queue.ensures.1 (c.if-not-tally_queue.false)) _
          c.tally_all.ensures.1,
    )

pub returns-then-not-tally_slots : goal.returns-then-not-tally_slots
returns-then-not-tally_slots c =
    let tally-queue = c.tally_queue in
    let if1 = c.if-not-tally_queue in
    sym
    (bad_slots _ _ _ _ _ _ _
    c.requires _
    (tally-queue.ensures.1 (if1.false)) _
    c.tally_all.ensures.1
    (sym c.tally_slots.ensures.0 ∙ c.if-not-tally_slots.true))

pub returns : goal.returns
returns c =
    let tally-queue = c.tally_queue in
    let if1 = c.if-not-tally_queue in
    let shapes-ok = c.shapes_ok in
    let if2 = c.if-not-shapes_ok in
    let tally-all = c.tally_all in
    let tally-slots = c.tally_slots in
    let if4 = c.if-not-tally_slots in
    c.counts_ok.ensures
    ∙ sym
    (by_counts _ _ _ _ _ _ _
    c.requires _
    (tally-queue.ensures.1 (if1.false)) _
    tally-all.ensures.1 _
    (tally-slots.ensures.1 (if4.false))
    (sym tally-queue.ensures.0 ∙ if1.false)
    (sym shapes-ok.ensures ∙ if2.false)
    (omega (arith, tally-all.ensures.0, c.if-tally_all-ne0.false))
    (sym tally-slots.ensures.0 ∙ if4.false))
