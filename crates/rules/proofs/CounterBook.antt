-- The counter book's fifteen examples hold, by computation.
-- Assumes nothing.
use mathlib.Core.Path.{refl}
use Rattle.rules.specs.Lists.{every, all, below, occ, distinct, select}
use Rattle.rules.specs.Heap.{slots_of, fresh, set_kind, set_flags, set_count, set_slot, set_root, set_running, set_queue, enqueue, plain, wipe}
use Rattle.rules.specs.Check.{fits, cell_ok, cell_at, ref_ok, entry_ok, running_ok, refs, count_ok, sound}
use Rattle.rules.specs.Refusals.{number, lowest, lowest_free, new_ok, object_ok, conditions, is_fresh, refusal}
use Rattle.rules.specs.Release.{start, raise, incref, finalizable, refzero, decremented, lower, decref, decrefs, with_pending, retire, serve, drain, release}
use Rattle.rules.specs.Marking.{mark, mark_if, spread_from, spread, closure, mark_from}
use Rattle.rules.specs.Collect.{reached_marks, unreached_finalizable, enqueue_all, kept_marks, garbage, lower_all, unlink_all, wipe_all, rescued, rescue_all, swept, collect}
use Rattle.rules.specs.Calls.{refuse, done, finished, allocate, write_root, write_slot, start_run, leave_queue, finish_run, act, by_refusal, step}
use Rattle.rules.specs.CounterBook.{CounterBook, book, same_numbers, holds, same_answer, follows}

pub counter_book : CounterBook
unfolding every all below occ distinct select slots_of fresh set_kind set_flags set_count set_slot set_root set_running set_queue enqueue plain wipe fits cell_ok
    cell_at ref_ok entry_ok running_ok refs count_ok sound number lowest lowest_free new_ok object_ok conditions is_fresh refusal start raise incref finalizable
    refzero decremented lower decref decrefs with_pending retire serve drain release mark mark_if spread_from spread closure mark_from reached_marks unreached_finalizable
    enqueue_all kept_marks garbage lower_all unlink_all wipe_all rescued rescue_all swept collect refuse done finished allocate write_root write_slot start_run
    leave_queue finish_run act by_refusal step book same_numbers holds same_answer follows
counter_book = refl
