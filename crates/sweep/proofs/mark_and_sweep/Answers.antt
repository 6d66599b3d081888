-- `sweep::mark_and_sweep` meets its contract. Assumes nothing.
use Prim.Native.Nat.{ℕ}
use native.Mathlib.Omega.{arith}
use mathlib.Core.List.{List}
use mathlib.Core.Path.{◌≡◌, subst}
use lib.ListN.{length}
use Rattle.rules.specs.declared.tables.Tables.{Tables}
use Rattle.rules.specs.Heap.{Heap, cells}
use Rattle.rules.specs.Tables.{heap_of}
use Rattle.rules.specs.Words.{marked_of, UsedBits}
use Rattle.sweep.specs.Phases.{Scratch, Searchable}
use Rattle.sweep.proofs.Searches.{searchable, searchable_on}
use Rattle.sweep.proofs.Whole.{kind_left, as_many, marked_used, sizes_left, plain_left, garbage_covered, size, collect_joins}
use Rattle.sweep.proofs.mark_and_sweep.Goals as goal

-- the words of the used cells, and the marks as the marking leaves them
words : {h : Heap} (t : Tables) {used used' : List ℕ} (marks marks' : List ℕ) → heap_of t ≡ h → Scratch (cells h) used marks → length used' ≡ length used
    → UsedBits t.kind.now used' → length marks' ≡ length marks → Searchable h.kind used' (marked_of marks')
words t {used' = used'} marks marks' e w kept bits same =
    searchable_on marks marks' (searchable w kept (subst (λ (g : Heap). UsedBits g.kind used') e bits)) same

pub sweep_unmarked-many-requires : goal.sweep_unmarked-many-requires
sweep_unmarked-many-requires c =
    let write-used = c.write_used in
    let marking = c.mark_and_queue-queued in
    let sound = c.requires.sound_but in
    let joined = marking.ensures.queued in
    let found = words c.shared.result c.args.marks.now marking.new.marks c.shared.ensures c.requires.scratch write-used.auto.words write-used.ensures marking.auto.marks in
    record {
      sizes = sizes_left sound joined;
      searchable = (rw (kind_left sound joined) found, omega (arith, sound.fit.small, as_many sound joined));
      marked_used = marked_used sound joined;
      plain_slots = plain_left sound joined;
      slots_covered = garbage_covered sound joined;
    }

pub rescue_marked-requires : goal.rescue_marked-requires
rescue_marked-requires c =
    let write-used = c.write_used in
    let marking = c.mark_and_queue-queued in
    let found = words c.shared.result c.args.marks.now marking.new.marks c.shared.ensures c.requires.scratch write-used.auto.words write-used.ensures marking.auto.marks in
    omega (arith, found.room, found.same, size c.requires.sound_but marking.ensures.queued c.sweep_unmarked-many.ensures.swept)

pub returns-clause-collected : goal.returns-clause-collected
returns-clause-collected c =
    collect_joins c.requires.sound_but c.mark_and_queue-queued.ensures.queued c.sweep_unmarked-many.ensures.swept c.rescue_marked.ensures
    (omega arith) (omega arith) (omega arith) (omega arith) (omega arith)
