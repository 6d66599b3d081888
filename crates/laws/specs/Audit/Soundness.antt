-- What the audit says of soundness: a sound heap is at zero, and rule 6 is that used cells are, with counts that are not 0.
-- Assumes nothing.
use Rattle.std.specs.Prelude.{ℕ, zero, suc, ◌+◌, ◌≤◌, ◌≡◌, refl, ℤ, pos, ◌-ℤ◌, get_or, drop}
use Rattle.std.proofs.Common.{arith, add-zero, add-one, sym, ap, ◌∙◌, take-append-drop, length-drop, get_or-drop}
use Rattle.std.proofs.Math.IntN.{+ℤ_invr}
use Rattle.rules.specs.Lists.{occ, dangling}
use Rattle.rules.specs.Heap.{Heap, cells, queued, count_of, entries}
use Rattle.rules.specs.Sound.{Sized, Rule4, Sound, bump}
use Rattle.rules.specs.Audit.{references, difference, plus, cell_row, lost_row, row_to, up, down, at_zero, SoundIsAtZero, Rule6ByDifferences, AtZeroIsRule6}
use Rattle.laws.specs.Lists.Tables.{inside}
use Rattle.laws.specs.Lists.Occ.{occ_nil, occ-append, occ_three, occ_none, occ_at}
use Rattle.laws.specs.Sound.Facts.{ready_facts}
use Rattle.laws.specs.Sound.Reflect.{bump_is, entries_once}
use Rattle.laws.specs.Sound.Tally.{none_dangling}
use Rattle.laws.specs.Audit.Integers.{less_difference}

-- ---- zero is where count and references agree

pub zero_counts : (a b : ℕ) → pos a -ℤ pos b ≡ pos 0 → a ≡ b
zero_counts a b e =
    let parts = (less_difference a b).is in
    omega (arith, ap up e, ap down e)

pub counts_zero : (a b : ℕ) → a ≡ b → pos a -ℤ pos b ≡ pos 0
counts_zero a b e = ap (λ (k : ℕ). pos k -ℤ pos b) e ∙ +ℤ_invr (pos b)

-- ---- where rule 4 holds, the queue's entries are the bumps

module _ (h : Heap) (z : Sized h) (r : Rule4 h) where
  queue_entries : (c : ℕ) → occ (suc c) h.queue ≡ occ (suc c) (entries h)
  queue_entries c =
      let rest = drop (queued h) h.queue in
      let none : occ (suc c) rest ≡ 0 = occ_none (suc c) rest (λ i m e.
      omega (arith, get_or-drop (queued h) h.queue i 0, r.3 (queued h + i) (omega arith) (omega (arith, length-drop (queued h) h.queue, z.queue)))) in
      ap (occ (suc c)) (sym (take-append-drop (queued h) h.queue)) ∙ occ-append (suc c) (entries h) rest ∙ omega arith

  all_counted : (c : ℕ) → occ (suc c) (references h) ≡ occ (suc c) h.roots + occ (suc c) h.slots + bump h c
  all_counted c = omega (arith, occ_three (suc c) h.roots h.slots h.queue, queue_entries c, bump_is h c (entries_once h z r (suc c)))

  rule6 : Rule6ByDifferences h
  rule6 =
      record {
        holds = λ d c u. (zero_counts _ _ (d c u).0 ∙ all_counted c, (d c u).1);
        shows = λ s c u. (counts_zero _ _ ((s c u).0 ∙ sym (all_counted c)), (s c u).1);
      }

pub at_zero_is_rule6 : AtZeroIsRule6
at_zero_is_rule6 = rule6

-- ---- a sound heap

module _ (h : Heap) (z : Sized h) (r : Sound h) where
  -- of free cells too: their counts are 0, and nothing refers to them
  stored : (c : ℕ) → count_of h c ≡ occ (suc c) (references h)
  stored c =
      let facts = ready_facts (record { sized = z; sound = r }) in
      omega (arith, occ_three (suc c) h.roots h.slots h.queue, queue_entries h z r.rule4 c, facts.counted c, occ_nil (suc c))

  -- what stands somewhere is counted, so it names a cell
  none_lost_lem : dangling (cells h) (references h) ≡ 0
  none_lost_lem =
      let l = references h in
      none_dangling (cells h) l (λ i m. each (get_or l i 0) (occ_at (get_or l i 0) l i m refl))
    where
      each : (x : ℕ) → 1 ≤ occ x (references h) → x ≤ cells h
      each zero o = omega arith
      each (suc c) o = omega (arith, inside h.count c (omega (arith, stored c)), z.count)

zeros : (d : ℕ → ℤ) → ((c : ℕ) → d c ≡ pos 0) → (n : ℕ) → row_to d n ≡ at_zero n
unfolding row_to
zeros d h zero = refl
zeros d h (suc n) = (λ i. plus (zeros d h n i) (cell_row (h n i))) ∙ ap at_zero (add-one n)

pub sound_is_at_zero : SoundIsAtZero
sound_is_at_zero h z r =
    let zero_at : (c : ℕ) → difference h c ≡ pos 0 = λ c. counts_zero _ _ (stored h z r c) in
    (zero_at, (λ i. plus (zeros (difference h) zero_at (cells h) i) (lost_row (none_lost_lem h z r i))) ∙ ap at_zero (add-zero (cells h)))
