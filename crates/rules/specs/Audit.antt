-- Document 02, Q-4: the audit of a heap, sound or not, and a report over a list of heaps. "i32 difference per cell and i64 sums over heaps, with exact meaning
-- on both sides of zero" (document 01): differences and sums are integers here.
-- Assumes nothing: these are definitions.
use Rattle.std.specs.Prelude.{ℕ, zero, suc, ◌+◌, ◌*◌, ◌-◌, ◌≤◌, ◌<◌, ◌≡◌, List, [], ◌∷◌, ◌++◌, map, Bool, ◌&&◌, cond, eqb, leb, ltb, ℤ, pos, negsuc, ◌+ℤ◌, ◌-ℤ◌, length, take}
use Rattle.std.specs.Int.{w64}
use Rattle.std.proofs.Common.{Fits, SFits}
use Rattle.rules.specs.declared.audit.Row.{Row}
use Rattle.rules.specs.declared.audit.Report.{Report}
use Rattle.rules.specs.declared.audit.Audited.{Audited}
use Rattle.rules.specs.Lists.{every, occ, dangling}
use Rattle.rules.specs.Heap.{Heap, cells, count_of, Used}
use Rattle.rules.specs.Sound.{Sized, Sound, Rule4, Rule6}
use Rattle.rules.specs.Check.{fits}

-- ---- a cell

-- "Every entry of roots, slots and queue counts, free cells' slots and entries past the queue length too"
abbrev pub references : Heap → List ℕ
references h = h.roots ++ (h.slots ++ h.queue)

-- "the stored count minus the counted references, below zero when the stored count is too low"
abbrev pub difference : Heap → ℕ → ℤ
difference h c = pos (count_of h c) -ℤ pos (occ (suc c) (references h))

-- ---- rows: the columns below, at, above, sum, lost and size

abbrev pub none : Row
none = record { below = 0; at = 0; above = 0; sum = pos 0; lost = 0; size = 0 }

-- "the same, added up"
abbrev pub plus : Row → Row → Row
plus a b = record {
  below = a.below + b.below;
  at = a.at + b.at;
  above = a.above + b.above;
  sum = a.sum +ℤ b.sum;
  lost = a.lost + b.lost;
  size = a.size + b.size;
}

-- "A cell's line counts that cell alone, its difference as the sum, the rest 0"
abbrev pub cell_row : ℤ → Row
cell_row (negsuc n) = record { below = 1; at = 0; above = 0; sum = negsuc n; lost = 0; size = 0 }
cell_row (pos zero) = record { below = 0; at = 1; above = 0; sum = pos 0; lost = 0; size = 0 }
cell_row (pos (suc n)) = record { below = 0; at = 0; above = 1; sum = pos (suc n); lost = 0; size = 0 }

-- "references above N are lost: they count for nobody and have their own total"
abbrev pub lost_row : ℕ → Row
lost_row n = record { below = 0; at = 0; above = 0; sum = pos 0; lost = n; size = 0 }

-- "A heap refused SIZE is counted apart and adds nothing else"
abbrev pub size_row : Row
size_row = record { below = 0; at = 0; above = 0; sum = pos 0; lost = 0; size = 1 }

-- ---- a heap

-- "A free cell counts too": the differences of the first n cells, and the row of these
unfoldable pub listed : (ℕ → ℤ) → ℕ → List ℤ
listed d zero = []
listed d (suc n) = listed d n ++ (d n ∷ [])

unfoldable pub row_to : (ℕ → ℤ) → ℕ → Row
row_to d zero = none
row_to d (suc n) = plus (row_to d n) (cell_row (d n))

-- "For each cell": the table of differences of a heap that fits
abbrev pub differences : Heap → List ℤ
differences h = listed (difference h) (cells h)

-- "Per heap: how many cells are below, at and above zero, and the sum of differences", with its lost references
abbrev pub fitting_row : Heap → Row
fitting_row h = plus (row_to (difference h) (cells h)) (lost_row (dangling (cells h) (references h)))

-- a heap as it is lent, and the length of the table of differences that is lent with it
pub record Lent : Type 0 where
  pub heap : Heap
  pub room : ℕ

-- no SIZE: the tables fit, and that of the differences has N entries too
abbrev pub admitted : Lent → Bool
admitted l = fits l.heap && eqb l.room (cells l.heap)

abbrev pub lent_row : Lent → Row
lent_row l = cond (admitted l) (fitting_row l.heap) size_row

-- ---- a report

-- "A report starts empty"
abbrev pub empty : Report
empty = record { heaps = 0; totals = none }

-- how far an integer is above zero, and how far below
abbrev pub up : ℤ → ℕ
up (pos n) = n
up (negsuc n) = 0

abbrev pub down : ℤ → ℕ
down (pos n) = 0
down (negsuc n) = suc n

-- the cells that a row counts, and the references of k heaps with these cells: 64 in the roots of each, and 9 for each cell in slots and queue
abbrev pub row_cells : Row → ℕ
row_cells r = r.below + r.at + r.above

abbrev pub row_references : ℕ → Row → ℕ
row_references k r = 64 * k + 9 * row_cells r

-- Can the rows of k heaps that fit add up to this one? Each heap has 1 to 1,024 cells. A reference is lost, or is missing in one count at most; a cell below
-- zero is short of one reference or more, a cell above zero has a count of 65,535 at most. So the sum is what is too much, 1 to 65,535 for each cell above,
-- less what is missing, which is at least 1 for each cell below, and at most the references that are not lost, of all heaps; and no more than
-- those of as many heaps as there are cells below: 9,280 each, or 9 for each cell that the other heaps, with one cell at least, leave over, and 64.
unfoldable pub possible_for : ℕ → Row → Bool
possible_for k r =
    every (leb k (row_cells r) ∷ leb (row_cells r) (1024 * k)
    ∷ leb (r.lost + r.below) (row_references k r)
    ∷ leb (up r.sum + r.below) (65535 * r.above + down r.sum)
    ∷ leb (r.above + down r.sum + r.lost) (up r.sum + row_references k r)
    ∷ leb (r.above + down r.sum) (up r.sum + 9280 * r.below)
    ∷ leb (r.above + down r.sum + 9 * k) (up r.sum + 73 * r.below + 9 * row_cells r) ∷ [])

-- does a list of heaps lead to this report? "A report starts empty and nobody else writes its totals"
unfoldable pub possible : Report → Bool
possible p = leb p.totals.size p.heaps && possible_for (p.heaps - p.totals.size) p.totals

-- "Any heap after the first thousand, SIZE ones counted, is refused 14 MANY"; a report that no list of heaps leads to is refused 12 TOTAL
unfoldable pub refusal_of : Report → ℕ
refusal_of p = cond (ltb p.heaps 1000) (cond (possible p) 0 12) 14

-- a row joins a report
abbrev pub with : Report → Row → Report
with p row = record { heaps = p.heaps + 1; totals = plus p.totals row }

-- the answer where the report takes the heap, 0 or 1 SIZE; and where it does not: the heap "adds nothing"
abbrev pub taking : Report → Lent → Audited
taking p l = record { refused = cond (admitted l) 0 1; heap = lent_row l; report = with p (lent_row l) }

abbrev pub refusing : Report → Audited
refusing p = record { refused = refusal_of p; heap = none; report = p }

-- the audit of a report's next heap: 14 and 12 come "here before SIZE"
unfoldable pub audited : Report → Lent → Audited
audited p l = cond (eqb (refusal_of p) 0) (taking p l) (refusing p)

-- the table of differences after it, where it was `before`
unfoldable pub differences_after : Report → Heap → List ℤ → List ℤ
differences_after p h before = cond (eqb (refusal_of p) 0 && admitted (record { heap = h; room = length before })) (differences h) before

-- ---- a list of heaps

unfoldable pub report_from : Report → List Lent → Report
report_from p [] = p
report_from p (l ∷ ls) = report_from (audited p l).report ls

-- "over all heaps: the same, added up"
unfoldable pub sum_of : List Row → Row
sum_of [] = none
sum_of (r ∷ rs) = plus r (sum_of rs)

-- "All tables are lent 16-bit numbers"
abbrev pub Sixteen : List Lent → Type 0
Sixteen [] = Unit
Sixteen (l ∷ ls) = ((c : ℕ) → count_of l.heap c < 65536) × Sixteen ls

-- no column passes its end
pub record Holds (r : Row) : Type 0 where
  pub below : Fits w64 r.below
  pub at : Fits w64 r.at
  pub above : Fits w64 r.above
  pub sum : SFits w64 r.sum
  pub lost : Fits w64 r.lost
  pub size : Fits w64 r.size

-- of any list of heaps, from an empty report on: the first thousand are taken and their rows added up; no total passes its end; and the next heap is refused
-- exactly after the first thousand, with 14 and never 12
pub record AddsUp (ls : List Lent) : Type 0 where
  pub report : report_from empty ls ≡ record { heaps = length (take 1000 ls); totals = sum_of (map lent_row (take 1000 ls)) }
  pub holds : Holds (report_from empty ls).totals
  pub next : refusal_of (report_from empty ls) ≡ cond (ltb (length ls) 1000) 0 14

abbrev pub AuditAddsUp : Type 0
AuditAddsUp = (ls : List Lent) → Sixteen ls → AddsUp ls

-- ---- what the audit says of soundness

-- all n cells at zero, and nothing else to report
abbrev pub at_zero : ℕ → Row
at_zero n = record { below = 0; at = n; above = 0; sum = pos 0; lost = 0; size = 0 }

-- a sound heap: every cell, free ones too, is at zero, and no reference is lost
abbrev pub SoundIsAtZero : Type 0
SoundIsAtZero = (h : Heap) → Sized h → Sound h → ((c : ℕ) → difference h c ≡ pos 0) × (fitting_row h ≡ at_zero (cells h))

-- the audit misses no wrong count: where the tables fit and rules 1 to 5 hold, of which rule 4 is enough, rule 6 holds exactly if every used cell is at zero and
-- its count "is at least 1", which the audit does not ask: a used cell that nothing holds, with count 0, is at zero
pub record Rule6ByDifferences (h : Heap) : Type 0 where
  pub holds : ((c : ℕ) → Used h c → (difference h c ≡ pos 0) × (1 ≤ count_of h c)) → Rule6 h
  pub shows : Rule6 h → (c : ℕ) → Used h c → (difference h c ≡ pos 0) × (1 ≤ count_of h c)

abbrev pub AtZeroIsRule6 : Type 0
AtZeroIsRule6 = (h : Heap) → Sized h → Rule4 h → Rule6ByDifferences h
