-- The audit of the heap that the arrays hold. Assumes nothing.
use Prim.Native.Nat.{ℕ, ◌≤◌}
use native.Mathlib.Omega.{arith}
use native.Mathlib.Decide.{dec_lt}
use mathlib.Core.Bool.{Bool, true, false, ◌&&◌, cond}
use mathlib.Core.List.{List, ◌++◌}
use mathlib.Core.Logic.{by_cases}
use mathlib.Core.Path.{◌≡◌, refl, sym, ap, ◌∙◌}
use lib.Dec.{eqb}
use lib.IntN.{ℤ}
use lib.ListN.{length, take}
use lib.Seq.{take-append_seam}
use Rattle.std.proofs.Common.{eq-eqb}
use Rattle.rules.specs.declared.audit.Report.{Report}
use Rattle.rules.specs.declared.audit.Audited.{Audited}
use Rattle.rules.specs.Heap.{Heap, cells, tables}
use Rattle.rules.specs.Check.{fits}
use Rattle.rules.specs.Audit.{difference, fitting_row, size_row, differences, Lent, admitted, lent_row, refusal_of, with, refusing, audited, differences_after}
use Rattle.laws.specs.Lists.Tests.{fails}
use Rattle.laws.specs.Sound.Reflect.{fits_sized}
use Rattle.dump.specs.declared.reader.Reader.{Reader}
use Rattle.dump.specs.Reading.{heap_given}
use Rattle.dump.specs.Holding.{Gives}
use Rattle.auditor.specs.Output.{whole}
use Rattle.auditor.specs.Taking.{CellsOf, HeapAudited}
use Rattle.auditor.specs.Written.{DifferencesOf}
use Rattle.auditor.proofs.Pieces.{length-listed}

-- a heap that does not fit is refused SIZE with any table of differences
size_anyhow : (p : Report) (h : Heap) (n m : ℕ) → fits h ≡ false → audited p (record { heap = h; room = n }) ≡ audited p (record { heap = h; room = m })
unfolding audited
size_anyhow p h n m e = ap (with_test n) e ∙ sym (ap (with_test m) e)
  where
    with_test : ℕ → Bool → Audited
    with_test k t =
        let row = cond (t && eqb k (cells h)) (fitting_row h) size_row in
        cond (eqb (refusal_of p) 0) (record { refused = cond (t && eqb k (cells h)) 0 1; heap = row; report = with p row }) (refusing p)

audited_whole : (p : Report) (h : Heap) (n : ℕ) → (cells h ≤ 1024 → n ≡ cells h) → audited p (record { heap = h; room = n }) ≡ audited p (whole h)
audited_whole p h n e =
    by_cases (dec_lt 1024 (cells h))
    (λ many. size_anyhow p h n (cells h) (fails (fits h) (λ f. omega (arith, (fits_sized h f).most))))
    (λ few. ap (λ (k : ℕ). audited p (record { heap = h; room = k })) (e (omega arith)))

pub heap_audited : (r : Reader) (entries ends k f c s o q w : List ℕ) (p : Report) (n m : ℕ) (a : Audited)
    → Gives r entries ends 0 k → Gives r entries ends 1 f → Gives r entries ends 2 c → Gives r entries ends 3 s → Gives r entries ends 4 o → Gives r entries ends 5 q → Gives r entries ends 6 w
    → CellsOf r entries ends n → m ≡ n → a ≡ audited p (record { heap = tables k f c s o q w; room = m }) → HeapAudited r entries ends p a
heap_audited r entries ends k f c s o q w p n m a gk gf gc gs go gq gw cs e is = λ x h.
    is ∙ ap (λ (room : ℕ). audited p (record { heap = tables k f c s o q w; room = room })) e
    ∙ (λ i. audited p (record {
      heap = tables (gk.given x h i) (gf.given x h i) (gc.given x h i) (gs.given x h i) (go.given x h i) (gq.given x h i) (gw.given x h i);
      room = n;
    }))
    ∙ audited_whole p (heap_given x) n (cs.is x h)

-- ---- the differences

-- a heap that is not refused was taken, and is admitted
pub not_refused : (p : Report) (l : Lent) → (audited p l).refused ≡ 0 → (eqb (refusal_of p) 0 && admitted l) ≡ true
unfolding audited
not_refused p l = go (eqb (refusal_of p) 0) (admitted l) refl
  where
    go : (t u : Bool) → eqb (refusal_of p) 0 ≡ t → (cond t (record { refused = cond u 0 1; heap = lent_row l; report = with p (lent_row l) }) (refusing p)).refused ≡ 0
        → (t && u) ≡ true
    go true true e z = refl
    go true false e z = cc
    go false u e z = cc (eq-eqb (refusal_of p) 0 z)

pub heap_differences : (r : Reader) (entries ends k f c s o q w : List ℕ) (p : Report) (a : Audited) (before after rest : List ℤ)
    → Gives r entries ends 0 k → Gives r entries ends 1 f → Gives r entries ends 2 c → Gives r entries ends 3 s → Gives r entries ends 4 o → Gives r entries ends 5 q → Gives r entries ends 6 w
    → a ≡ audited p (record { heap = tables k f c s o q w; room = length before }) → after ≡ differences_after p (tables k f c s o q w) before
    → DifferencesOf r entries ends a (after ++ rest)
unfolding differences_after
heap_differences r entries ends k f c s o q w p a before after rest gk gf gc gs go gq gw is wrote = λ x h none.
    let given : Heap = heap_given x in
    let same : tables k f c s o q w ≡ given =
    λ i. tables (gk.given x h i) (gf.given x h i) (gc.given x h i) (gs.given x h i) (go.given x h i) (gq.given x h i) (gw.given x h i) in
    let taken : (eqb (refusal_of p) 0 && admitted (record { heap = given; room = length before })) ≡ true =
    not_refused p (record { heap = given; room = length before })
    (ap (λ (m : Heap). (audited p (record { heap = m; room = length before })).refused) (sym same) ∙ ap (λ (b : Audited). b.refused) (sym is) ∙ none) in
    let all : after ≡ differences given =
    wrote ∙ ap (λ (m : Heap). differences_after p m before) same ∙ ap (λ (b : Bool). cond b (differences given) before) taken in
    ap (λ (d : List ℤ). take (cells given) (d ++ rest)) all
    ∙ ap (λ (m : ℕ). take m (differences given ++ rest)) (sym (length-listed (difference given) (cells given)))
    ∙ take-append_seam (differences given) rest
