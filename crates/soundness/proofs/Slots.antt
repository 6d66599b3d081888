-- The loop that tallies the slots of all cells: its invariant, at the start, after a turn, and at the end.
-- Assumes nothing.
use Prim.Native.Nat.{ℕ, ◌≤◌, ◌<◌, ◌+◌, ◌*◌, ◌-◌}
use native.Mathlib.Omega.{arith}
use mathlib.Core.List.{List, []}
use mathlib.Core.Bool.{true, false}
use mathlib.Core.Logic.{◌≢◌}
use mathlib.Core.Path.{◌≡◌, refl, sym, ◌∙◌, ap}
use lib.ListN.{length, get_or, take, drop}
use lib.Seq.{take_all}
use lib.Dec.{eqb}
use borrow.Author.Tests.{eq-eqb, ne_eqb, eqb-true}
use borrow.Author.Count.{below_none, below_more}
use Rattle.rules.specs.Lists.{all, below, dangling}
use Rattle.rules.specs.Heap.{slots_of}
use Rattle.laws.specs.Lists.Tests.{tests_agree, clash, below_all, below_at}
use Rattle.laws.specs.Sound.Tally.{counters, Tallied, TallyRoom, dangling-length, tallied_none, tallied_zeros, tallied_part, room_after, less_room}
use Rattle.std.specs.Simd.{first_chunks}
use Rattle.tally.specs.Tallies.{Tallies}
use Rattle.tally.proofs.Chunks.{chunk_at}
use Rattle.soundness.specs.Tests.{slots_ok, slots_at, CellTallied}

-- slotsOk of an object, and of another cell
pub of_object : (n k : ℕ) (s : List ℕ) → k ≡ 1 → slots_ok n k s ≡ eqb (dangling n s) 0
unfolding slots_ok
of_object n k s e = rw (eq-eqb k 1 e) refl

pub of_other : (n k : ℕ) (s : List ℕ) → k ≢ 1 → slots_ok n k s ≡ all (eqb 0) s
unfolding slots_ok
of_other n k s e = rw (ne_eqb k 1 e) refl

-- the ways out of one cell: an object; another cell with empty slots, and with others
module _ (before : List ℕ) (k : ℕ) (s : List ℕ) (wrong : ℕ) where
  pub object_tallied : (after : List ℕ) (r : ℕ) → k ≡ 1 → length s ≡ 8 → Tallies before s after wrong r → CellTallied before after k s wrong r
  object_tallied after r o size t =
      let same = of_object (counters before) k s o in
      record {
        more = omega (arith, t.0);
        most = omega (arith, t.0, dangling-length (counters before) s);
        room = λ j room. room_after j t.1 (less_room (8 + j) _ (omega arith) room);
        right = λ q. (same ∙ eq-eqb (dangling (counters before) s) 0 (omega (arith, t.0)), t.1);
        bad = λ p. omega (arith, t.0, eqb-true (dangling (counters before) s) 0 (sym same ∙ p));
      }

  pub empty_tallied : k ≢ 1 → all (eqb 0) s ≡ true → CellTallied before before k s wrong wrong
  empty_tallied o e =
      record {
        more = omega arith;
        most = omega arith;
        room = λ j room. less_room (8 + j) j (omega arith) room;
        right = λ q. (of_other (counters before) k s o ∙ e, tallied_zeros before s e);
        bad = λ t. refl;
      }

  pub fault_tallied : k ≢ 1 → all (eqb 0) s ≡ false → CellTallied before before k s wrong (wrong + 1)
  fault_tallied o e =
      record {
        more = omega arith;
        most = omega arith;
        room = λ j room. less_room (8 + j) j (omega arith) room;
        right = λ q. absurd (omega arith);
        bad = λ t. clash (sym (of_other (counters before) k s o) ∙ t) e;
      }

-- the part of the slots from 8c to 8c + 8
part : (slots : List ℕ) (c : ℕ) → take (8 * c + 8 - 8 * c) (drop (8 * c) slots) ≡ slots_of slots c
unfolding slots_of
part slots c =
    let e : 8 * c + 8 - 8 * c ≡ 8 = omega arith in
    rw e refl

-- the slots cut into eights are the cells'
pub cell_slots : (slots : List ℕ) (n c : ℕ) → c < n → get_or (first_chunks 8 n slots) c [] ≡ slots_of slots c
unfolding slots_of
cell_slots slots n c m = chunk_at 8 n c slots m

-- after c cells: if nothing is wrong so far, their slots are as they may be and tallied, and the other way round
pub record Slotting (whole kind slots tally : List ℕ) (wrong c : ℕ) : Type 0 where
  pub bound : c ≤ length kind
  pub size : length tally ≡ length whole
  pub few : wrong ≤ 8 * c
  pub room : TallyRoom tally (8 * (length kind - c))
  pub is : wrong ≡ 0 → Tallied whole (take (8 * c) slots) tally
  pub passed : wrong ≡ 0 → (d : ℕ) → d < c → slots_at (counters whole) kind slots d ≡ true
  pub right : ((d : ℕ) → d < c → slots_at (counters whole) kind slots d ≡ true) → wrong ≡ 0

pub slots_begin : (whole kind slots : List ℕ) → length slots ≡ 8 * length kind → TallyRoom whole (length slots) → Slotting whole kind slots whole 0 0
slots_begin whole kind slots size r =
    record {
      bound = omega arith;
      size = refl;
      few = omega arith;
      room = less_room (length slots) _ (omega arith) r;
      is = λ e. tallied_none whole;
      passed = λ e. below_none _;
      right = λ f. refl;
    }

module _ {whole kind slots tally : List ℕ} {wrong c : ℕ} (size : length slots ≡ 8 * length kind) (v : Slotting whole kind slots tally wrong c) where
  pub room_eight : c < length kind → TallyRoom tally 8
  room_eight m = less_room _ 8 (omega arith) v.room

  pub slots_turn : (r : ℕ) (next : List ℕ) → c < length kind → length next ≡ length tally
      → CellTallied tally next (get_or kind c 0) (slots_of slots c) wrong r → Slotting whole kind slots next r (c + 1)
  slots_turn r next m kept t =
      let k : 8 * (c + 1) ≡ 8 * c + 8 = omega arith in
      -- what was found of the cell in the tally so far, said of the tally before
      let here : slots_ok (counters tally) (get_or kind c 0) (slots_of slots c) ≡ slots_at (counters whole) kind slots c
      = ap (λ (n : ℕ). slots_ok (n - 1) (get_or kind c 0) (slots_of slots c)) v.size in
      record {
        bound = omega arith;
        size = kept ∙ v.size;
        few = omega (arith, v.few, t.most);
        room = t.room (8 * (length kind - (c + 1))) (less_room _ _ (omega arith) v.room);
        is = λ e.
            let z : wrong ≡ 0 = omega (arith, t.more) in
            rw k (tallied_part slots (8 * c) (8 * c + 8) (omega arith) (v.is z) (rw (part slots c) (t.right (e ∙ sym z)).1));
        passed = λ e.
            let z : wrong ≡ 0 = omega (arith, t.more) in
            below_more _ _ (v.passed z) (sym here ∙ (t.right (e ∙ sym z)).0);
        right = λ f. t.bad (here ∙ f c (omega arith)) ∙ v.right (λ d l. f d (omega arith));
      }

  pub slots_done : length kind ≤ c → (eqb wrong 0 ≡ below (length kind) (slots_at (counters whole) kind slots)) × (eqb wrong 0 ≡ true → Tallied whole slots tally)
  slots_done m = (
    tests_agree _ _
        (λ t. below_all _ _ (λ d l. v.passed (eqb-true wrong 0 t) d (omega (arith, v.bound))))
        (λ t. eq-eqb wrong 0 (v.right (λ d l. below_at _ _ t d (omega (arith, v.bound))))),
    λ t. rw (take_all (8 * c) slots (omega arith)) at (v.is (eqb-true wrong 0 t)),
  )
