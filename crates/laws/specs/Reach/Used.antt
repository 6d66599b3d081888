-- What is referred to is in use, so a cell that roots and queue reach is in use.
-- Assumes nothing.
use Rattle.std.specs.Prelude.{ℕ, suc, ◌+◌, ◌*◌, ◌≤◌, List}
use Rattle.std.proofs.Math.Decide.{ℕ_discrete}
use Rattle.std.proofs.Common.{arith}
use Rattle.rules.specs.Lists.{occ}
use Rattle.rules.specs.Heap.{Heap, kind_of, entries, Used}
use Rattle.rules.specs.Reach.{Holds, Link, Chain, Reached}
use Rattle.rules.specs.Reach.Chain.{root, entry, further}
use Rattle.laws.specs.Lists.Tables.{inside}
use Rattle.laws.specs.Lists.Occ.{occ_at}
use Rattle.laws.specs.Sound.But.{SoundBut, referred_used}

-- a reference that stands in a table is counted there
pub holds_occ : (table : List ℕ) (i c : ℕ) → Holds table i c → 1 ≤ occ (suc c) table
holds_occ table i c e = occ_at (suc c) table i (inside table i (omega arith)) e

module _ (h : Heap) (extra : List ℕ) (s : SoundBut h extra) where
  pub root_used : (i c : ℕ) → Holds h.roots i c → Used h c
  root_used i c e = referred_used h extra s c (omega (arith, holds_occ h.roots i c e))

  pub slot_used : (i c : ℕ) → Holds h.slots i c → Used h c
  slot_used i c e = referred_used h extra s c (omega (arith, holds_occ h.slots i c e))

  pub entry_used : (i c : ℕ) → Holds (entries h) i c → Used h c
  entry_used i c e = referred_used h extra s c (omega (arith, holds_occ (entries h) i c e))

  pub link_used : (p c : ℕ) → Link h.slots p c → Used h c
  link_used p c k = slot_used (8 * p + k.slot) c k.holds

  -- a free cell's slots are empty, so the cell that a link goes from is used
  pub link_owner : (p c : ℕ) → Link h.slots p c → Used h p
  link_owner p c k = elim (ℕ_discrete (kind_of h p) 0) [ yes z ↦ absurd (omega (arith, s.shaped.free_slots p k.slot k.in_cell z, k.holds)) | no n ↦ omega arith ]

  -- by the slots as they stand, or as they stood: it is enough that a used cell's lead to used cells
  pub chain_used : (slots : List ℕ) → ((p c : ℕ) → Used h p → Link slots p c → Used h c) → (c : ℕ) → Chain h.roots (entries h) slots c → Used h c
  chain_used slots step c (root i e) = root_used i c e
  chain_used slots step c (entry i e) = entry_used i c e
  chain_used slots step c (further {p} r k) = step p c (chain_used slots step p r) k

  pub reached_used : (c : ℕ) → Reached h c → Used h c
  reached_used c r = chain_used h.slots (λ p d u k. link_used p d k) c r
