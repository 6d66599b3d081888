-- On a sound heap every used cell is reached exactly if no loose cells stand in a ring.
-- A loose cell is counted at least once, so another loose cell refers to it; the cells are finitely many, so a walk backwards comes round.
-- Assumes nothing.
use Rattle.std.specs.Prelude.{ℕ, zero, suc, ◌+◌, ◌*◌, ◌/◌, ◌%◌, ◌<◌, List, [], ◌≡◌, ◌≢◌, ◌↔◌, ◌⊎◌, length, get_or, set, replicate}
use Rattle.std.proofs.Math.Decide.{ℕ_discrete}
use Rattle.std.proofs.Common.{arith, sym, inl, inr, length-set, get_or-set_other}
use Rattle.std.proofs.Math.Logic.{by_cases}
use Rattle.std.proofs.lemmas.List.{length-replicate}
use Rattle.rules.specs.Lists.{occ}
use Rattle.rules.specs.Heap.{Heap, cells, entries}
use Rattle.rules.specs.Reach.{Holds, Link, Reached, Exact, Loose, LooseChain, LooseRing}
use Rattle.rules.specs.Reach.Chain.{root, entry, further}
use Rattle.rules.specs.Reach.LooseChain.{one, more}
use Rattle.laws.specs.Lists.Tables.{inside, get_or-zeros}
use Rattle.laws.specs.Lists.Occ.{Stands, occ_nil, occ_find, occ_none, occ-set, occ-length, occ_one, occ_other}
use Rattle.laws.specs.Sound.But.{SoundBut}
use Rattle.laws.specs.Reach.Used.{link_owner, reached_used}

-- a loose cell that refers to c
record Before (h : Heap) (c : ℕ) : Type 0 where
  cell : ℕ
  loose : Loose h cell
  link : Link h.slots cell c

module _ (h : Heap) (s : SoundBut h []) where
  before : (c : ℕ) → Loose h c → Before h c
  before c l =
      let inRoots : occ (suc c) h.roots ≡ 0 = occ_none (suc c) h.roots (λ i b e. l.unreached (root i e)) in
      let inQueue : occ (suc c) (entries h) ≡ 0 = occ_none (suc c) (entries h) (λ i b e. l.unreached (entry i e)) in
      let slot : Stands (suc c) h.slots = occ_find (suc c) h.slots (omega (arith, s.counted c, s.positive c l.used, occ_nil (suc c))) in
      let split : 8 * (slot.at / 8) + slot.at % 8 ≡ slot.at = omega arith in
      let holds : Holds h.slots (8 * (slot.at / 8) + slot.at % 8) c = rw split slot.is in
      let link : Link h.slots (slot.at / 8) c = record { slot = slot.at % 8; in_cell = omega arith; holds = holds } in
      record {
        cell = slot.at / 8;
        loose = record { used = link_owner h [] s (slot.at / 8) c link; unreached = λ r. l.unreached (further r link) };
        link = link;
      }

  -- the walk: every marked cell is the cell b where it stands, or a chain leads to it from there
  walk : (fuel : ℕ) (m : List ℕ) (b : ℕ) → occ 0 m < fuel → length m ≡ cells h → Loose h b
      → ((v : ℕ) → get_or m v 0 ≢ 0 → (v ≡ b) ⊎ LooseChain h b v) → LooseRing h
  walk zero m b fewer len l known = absurd (omega arith)
  walk (suc fuel) m b fewer len l known =
      let p : Before h b = before b l in
      by_cases (ℕ_discrete (get_or m p.cell 0) 0)
      (λ fresh.
      let in_range : p.cell < length m = omega (arith, inside h.kind p.cell p.loose.used) in
      walk fuel (set m p.cell 1) p.cell
      (omega (arith, occ-set 0 m p.cell 1 in_range, occ_one 0 (get_or m p.cell 0) (sym fresh), occ_other 0 1 (omega arith)))
      (omega (arith, length-set m p.cell 1)) p.loose
      (λ v n. by_cases (ℕ_discrete v p.cell) (λ e. inl e)
      (λ ne. inr (extend p v (known v (λ z. n (omega (arith, get_or-set_other m p.cell v 1 0 ne))))))))
      (λ seen. record { cell = p.cell; around = extend p p.cell (known p.cell seen) })
    where
      extend : (p : Before h b) (v : ℕ) → (v ≡ b) ⊎ LooseChain h b v → LooseChain h p.cell v
      extend p v (inl e) = rw e (one p.loose p.link l)
      extend p v (inr k) = more p.loose p.link k

  loose_ring : (c : ℕ) → Loose h c → LooseRing h
  loose_ring c l =
      walk (suc (cells h)) (replicate (cells h) 0) c
      (omega (arith, occ-length 0 (replicate (cells h) 0), length-replicate {A = ℕ} (cells h) 0))
      (length-replicate (cells h) 0) l (λ v n. absurd (n (get_or-zeros (cells h) v)))

-- the first cell of a chain is loose
ring_loose : (h : Heap) {a b : ℕ} → LooseChain h a b → Loose h a
ring_loose h (one l k m) = l
ring_loose h (more l k r) = l

-- without a sweep: just the reached cells are in use exactly when there is no loose ring
pub exact_ring : (h : Heap) → SoundBut h [] → ((c : ℕ) → Dec (Reached h c)) → Exact h ↔ ¬ LooseRing h
exact_ring h s dec = (no_ring, exact)
  where
    no_ring : Exact h → ¬ LooseRing h
    no_ring e r =
        let l : Loose h r.cell = ring_loose h r.around in
        l.unreached ((e r.cell).0 l.used)

    exact : ¬ LooseRing h → Exact h
    exact n c = (λ u. by_cases (dec c) (λ r. r) (λ f. absurd (n (loose_ring h s c (record { used = u; unreached = f })))), reached_used h [] s c)
