-- The phases of COLLECT as loops take them: over two lists of cells, one after the other.
-- Assumes nothing.
use Rattle.std.specs.Prelude.{ℕ, zero, suc, List, [], ◌∷◌, ◌++◌, ◌≡◌, refl}
use Rattle.rules.specs.Heap.{Heap, count_of, slots_of, set_count, set_flags, enqueue, wipe}
use Rattle.rules.specs.Release.{decremented}
use Rattle.rules.specs.Collect.{enqueue_all, lower_all, unlink_all, wipe_all, rescue_all}

pub enqueue-append : (h : Heap) (l m : List ℕ) → enqueue_all h (l ++ m) ≡ enqueue_all (enqueue_all h l) m
unfolding enqueue_all
enqueue-append h [] m = refl
enqueue-append h (c ∷ l) m = enqueue-append (set_count (enqueue h c) c (suc (count_of h c))) l m

pub lower-append : (h : Heap) (l m : List ℕ) → lower_all h (l ++ m) ≡ lower_all (lower_all h l) m
unfolding lower_all
lower-append h [] m = refl
lower-append h (zero ∷ l) m = lower-append h l m
lower-append h (suc c ∷ l) m = lower-append (set_count h c (decremented (count_of h c))) l m

pub unlink_append : (h : Heap) (l m : List ℕ) → unlink_all h (l ++ m) ≡ unlink_all (unlink_all h l) m
unfolding unlink_all
unlink_append h [] m = refl
unlink_append h (c ∷ l) m = unlink_append (lower_all h (slots_of h.slots c)) l m

pub wipe-append : (h : Heap) (l m : List ℕ) → wipe_all h (l ++ m) ≡ wipe_all (wipe_all h l) m
unfolding wipe_all
wipe-append h [] m = refl
wipe-append h (c ∷ l) m = wipe-append (wipe h c) l m

pub rescue_append : (h : Heap) (l m : List ℕ) → rescue_all h (l ++ m) ≡ rescue_all (rescue_all h l) m
unfolding rescue_all
rescue_append h [] m = refl
rescue_append h (c ∷ l) m = rescue_append (set_flags h c 1) l m
