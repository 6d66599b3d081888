-- Why each call is refused, by the tests that a program makes in order, on a heap that fits and is sound.
-- Assumes nothing.
use Rattle.std.specs.Prelude.{ℕ, zero, suc, ◌-◌, ◌≤◌, ◌<◌, List, [], ◌∷◌, true, false, ◌&&◌, ◌||◌, ◌≢◌, ◌≡◌, eqb, leb, length, get_or}
use Rattle.std.proofs.Common.{arith, sym, ap}
use Rattle.std.proofs.Math.Bool.{and-false}
use Rattle.std.proofs.Math.Path.{refl}
use Rattle.std.proofs.Math.Dec.{ltb}
use borrow.Author.Tests.{lt-ltb, le-ltb, eq-eqb, ne_eqb, lt-leb, le-leb}
use Rattle.rules.specs.Lists.{every}
use Rattle.rules.specs.Heap.{Heap, cells, queued, running, kind_of, root_at}
use Rattle.rules.specs.Refusals.{number, lowest, lowest_free, new_ok, object_ok, conditions, refusal_sound}
use Rattle.rules.specs.Refusals.Call.{NEW, CLEAR, COPY, LOAD, STORE, COLLECT, START, FINISH}
use Rattle.rules.specs.Calls.{held}

-- the cell that a search for a free one stops at
pub lowest_is : (l : List ℕ) (c : ℕ) → c ≤ length l → ((d : ℕ) → d < c → get_or l d 0 ≢ 0) → (c < length l → get_or l c 0 ≡ 0) → c ≡ lowest_free l
unfolding lowest_free
lowest_is [] zero b used free = refl
lowest_is [] (suc c) b used free = absurd (omega arith)
lowest_is (zero ∷ l) zero b used free = refl
lowest_is (suc k ∷ l) zero b used free = absurd (omega (arith, free (omega arith)))
lowest_is (zero ∷ l) (suc c) b used free = absurd (used 0 (omega arith) refl)
lowest_is (suc k ∷ l) (suc c) b used free = ap suc (lowest_is l c (omega arith) (λ d m. used (suc d) (omega arith)) (λ m. free (omega arith)))

-- what NEW can make, kind by kind
pub new_object : (k f : ℕ) → k ≡ 1 → ltb f 2 ≡ new_ok k f
unfolding new_ok every
new_object k f e = rw e (wish f)
  where
    wish : (f : ℕ) → ltb f 2 ≡ (leb f 1 && ((eqb f 0 || true) && true))
    wish zero = refl
    wish (suc zero) = refl
    wish (suc (suc f)) = rw (le-ltb (suc (suc f)) 2 (omega arith), lt-leb (suc (suc f)) 1 (omega arith)) refl

pub new_none : (k f : ℕ) → k ≡ 0 → false ≡ new_ok k f
unfolding new_ok every
new_none k f e = rw e refl

pub new_high : (k f : ℕ) → 3 < k → false ≡ new_ok k f
unfolding new_ok every
new_high k f l = rw (lt-leb k 3 l) (sym (and-false (leb 1 k)))

pub new_plain : (k f : ℕ) → k ≢ 1 → k ≢ 0 → k ≤ 3 → eqb f 0 ≡ new_ok k f
unfolding new_ok every
new_plain k f o z l = rw (le-leb 1 k (omega arith), le-leb k 3 l, ne_eqb k 1 o) (wish f)
  where
    wish : (f : ℕ) → eqb f 0 ≡ (leb f 1 && ((eqb f 0 || false) && true))
    wish zero = refl
    wish (suc zero) = refl
    wish (suc (suc f)) = rw (lt-leb (suc (suc f)) 1 (omega arith), ne_eqb (suc (suc f)) 0 (λ e. omega arith)) refl

-- the object that a reference names, by the cell's number
object_kind : (h : Heap) (x : ℕ) → x ≢ 0 → object_ok h x ≡ eqb (kind_of h (x - 1)) 1
unfolding object_ok
object_kind h zero n = absurd (n refl)
object_kind h (suc c) n = let e : suc c - 1 ≡ c = omega arith in rw e refl

module _ (h : Heap) where
  -- ---- NEW

  module _ (r k f : ℕ) where
    pub new_root : 64 ≤ r → refusal_sound h (NEW r k f) ≡ 3
    unfolding refusal_sound conditions lowest number
    new_root l = rw (le-ltb r 64 l) refl

    pub new_number : new_ok k f ≡ false → refusal_sound h (NEW r k f) ≡ 3
    unfolding refusal_sound conditions lowest number
    new_number e = rw (e, and-false (ltb r 64)) refl

    module _ (small : r < 64) (ok : new_ok k f ≡ true) where
      pub new_taken_lem : root_at h r ≢ 0 → refusal_sound h (NEW r k f) ≡ 6
      unfolding refusal_sound conditions lowest number
      new_taken_lem t = rw (lt-ltb r 64 small, ok, ne_eqb (root_at h r) 0 t) refl

      pub new_full : root_at h r ≡ 0 → lowest_free h.kind ≡ cells h → refusal_sound h (NEW r k f) ≡ 7
      unfolding refusal_sound conditions lowest number
      new_full t e = rw (lt-ltb r 64 small, ok, t, eq-eqb (lowest_free h.kind) (cells h) e) refl

      pub new_goes : root_at h r ≡ 0 → lowest_free h.kind ≢ cells h → refusal_sound h (NEW r k f) ≡ 0
      unfolding refusal_sound conditions lowest
      new_goes t e = rw (lt-ltb r 64 small, ok, t, ne_eqb (lowest_free h.kind) (cells h) e) refl

  -- ---- CLEAR and COPY

  pub clear_number : (r : ℕ) → 64 ≤ r → refusal_sound h (CLEAR r) ≡ 3
  unfolding refusal_sound conditions lowest number
  clear_number r l = rw (le-ltb r 64 l) refl

  pub clear_goes : (r : ℕ) → r < 64 → refusal_sound h (CLEAR r) ≡ 0
  unfolding refusal_sound conditions lowest
  clear_goes r l = rw (lt-ltb r 64 l) refl

  pub copy_to : (to from : ℕ) → 64 ≤ to → refusal_sound h (COPY to from) ≡ 3
  unfolding refusal_sound conditions lowest number
  copy_to to from l = rw (le-ltb to 64 l) refl

  pub copy_from : (to from : ℕ) → 64 ≤ from → refusal_sound h (COPY to from) ≡ 3
  unfolding refusal_sound conditions lowest number
  copy_from to from l = rw (le-ltb from 64 l, and-false (ltb to 64)) refl

  pub copy_goes : (to from : ℕ) → to < 64 → from < 64 → refusal_sound h (COPY to from) ≡ 0
  unfolding refusal_sound conditions lowest
  copy_goes to from l m = rw (lt-ltb to 64 l, lt-ltb from 64 m) refl

  -- ---- LOAD

  module _ (to o s : ℕ) where
    pub load_to : 64 ≤ to → refusal_sound h (LOAD to o s) ≡ 3
    unfolding refusal_sound conditions lowest number
    load_to l = rw (le-ltb to 64 l) refl

    pub load_object : 64 ≤ o → refusal_sound h (LOAD to o s) ≡ 3
    unfolding refusal_sound conditions lowest number
    load_object l = rw (le-ltb o 64 l, and-false (ltb to 64)) refl

    pub load_slot : 8 ≤ s → refusal_sound h (LOAD to o s) ≡ 3
    unfolding refusal_sound conditions lowest number
    load_slot l = rw (le-ltb s 8 l, and-false (ltb to 64 && ltb o 64)) refl

    module _ (a : to < 64) (b : o < 64) (c : s < 8) where
      pub load_empty_lem : root_at h o ≡ 0 → refusal_sound h (LOAD to o s) ≡ 4
      unfolding refusal_sound conditions lowest number
      load_empty_lem e = rw (lt-ltb to 64 a, lt-ltb o 64 b, lt-ltb s 8 c, e) refl

      pub load_kind_lem : root_at h o ≢ 0 → kind_of h (held h o) ≢ 1 → refusal_sound h (LOAD to o s) ≡ 5
      unfolding refusal_sound conditions lowest number
      load_kind_lem e n = rw (lt-ltb to 64 a, lt-ltb o 64 b, lt-ltb s 8 c, ne_eqb (root_at h o) 0 e, object_kind h (root_at h o) e, ne_eqb (kind_of h (held h o)) 1 n) refl

      pub load_goes : root_at h o ≢ 0 → kind_of h (held h o) ≡ 1 → refusal_sound h (LOAD to o s) ≡ 0
      unfolding refusal_sound conditions lowest
      load_goes e n = rw (lt-ltb to 64 a, lt-ltb o 64 b, lt-ltb s 8 c, ne_eqb (root_at h o) 0 e, object_kind h (root_at h o) e, n) refl

  -- ---- STORE

  module _ (o s from : ℕ) where
    pub store_object : 64 ≤ o → refusal_sound h (STORE o s from) ≡ 3
    unfolding refusal_sound conditions lowest number
    store_object l = rw (le-ltb o 64 l) refl

    pub store_slot : 8 ≤ s → refusal_sound h (STORE o s from) ≡ 3
    unfolding refusal_sound conditions lowest number
    store_slot l = rw (le-ltb s 8 l, and-false (ltb o 64)) refl

    pub store_from : 64 ≤ from → refusal_sound h (STORE o s from) ≡ 3
    unfolding refusal_sound conditions lowest number
    store_from l = rw (le-ltb from 64 l, and-false (ltb o 64 && ltb s 8)) refl

    module _ (a : o < 64) (b : s < 8) (c : from < 64) where
      pub store_empty_lem : root_at h o ≡ 0 → refusal_sound h (STORE o s from) ≡ 4
      unfolding refusal_sound conditions lowest number
      store_empty_lem e = rw (lt-ltb o 64 a, lt-ltb s 8 b, lt-ltb from 64 c, e) refl

      pub store_kind_lem : root_at h o ≢ 0 → kind_of h (held h o) ≢ 1 → refusal_sound h (STORE o s from) ≡ 5
      unfolding refusal_sound conditions lowest number
      store_kind_lem e n = rw (lt-ltb o 64 a, lt-ltb s 8 b, lt-ltb from 64 c, ne_eqb (root_at h o) 0 e, object_kind h (root_at h o) e, ne_eqb (kind_of h (held h o)) 1 n) refl

      pub store_goes : root_at h o ≢ 0 → kind_of h (held h o) ≡ 1 → refusal_sound h (STORE o s from) ≡ 0
      unfolding refusal_sound conditions lowest
      store_goes e n = rw (lt-ltb o 64 a, lt-ltb s 8 b, lt-ltb from 64 c, ne_eqb (root_at h o) 0 e, object_kind h (root_at h o) e, n) refl

  -- ---- COLLECT, START and FINISH

  pub collect_goes : refusal_sound h COLLECT ≡ 0
  unfolding refusal_sound conditions lowest
  collect_goes = refl

  module _ (r : ℕ) where
    pub start_number : 64 ≤ r → refusal_sound h (START r) ≡ 3
    unfolding refusal_sound conditions lowest number
    start_number l = rw (le-ltb r 64 l) refl

    module _ (l : r < 64) where
      pub start_taken_lem : root_at h r ≢ 0 → refusal_sound h (START r) ≡ 6
      unfolding refusal_sound conditions lowest number
      start_taken_lem t = rw (lt-ltb r 64 l, ne_eqb (root_at h r) 0 t) refl

      module _ (t : root_at h r ≡ 0) where
        pub start_busy : running h ≢ 0 → refusal_sound h (START r) ≡ 8
        unfolding refusal_sound conditions lowest number
        start_busy b = rw (lt-ltb r 64 l, t, ne_eqb (running h) 0 b) refl

        pub start_none : running h ≡ 0 → queued h ≡ 0 → refusal_sound h (START r) ≡ 9
        unfolding refusal_sound conditions lowest number
        start_none b q = rw (lt-ltb r 64 l, t, b, q) refl

        pub start_goes : running h ≡ 0 → queued h ≢ 0 → refusal_sound h (START r) ≡ 0
        unfolding refusal_sound conditions lowest
        start_goes b q = rw (lt-ltb r 64 l, t, b, ne_eqb (queued h) 0 q) refl

  pub finish_idle : running h ≡ 0 → refusal_sound h FINISH ≡ 10
  unfolding refusal_sound conditions lowest number
  finish_idle b = rw b refl

  pub finish_goes : running h ≢ 0 → refusal_sound h FINISH ≡ 0
  unfolding refusal_sound conditions lowest
  finish_goes b = rw (ne_eqb (running h) 0 b) refl
