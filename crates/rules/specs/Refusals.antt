-- The calls, and document 01's "Refusal numbers", with Q-5 of document 02, in two forms: the paper's table as it reads, `Why`, and a test that computes,
-- `refusal_lent`. The crate `laws` proves that they agree.
-- Assumes nothing: these are definitions.
use Rattle.std.specs.Prelude.{ℕ, zero, suc, ◌<◌, List, [], ◌∷◌, Bool, true, false, not, ◌&&◌, ◌||◌, cond, ◌⊎◌, ◌≢◌, ◌≡◌, eqb, leb, ltb, length, get_or}
use Rattle.rules.specs.Lists.{every}
use Rattle.rules.specs.Heap.{Heap, cells, queued, running, kind_of, root_at, Used}
use Rattle.rules.specs.Sound.{Sized, Sound}
use Rattle.rules.specs.Check.{fits, sound}

infix 70 ◌when◌
-- FRESH and the eight calls, with their arguments in the paper's order:
-- NEW root kind finalizer; CLEAR root; COPY to-root from-root; LOAD to-root object-root slot; STORE object-root slot from-root; START root
pub data Call : Type 0 where
  FRESH : Call
  NEW : ℕ → ℕ → ℕ → Call
  CLEAR : ℕ → Call
  COPY : ℕ → ℕ → Call
  LOAD : ℕ → ℕ → ℕ → Call
  STORE : ℕ → ℕ → ℕ → Call
  COLLECT : Call
  START : ℕ → Call
  FINISH : Call

pub data Reason : Type 0 where
  SIZE DAMAGED NUMBER EMPTY KIND TAKEN FULL BUSY NONE IDLE LINE TOTAL : Reason

unfoldable pub number : Reason → ℕ
number SIZE = 1
number DAMAGED = 2
number NUMBER = 3
number EMPTY = 4
number KIND = 5
number TAKEN = 6
number FULL = 7
number BUSY = 8
number NONE = 9
number IDLE = 10
number LINE = 11
number TOTAL = 12

-- the numbers among a call's arguments that stand for roots, and those that stand for slots
unfoldable pub root_numbers : Call → List ℕ
root_numbers FRESH = []
root_numbers (NEW r k f) = r ∷ []
root_numbers (CLEAR r) = r ∷ []
root_numbers (COPY to from) = to ∷ from ∷ []
root_numbers (LOAD to o s) = to ∷ o ∷ []
root_numbers (STORE o s from) = o ∷ from ∷ []
root_numbers COLLECT = []
root_numbers (START r) = r ∷ []
root_numbers FINISH = []

unfoldable pub slot_numbers : Call → List ℕ
slot_numbers FRESH = []
slot_numbers (NEW r k f) = []
slot_numbers (CLEAR r) = []
slot_numbers (COPY to from) = []
slot_numbers (LOAD to o s) = s ∷ []
slot_numbers (STORE o s from) = s ∷ []
slot_numbers COLLECT = []
slot_numbers (START r) = []
slot_numbers FINISH = []

-- The paper's table: each number and when it is given, to a call on the heap h that is lent the table `lent` for the cells that it frees.
pub data Why : Reason → Heap → List ℕ → Call → Type 0 where
  -- 1 SIZE: "N is not 1 to 1,024, or the tables' lengths don't fit N"
  unsized : {h : Heap} {lent : List ℕ} {call : Call} → ¬ Sized h → Why SIZE h lent call
  -- document 02, Q-5: "each call except FRESH takes one more lent table of N entries, else SIZE"
  lent_size : {h : Heap} {lent : List ℕ} {call : Call} → call ≢ FRESH → length lent ≢ cells h → Why SIZE h lent call
  -- 2 DAMAGED: "the heap is not sound"; "FRESH gives only SIZE"
  unsound : {h : Heap} {lent : List ℕ} {call : Call} → call ≢ FRESH → ¬ Sound h → Why DAMAGED h lent call
  -- 3 NUMBER: "a root above 63, a slot above 7, a kind not 1 to 3, a finalizer wish above 1, or 1 for a non-object"
  high_root : {h : Heap} {lent : List ℕ} {call : Call} (i : ℕ) → 63 < get_or (root_numbers call) i 0 → Why NUMBER h lent call
  high_slot : {h : Heap} {lent : List ℕ} {call : Call} (i : ℕ) → 7 < get_or (slot_numbers call) i 0 → Why NUMBER h lent call
  bad_kind : {h : Heap} {lent : List ℕ} {r k f : ℕ} → (k ≡ 0) ⊎ (3 < k) → Why NUMBER h lent (NEW r k f)
  bad_wish : {h : Heap} {lent : List ℕ} {r k f : ℕ} → 1 < f → Why NUMBER h lent (NEW r k f)
  not_object : {h : Heap} {lent : List ℕ} {r k f : ℕ} → f ≡ 1 → k ≢ 1 → Why NUMBER h lent (NEW r k f)
  -- 4 EMPTY: "the root that should hold an object is empty"
  load_empty : {h : Heap} {lent : List ℕ} {to o s : ℕ} → root_at h o ≡ 0 → Why EMPTY h lent (LOAD to o s)
  store_empty : {h : Heap} {lent : List ℕ} {o s from : ℕ} → root_at h o ≡ 0 → Why EMPTY h lent (STORE o s from)
  -- 5 KIND: "it holds a string or buffer"
  load_kind : {h : Heap} {lent : List ℕ} {to o s c : ℕ} → root_at h o ≡ suc c → (kind_of h c ≡ 2) ⊎ (kind_of h c ≡ 3) → Why KIND h lent (LOAD to o s)
  store_kind : {h : Heap} {lent : List ℕ} {o s from c : ℕ} → root_at h o ≡ suc c → (kind_of h c ≡ 2) ⊎ (kind_of h c ≡ 3) → Why KIND h lent (STORE o s from)
  -- 6 TAKEN: "the root for NEW or START is not empty"
  new_taken : {h : Heap} {lent : List ℕ} {r k f : ℕ} → root_at h r ≢ 0 → Why TAKEN h lent (NEW r k f)
  start_taken : {h : Heap} {lent : List ℕ} {r : ℕ} → root_at h r ≢ 0 → Why TAKEN h lent (START r)
  -- 7 FULL: "NEW, and no cell is free"
  full : {h : Heap} {lent : List ℕ} {r k f : ℕ} → ((c : ℕ) → c < cells h → Used h c) → Why FULL h lent (NEW r k f)
  -- 8 BUSY: "START while one is running"
  busy : {h : Heap} {lent : List ℕ} {r : ℕ} → running h ≢ 0 → Why BUSY h lent (START r)
  -- 9 NONE: "START with an empty queue"
  none : {h : Heap} {lent : List ℕ} {r : ℕ} → queued h ≡ 0 → Why NONE h lent (START r)
  -- 10 IDLE: "FINISH with none running"
  idle : {h : Heap} {lent : List ℕ} → running h ≡ 0 → Why IDLE h lent FINISH

-- a reason, and a test whether it is given
pub record Condition : Type 0 where
  pub reason : Reason
  pub given : Bool

abbrev pub ◌when◌ : Reason → Bool → Condition
r when b = record { reason = r; given = b }

-- "Several at once: the lowest number"; 0 for not refused. The conditions stand in order of their numbers
unfoldable pub lowest : List Condition → ℕ
lowest [] = 0
lowest (k ∷ l) = cond k.given (number k.reason) (lowest l)

-- the cell that NEW takes: the number of entries before the first 0, which is N where there is none
unfoldable pub lowest_free : List ℕ → ℕ
lowest_free [] = 0
lowest_free (zero ∷ l) = 0
lowest_free (suc k ∷ l) = suc (lowest_free l)

-- kinds 1 to 3, wishes 0 and 1, and a wish only for an object
unfoldable pub new_ok : ℕ → ℕ → Bool
new_ok k f = every (leb 1 k ∷ leb k 3 ∷ leb f 1 ∷ (eqb f 0 || eqb k 1) ∷ [])

-- does a reference name an object
unfoldable pub object_ok : Heap → ℕ → Bool
object_ok h zero = false
object_ok h (suc c) = eqb (kind_of h c) 1

-- the conditions for a refusal on a heap that fits and is sound
unfoldable pub conditions : Heap → Call → List Condition
conditions h FRESH = []
conditions h (NEW r k f) = NUMBER when not (ltb r 64 && new_ok k f) ∷ TAKEN when not (eqb (root_at h r) 0) ∷ FULL when eqb (lowest_free h.kind) (cells h) ∷ []
conditions h (CLEAR r) = NUMBER when not (ltb r 64) ∷ []
conditions h (COPY to from) = NUMBER when not (ltb to 64 && ltb from 64) ∷ []
conditions h (LOAD to o s) = NUMBER when not (ltb to 64 && ltb o 64 && ltb s 8) ∷ EMPTY when eqb (root_at h o) 0 ∷ KIND when not (object_ok h (root_at h o)) ∷ []
conditions h (STORE o s from) = NUMBER when not (ltb o 64 && ltb s 8 && ltb from 64) ∷ EMPTY when eqb (root_at h o) 0 ∷ KIND when not (object_ok h (root_at h o)) ∷ []
conditions h COLLECT = []
conditions h (START r) = NUMBER when not (ltb r 64) ∷ TAKEN when not (eqb (root_at h r) 0) ∷ BUSY when not (eqb (running h) 0) ∷ NONE when eqb (queued h) 0 ∷ []
conditions h FINISH = IDLE when eqb (running h) 0 ∷ []

unfoldable pub is_fresh : Call → Bool
is_fresh FRESH = true
is_fresh (NEW r k f) = false
is_fresh (CLEAR r) = false
is_fresh (COPY to from) = false
is_fresh (LOAD to o s) = false
is_fresh (STORE o s from) = false
is_fresh COLLECT = false
is_fresh (START r) = false
is_fresh FINISH = false

-- why a call is refused on a heap that fits and is sound
unfoldable pub refusal_sound : Heap → Call → ℕ
refusal_sound h call = lowest (conditions h call)

-- why a call is refused on any tables of a heap, lent a table of N entries if it takes one: SIZE and DAMAGED come first
unfoldable pub refusal : Heap → Call → ℕ
refusal h call = lowest (SIZE when not (fits h) ∷ DAMAGED when (not (is_fresh call) && not (sound h)) ∷ conditions h call)

-- Q-5: "each call except FRESH takes one more lent table of N entries"
unfoldable pub lent_fits : Heap → List ℕ → Call → Bool
lent_fits h lent call = is_fresh call || eqb (length lent) (cells h)

-- "else SIZE", which is the lowest number: why a call is refused on any tables
unfoldable pub refusal_lent : Heap → List ℕ → Call → ℕ
refusal_lent h lent call = cond (lent_fits h lent call) (refusal h call) (number SIZE)
