-- Document 02, Q-1: an input that arrives in deliveries of any size, "an empty delivery among them".
-- Assumes nothing: these are definitions.
use Rattle.std.specs.Prelude.{ℕ, zero, suc, ◌+◌, ◌*◌, ◌≤◌, ◌≡◌, List, [], ◌∷◌, ◌++◌, length, take, drop}
use Rattle.csv_text.specs.Lines.{Record, records_of}
use Rattle.csv_text.specs.Reading.{reader_start, closed, records}
use Rattle.csv_text.specs.declared.reader.Reader.{Reader}
use Rattle.rules.specs.Heap.{Heap}
use Rattle.session.specs.declared.taking.Progress.{Progress}
use Rattle.session.specs.Session.{session, after_all}
use Rattle.session.specs.Taking.{State, begun, takes, ends, BytesTaken, InputEnded}

-- Some input was taken: the reader s on the tables h became the reader t on the tables k. Whatever follows, the lines that ended are those that s gives out
-- and t no longer does; obeyed on h they leave k.
pub record Took (s : Reader) (h : Heap) (input : List ℕ) (t : Reader) (k : Heap) : Type 0 where
  pub lines : List Record
  pub read : (rest : List ℕ) → records (input ++ rest) s ≡ lines ++ records rest t
  pub heap : k ≡ after_all h lines

-- Whoever has this input still to hand in, with the reader s on the tables h, gets all of w for it and leaves the tables m.
-- A delivery is any front part of what is still to hand in, and has any room; what was not taken of it is still to hand in. When nothing is, the input
-- is ended, and ended again if the reader that comes back holds something still.
pub data Delivered : Reader → Heap → List ℕ → List ℕ → Heap → Type 0 where
  handed : {s : Reader} {h k m : Heap} (bytes later before after : List ℕ) (r : Progress) {w : List ℕ}
      → BytesTaken s h bytes before k after r
      → Delivered r.reader k (drop r.taken bytes ++ later) w m
      → Delivered s h (bytes ++ later) (take r.written after ++ w) m
  again : {s : Reader} {h k m : Heap} (before after : List ℕ) (r : Progress) {w : List ℕ}
      → InputEnded s h before k after r
      → Delivered r.reader k [] w m
      → Delivered s h [] (take r.written after ++ w) m
  ended : {s : Reader} {h k : Heap} (before after : List ℕ) (r : Progress)
      → InputEnded s h before k after r
      → r.reader ≡ reader_start
      → Delivered s h [] (take r.written after) k

-- "However the bytes are cut [..], the lines, LINE refusals and answers are those of the undivided input", and so are the tables
pub record Undivided (h : Heap) (input w : List ℕ) (m : Heap) : Type 0 where
  pub written : w ≡ session h (records_of input)
  pub heap : m ≡ after_all h (records_of input)

abbrev pub AnyDeliveries : Type 0
AnyDeliveries = (h m : Heap) (input w : List ℕ) → Delivered reader_start h input w m → Undivided h input w m

-- ---- getting on

-- With room for an answer one byte at least is taken of those that have come, and the end leaves nothing held. With room for an answer to each byte all are
-- taken; that an answer has at most 31 bytes is promised beside `BytesTaken`.
pub record GetsOn : Type 0 where
  pub takes_some : (room : ℕ) (h : Heap) (s : Reader) (bytes : List ℕ) → 31 ≤ room → 1 ≤ length bytes → 1 ≤ (takes room (begun h s) bytes).taken
  pub takes_all : (s : Reader) (h k : Heap) (bytes before after : List ℕ) (r : Progress) → BytesTaken s h bytes before k after r → r.written ≤ 31 * r.taken
      → 31 * length bytes ≤ length before → r.taken ≡ length bytes
  pub holds_nothing : (room : ℕ) (h : Heap) (s : Reader) → 31 ≤ room → (ends room h s (closed s)).reader ≡ reader_start

-- ---- delivery after delivery

-- one state behind another: what was taken and written, in all
abbrev pub behind : State → State → State
behind x y = record { heap = y.heap; reader = y.reader; taken = x.taken + y.taken; text = x.text ++ y.text }

-- a delivery is handed in n times: each time, what was not taken before
unfoldable pub used_up : ℕ → ℕ → Heap → Reader → List ℕ → State
used_up room zero h s bytes = begun h s
used_up room (suc n) h s bytes =
    let x : State = takes room (begun h s) bytes in
    behind x (used_up room n x.heap x.reader (drop x.taken bytes))

-- deliveries, each handed in as often as it has bytes, and then the end
unfoldable pub deliveries : ℕ → Heap → Reader → List (List ℕ) → State
deliveries room h s [] = ends room h s (closed s)
deliveries room h s (p ∷ ps) =
    let x : State = used_up room (length p) h s p in
    behind x (deliveries room x.heap x.reader ps)

unfoldable pub joined : List (List ℕ) → List ℕ
joined [] = []
joined (p ∷ ps) = p ++ joined ps

-- with room for an answer, whatever stands in it, any list of deliveries comes to the undivided input
abbrev pub AllDeliveries : Type 0
AllDeliveries = (h : Heap) (ps : List (List ℕ)) (out : List ℕ) → 31 ≤ length out
    → Undivided h (joined ps) (deliveries (length out) h reader_start ps).text (deliveries (length out) h reader_start ps).heap
