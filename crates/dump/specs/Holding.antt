-- How the lent arrays hold a state: the tables one after another with no gaps, and where each of them ends.
-- Assumes nothing: these are definitions.
use Rattle.std.specs.Prelude.{ℕ, zero, suc, ◌+◌, ◌≤◌, ◌<◌, ◌≡◌, List, [], ◌∷◌, ◌++◌, false, length, get_or, take}
use Rattle.dump.specs.Reading.{State, start_state, next_line, table_given}
use Rattle.dump.specs.declared.reader.Reader.{Reader}

-- how many entries tables have in all
unfoldable pub size : List (List ℕ) → ℕ
size [] = 0
size (t ∷ ts) = length t + size ts

-- the entries of all tables, one after another
unfoldable pub joined : List (List ℕ) → List ℕ
joined [] = []
joined (t ∷ ts) = t ++ joined ts

-- the arrays hold the tables of a heap that may still fit: its entries stand first, and beyond them anything
pub record Kept (s : State) (entries ends : List ℕ) : Type 0 where
  pub beyond : List ℕ
  pub stored : entries ≡ (joined s.finished ++ s.row) ++ beyond
  pub end : s.reader.end ≡ size s.finished + length s.row
  pub count : s.reader.tables ≡ length s.finished
  pub edges : (i : ℕ) → i < length s.finished → get_or ends i 0 ≡ size (take (suc i) s.finished)

-- the reader r and the arrays hold the state s; of a heap that can fit no N nothing is held but the reader
pub record Holds (s : State) (r : Reader) (entries ends : List ℕ) : Type 0 where
  pub reader : r ≡ s.reader
  pub kept : s.reader.spoilt ≡ false → Kept s entries ends

-- ---- what the code asks for

-- the arrays have room for the largest heap, and the heap lacks a line
pub record Ready (r : Reader) (entries ends : List ℕ) : Type 0 where
  pub room : length entries ≡ 12354
  pub marks : length ends ≡ 7
  pub unfinished : r.tables < 7

-- the heap is complete, and the arrays hold some state
pub record Complete (r : Reader) (entries ends : List ℕ) : Type 0 where
  pub state : State
  pub holds : Holds state r entries ends
  pub marks : length ends ≡ 7
  pub whole : r.tables ≡ 7

-- a table begins before it ends, and ends within the entries
pub record Inside (from to : ℕ) (entries : List ℕ) : Type 0 where
  pub order : from ≤ to
  pub room : to ≤ length entries

-- ---- what the code promises: of any state that was held, the next is held

-- at the start of a heap, whatever stands in the arrays
pub record Starts (r : Reader) : Type 0 where
  pub none : r.tables ≡ 0
  pub holds : (entries ends : List ℕ) → Holds start_state r entries ends

-- within a line: the same line goes on, as `step` says, and where tables end is as before
pub record Goes (step : State → State) (r : Reader) (entries : List ℕ) (r' : Reader) (entries' : List ℕ) : Type 0 where
  pub count : r'.tables ≡ r.tables
  pub holds : (s : State) (ends : List ℕ) → Holds s r entries ends → Holds (step s) r' entries' ends

-- the next line begins; the entries are as before
pub record Marks (r : Reader) (ends : List ℕ) (r' : Reader) (ends' : List ℕ) : Type 0 where
  pub count : r'.tables ≡ r.tables + 1
  pub holds : (s : State) (entries : List ℕ) → Holds s r entries ends → Holds (next_line s) r' entries ends'

-- any step; a heap has at most seven lines
pub record Steps (step : State → State) (r : Reader) (entries ends : List ℕ) (r' : Reader) (entries' ends' : List ℕ) : Type 0 where
  pub count : r'.tables ≤ 7
  pub holds : (s : State) → Holds s r entries ends → Holds (step s) r' entries' ends'

-- the arrays stay as they are
pub record Fills (step : State → State) (r r' : Reader) : Type 0 where
  pub count : r'.tables ≤ 7
  pub holds : (s : State) (entries ends : List ℕ) → Holds s r entries ends → Holds (step s) r' entries ends

-- table i of any state that is held
pub record Gives (r : Reader) (entries ends : List ℕ) (i : ℕ) (table : List ℕ) : Type 0 where
  pub given : (s : State) → Holds s r entries ends → table ≡ table_given s i

-- where table i begins
unfoldable pub edge : List ℕ → ℕ → ℕ
edge ends zero = 0
edge ends (suc i) = get_or ends i 0
