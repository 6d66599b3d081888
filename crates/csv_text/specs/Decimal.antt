-- Document 01, "The program": an output line. Assumes nothing: these are definitions.
use Rattle.std.specs.Prelude.{ℕ, zero, suc, ◌+◌, ◌/◌, ◌%◌, ◌≤◌, ◌<◌, ◌≡◌, List, [], ◌∷◌, ◌++◌, true, cond, ltb, get_or}
use Rattle.csv_text.specs.Lines.{all, is_digit, value_of}

-- the decimal digits of n, if it has at most k + 1
unfoldable pub digits : ℕ → ℕ → List ℕ
digits zero n = (48 + n) ∷ []
digits (suc k) n = cond (ltb n 10) ((48 + n) ∷ []) (digits k (n / 10) ++ ((48 + n % 10) ∷ []))

unfoldable pub decimal_of : ℕ → List ℕ
decimal_of n = digits n n

-- "its numbers have no leading zeros": the digits say n, and the first of them is 0 for 0 alone
pub record Spelled (n : ℕ) (f : List ℕ) : Type 0 where
  pub decimal : all is_digit f ≡ true
  pub value : value_of f ≡ n
  pub lead : 1 ≤ n → 48 < get_or f 0 0
  pub nought : n ≡ 0 → f ≡ 48 ∷ []

abbrev pub NoLeadingZeros : Type 0
NoLeadingZeros = (n : ℕ) → Spelled n (decimal_of n)

-- a number and the comma after it
abbrev pub field_text : ℕ → List ℕ
field_text n = decimal_of n ++ (44 ∷ [])

-- "Every output line ends with CR LF": the last number
abbrev pub last_text : ℕ → List ℕ
last_text n = decimal_of n ++ (13 ∷ 10 ∷ [])

-- op,refused,freed,queued,cell
unfoldable pub rendered : ℕ → ℕ → ℕ → ℕ → ℕ → List ℕ
rendered op refused freed queued cell = field_text op ++ (field_text refused ++ (field_text freed ++ (field_text queued ++ last_text cell)))
