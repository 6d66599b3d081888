-- Texts one after another in a buffer: the room that the next one finds.
-- Assumes nothing.
use Prim.Native.Nat.{ℕ}
use native.Mathlib.Omega.{arith}
use mathlib.Core.List.{List, ◌++◌}
use mathlib.Core.Path.{◌≡◌, ap, ◌∙◌}
use lib.ListN.{length, length-append}
use lib.Seq.{length-sets}
use Rattle.csv_text.specs.Decimal.{field_text, last_text}
use Rattle.csv_text.specs.Written.{Wrote}
use Rattle.rules.specs.declared.audit.Row.{Row}
use Rattle.rules.specs.AuditReport.{signed_field}
use Rattle.report.specs.Room.{Room}

-- room for two texts is room for the first
pub room_first : {l x : List ℕ} {at : ℕ} (y : List ℕ) → Room l at (x ++ y) → Room l at x
room_first {l} {x} y h = record { enough = omega (arith, length-append x y, h.enough) }

-- and, when that is written, for the second
pub room_rest : {l x m : List ℕ} {at r : ℕ} (y : List ℕ) → Wrote l at x m r → Room l at (x ++ y) → Room m r y
room_rest {l} {x} {m} {at} y w h =
    let same : length m ≡ length l = ap length w.bytes ∙ length-sets l at x in
    record { enough = omega (arith, length-append x y, w.end, h.enough) }

-- ---- what is left of a row's columns: from `at`, `above`, `sum` and `lost` on

abbrev pub from_lost : Row → List ℕ
from_lost r = field_text r.lost ++ last_text r.size

abbrev pub from_sum : Row → List ℕ
from_sum r = signed_field r.sum ++ from_lost r

abbrev pub from_above : Row → List ℕ
from_above r = field_text r.above ++ from_sum r

abbrev pub from_at : Row → List ℕ
from_at r = field_text r.at ++ from_above r
