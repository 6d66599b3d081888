-- `csv_text::render::render` meets its contract: five texts, one after the other; each number has at most five digits. Assumes nothing.
use Rattle.csv_text.specs.Decimal.{rendered}
use native.Mathlib.Omega.{arith}
use Rattle.csv_text.proofs.Decimal.{field_width, last_width}
use Rattle.csv_text.proofs.Written.{wrote_more}
use Rattle.csv_text.proofs.render.render.Goals as goal

pub put_field-a-requires : goal.put_field-a-requires
put_field-a-requires c =
    omega (
      arith,
      c.requires,
      field_width 4 c.from.result (omega arith),
    )

pub put_field-b-requires : goal.put_field-b-requires
put_field-b-requires c =
    omega (
      arith,
      c.requires,
      field_width 4 c.from.result (omega arith),
      c.put_field-a.ensures.end,
      c.put_field-a.auto.out,
      field_width 4 c.from-2.result (omega arith),
    )

pub put_field-c-requires : goal.put_field-c-requires
put_field-c-requires c =
    omega (
      arith,
      c.requires,
      field_width 4 c.from.result (omega arith),
      c.put_field-a.ensures.end,
      c.put_field-a.auto.out,
      field_width 4 c.from-2.result (omega arith),
      c.put_field-b.ensures.end,
      c.put_field-b.auto.out,
      field_width 4 c.from-3.result (omega arith),
    )

pub put_field-d-requires : goal.put_field-d-requires
put_field-d-requires c =
    omega (
      arith,
      c.requires,
      field_width 4 c.from.result (omega arith),
      c.put_field-a.ensures.end,
      c.put_field-a.auto.out,
      field_width 4 c.from-2.result (omega arith),
      c.put_field-b.ensures.end,
      c.put_field-b.auto.out,
      field_width 4 c.from-3.result (omega arith),
      c.put_field-c.ensures.end,
      c.put_field-c.auto.out,
      field_width 4 c.from-4.result (omega arith),
    )

pub put_last-requires : goal.put_last-requires
put_last-requires c =
    omega (
      arith,
      c.requires,
      field_width 4 c.from.result (omega arith),
      c.put_field-a.ensures.end,
      c.put_field-a.auto.out,
      field_width 4 c.from-2.result (omega arith),
      c.put_field-b.ensures.end,
      c.put_field-b.auto.out,
      field_width 4 c.from-3.result (omega arith),
      c.put_field-c.ensures.end,
      c.put_field-c.auto.out,
      field_width 4 c.from-4.result (omega arith),
      c.put_field-d.ensures.end,
      c.put_field-d.auto.out,
      last_width 4 c.from-5.result (omega arith),
    )

pub returns-clause-wrote : goal.returns-clause-wrote
unfolding rendered
returns-clause-wrote c =
    rw (c.from.ensures, c.from-2.ensures, c.from-3.ensures, c.from-4.ensures, c.from-5.ensures) at
    (wrote_more _ _ _ _ _ _ _ _
    c.put_field-a.ensures
    (wrote_more _ _ _ _ _ _ _ _
    c.put_field-b.ensures
    (wrote_more _ _ _ _ _ _ _ _
    c.put_field-c.ensures
    (wrote_more _ _ _ _ _ _ _ _ c.put_field-d.ensures c.put_last.ensures))))

pub returns-clause-upper_bound : goal.returns-clause-upper_bound
returns-clause-upper_bound c =
    omega (
      arith,
      field_width 4 c.from.result (omega arith),
      c.put_field-a.ensures.end,
      field_width 4 c.from-2.result (omega arith),
      c.put_field-b.ensures.end,
      field_width 4 c.from-3.result (omega arith),
      c.put_field-c.ensures.end,
      field_width 4 c.from-4.result (omega arith),
      c.put_field-d.ensures.end,
      last_width 4 c.from-5.result (omega arith),
      c.put_last.ensures.end,
    )
