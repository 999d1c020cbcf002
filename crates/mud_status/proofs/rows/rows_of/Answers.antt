use Rattle.std.proofs.Common.{refl}
use Rattle.mud_status.proofs.rows.rows_of.Goals as goal

pub returns : goal.returns
returns c =
    rw (
      c.make_row.ensures,
      c.make_row-2.ensures,
      c.make_row-3.ensures,
      c.make_row-4.ensures,
      c.make_row-5.ensures,
      c.make_row-6.ensures,
      c.make_row-7.ensures,
      c.make_row-8.ensures,
      c.make_row-9.ensures,
      c.make_row-10.ensures,
      c.make_row-11.ensures,
      c.make_row-12.ensures,
      c.make_row-13.ensures,
      c.make_row-14.ensures,
      c.make_row-15.ensures,
      c.make_row-16.ensures,
      c.make_row-17.ensures,
      c.make_row-18.ensures,
      c.make_row-19.ensures,
      c.make_row-20.ensures,
      c.make_row-21.ensures,
      c.make_row-22.ensures,
    ) refl
