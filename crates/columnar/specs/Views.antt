-- What the views show: columns as cells, filters as ticks.
--
--     cells_under v xs    values as cells, each as valid as its row is
--     ticks f             the ticks of a filter, and none where it is not given
use Rattle.std.specs.Prelude.{List}
use Rattle.std.specs.Option.{option_map}
use Rattle.columnar.specs.declared.filter.Filter.{Filter}
use Rattle.columnar.specs.declared.validity.Validity.{Validity}
use Rattle.columnar.specs.Cells.{Cell, Ticks}
use Rattle.columnar.specs.Rows.{column_cells, ticks_of}

abbrev pub cells_under : {V : Type 0} → Validity → List V → List (Cell V)
cells_under v xs = column_cells (option_map (λ x. x.now) v.mask) v.start xs

abbrev pub ticks : Filter → Ticks
ticks f = ticks_of (option_map (λ x. x.now) f.values) f.start (option_map (λ x. x.now) f.validity.mask) f.validity.start f.validity.len
