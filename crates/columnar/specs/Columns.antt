-- What a column means.
--
--     items_of read v    the items that are lent, as a packing reads them
--     rows_of read c     the rows of a column, each a cell of an item
use Rattle.std.specs.Prelude.{ℕ, List}
use Rattle.columnar.specs.declared.packing.Packing as packing
use Rattle.columnar.specs.declared.items.Items.{Items}
use Rattle.columnar.specs.declared.column.FlatColumn.{FlatColumn}
use Rattle.columnar.specs.Cells.{Cell}
use Rattle.columnar.specs.Views.{cells_under}

module _ {L I S : Type 0} {p : packing.Ghosts L} (read : List S → ℕ → ℕ → List I) where
  abbrev pub items_of : Items L S p → List I
  items_of v = read v.slots.now v.start v.len

  abbrev pub rows_of : FlatColumn L S p → List (Cell I)
  rows_of c = cells_under c.validity (items_of c.values)
