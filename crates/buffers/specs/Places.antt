-- What is found in buffers.
--
--     places b out            how many places the buffers have
--     rows_in b out           the rows that a view of them reads
use Rattle.std.specs.Prelude.{List}
use Rattle.columnar.specs.Cells.{Cell, cells}
use Rattle.buffers.specs.declared.buffers.Buffers as buffers
use Rattle.buffers.specs.Memory.{Room}

module _ {X B : Type 0} (b : buffers.Ghosts B X) where
  abbrev pub places : B → Room
  places out = b.room (b.memory out)

  abbrev pub rows_in : B → List (Cell X)
  rows_in out = cells (b.readable (b.memory out))
