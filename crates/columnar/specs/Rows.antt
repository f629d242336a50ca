-- What the views show: columns as cells, filters as ticks.
--
--     valid_at mask s j        whether row j is valid under an optional mask from bit s on: without one no row is null
--     cells_from p i xs        values as cells, the first of them row i, with a test of the row number for validity
--     column_cells m s xs      the cells of values under an optional mask
--     boolean_cells b s m f n  the cells of n packed booleans under an optional mask
--     ticks_of v s m f n       the ticks of a filter, given by its optional value bytes
--     Within bytes s n         n rows from bit s on lie within optional bytes
use Rattle.std.specs.Prelude.{ℕ, ◌+◌, ◌*◌, ◌≤◌, Bool, true, List, [], ◌∷◌, length, Some, None, Option}
use Rattle.columnar.specs.Packed.{bit_at, unpacked}
use Rattle.columnar.specs.Cells.{Cell, cell, Ticks}

abbrev pub valid_at : Option (List ℕ) → ℕ → ℕ → Bool
valid_at None start j = true
valid_at (Some bytes) start j = bit_at bytes (start + j)

abbrev pub cells_from : {V : Type 0} → (ℕ → Bool) → ℕ → List V → List (Cell V)
cells_from p i [] = []
cells_from p i (x ∷ xs) = cell (p i) x ∷ cells_from p (i + 1) xs

abbrev pub column_cells : {V : Type 0} → Option (List ℕ) → ℕ → List V → List (Cell V)
column_cells mask start xs = cells_from (valid_at mask start) 0 xs

abbrev pub boolean_cells : List ℕ → ℕ → Option (List ℕ) → ℕ → ℕ → List (Cell Bool)
boolean_cells bytes start mask from n = column_cells mask from (unpacked bytes start n)

abbrev pub ticks_of : Option (List ℕ) → ℕ → Option (List ℕ) → ℕ → ℕ → Ticks
ticks_of None start mask from n = None
ticks_of (Some bytes) start mask from n = Some (boolean_cells bytes start mask from n)

-- an order of numbers, so that a type's invariant can have it: without bytes there is nothing to reach
abbrev pub reach : Option (List ℕ) → ℕ → ℕ
reach None n = 0
reach (Some bytes) n = n

abbrev pub held : Option (List ℕ) → ℕ
held None = 0
held (Some bytes) = length bytes

abbrev pub Within : Option (List ℕ) → ℕ → ℕ → Type 0
Within bytes start n = reach bytes (start + n) ≤ 8 * held bytes
