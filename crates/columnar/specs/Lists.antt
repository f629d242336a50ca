-- List columns, as the Apache Arrow columnar format lays them out.
--
--     offset_at os j        offset j
--     natural z             a number that is not negative
--     OffsetsOk os n        there is an offset, none is negative or below its predecessor, and the last is at most n
--     list_at os items j    the items from offset j up to, not including, offset j + 1
--     list_row os items j   row j, absent past the end
--     list_cells os items   all rows: list columns carry no masks
use Rattle.std.specs.Prelude.{ℕ, ◌+◌, ◌-◌, ◌<◌, true, cond, List, map, length, ℤ, pos, negsuc, ◌≤ℤ◌, Some, None, Option, nat_lt, slice_index_or}
use Rattle.std.specs.List.{between, range_with_len}
use Rattle.columnar.specs.Cells.{Cell, cell}

abbrev pub offset_at : List ℤ → ℕ → ℤ
offset_at offsets j = slice_index_or offsets j (pos 0)

abbrev pub natural : ℤ → ℕ
natural (pos n) = n
natural (negsuc n) = 0

pub record OffsetsOk (offsets : List ℤ) (items : ℕ) : Type 0 where
  pub some : 0 < length offsets
  pub first : pos 0 ≤ℤ offset_at offsets 0
  pub ascending : (j : ℕ) → j + 1 < length offsets → offset_at offsets j ≤ℤ offset_at offsets (j + 1)
  pub last : offset_at offsets (length offsets - 1) ≤ℤ pos items

abbrev pub list_at : {V : Type 0} → List ℤ → List V → ℕ → List V
list_at offsets items j = between (natural (offset_at offsets j)) (natural (offset_at offsets (j + 1))) items

abbrev pub list_row : {V : Type 0} → List ℤ → List V → ℕ → Option (List V)
list_row offsets items j = cond (nat_lt (j + 1) (length offsets)) (Some (list_at offsets items j)) None

abbrev pub list_cells : {V : Type 0} → List ℤ → List V → List (Cell (List V))
list_cells offsets items = map (λ j. cell true (list_at offsets items j)) (range_with_len 0 (length offsets - 1))
