-- A credit joined with listed rows of a column.
--
--     seen_at cells j            what is seen of row j: a value or null
--     read_at K cells j          the credit of state row j: a null one is the empty credit
--     after_rows K cells c js    the credit c joined with the credits of the listed rows, in the order of the list; repeats count
--     after_states K cells c js  the same with state rows
--     Within cells js            every listed row is within the column
use Rattle.std.specs.Prelude.{ℕ, ◌<◌, List, length, fold, Option}
use Rattle.std.specs.List.{slice_get, All}
use Rattle.std.specs.Option.{option_map, unwrap_or, option_flatten}
use Rattle.columnar.specs.Cells.{Cell, seen}
use Rattle.groups.specs.Kind.{Kind, read}

abbrev pub seen_at : {X : Type 0} → List (Cell X) → ℕ → Option X
seen_at cells j = option_flatten (option_map seen (slice_get cells j))

abbrev pub Within : {X : Type 0} → List (Cell X) → List ℕ → Type 0
Within cells js = All (λ j. j < length cells) js

module _ {V S O : Type 0} (K : Kind V S O) where
  abbrev pub read_at : List (Cell S) → ℕ → K.Credit
  read_at cells j = unwrap_or (option_map (read K) (slice_get cells j)) K.empty

  abbrev pub after_rows : List (Cell V) → K.Credit → List ℕ → K.Credit
  after_rows cells c js = fold (λ b j. K.join b (K.of_row (seen_at cells j))) c js

  abbrev pub after_states : List (Cell S) → K.Credit → List ℕ → K.Credit
  after_states cells c js = fold (λ b j. K.join b (read_at cells j)) c js
