-- Rows of a column, as a view shows them and as an answer hands them out.
--
--     Cell X             a row as a column holds it: its validity, and its figure, which means nothing under a null
--     seen c             a value, or null
--     over filler o      a value, or a null over a filler
--     Column X           a column as it is handed out: its figures, and its mask if it has one
--     handed m filler os the column that shows these values and nulls, with a mask or without
--     cells c            its rows: an absent mask means no nulls
--     nulls cs           how many rows are null
--     Ticks              the rows of a filter that is given, each a cell of a boolean; none where no filter is given
--     passes ts n        which of n rows a filter lets through: those for which it holds a valid yes
--     admitted_rows ps cs what is seen of each row that is let through, and null for every other
--     kept_rows f ps cs  these rows as a column with a mask, every null of them over the filler f
use Rattle.std.specs.Prelude.{ℕ, zero, suc, Bool, true, false, cond, not, ◌&&◌, List, [], ◌∷◌, map, is_some, Some, None, count_by, Option}

pub record Cell (X : Type 0) : Type 0 where
  pub valid : Bool
  pub figure : X

abbrev pub cell : {X : Type 0} → Bool → X → Cell X
cell v x = record { valid = v; figure = x }

abbrev pub seen : {X : Type 0} → Cell X → Option X
seen c = cond c.valid (Some c.figure) None

abbrev pub over : {X : Type 0} → X → Option X → Cell X
over filler None = cell false filler
over filler (Some x) = cell true x

pub record Column (X : Type 0) : Type 0 where
  pub mask : Option (List Bool)
  pub figures : List X

abbrev pub handed : {X : Type 0} → Bool → X → List (Option X) → Column X
handed masked filler os = record { mask = cond masked (Some (map is_some os)) None; figures = map (λ o. (over filler o).figure) os }

abbrev pub masked_cells : {X : Type 0} → List Bool → List X → List (Cell X)
masked_cells [] xs = []
masked_cells (b ∷ bs) [] = []
masked_cells (b ∷ bs) (x ∷ xs) = cell b x ∷ masked_cells bs xs

abbrev pub cells : {X : Type 0} → Column X → List (Cell X)
cells c = elim c.mask [ None ↦ map (cell true) c.figures | Some m ↦ masked_cells m c.figures ]

abbrev pub nulls : {X : Type 0} → List (Cell X) → ℕ
nulls cs = count_by (λ c. not c.valid) cs

abbrev pub Ticks : Type 0
Ticks = Option (List (Cell Bool))

abbrev pub ticked : List (Cell Bool) → ℕ → List Bool
ticked ts zero = []
ticked [] (suc n) = false ∷ ticked [] n
ticked (t ∷ ts) (suc n) = (t.valid && t.figure) ∷ ticked ts n

abbrev pub all_pass : ℕ → List Bool
all_pass zero = []
all_pass (suc n) = true ∷ all_pass n

abbrev pub passes : Ticks → ℕ → List Bool
passes None n = all_pass n
passes (Some ts) n = ticked ts n

abbrev pub admitted_rows : {X : Type 0} → List Bool → List (Cell X) → List (Option X)
admitted_rows [] cs = []
admitted_rows (p ∷ ps) [] = []
admitted_rows (p ∷ ps) (c ∷ cs) = cond p (seen c) None ∷ admitted_rows ps cs

abbrev pub kept_rows : {X : Type 0} → X → List Bool → List (Cell X) → Column X
kept_rows filler ps cs = handed true filler (admitted_rows ps cs)
