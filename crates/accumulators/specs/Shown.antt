-- What the accumulators show of rows, in terms of the values and nulls among them alone.
--
--     values rs              the values among rows, in order
--     Shows P vs o           null where there are no values, else a figure that P says of them
--     Farthest vs d          two of the values are d apart, and no two are further apart
--     Least vs m             a value among them that none is below; Greatest, one that none is above
--     null_rows rs           how many rows are null
--     ShowsSpan, WritesSpan  what a span shows, and its state row
--     ShowsNulls             what a count of nulls shows, which is its state row too
--     ListedRows             whatever the kind, listed rows joined one after another are alike the rows' join
use Rattle.std.specs.Prelude.{◌≡◌, ℕ, ◌-◌, ◌^◌, min, not, List, [], ◌∷◌, map, ℤ, pos, ◌+ℤ◌, ◌≤ℤ◌, is_some, Some, None, count_by, Option}
use Rattle.std.specs.List.{All, Contains, filter_map}
use Rattle.columnar.specs.Cells.{Cell}
use Rattle.groups.specs.Kind.{Kind, joined}
use Rattle.accumulators.specs.declared.span.SpanRecord.{SpanRecord}
use Rattle.accumulators.specs.Listed.{seen_at, after_rows}

abbrev pub values : {E : Type 0} → List (Option E) → List E
values rs = filter_map (λ r. r) rs

abbrev pub Shows : {E F : Type 0} → (List E → F → Type 0) → List E → Option F → Type 0
Shows P [] o = o ≡ None
Shows {E} {F} P (v ∷ vs) o = (m : F) × (o ≡ Some m) × P (v ∷ vs) m

-- ── the span ─────────────────────────────────────────────────────────────
abbrev pub Farthest : List ℤ → ℕ → Type 0
Farthest vs d = ((a : ℤ) × (b : ℤ) × Contains vs a × Contains vs b × (b ≡ (a +ℤ pos d))) × All (λ v. All (λ w. w ≤ℤ (v +ℤ pos d)) vs) vs

abbrev pub Least : List ℤ → ℤ → Type 0
Least vs m = Contains vs m × All (λ v. m ≤ℤ v) vs

abbrev pub Greatest : List ℤ → ℤ → Type 0
Greatest vs m = Contains vs m × All (λ v. v ≤ℤ m) vs

abbrev pub ShowsSpan : {S : Type 0} → Kind ℤ S ℕ → Type 0
ShowsSpan K = (rs : List (Option ℤ)) → Shows Farthest (values rs) (K.shown (joined K rs))

abbrev pub WritesSpan : Kind ℤ SpanRecord ℕ → Type 0
WritesSpan K = (rs : List (Option ℤ)) → Shows (λ vs r. Least vs r.least × Greatest vs r.greatest) (values rs) (K.written (joined K rs))

-- ── nulls ────────────────────────────────────────────────────────────────
abbrev pub null_rows : {E : Type 0} → List (Option E) → ℕ
null_rows rs = count_by (λ r. not (is_some r)) rs

abbrev pub ShowsNulls : Kind ℤ ℕ ℕ → Type 0
ShowsNulls K = (rs : List (Option ℤ)) → (K.shown (joined K rs) ≡ Some (min (null_rows rs) (2 ^ 64 - 1))) × (K.written (joined K rs) ≡ Some (min (null_rows rs) (2 ^ 64 - 1)))

-- ── listed rows ──────────────────────────────────────────────────────────
abbrev pub ListedRows : {V S O : Type 0} → Kind V S O → Type 0
ListedRows {V} K = (cells : List (Cell V)) (js : List ℕ) → K.Alike (after_rows K cells K.empty js) (joined K (map (seen_at cells) js))
