-- What an accepted call has, what a batch without filter and nulls is, and what columns say.
use Rattle.std.proofs.Common.{◌≡◌, ℕ, ◌+◌, ◌-◌, ◌≤◌, Bool, true, false, cond, not, eqb, ltb, List, [], ◌∷◌, map, length, is_some, Some, None, sum_by, Option, refl, ap, arith}
use Rattle.std.specs.Prelude.{zip}
use Rattle.std.specs.List.{AllByRecursion}
use Rattle.std.proofs.lemmas.Bool.{not-false, cond-true, false≢true, eqb-true, ltb-false, le-ltb}
use Rattle.std.proofs.lemmas.List.Sums.{sum_by-cons}
use Rattle.columnar.specs.Cells.{Cell, Ticks, cell, over, handed, cells, masked_cells, nulls}
use Rattle.groups.specs.declared.emit.EmitTo.{EmitTo}
use Rattle.groups.specs.declared.emit.EmitTo.TheVariants.{All as Whole, First}
use Rattle.groups.specs.Emits.{count_of, too_many}
use Rattle.groups.specs.Lists.{all_below, names_from}
use Rattle.groups.specs.Kind.{Kind}
use Rattle.groups.specs.Tally.{Means, Conditions, none_hold, refusal, batch_conditions, emit_conditions, differs, row_entries}
use Rattle.groups.proofs.Accepting.{peel}
use Rattle.turns.proofs.Deals.{heads}

-- ── accepted calls ───────────────────────────────────────────────────────
-- neither 6 nor 8 nor 11
abbrev of_batch : Bool → Bool → Bool → Bool → Bool → Bool → Bool → Bool → Conditions
of_batch rows indices ticks below above index named pairs =
    record none_hold {
      too_many_rows = rows;
      indices_differ = indices;
      filter_differs = ticks;
      total_below = below;
      total_above = above;
      index_above = index;
      not_named = named;
      too_many_pairs = pairs;
    }

through : (rows indices ticks below above index named pairs : Bool) → refusal (of_batch rows indices ticks below above index named pairs) ≡ None
    → (indices ≡ false) × (below ≡ false) × (named ≡ false)
through rows indices ticks below above index named pairs h =
    let a = peel rows _ _ h in
    let b = peel indices _ _ a.1 in
    let c = peel ticks _ _ b.1 in
    let d = peel below _ _ c.1 in
    let e = peel above _ _ d.1 in
    let f = peel index _ _ e.1 in
    let g = peel named _ _ f.1 in
    (b.0, d.0, g.0)

pub record Passed (kept n : ℕ) (gs : List ℕ) (total : ℕ) : Type 0 where
  pub rows_match : n ≡ length gs
  pub upward : kept ≤ total
  pub new_named : names_from kept (total - kept) gs ≡ true

module _ {V S O : Type 0} (K : Kind V S O) where
  pub passed : (m : Means K) (n : ℕ) (filter : Ticks) (gs : List ℕ) (total : ℕ) (after : List K.Credit) → refusal (batch_conditions K m n filter gs total after) ≡ None
      → Passed (length m.credits) n gs total
  passed m n filter gs total after h =
      let q = through (ltb m.most_rows n) (not (eqb n (length gs))) (differs filter n) (ltb total (length m.credits)) (ltb m.most_groups total) (not (all_below total gs)) (not (names_from (length m.credits) (total - length m.credits) gs)) (ltb m.most_pairs (sum_by K.pairs after)) h in
      record { rows_match = eqb-true n (length gs) (not-false _ q.0); upward = ltb-false total (length m.credits) q.1; new_named = not-false _ q.2 }

-- the groups asked for are there
pub within : (e : EmitTo) (kept : ℕ) (short : Bool) → refusal (emit_conditions (too_many e kept) short) ≡ None → count_of e kept ≤ kept
within Whole kept short h = omega arith
within (First n) kept short h = ltb-false kept n (peel (ltb kept n) _ _ h).0

-- ── batches without filter and nulls ─────────────────────────────────────
pub entries_heads : {V : Type 0} (rows : List (Cell V)) (gs : List ℕ) → length rows ≡ length gs → heads (row_entries rows None gs) ≡ gs
entries_heads [] [] e = refl
entries_heads [] (g ∷ gs) e = absurd (omega arith)
entries_heads (r ∷ rs) [] e = absurd (omega arith)
entries_heads (r ∷ rs) (g ∷ gs) e = ap (λ l. g ∷ l) (entries_heads rs gs (omega arith))

pub nulls_cons : {X : Type 0} (r : Cell X) (rs : List (Cell X)) → nulls (r ∷ rs) ≡ cond (not r.valid) 1 0 + nulls rs
nulls_cons r rs = sum_by-cons (λ c. cond (not c.valid) 1 0) r rs

none_null : {X : Type 0} (r : Cell X) (rs : List (Cell X)) → ltb 0 (nulls (r ∷ rs)) ≡ false → (r.valid ≡ true) × (ltb 0 (nulls rs) ≡ false)
none_null r rs h = go r.valid (ltb-false 0 (nulls (r ∷ rs)) h) (nulls_cons r rs)
  where
    go : (v : Bool) → nulls (r ∷ rs) ≤ 0 → nulls (r ∷ rs) ≡ cond (not v) 1 0 + nulls rs → (v ≡ true) × (ltb 0 (nulls rs) ≡ false)
    go true h e = (refl, le-ltb 0 (nulls rs) (omega arith))
    go false h e = absurd (omega arith)

abbrev pub Given : {V : Type 0} → Option V → Type 0
Given {V} r = (v : V) × (r ≡ Some v)

pub entries_given : {V : Type 0} (rows : List (Cell V)) (gs : List ℕ) → ltb 0 (nulls rows) ≡ false → AllByRecursion (λ e. Given e.1) (row_entries rows None gs)
entries_given [] gs h = tt
entries_given (r ∷ rs) [] h = tt
entries_given (r ∷ rs) (g ∷ gs) h = let both = none_null r rs h in ((r.figure, cond-true r.valid _ _ both.0), entries_given rs gs both.1)

pub zip_heads : {X : Type 0} (xs : List X) (gs : List ℕ) → length xs ≡ length gs → heads (zip gs xs) ≡ gs
zip_heads [] [] e = refl
zip_heads [] (g ∷ gs) e = absurd (omega arith)
zip_heads (r ∷ rs) [] e = absurd (omega arith)
zip_heads (r ∷ rs) (g ∷ gs) e = ap (λ l. g ∷ l) (zip_heads rs gs (omega arith))

pub zip_valid : {X : Type 0} (rows : List (Cell X)) (gs : List ℕ) → ltb 0 (nulls rows) ≡ false → AllByRecursion (λ e. e.1.valid ≡ true) (zip gs rows)
zip_valid rows [] h = tt
zip_valid [] (g ∷ gs) h = tt
zip_valid (r ∷ rs) (g ∷ gs) h = let both = none_null r rs h in (both.0, zip_valid rs gs both.1)

-- ── a column handed out without a mask has no null ───────────────────────
module _ {X : Type 0} (filler : X) where
  masked_column : (os : List (Option X)) → masked_cells (map is_some os) (map (λ o. (over filler o).figure) os) ≡ map (over filler) os
  masked_column [] = refl
  masked_column (None ∷ os) = ap (λ l. over filler None ∷ l) (masked_column os)
  masked_column (Some x ∷ os) = ap (λ l. over filler (Some x) ∷ l) (masked_column os)

  plain_column : (os : List (Option X)) → AllByRecursion (λ o. is_some o ≡ true) os → map (cell true) (map (λ o. (over filler o).figure) os) ≡ map (over filler) os
  plain_column [] e = refl
  plain_column (None ∷ os) e = absurd (false≢true e.0)
  plain_column (Some x ∷ os) e = ap (λ l. over filler (Some x) ∷ l) (plain_column os e.1)

  pub cells_handed : (b : Bool) (os : List (Option X)) → (b ≡ false → AllByRecursion (λ o. is_some o ≡ true) os) → cells (handed b filler os) ≡ map (over filler) os
  cells_handed true os h = masked_column os
  cells_handed false os h = plain_column os (h refl)
