-- What one more row makes of a count of nulls.
use Rattle.std.proofs.Common.{◌≡◌, ℕ, ◌+◌, min, true, false, cond, not, List, [], ◌∷◌, ℤ, is_some, Some, None, Option, unwrap_or, sym, refl, ap, arith}
use Rattle.std.proofs.lemmas.Bool.{true≢false}
use Rattle.std.proofs.lemmas.List.Sums.{sum_by-cons}
use Rattle.columnar.specs.Cells.{over}
use Rattle.groups.specs.Kind.{read, joined}
use Rattle.accumulators.specs.NullCounts.{most, capped, counted, of_row, null_count_kind, same_count}
use Rattle.accumulators.specs.Shown.{null_rows, ShowsNulls}

plus : (n m k : ℕ) → m ≡ min (n + k) most → capped m ≡ counted (capped n) (capped k)
plus n m k e = same_count (capped m) (counted (capped n) (capped k)) (omega arith)

pub add_null : (n m : ℕ) (row : Option ℤ) → is_some row ≡ false → m ≡ min (n + 1) most → capped m ≡ counted (capped n) (of_row row)
add_null n m None h e = plus n m 1 e
add_null n m (Some v) h e = absurd (true≢false h)

pub add_value : (n : ℕ) (row : Option ℤ) → is_some row ≡ true → capped n ≡ counted (capped n) (of_row row)
add_value n None h = absurd (true≢false (sym h))
add_value n (Some v) h = same_count (capped n) (counted (capped n) (capped 0)) (omega arith)

pub add_state : (n m k : ℕ) (row : Option ℕ) → k ≡ unwrap_or row 0 → m ≡ min (n + k) most → capped m ≡ counted (capped n) (read null_count_kind (over 0 row))
add_state n m k None h e = plus n m 0 (omega (arith, h, e))
add_state n m k (Some x) h e = plus n m x (omega (arith, h, e))

-- ── many rows ────────────────────────────────────────────────────────────
nulls_of : (rs : List (Option ℤ)) → (joined null_count_kind rs).count ≡ min (null_rows rs) most
nulls_of [] = refl
nulls_of (None ∷ rs) = let more = sum_by-cons (λ r. cond (not (is_some r)) 1 0) None rs in let rest = nulls_of rs in omega (arith, more, rest)
nulls_of (Some v ∷ rs) = let more = sum_by-cons (λ r. cond (not (is_some r)) 1 0) (Some v) rs in let rest = nulls_of rs in omega (arith, more, rest)

pub shows_nulls : ShowsNulls null_count_kind
shows_nulls rs = (ap Some (nulls_of rs), ap Some (nulls_of rs))
