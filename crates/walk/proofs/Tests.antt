-- Which rows count, by row number: a column without nulls is one without a mask, and a filter's ticks are its test of each row.
use Rattle.std.proofs.Common.{◌≡◌, ℕ, zero, suc, ◌+◌, ◌*◌, ◌≤◌, Bool, true, false, cond, not, ◌&&◌, List, [], ◌∷◌, map, length, IfSome, Some, None, Option, sym, refl, ap, ap₂, ◌∙◌, subst, arith}
use Rattle.std.specs.List.{range_with_len, All}
use Rattle.std.proofs.lemmas.List.Sums.{sum_by-cons}
use Rattle.std.proofs.lemmas.List.FromFn.{length-range_with_len}
use Rattle.columnar.specs.Cells.{Cell, cell, nulls, passes, all_pass, ticked}
use Rattle.columnar.specs.Packed.{bit_at, unpacked}
use Rattle.columnar.specs.Rows.{valid_at, cells_from, boolean_cells, ticks_of, Within}
use Rattle.columnar.proofs.CellRows.{length_cells, length_unpacked, same_nulls}
use Rattle.walk.specs.Visits.{visits, told_all}

valid_by : (b : Bool) → ◌≡◌ {A = ℕ} (cond (not b) 1 0) 0 → b ≡ true
valid_by true h = refl
valid_by false h = absurd (omega arith)

plain_from : {V : Type 0} (p : ℕ → Bool) (i : ℕ) (xs : List V) → nulls (cells_from p i xs) ≡ 0 → cells_from p i xs ≡ cells_from (λ (j : ℕ). true) i xs
plain_from p i [] e = refl
plain_from {V} p i (x ∷ xs) e =
    let split : ◌≡◌ {A = ℕ} (cond (not (p i)) 1 0 + nulls (cells_from p (i + 1) xs)) 0 = sym (sum_by-cons (λ (c : Cell V). cond (not c.valid) 1 0) (cell (p i) x) (cells_from p (i + 1) xs)) ∙ e in
    let here : ◌≡◌ {A = ℕ} (cond (not (p i)) 1 0) 0 = omega arith in
    let there : nulls (cells_from p (i + 1) xs) ≡ 0 = omega arith in
    ap (λ b. cell b x ∷ cells_from p (i + 1) xs) (valid_by (p i) here) ∙ ap (λ (r : List (Cell V)). cell true x ∷ r) (plain_from p (i + 1) xs there)

-- a column without nulls
pub plain_cells : {V : Type 0} (p : ℕ → Bool) (xs : List V) → nulls (cells_from p 0 xs) ≡ 0 → cells_from p 0 xs ≡ cells_from (λ (j : ℕ). true) 0 xs
plain_cells p xs e = plain_from p 0 xs e

-- the same where the nulls are counted by row number alone, as a column's are
pub plain_counted : {V : Type 0} (p : ℕ → Bool) (xs : List V) (n : ℕ) → length xs ≡ n → nulls (cells_from p 0 (range_with_len 0 n)) ≡ 0 → cells_from p 0 xs ≡ cells_from (λ (j : ℕ). true) 0 xs
plain_counted p xs n count e = plain_cells p xs (same_nulls p xs (range_with_len 0 n) (count ∙ sym (length-range_with_len 0 n)) ∙ e)

-- row j of a filter that is given
abbrev pub tick_at : List ℕ → ℕ → Option (List ℕ) → ℕ → ℕ → Bool
tick_at bytes start mask from j = valid_at mask from j && bit_at bytes (start + j)

all_from : (a n : ℕ) → all_pass n ≡ map (λ (j : ℕ). true) (range_with_len a n)
all_from a zero = refl
all_from a (suc n) = ap (λ r. true ∷ r) (all_from (a + 1) n)

ticked_from : (p b : ℕ → Bool) (a n : ℕ) → ticked (cells_from p a (map b (range_with_len a n))) n ≡ map (λ j. p j && b j) (range_with_len a n)
ticked_from p b a zero = refl
ticked_from p b a (suc n) = ap (λ r. (p a && b a) ∷ r) (ticked_from p b (a + 1) n)

-- a filter over k rows, by whether it is given
module _ (o : Option (List ℕ)) (start : ℕ) (mask : Option (List ℕ)) (from n k : ℕ) where
  pub none_passes : o ≡ None → passes (ticks_of o start mask from n) k ≡ map (λ (j : ℕ). true) (range_with_len 0 k)
  none_passes e = rw e (all_from 0 k)

  module _ {bytes : List ℕ} (given : o ≡ Some bytes) (ticked : IfSome (ticks_of o start mask from n) (λ ts. length ts ≡ k)) where
    pub tick_count : n ≡ k
    tick_count =
        let is : length (boolean_cells bytes start mask from n) ≡ k = rw given at ticked in
        length_cells (unpacked bytes start n) n (length_unpacked bytes start n) (valid_at mask from) ∙ is

    pub some_passes : passes (ticks_of o start mask from n) k ≡ map (tick_at bytes start mask from) (range_with_len 0 k)
    some_passes = rw (given, ← tick_count) (ticked_from (valid_at mask from) (λ j. bit_at bytes (start + j)) 0 n)

    pub some_within : Within o start n → start + k ≤ 8 * length bytes
    some_within within =
        let there : Within (Some bytes) start n = subst (λ x. Within x start n) given within in
        subst (λ x. Within (Some bytes) start x) tick_count there

-- what a walk did by these tests, it did by the rows that a column shows and a filter lets through
module _ {V : Type 0} (gs : List ℕ) {cs cs' : List (Cell V)} {ps ps' : List Bool} (cells : cs ≡ cs') (through : ps ≡ ps') where
  same_visits : visits gs cs' ps' ≡ visits gs cs ps
  same_visits = ap₂ (visits gs) (sym cells) (sym through)

  pub told_rows : {M : Type 0} (after : M → ℕ → V → M) (m₀ : M) {m : M} → m ≡ told_all after m₀ (visits gs cs' ps') → m ≡ told_all after m₀ (visits gs cs ps)
  told_rows after m₀ told = told ∙ ap (told_all after m₀) same_visits

  pub fits_rows : (fit : V → Type 0) → All (λ (v : ℕ × V). fit v.1) (visits gs cs' ps') → All (λ (v : ℕ × V). fit v.1) (visits gs cs ps)
  fits_rows fit fits = subst (All (λ (v : ℕ × V). fit v.1)) same_visits fits
